-- `states::wants_kept` meets its contract: the rule same takes the boat that is kept, if it is read. Assumes nothing.
use Rattle.states.proofs.Comparing.{same_rule, okay-same}
use Rattle.states.proofs.wants_kept.Goals as goal

pub returns : goal.returns
returns c = λ e. record { kept = λ B R x v. okay-same B R _ x v (same_rule _ _ _ c.eq.ensures e) }
