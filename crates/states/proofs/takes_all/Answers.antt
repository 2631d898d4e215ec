-- `states::takes_all` meets its contract: one rule takes every boat. Assumes nothing.
use Rattle.states.proofs.Comparing.{same_rule, okay-any}
use Rattle.states.proofs.takes_all.Goals as goal

pub returns : goal.returns
returns c = λ e. record { every = λ B R x v. okay-any B R _ x v (same_rule _ _ _ c.eq.ensures e) }
