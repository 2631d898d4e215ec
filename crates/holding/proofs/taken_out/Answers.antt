-- `holding::taken_out`: each return says what the check of the numbers, the plan and the search by the plan ensure.
use Rattle.std.proofs.Common.{sym, ◌∙◌}
use mathlib.Core.Bool.{false≢true}
use Rattle.holding.proofs.Taking.{taken-right}
use Rattle.holding.proofs.taken_out.Goals as goal

pub returns-then-not-numbers_sound : goal.returns-then-not-numbers_sound
returns-then-not-numbers_sound c = λ s p. false≢true (sym c.if-not-numbers_sound.true ∙ c.numbers_sound.ensures.1 p.range)

pub returns-in_err-plan : goal.returns-in_err-plan
returns-in_err-plan c = rw c.from_residual.ensures (λ s p. c.in_err-plan.ensures s.plan p.planned)

pub state_of-requires : goal.state_of-requires
state_of-requires c = (c.requires, c.in_ok-plan.ensures.is.laid)

pub returns : goal.returns
returns c = taken-right _ _ _ (c.numbers_sound.ensures.0 c.if-not-numbers_sound.false) c.in_ok-plan.ensures c.state_of.result c.state_of.ensures
