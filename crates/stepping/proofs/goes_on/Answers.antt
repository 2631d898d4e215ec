-- `stepping::goes_on` meets its contract: the word of the state that waits first, and whether a first state is met by it. Assumes nothing.
use native.Mathlib.Omega.{arith}
use Rattle.stepping.proofs.Settling.{on_none, on_some}
use Rattle.stepping.proofs.goes_on.Goals as goal

pub returns-then-s : goal.returns-then-s
returns-then-s c _ = on_none _ _ c.requires _ c.if-s.true

pub returns : goal.returns
returns c g = on_some _ _ c.requires _ (omega (arith, c.if-s.false)) _ _ _ (c.queued_word-d.ensures g) (c.last_word-last.ensures g) c.first_met.ensures
