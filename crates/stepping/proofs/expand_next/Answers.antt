-- `stepping::expand_next` meets its contract: the state that waits first is expanded, with one more than its word. Assumes nothing.
use native.Mathlib.Omega.{arith}
use Rattle.stepping.proofs.Settling.{expand-none, expand-one}
use Rattle.stepping.proofs.expand_next.Goals as goal

pub returns-then-at : goal.returns-then-at
returns-then-at c = expand-none _ _ _ c.requires.0 c.if-at.true

pub returns : goal.returns
returns c =
    expand-one _ _ _ c.requires.0 (omega (arith, c.if-at.false)) _ _ _ _ c.waiting_checked-t.ensures.1 (λ g. omega (arith, c.farther.ensures.2 (c.dist_at-d.ensures.1 g), c.dist_at-d.ensures.0)) c.expand_traced-more.ensures
