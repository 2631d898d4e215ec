-- `expanding::one_stack` meets its contract: the stack undone is no larger, so the state before is in range; one that has been met is not pushed.
-- Assumes nothing.
use mathlib.Core.Path.{◌≡◌, sym, ◌∙◌}
use Prim.Native.Nat.{ℕ, ◌+◌, ◌<◌}
use native.Mathlib.Omega.{arith}
use Rattle.states.specs.Spots.{off}
use Rattle.states.specs.declared.Spot.{Spot}
use Rattle.states.proofs.Bounds.{off-le}
use Rattle.area.proofs.Anyhow.{step-as, step-none}
use Rattle.expanding.proofs.Backs.{stack-taken, stack-refused, stack-other, stack-met}
use Rattle.expanding.proofs.one_stack.Goals as goal
use Rattle.expanding.proofs.one_stack.Goals.{else-put_on-v-via-then-put_on-v+else-passes, else-put_on-v-via-else-put_on-v}

-- the stack before is no larger than the one after, and so is the state
low : (spot : Spot) (home v u size : ℕ) → u ≡ off spot v → home + v < size → home + u < size
low spot home v u size is fits = omega (arith, is, off-le spot v, fits)

pub overflow_add-home : goal.overflow_add-home
overflow_add-home c = omega (arith, low _ _ _ _ _ c.take_off-u.ensures c.requires.d_nonzero.2, c.requires.laid.small)

pub dist_at-requires-clause-s_lt_size : goal.dist_at-requires-clause-s_lt_size
dist_at-requires-clause-s_lt_size c = low _ _ _ _ _ c.take_off-u.ensures c.requires.d_nonzero.2

pub returns-then-dist_at-ne0 : goal.returns-then-dist_at-ne0
returns-then-dist_at-ne0 c =
    step-none _ c.requires.room_back (stack-met _ _ _ _ _ _ _ _ _ c.take_off-u.ensures (λ e. c.if-dist_at-ne0.true (c.dist_at.ensures.0 ∙ e)))

pub put_on-requires : goal.put_on-requires
put_on-requires c =
    (c.requires.sane.small-weight, omega (arith, low _ _ _ _ _ c.take_off-u.ensures c.requires.d_nonzero.2, c.requires.laid.small))

pub overflow_add-home-then-passes : goal.overflow_add-home-then-passes
overflow_add-home-then-passes c = omega (arith, low _ _ _ _ _ c.take_off-u.ensures c.requires.d_nonzero.2, c.requires.laid.small)

pub push_if_new-requires-clause-s_lt_size : goal.push_if_new-requires-clause-s_lt_size
push_if_new-requires-clause-s_lt_size c =
    (low _ _ _ _ _ c.take_off-u.ensures c.requires.d_nonzero.2, c.requires.d_nonzero.0, c.requires.d_nonzero.1)

pub returns-then-passes : goal.returns-then-passes
returns-then-passes c =
    let undone = sym c.put_on.ensures ∙ c.if-put_on-v.true in
    let ok = sym c.passes.ensures ∙ c.if-passes.true in
    step-as _ c.push_if_new.ensures (stack-taken _ _ _ _ _ _ _ _ _ c.take_off-u.ensures undone ok)

pub returns : goal.returns
returns c = elim c.else-put_on-v.branch [
  | else-put_on-v-via-then-put_on-v+else-passes w ↦ step-none _ c.requires.room_back (stack-refused _ _ _ _ _ _ _ _ _ c.take_off-u.ensures (sym c.put_on.ensures ∙ w.if-put_on-v.true) (sym w.passes.ensures ∙ w.if-passes.false))
  | else-put_on-v-via-else-put_on-v w ↦ step-none _ c.requires.room_back (stack-other _ _ _ _ _ _ _ _ _ c.take_off-u.ensures (λ e. w.if-put_on-v.false (c.put_on.ensures ∙ e)))
]
