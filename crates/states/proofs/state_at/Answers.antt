-- `states::state_at` meets its contract: a place, a position and a stack in range make a state. Assumes nothing.
use Prim.Native.Nat.{◌+◌, ◌*◌, ◌<◌}
use mathlib.Core.Path.{refl}
use native.Mathlib.Omega.{arith}
use Rattle.states.proofs.Bounds.{state-low, pair-low}
use Rattle.states.proofs.state_at.Goals as goal
use Rattle.states.proofs.state_at.Goals.{Start}

in_range : (c : Start) →
    let a = c.args in
    ((a.place * (a.plan.done + 1) + a.position) * a.plan.stacks + a.stack < a.plan.size) × (a.place * (a.plan.done + 1) + a.position < a.plan.size)
in_range c =
    let p = c.args.plan in
    let (hq, hk, hv) = c.requires.place_lt_places in (
      state-low p.places (p.done + 1) p.stacks p.size _ _ _ c.requires.size_value.0 hq (omega arith) hv,
      pair-low p.places (p.done + 1) p.stacks p.size _ _ _ c.requires.size_value.0 hq (omega arith) hv,
    )

pub overflow_mul-result : goal.overflow_mul-result
overflow_mul-result c = omega (arith, (in_range (goal.at.overflow_mul-result c).Start).1)

pub overflow_add-result-2 : goal.overflow_add-result-2
overflow_add-result-2 c = omega (arith, (in_range (goal.at.overflow_add-result-2 c).Start).1)

pub overflow_mul-result-2 : goal.overflow_mul-result-2
overflow_mul-result-2 c = omega (arith, (in_range (goal.at.overflow_mul-result-2 c).Start).0)

pub overflow_add-result-3 : goal.overflow_add-result-3
overflow_add-result-3 c = omega (arith, (in_range (goal.at.overflow_add-result-3 c).Start).0)

pub returns : goal.returns
returns c = (refl, (in_range (goal.at.returns c).Start).0)
