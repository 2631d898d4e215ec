-- `states::standing_at` meets its contract: what is left of the state past its block's first is its position's stacks and its stack.
-- Assumes nothing.
use mathlib.Core.Path.{◌≡◌, ap, ◌∙◌}
use Prim.Native.Nat.{ℕ, ◌+◌, ◌*◌, ◌-◌, ◌/◌, ◌<◌, ◌≤◌}
use native.Mathlib.Omega.{arith}
use native.Mathlib.Nat.{le-mul_of_pos_right, div-mul-le_self, mul_comm}
use Rattle.request.specs.Layout.{largest}
use Rattle.states.proofs.Bounds.{product_small}
use Rattle.states.proofs.Standing.{standing-past, standing-within, standing-position, standing-stack}
use Rattle.states.proofs.standing_at.Goals as goal
use Rattle.states.proofs.standing_at.Goals.{Start}

-- the states at one place, and the state's number among them
abbrev block : Start → ℕ
block c = (c.args.plan.done + 1) * c.args.plan.stacks

abbrev rest : Start → ℕ
rest c = c.args.s - c.args.q * block c

in_block : (c : Start) → (c.args.q * block c ≤ c.args.s) × (rest c < block c)
in_block c =
    let p = c.args.plan in
    let full : 0 < block c = omega (arith, c.requires.stacks_nonzero.0, le-mul_of_pos_right (p.done + 1) c.requires.stacks_nonzero.0) in
    (standing-past p.stacks (p.done + 1) c.args.s c.args.q full c.requires.done_value.0, standing-within p.stacks (p.done + 1) c.args.s c.args.q full c.requires.done_value.0)

taken-off : (n d k : ℕ) → k ≡ n / d → k * d ≤ n
taken-off n d k e = rw e (div-mul-le_self n d)

pub overflow_mul-low-2 : goal.overflow_mul-low-2
overflow_mul-low-2 c = omega (arith, product_small c.args.q ((c.args.plan.done + 1) * c.args.plan.stacks) (omega arith) c.requires.stacks_nonzero.1)

pub overflow_sub-rest : goal.overflow_sub-rest
overflow_sub-rest c = (in_block (goal.at.overflow_sub-rest c).Start).0

pub by_stacks-position-requires : goal.by_stacks-position-requires
by_stacks-position-requires c =
    let p = c.args.plan in
    let few-stacks : p.stacks ≤ largest = let turn : 0 < p.done + 1 = omega arith in
    omega (arith, le-mul_of_pos_right p.stacks turn, mul_comm p.stacks (p.done + 1), c.requires.stacks_nonzero.1) in
    (c.requires.stacks_nonzero.0, few-stacks, omega (arith, (in_block (goal.at.by_stacks-position-requires c).Start).1, c.requires.stacks_nonzero.1), c.requires.done_value.1)

pub overflow_mul-result : goal.overflow_mul-result
overflow_mul-result c = let less = taken-off _ _ _ c.by_stacks-position.ensures in omega arith

pub overflow_sub-result : goal.overflow_sub-result
overflow_sub-result c = taken-off _ _ _ c.by_stacks-position.ensures

pub returns : goal.returns
returns c =
    let s = (goal.at.returns c).Start in
    let p = c.args.plan in
    let within = in_block s in
    let sum : c.args.s ≡ c.args.q * block s + rest s = omega (arith, within.0) in (
      c.by_stacks-position.ensures ∙ standing-position p.stacks (p.done + 1) c.args.q (rest s) c.requires.stacks_nonzero.0 within.1 c.args.s sum,
      ap (λ k. rest s - k * p.stacks) c.by_stacks-position.ensures ∙ standing-stack p.stacks (p.done + 1) c.args.q (rest s) c.requires.stacks_nonzero.0 within.1 c.args.s sum,
    )
