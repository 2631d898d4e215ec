-- `states::target_of` meets its contract, number by number. Assumes nothing.
use mathlib.Core.Path.{◌≡◌, ap}
use Prim.Native.Nat.{ℕ, ◌+◌, ◌*◌, ◌-◌, ◌/◌, ◌%◌, ◌≤◌}
use native.Mathlib.Nat.{mod-lt, one-le-pow, div-add-mod'}
use native.Mathlib.Omega.{arith}
use Rattle.positions.specs.Program.{depth-few}
use Rattle.states.specs.Spots.{target_in}
use Rattle.states.proofs.target_of.Goals as goal

-- what is left of a number past the whole stacks in it
rest-is : (t d q : ℕ) → q ≡ t / d → t - q * d ≡ t % d
rest-is t d q e = let same = ap (◌* d) e in omega (arith, same, div-add-mod' t d)

pub depth_at-depth-requires : goal.depth_at-depth-requires
depth_at-depth-requires c =
    let low : let p = c.args.plan in c.by_stacks-spots.result % (p.done + 1) ≤ p.done = omega (arith, mod-lt c.by_stacks-spots.result {m = c.args.plan.done + 1} (omega arith)) in
    omega (arith, low, c.requires.stacks_nonzero.2)

pub power-weight-requires : goal.power-weight-requires
power-weight-requires c =
    let low : let p = c.args.plan in c.by_stacks-spots.result % (p.done + 1) ≤ p.done = omega (arith, mod-lt c.by_stacks-spots.result {m = c.args.plan.done + 1} (omega arith)) in
    rw c.depth_at-depth.ensures (c.requires.stacks_nonzero.1, depth-few _ _, c.requires.stacks_nonzero.3 _ low)

pub cut-stack-requires : goal.cut-stack-requires
cut-stack-requires c =
    omega (arith, c.power-weight.ensures, one-le-pow c.depth_at-depth.result c.args.plan.radix c.requires.stacks_nonzero.1)

pub returns : goal.returns
unfolding target_in
returns c =
    rw (
      c.entry_at-second.ensures.0,
      c.cut-first.ensures.0,
      c.cut-stack.ensures.0,
      c.power-weight.ensures,
      c.depth_at-depth.ensures,
      rest-is _ _ _ c.by_stacks-spots.ensures,
      c.by_stacks-spots.ensures,
    )
