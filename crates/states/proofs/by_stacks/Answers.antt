-- `states::by_stacks` meets its contract: the multiplication by the inverse divides. Assumes nothing.
use Prim.Native.Nat.{◌*◌, ◌/◌, ◌≤◌}
use native.Mathlib.Omega.{arith}
use native.Mathlib.Nat.{div-le_self, le-div_iff_mul-le, mul-le-mul}
use Rattle.request.specs.Layout.{scale}
use Rattle.states.proofs.Standing.{divided}
use Rattle.states.proofs.by_stacks.Goals as goal

pub overflow_mul-result : goal.overflow_mul-result
overflow_mul-result c =
    let times-small : c.args.n * c.args.plan.inverse ≤ 4611686018428436480 = mul-le-mul {n₂ = 1048576} {m₂ = 4398046511105} c.requires.2 (omega (arith, c.requires.3, div-le_self scale c.args.plan.stacks)) in
    omega (arith, times-small)

pub returns : goal.returns
returns c =
    let many : 4194304 ≤ scale / c.args.plan.stacks = (le-div_iff_mul-le c.requires.0).1 (omega (arith, c.requires.1)) in
    divided scale c.args.n c.args.plan.stacks c.args.plan.inverse c.requires.0 c.requires.3 (omega (arith, c.requires.1, c.requires.2, many))
