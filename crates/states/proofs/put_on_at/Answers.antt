-- `states::put_on_at` meets its contract, with and without a push. Assumes nothing.
use mathlib.Core.Path.{sym, ap, ◌∙◌}
use Prim.Native.Nat.{◌*◌, ◌≤◌}
use native.Mathlib.Omega.{arith}
use Rattle.positions.specs.Program.{depth-few}
use Rattle.positions.specs.declared.Row.{Row}
use Rattle.request.specs.Layout.{largest}
use Rattle.states.specs.Spots.{spot_in, on}
use Rattle.states.proofs.Bounds.{product_small}
use Rattle.states.proofs.put_on_at.Goals as goal

weight-low : (c : goal.After-power) → c.power.result ≤ largest
weight-low c = rw (c.power.ensures, c.from.ensures, c.row_at-row.ensures) c.requires.2

times-small : (c : goal.After-power) → c.args.code * c.power.result ≤ 4503599626321920
times-small c = product_small c.args.code c.power.result (omega arith) (weight-low c)

pub power-requires : goal.power-requires
power-requires c = let a = c in rw (c.from.ensures, c.row_at-row.ensures) (a.requires.1, depth-few _ _, a.requires.2)

pub overflow_mul-result : goal.overflow_mul-result
overflow_mul-result c = omega (arith, times-small c)

pub returns-then-row : goal.returns-then-row
unfolding on spot_in
returns-then-row c =
    rw (ap (λ (x : Row). x.push) (sym c.row_at-row.ensures) ∙ c.if-row.true, c.power.ensures, c.from.ensures, c.row_at-row.ensures)

pub returns : goal.returns
unfolding on spot_in
returns c = rw (ap (λ (x : Row). x.push) (sym c.row_at-row.ensures) ∙ c.if-row.false)
