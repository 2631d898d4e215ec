-- `states::power` meets its contract, exponent by exponent. Assumes nothing.
use mathlib.Core.Path.{◌≡◌, sym, ap, ◌∙◌}
use Prim.Native.Nat.{◌*◌, ◌^◌, ◌≤◌}
use native.Mathlib.Nat.{pow-zero, le-mul_of_pos_right}
use native.Mathlib.Omega.{arith}
use Rattle.states.proofs.Bounds.{pow-one, pow-two, pow-three}
use Rattle.states.proofs.power.Goals as goal

three : (c : goal.Else-e-eq2) → c.args.e ≡ 3
three c = omega (arith, c.requires.1, c.if-e-lt2.false, c.if-e-eq2.false)

small : (c : goal.Else-e-eq2) →
    let R = c.args.radix in (R * R ≤ 1048576) × (R * R * R ≤ 1048576)
small c =
    let cube : c.args.radix * c.args.radix * c.args.radix ≤ 1048576 = omega (arith, c.requires.2, pow-three c.args.radix c.args.e (three c)) in
    (omega (arith, cube, le-mul_of_pos_right (c.args.radix * c.args.radix) c.requires.0), cube)

pub returns-then-e-eq0 : goal.returns-then-e-eq0
returns-then-e-eq0 c = let R = c.args.radix in sym (ap (R ^◌) c.if-e-eq0.true ∙ pow-zero R)

pub returns-then-e-lt2 : goal.returns-then-e-lt2
returns-then-e-lt2 c = let a = c.args in pow-one a.radix a.e (omega (arith, c.if-e-lt2.true, c.if-e-eq0.false))

pub overflow_mul-result : goal.overflow_mul-result
overflow_mul-result c = let a = c in omega (arith, a.requires.2, pow-two a.args.radix a.args.e c.if-e-eq2.true)

pub returns-then-e-eq2 : goal.returns-then-e-eq2
returns-then-e-eq2 c = let a = c.args in pow-two a.radix a.e c.if-e-eq2.true

pub overflow_mul-result-2 : goal.overflow_mul-result-2
overflow_mul-result-2 c = omega (arith, (small c).0)

pub overflow_mul-result-3 : goal.overflow_mul-result-3
overflow_mul-result-3 c = omega (arith, (small c).1)

pub returns : goal.returns
returns c = let a = c.args in pow-three a.radix a.e (three c)
