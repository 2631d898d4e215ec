-- `ways::way_of` meets its contract, by how much deeper the stack after the position is than the state's. Assumes nothing.
use mathlib.Core.Path.{◌≡◌, sym, ap, ◌∙◌, subst}
use Prim.Native.Nat.{ℕ, ◌+◌, ◌*◌, ◌-◌, ◌^◌}
use native.Mathlib.Nat.{pow-zero, pow-suc, one-mul}
use native.Mathlib.Omega.{arith}
use Rattle.states.specs.Spots.{front}
use Rattle.ways.specs.Ways.{Right}
use Rattle.ways.proofs.way_of.Goals as goal

-- no deeper, or by one
same-depth : (R a b : ℕ) → a ≡ b → 1 ≡ R ^ (a - b)
same-depth R a b e = let none : a - b ≡ 0 = omega (arith, e) in sym (ap (R ^◌) none ∙ pow-zero R)

one_deeper : (R a b : ℕ) → a ≡ b + 1 → R ≡ R ^ (a - b)
one_deeper R a b e = let one : a - b ≡ 1 = omega (arith, e) in sym (ap (R ^◌) one ∙ (pow-suc R 0 ∙ (ap (λ n. n * R) (pow-zero R) ∙ one-mul R)))

pub returns-then-leaves-target : goal.returns-then-leaves-target
returns-then-leaves-target c =
    subst (λ n. Right c.args.plan (front c.args.plan c.args.work.now) c.args.spot c.args.target c.args.c n c.exact_way.result) (same-depth c.args.plan.radix _ _ c.if-leaves-target.true) c.exact_way.ensures

pub returns-then-leaves-target-2 : goal.returns-then-leaves-target-2
returns-then-leaves-target-2 c =
    subst (λ n. Right c.args.plan (front c.args.plan c.args.work.now) c.args.spot c.args.target c.args.c n c.forgetting_way.result) (one_deeper c.args.plan.radix _ _ c.if-leaves-target-2.true) (c.forgetting_way.ensures _ c.requires.laid.1)
