-- What the stacks of one line do where a way by one run is chosen, case by case: one push at most (`Single`).
use mathlib.Core.Path.{◌≡◌, refl, sym, ap, ◌∙◌}
use mathlib.Core.Bool.{Bool, true, false, cond, not, ◌&&◌, and-true}
use Prim.Native.Nat.{ℕ, suc, ◌+◌, ◌*◌, ◌^◌, ◌/◌, ◌%◌, ◌<◌, ◌≤◌}
use native.Mathlib.Nat.{mul-zero, mul_comm, mul-le-mul, pow-suc, mod-le}
use native.Mathlib.Omega.{arith}
use lib.Arith.{digits_lt}
use lib.Dec.{eqb}
use borrow.Author.Tests.{ne_eqb}
use Rattle.request.specs.Layout.{largest}
use Rattle.request.specs.declared.Plan.{Plan}
use Rattle.graph.specs.Table.{push}
use Rattle.states.specs.Spots.{okay, read_by, read_but, sister_of, foreign_to, OnlyKept}
use Rattle.states.specs.declared.Spot.{Spot}
use Rattle.states.specs.declared.Target.{Target}
use Rattle.states.proofs.Bounds.{power-fits, power_small, stacks-small}
use Rattle.sorted.specs.Sorting.{pack_by}
use Rattle.ways.specs.Ways.{taken_by, Single, Before}
use Rattle.ways.specs.declared.Taking.{Taking}
use Rattle.ways.proofs.Right.{stack-plain, stack-pushed, stack-forgotten, stack-left, stack-fits}

-- keys of places and boats are small
pub by-boat : (p R x : ℕ) → p < 1024 → R ≤ 4097 → x < R → (p * R ≤ 4195328) × (p * R + x < 4200000)
by-boat p R x a b l = let m : p * R ≤ 1024 * 4097 = mul-le-mul {n₂ = 1024} {m₂ = 4097} (omega arith) b in (omega (arith, m), omega (arith, m))

-- a state's own stack is no deeper than the keeps
pub shallow : {plan : Plan} {s : Spot} {t : Target} {c leaves : ℕ} → Before plan s t c leaves → Before plan s t c t.depth
shallow b = record { area = b.area; laid = b.laid; aimed = b.aimed; sane = b.sane; kind-low = b.kind-low; position-low = b.position-low; leaves-low = b.aimed.depth_low }

-- what making a lane asks for
pub lane-asked : {plan : Plan} {s : Spot} {t : Target} {c leaves : ℕ} → Before plan s t c leaves → {u : ℕ} → u < plan.stacks → (c ≤ 63) × (plan.done ≤ 63) × (plan.stacks ≤ largest) × (u < 4294967296)
lane-asked b low =
    let few = stacks-small b.laid in (omega (arith, b.position-low, b.laid.few-positions), b.laid.few-positions, omega (arith, few, b.laid.small), omega (arith, low, few, b.laid.small))

module _ (plan : Plan) (s : Spot) (t : Target) (c leaves : ℕ) (b : Before plan s t c leaves) where
  pub before-fits : t.stack % s.weight < plan.stacks
  before-fits = omega (arith, mod-le t.stack s.weight, stack-fits plan s t c leaves b)

  pub weight-small : t.weight ≤ largest
  weight-small = omega (arith, b.aimed.weight_is, power_small b.laid t.depth b.aimed.depth_low)

module _ (B : ℕ → ℕ) (plan : Plan) (s : Spot) (t : Target) (c leaves : ℕ) (b : Before plan s t c leaves) where
  abbrev R : ℕ
  R = plan.radix

  -- no boat has the number pack_by
  pub no_number : (x : ℕ) → x < R → not (eqb x pack_by) ≡ true
  no_number x low = ap not (ne_eqb x pack_by (λ e. omega (arith, e, low, b.laid.few-boats)))

  -- ---- the same, said otherwise

  single-as : {count : ℕ} {p : ℕ → Bool} {u : ℕ → ℕ} (q : ℕ → Bool) (v : ℕ → ℕ) → ((x : ℕ) → x < R → p x ≡ q x) → ((x : ℕ) → u x ≡ v x) → Single B plan s t count p u → Single B plan s t count q v
  single-as q v same is one =
      record {
        fits = λ x low. omega (arith, one.fits x low, is x);
        law = λ d home x low st. one.law d home x low st ∙ (λ i. cond (same x low i) (push d (home + is x i) st) st);
      }

  -- with the line's number at the weight 0
  flat : {count : ℕ} {p : ℕ → Bool} → Single B plan s t count p (λ x. t.stack) → Single B plan s t count p (λ x. t.stack + x * 0)
  flat {p = p} one = single-as p (λ x. t.stack + x * 0) (λ x low. refl) (λ x. omega (arith, mul-zero x)) one

  -- ---- the stack after the position is the state's

  plain : s.push ≡ false → (p : ℕ → Bool) → ((x : ℕ) → x < R → okay B R s x t.stack ≡ p x) → Single B plan s t 1 p (λ x. t.stack)
  plain e p is =
      record {
        fits = λ x low. stack-fits plan s t c leaves b;
        law = λ d home x low st. stack-plain B R s d home x t.weight t.stack st e ∙ ap (λ z. cond z (push d (home + t.stack) st) st) (is x low);
      }

  pub any-single : s.push ≡ false → ((x : ℕ) → okay B R s x t.stack ≡ true) → Single B plan s t 1 (taken_by B Taking.All) (λ x. t.stack + x * 0)
  any-single e any = flat (plain e (λ x. true) (λ x low. any x))

  pub only-single : s.push ≡ false → (y : ℕ) → ((x : ℕ) → okay B R s x t.stack ≡ eqb x y) → Single B plan s t 1 (λ x. eqb x y) (λ x. t.stack)
  only-single e y is = plain e (λ x. eqb x y) (λ x low. is x)

  pub but-single : s.push ≡ false → (y : ℕ) → ((x : ℕ) → okay B R s x t.stack ≡ read_but B y x) → Single B plan s t 1 (taken_by B (Taking.ReadBut y)) (λ x. t.stack + x * 0)
  but-single e y is = flat (plain e (λ x. read_but B y x) (λ x low. is x))

  pub sister-single : s.push ≡ false → (y : ℕ) → ((x : ℕ) → okay B R s x t.stack ≡ sister_of B y x) → Single B plan s t 1 (λ x. sister_of B y x) (λ x. t.stack + x * 0)
  sister-single e y is = flat (plain e (λ x. sister_of B y x) (λ x low. is x))

  pub foreign-single : s.push ≡ false → (y : ℕ) → ((x : ℕ) → okay B R s x t.stack ≡ foreign_to B y x) → Single B plan s t 1 (λ x. foreign_to B y x) (λ x. t.stack + x * 0)
  foreign-single e y is = flat (plain e (λ x. foreign_to B y x) (λ x low. is x))

  pub push-single : s.push ≡ true → ((x : ℕ) → okay B R s x (t.stack % s.weight) ≡ true) → Single B plan s t 1 (λ x. eqb x (t.stack / s.weight)) (λ x. t.stack % s.weight)
  push-single e any =
      record {
        fits = λ x low. before-fits plan s t c leaves b;
        law = λ d home x low st. stack-pushed B R s d home x t.weight t.stack st e b.sane.some-weight (any x);
      }

  -- ---- it has one boat more, which is forgotten

  pub drop-single : s.push ≡ true → s.weight ≡ t.weight → ((x : ℕ) → okay B R s x t.stack ≡ true) → Single B plan s t R (taken_by B Taking.All) (λ x. t.stack + x * 0)
  drop-single e same any =
      flat
      (record {
        fits = λ x low. stack-fits plan s t c leaves b;
        law = λ d home x low st. stack-forgotten B R s d home x t.weight t.stack st e same (any x) b.aimed.stack-low low;
      })

  -- every read boat is another than one that has no number
  pub left-single : s.push ≡ false → OnlyKept s → s.level ≡ t.weight → leaves ≡ suc t.depth → Single B plan s t R (taken_by B (Taking.ReadBut pack_by)) (λ x. t.stack + x * t.weight)
  left-single e only same deep =
      record {
        fits = fits;
        law = λ d home x low st.
            stack-left B R s d home x t.weight t.stack st e only same b.aimed.stack-low low
            ∙ (λ i. cond (read_is x low i) (push d (home + sum x i) st) st);
      }
    where
      read_is : (x : ℕ) → x < R → read_by B x ≡ read_but B pack_by x
      read_is x low = sym (ap (read_by B x &&◌) (no_number x low) ∙ and-true (read_by B x))

      sum : (x : ℕ) → x * t.weight + t.stack ≡ t.stack + x * t.weight
      sum x = omega arith

      fits : (x : ℕ) → x < R → t.stack + x * t.weight < plan.stacks
      fits x low =
          let in_one : x * t.weight + t.stack < R * t.weight = digits_lt low b.aimed.stack-low in
          let whole : R ^ suc t.depth ≡ R * t.weight = pow-suc R t.depth ∙ (mul_comm (R ^ t.depth) R ∙ ap (R *◌) (sym b.aimed.weight_is)) in
          omega (arith, in_one, whole, power-fits b.laid (suc t.depth) (omega (arith, deep, b.leaves-low)))
