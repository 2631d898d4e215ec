-- The code's numbers are the setting's: a mask's positions, push and pop, and whether a boat passes a rule. Forward and backward steps
-- are bridged by these. Assumes nothing.
use mathlib.Core.Path.{◌≡◌, refl, sym, ap, ◌∙◌}
use mathlib.Core.Bool.{Bool, true, false, cond}
use mathlib.Core.List.{List, ◌∷◌}
use Prim.Native.Nat.{ℕ, zero, suc, ◌+◌, ◌^◌, ◌/◌, ◌%◌, ◌<◌, ◌≤◌}
use native.Mathlib.Decide.{ℕ_discrete}
use native.Mathlib.Omega.{arith}
use lib.Dec.{eqb}
use borrow.Author.Tests.{eq-eqb, ne_eqb}
use Rattle.positions.specs.Program.{bit_of, members_from, members, row_at, test_in}
use Rattle.positions.specs.declared.Rule.{Rule}
use Rattle.boats.specs.Table.{told_by}
use Rattle.request.specs.declared.Plan.{Plan}
use Rattle.graph.specs.Plain.{memb}
use Rattle.search.specs.Digits.{push_on, pop_off}
use Rattle.search.specs.Product.{passes}
use Rattle.search.specs.Loaded.{boat_at, setting_in}
use Rattle.states.specs.Spots.{met_by, spot_in, okay, off_by, on_by}

-- ---- a mask's positions

memb-other : (k x : ℕ) (xs : List ℕ) → (k ≡ x → ⊥) → memb k (x ∷ xs) ≡ memb k xs
unfolding memb
memb-other k x xs n = rw (ne_eqb k x n, memb)

memb-same : (k x : ℕ) (xs : List ℕ) → k ≡ x → memb k (x ∷ xs) ≡ true
unfolding memb
memb-same k x xs e = rw (eq-eqb k x e, memb)

memb-skip : (b : Bool) (k j : ℕ) (xs : List ℕ) → (k ≡ j → ⊥) → memb k (cond b (j ∷ xs) xs) ≡ memb k xs
memb-skip true k j xs n = memb-other k j xs n
memb-skip false k j xs n = refl

memb-before : (mask j n k : ℕ) → k < j → memb k (members_from mask j n) ≡ false
memb-before mask j zero k h = unfold memb in refl
memb-before mask j (suc n) k h =
    memb-skip (eqb (bit_of mask j) 1) k j (members_from mask (suc j) n) (λ e. omega (arith, h, e)) ∙ memb-before mask (suc j) n k (omega arith)

memb-from : (mask j n k : ℕ) → j ≤ k → k < j + n → memb k (members_from mask j n) ≡ eqb (bit_of mask k) 1
memb-from mask j zero k h l = absurd (omega arith)
memb-from mask j (suc n) k h l = elim (ℕ_discrete k j) [
  | yes e ↦ (here e (eqb (bit_of mask j) 1) ∙ ap (λ z. eqb (bit_of mask z) 1) (sym e))
  | no ne ↦ (memb-skip (eqb (bit_of mask j) 1) k j rest ne ∙ memb-from mask (suc j) n k (omega (arith, ne)) (omega arith))
]
  where
    rest : List ℕ
    rest = members_from mask (suc j) n

    here : k ≡ j → (b : Bool) → memb k (cond b (j ∷ rest) rest) ≡ b
    here e true = memb-same k j rest e
    here e false = memb-before mask (suc j) n k (omega arith)

pub member : (mask k : ℕ) → k < 64 → memb k (members mask) ≡ eqb (bit_of mask k) 1
unfolding members
member mask k h = memb-from mask 0 64 k (omega arith) (omega arith)

-- ---- push and pop

pub pop-off : (R d v : ℕ) (b : Bool) → pop_off R b d v ≡ off_by b (R ^ d) v
pop-off R d v true = refl
pop-off R d v false = refl

pub push-on : (R d v x : ℕ) (b : Bool) → push_on R b d v x ≡ on_by b (R ^ d) v x
push-on R d v x true = refl
push-on R d v x false = refl

-- ---- a boat passes

module _ (a : List ℕ) (plan : Plan) (g : List ℕ) where
  passes-rule : (t : Rule) (j v x : ℕ) → passes (setting_in a plan g) (test_in t j) v x ≡ met_by t (told_by (boat_at plan g) x (v / plan.radix ^ j % plan.radix))
  unfolding setting_in
  passes-rule Rule.Never j v x = refl
  passes-rule Rule.Always j v x = refl
  passes-rule Rule.Same j v x = refl
  passes-rule Rule.Other j v x = refl
  passes-rule Rule.Sister j v x = refl
  passes-rule Rule.Foreign j v x = refl

  pub passes-is : (c v x : ℕ) → passes (setting_in a plan g) (test_in (row_at a c).rule (row_at a c).level) v x ≡ okay (boat_at plan g) plan.radix (spot_in a plan.radix c) x v
  unfolding okay spot_in
  passes-is c v x = passes-rule (row_at a c).rule (row_at a c).level v x
