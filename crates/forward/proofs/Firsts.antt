-- The first states by the code's loop over positions are those of the mask's positions, in the same order: `first-states`.
use mathlib.Core.Path.{◌≡◌, refl, sym, ap, ◌∙◌, subst}
use mathlib.Core.Bool.{Bool, true, false, cond}
use mathlib.Core.List.Memᴰ
use mathlib.Core.List.{List, [], ◌∷◌, ◌++◌, map, append-nil}
use Prim.Native.Nat.{ℕ, zero, suc, ◌+◌, ◌-◌, ◌≤◌}
use native.Mathlib.Omega.{arith}
use lib.Dec.{eqb}
use Rattle.lists.specs.Listed.{◌∈◌}
use Rattle.positions.specs.Program.{bit_of, members_from, members}
use Rattle.request.specs.Layout.{Laid}
use Rattle.request.specs.declared.Plan.{Plan}
use Rattle.graph.specs.Plain.{filt, count}
use Rattle.graph.proofs.Sets.{filt-in, count-in}
use Rattle.search.specs.Along.{starting}
use Rattle.search.specs.Loaded.{setting_in}
use Rattle.search.specs.Front.{state_in}
use Rattle.search.proofs.Front.{starting-in}
use Rattle.forward.specs.Firsts.{first_states}

module _ (mask : ℕ) where
  abbrev has : ℕ → Bool
  has k = eqb (bit_of mask k) 1

  members-filt : (j n : ℕ) → members_from mask j n ≡ filt has (count j n)
  unfolding filt count
  members-filt j zero = refl
  members-filt j (suc n) = go (has j) (members-filt (suc j) n)
    where
      go : (b : Bool) → members_from mask (suc j) n ≡ filt has (count (suc j) n)
          → cond b (j ∷ members_from mask (suc j) n) (members_from mask (suc j) n) ≡ elim b [ true ↦ j ∷ filt has (count (suc j) n) | false ↦ filt has (count (suc j) n) ]
      go true e = ap (j ∷◌) e
      go false e = e

  members-split : (j n m : ℕ) → members_from mask j (n + m) ≡ members_from mask j n ++ members_from mask (j + n) m
  members-split j zero m = let same : j + 0 ≡ j = omega arith in let all : 0 + m ≡ m = omega arith in rw (same, all) refl
  members-split j (suc n) m =
      let more : suc n + m ≡ suc (n + m) = omega arith in
      let after : suc j + n ≡ j + suc n = omega arith in
      rw more (go (has j) (members-split (suc j) n m ∙ ap (λ i. members_from mask (suc j) n ++ members_from mask i m) after))
    where
      rest : List ℕ
      rest = members_from mask (suc j) n

      go : (b : Bool) → members_from mask (suc j) (n + m) ≡ rest ++ members_from mask (j + suc n) m
          → cond b (j ∷ members_from mask (suc j) (n + m)) (members_from mask (suc j) (n + m)) ≡ cond b (j ∷ rest) rest ++ members_from mask (j + suc n) m
      go true e = ap (j ∷◌) e
      go false e = e

  nothing : (l : List ℕ) → ((k : ℕ) → k ∈ l → ⊥) → l ≡ []
  nothing [] h = refl
  nothing (x ∷ l) h = absurd (h x (Memᴰ.head refl))

  members-cut : (d : ℕ) → d ≤ 63 → members mask ≡ members_from mask 0 (d + 1) ++ members_from mask (d + 1) (63 - d)
  unfolding members
  members-cut d few =
      let all : 64 ≡ d + 1 + (63 - d) = omega arith in
      let start : 0 + (d + 1) ≡ d + 1 = omega arith in
      ap (members_from mask 0) all ∙ (members-split 0 (d + 1) (63 - d) ∙ ap (λ j. members_from mask 0 (d + 1) ++ members_from mask j (63 - d)) start)

  -- no position after d: those up to d are all
  members-low : (d : ℕ) → d ≤ 63 → ((k : ℕ) → k ∈ members mask → k ≤ d) → filt has (count 0 (d + 1)) ≡ members mask
  members-low d few low =
      let after = members_from mask (d + 1) (63 - d) in
      let none : after ≡ [] = nothing after (λ k m.
      let inside : k ∈ members mask = subst (k ∈◌) (sym (members-cut d few)) (Memᴰ.append_right (members_from mask 0 (d + 1)) m) in
      let listed : k ∈ filt has (count (d + 1) (63 - d)) = subst (k ∈◌) (members-filt (d + 1) (63 - d)) m in
      let above = ((count-in (d + 1) (63 - d) k).0 ((filt-in has (count (d + 1) (63 - d)) k).0 listed).0).0 in
      omega (arith, above, low k inside)) in
      sym (members-filt 0 (d + 1)) ∙ sym (members-cut d few ∙ (ap (members_from mask 0 (d + 1) ++◌) none ∙ append-nil (members_from mask 0 (d + 1))))

pub first-states : (program : List ℕ) (plan : Plan) (area : ℕ) → Laid plan area → (g : List ℕ) (begin a : ℕ) → ((k : ℕ) → k ∈ members begin → k ≤ plan.done)
    → first_states plan begin a ≡ starting (setting_in program plan g) a (members begin)
unfolding first_states
first-states program plan area laid g begin a low =
    ap (λ ks. map (λ k. state_in plan a k 0) ks) (members-low begin plan.done laid.few-positions low)
    ∙ starting-in program plan area laid g a (members begin)
