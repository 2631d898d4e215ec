-- Sets of states in a table, without the area: what is marked of a list of states (`seeded-mark`), that wiping its queue leaves
-- nothing marked (`seeded-wiped`), and that a table walked along a chain marks exactly the states to which the chain moves (`walked-marks`).
use mathlib.Core.Path.{◌≡◌, refl, sym, ap, ◌∙◌, subst}
use mathlib.Core.Bool.{Bool, true, false, and-eq-true_iff}
use mathlib.Core.List.Memᴰ
use mathlib.Core.List.{List, [], ◌∷◌}
use mathlib.Core.Logic.{◌↔◌, ◌⊎◌, inl, inr, ⊎_elim}
use mathlib.Core.Option.{Option, none, some}
use Prim.Native.Nat.{ℕ, zero, suc, ◌<◌}
use native.Mathlib.Omega.{arith}
use lib.Dec.{ltb}
use lib.ListN.{length, get_or, set, replicate, length-set, length-replicate, get_or-replicate}
use lib.Seq.{get_or-set_same, ext_get_or}
use borrow.Author.Tests.{ltb-true}
use Rattle.lists.specs.Listed.{◌∈◌, none_in}
use Rattle.graph.specs.Plain.{state_of, look, news, memb, nub, flat}
use Rattle.graph.proofs.Sets.{memb-in, nub-in, flat_in}
use Rattle.graph.proofs.Entries.{under, look-some, look_none}
use Rattle.graph.specs.Loops.{loop}
use Rattle.graph.specs.Table.{Search, blank, mark}
use Rattle.graph.proofs.Table.{Holds, blank-holds, loop-holds}
use Rattle.meaning.specs.Chain.{exist}
use Rattle.search.specs.Check.{moved}
use Rattle.search.proofs.Check.{moved-members}
use Rattle.checker.specs.Walk.{seeded, stepped, walked, wiped}

pub memb-not : {t : ℕ} {l : List ℕ} → (t ∈ l → ⊥) → memb t l ≡ false
memb-not {t} {l} n = go (memb t l) refl
  where
    go : (b : Bool) → memb t l ≡ b → b ≡ false
    go true e = absurd (n (memb-in t l e))
    go false e = refl

-- ---- words wiped

wipe-zero : (D : List ℕ) (x s : ℕ) → get_or D s 0 ≡ 0 → get_or (set D x 0) s 0 ≡ 0
wipe-zero [] x s e = e
wipe-zero (d ∷ D) zero zero e = refl
wipe-zero (d ∷ D) zero (suc s) e = e
wipe-zero (d ∷ D) (suc x) zero e = e
wipe-zero (d ∷ D) (suc x) (suc s) e = wipe-zero D x s e

pub wiped-length : (q D : List ℕ) → length (wiped q D) ≡ length D
unfolding wiped loop
wiped-length [] D = refl
wiped-length (x ∷ q) D = wiped-length q (set D x 0) ∙ length-set D x 0

wiped-zero : (q D : List ℕ) (s : ℕ) → get_or D s 0 ≡ 0 → get_or (wiped q D) s 0 ≡ 0
unfolding wiped loop
wiped-zero [] D s e = e
wiped-zero (x ∷ q) D s e = wiped-zero q (set D x 0) s (wipe-zero D x s e)

wiped-in : (q D : List ℕ) (s : ℕ) → s ∈ q → s < length D → get_or (wiped q D) s 0 ≡ 0
unfolding wiped loop
wiped-in [] D s m h = none_in m
wiped-in (x ∷ q) D s m h =
    ⊎_elim
    (λ e. wiped-zero q (set D x 0) s (ap (λ k. get_or (set D x 0) k 0) e ∙ get_or-set_same D x 0 0 (subst (◌< length D) e h)))
    (λ k. wiped-in q (set D x 0) s k (subst (s <◌) (sym (length-set D x 0)) h))
    (Memᴰ.cases_cons m)

-- ---- the states of a list, all below N

-- a state has a word in the table exactly where it is one of these
abbrev pub Marks : Search → ℕ → Type 0 → Type 0
Marks st g Member = ((get_or st.dist g 0 ≡ 0) × (Member → ⊥)) ⊎ ((get_or st.dist g 0 ≡ 0 → ⊥) × Member)

module _ (N : ℕ) (X : List ℕ) (low : (s : ℕ) → s ∈ X → s < N) where
  seeded-holds : Holds N (λ s. s < N) (news 0 [] X) (seeded N X)
  unfolding seeded
  seeded-holds = loop-holds N (λ s. s < N) (λ s o. o) X 0 [] (blank N) low (blank-holds N (λ s. s < N))

  pub seeded-queue : (seeded N X).queue ≡ nub X
  unfolding nub
  seeded-queue = seeded-holds.order

  pub seeded-mark : (s : ℕ) → s < N → Marks (seeded N X) s (s ∈ X)
  unfolding nub
  seeded-mark s h = go (look s (news 0 [] X)) refl
    where
      go : (o : Option ℕ) → look s (news 0 [] X) ≡ o → Marks (seeded N X) s (s ∈ X)
      go none e = inl (
        seeded-holds.marks s h ∙ ap mark e,
        λ m. let (x, i, p) = Memᴰ.of_map state_of (news 0 [] X) ((nub-in X s).1 m) in look_none s (news 0 [] X) e x.1 (under (sym p) i),
      )
      go (some d) e = inr (
        λ z. let one : suc d ≡ 0 = sym (ap mark e) ∙ (sym (seeded-holds.marks s h) ∙ z) in omega arith,
        (nub-in X s).0 (Memᴰ.map state_of (look-some s (news 0 [] X) d e)),
      )

  pub seeded-wiped : wiped (seeded N X).queue (seeded N X).dist ≡ replicate N 0
  seeded-wiped =
      ext_get_or 0 _ _ (long ∙ sym (length-replicate N 0)) (λ s h. word s (subst (s <◌) long h) ∙ sym (get_or-replicate N s 0 0 (subst (s <◌) long h)))
    where
      long : length (wiped (seeded N X).queue (seeded N X).dist) ≡ N
      long = wiped-length (seeded N X).queue (seeded N X).dist ∙ seeded-holds.sized

      word : (s : ℕ) → s < N → get_or (wiped (seeded N X).queue (seeded N X).dist) s 0 ≡ 0
      word s h =
          ⊎_elim
          (λ e. wiped-zero (seeded N X).queue (seeded N X).dist s e.0)
          (λ m. wiped-in (seeded N X).queue (seeded N X).dist s (subst (s ∈◌) (sym seeded-queue) ((nub-in X s).1 m.1)) (subst (s <◌) (sym seeded-holds.sized) h))
          (seeded-mark s h)

-- ---- along a chain of lines below m, by steps that stay below N

module _ (next : ℕ → ℕ → List ℕ) (N m : ℕ) (next_low : (s i t : ℕ) → i < m → t ∈ next s i → t < N) where
  pub step-low : (i : ℕ) → i < m → (X : List ℕ) (t : ℕ) → t ∈ flat (λ s. next s i) X → t < N
  step-low i h X t k = let (s, l, n) = (flat_in (λ s. next s i) X t).0 k in next_low s i t h n

  -- one step of the table, and of the set
  step-members : (i : ℕ) (X Y : List ℕ) → ((s : ℕ) → (s ∈ Y) ↔ (s ∈ X)) → (t : ℕ) → (t ∈ flat (λ s. next s i) Y) ↔ (t ∈ nub (flat (λ s. next s i) X))
  step-members i X Y e t =
      (λ k. (nub-in _ t).1 (over Y X (λ s. (e s).0) k), λ k. over X Y (λ s. (e s).1) ((nub-in _ t).0 k))
    where
      over : (Z W : List ℕ) → ((s : ℕ) → s ∈ Z → s ∈ W) → t ∈ flat (λ s. next s i) Z → t ∈ flat (λ s. next s i) W
      over Z W f k = let (s, l, n) = (flat_in (λ s. next s i) Z t).0 k in (flat_in (λ s. next s i) W t).1 (s, f s l, n)

  pub walked-marks : (c X : List ℕ) → ((s : ℕ) → s ∈ X → s < N) → exist m c ≡ true → (g : ℕ) → g < N
      → Marks (walked next N c (seeded N X)) g (g ∈ moved next X c)
  unfolding walked stepped moved exist
  walked-marks [] X low e g h = seeded-mark N X low g h
  walked-marks (i ∷ c) X low e g h =
      let (here, later) = (and-eq-true_iff (ltb i m) (exist m c)).0 e in
      let Y = (seeded N X).queue in
      let r = moved-members next c _ _ (step-members i X Y (same Y (seeded-queue N X low))) g in
      ⊎_elim (λ z. inl (z.0, λ k. z.1 (r.1 k))) (λ z. inr (z.0, r.0 z.1))
      (walked-marks c (flat (λ s. next s i) Y) (step-low i (ltb-true i m here) Y) later g h)
    where
      same : (Y : List ℕ) → Y ≡ nub X → (s : ℕ) → (s ∈ Y) ↔ (s ∈ X)
      same Y q s = (λ k. (nub-in X s).0 (subst (s ∈◌) q k), λ k. subst (s ∈◌) (sym q) ((nub-in X s).1 k))
