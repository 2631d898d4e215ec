-- Two readings that agree on kinds and on what comparing tells accept alike: `same-accepted`.
-- With it a run over the boats of a chain's lines becomes a run over line numbers and boat numbers.
use Rattle.std.specs.Prelude.{◌≡◌, refl, Bool, true, false, ◌&&◌, List, [], ◌∷◌, ◌++◌, map, ℕ, zero, suc, eqb, take}
use Rattle.std.proofs.Common.{sym, ap, ◌∙◌, subst, ⊎_elim}
use mathlib.Core.List.Memᴰ
use Rattle.std.proofs.Math.ListN.{get_elem?}
use Rattle.meaning.specs.Pattern.{Rule}
use Rattle.meaning.specs.Language.{meets}
use Rattle.lists.specs.Listed.{◌∈◌, none_in, any_of-same}
use Rattle.automaton.specs.Automaton.{Node, Test, never, always, against, Reading, pushed, met, passes, takes, accepts_at, accepts_from}

-- ---- a stack read member by member

module _ {A B : Type 0} (g : A → B) where
  map-take : (n : ℕ) (l : List A) → map g (take n l) ≡ take n (map g l)
  map-take zero [] = refl
  map-take zero (x ∷ l) = refl
  map-take (suc n) [] = refl
  map-take (suc n) (x ∷ l) = ap (g x ∷◌) (map-take n l)

  map-end : (l : List A) (x : A) → map g (l ++ (x ∷ [])) ≡ map g l ++ (g x ∷ [])
  map-end [] x = refl
  map-end (y ∷ l) x = ap (g y ∷◌) (map-end l x)

  map-pushed : (b : Bool) (l : List A) (x : A) → map g (pushed b l x) ≡ pushed b (map g l) (g x)
  map-pushed true l x = map-end l x
  map-pushed false l x = refl

  map-after : (n : ℕ) (b : Bool) (l : List A) (x : A) → map g (take n (pushed b l x)) ≡ take n (pushed b (map g l) (g x))
  map-after n b l x = map-take n (pushed b l x) ∙ ap (take n) (map-pushed b l x)

module _ {A : Type 0} (Known : A → Type 0) where
  abbrev pub AllOf : List A → Type 0
  AllOf l = (x : A) → x ∈ l → Known x

  pub all_take : (n : ℕ) (l : List A) → AllOf l → AllOf (take n l)
  all_take zero [] h y m = none_in m
  all_take zero (x ∷ l) h y m = none_in m
  all_take (suc n) [] h y m = none_in m
  all_take (suc n) (x ∷ l) h y m = ⊎_elim (λ e. h y (Memᴰ.head e)) (all_take n l (λ z i. h z (Memᴰ.tail i)) y) (Memᴰ.cases_cons m)

  pub all-pushed : (b : Bool) (l : List A) (x : A) → AllOf l → Known x → AllOf (pushed b l x)
  all-pushed true l x h k y m = ⊎_elim (h y) (λ i. subst Known (sym (Memᴰ.eq_of_singleton i)) k) (Memᴰ.append_cases l m)
  all-pushed false l x h k y m = h y m

-- ---- two readings: the letters of the second are read by the first through f

module _ {A B : Type 0} (R : Reading A) (S : Reading B) (f : B → A) (Known : B → Type 0) where
  abbrev pub seen : B → R.Values
  seen x = R.value_of (f x)

  -- they agree on the letters that are known
  pub record Alike : Type 0 where
    pub kinds : (x : B) → Known x → R.kind_of (f x) ≡ S.kind_of x
    pub tells : (x y : B) → Known x → Known y → R.tells (seen x) (seen y) ≡ S.tells (S.value_of x) (S.value_of y)

  module _ (h : Alike) where
    met-alike : (r : Rule) (st : List B) (j : ℕ) (a : B) → AllOf Known st → Known a
        → met R r (get_elem? (map seen st) j) (seen a) ≡ met S r (get_elem? (map S.value_of st) j) (S.value_of a)
    met-alike r [] j a all k = refl
    met-alike r (x ∷ st) zero a all k = ap (meets r) (h.tells a x k (all x (Memᴰ.head refl)))
    met-alike r (x ∷ st) (suc j) a all k = met-alike r st j a (λ y m. all y (Memᴰ.tail m)) k

    passes-alike : (t : Test) (st : List B) (a : B) → AllOf Known st → Known a → passes R t (map seen st) (seen a) ≡ passes S t (map S.value_of st) (S.value_of a)
    passes-alike never st a all k = refl
    passes-alike always st a all k = refl
    passes-alike (against r j) st a all k = met-alike r st j a all k

    takes-alike : (n : Node) (st : List B) (a : B) → AllOf Known st → Known a → takes R n (map seen st) (f a) ≡ takes S n (map S.value_of st) a
    takes-alike n st a all k = λ i. eqb n.kind (h.kinds a k i) && passes-alike n.test st a all k i

    module _ (node : ℕ → Node) (done : ℕ) where
      same-run : (w : List B) (k : ℕ) (st : List B) → AllOf Known w → AllOf Known st
          → accepts_at R node done (map f w) k (map seen st) ≡ accepts_at S node done w k (map S.value_of st)
      same-run [] k st known all = refl
      same-run (a ∷ w) k st known all =
          let here = known a (Memᴰ.head refl) in
          let next : ℕ → List B = λ j. take (node j).depth (pushed (node k).push st a) in
          λ i.
          takes-alike (node k) st a all here i
          && any_of-same
          (λ j. accepts_at R node done (map f w) j (take (node j).depth (pushed (node k).push (map seen st) (seen a))))
          (λ j. accepts_at S node done w j (take (node j).depth (pushed (node k).push (map S.value_of st) (S.value_of a))))
          (node k).follow
          (λ j m.
          ap (accepts_at R node done (map f w) j) (sym (map-after seen (node j).depth (node k).push st a))
          ∙ (same-run w j (next j) (λ x m'. known x (Memᴰ.tail m')) (all_take Known (node j).depth _ (all-pushed Known (node k).push st a all here))
          ∙ ap (accepts_at S node done w j) (map-after S.value_of (node j).depth (node k).push st a)))
          i

      -- from one of the positions K, over the values of the letters st
      pub same-accepted : (K : List ℕ) (st w : List B) → AllOf Known st → AllOf Known w
          → accepts_from R node done K (map seen st) (map f w) ≡ accepts_from S node done K (map S.value_of st) w
      same-accepted K st w all known =
          any_of-same
          (λ k. accepts_at R node done (map f w) k (take (node k).depth (map seen st)))
          (λ k. accepts_at S node done w k (take (node k).depth (map S.value_of st)))
          K
          (λ k m.
          ap (accepts_at R node done (map f w) k) (sym (map-take seen (node k).depth st))
          ∙ (same-run w k (take (node k).depth st) known (all_take Known (node k).depth st all)
          ∙ ap (accepts_at S node done w k) (map-take S.value_of (node k).depth st)))
