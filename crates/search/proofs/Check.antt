-- What `checked` (`Check` in specs/) says.
-- Claimed: `checked-says` (it says yes exactly where the chain matches), for `Asked`, and `moved-members`
-- (the states may come in any order), for the loaded tables.
use Rattle.std.specs.Prelude.{◌≡◌, refl, true, ◌↔◌, ℕ, ◌<◌, ltb, length}
use Rattle.std.proofs.Common.{sym}
use Rattle.std.proofs.Math.Bool.{and-eq-true_iff}
use mathlib.Core.List.Memᴰ
use mathlib.Core.List.{List, [], ◌∷◌}
use borrow.Author.Tests.{ltb-true, lt-ltb}
use Rattle.meaning.specs.Record.{Line}
use Rattle.meaning.specs.Pattern.{Pattern}
use Rattle.meaning.specs.Chain.{Exist, exist, Matches}
use Rattle.lists.specs.Listed.{◌∈◌}
use Rattle.graph.specs.Plain.{Run, memb, nub, flat}
use Rattle.graph.proofs.Sets.{memb-in, in-memb, nub-in, flat_in}
use Rattle.search.specs.Product.{succs}
use Rattle.search.specs.Along.{goal}
use Rattle.search.specs.Answer.{setting, starts}
use Rattle.search.proofs.Answer.{LinesWithin, runs}
use Rattle.search.specs.Check.{moved, checked}

-- ---- what it says

exist-says : (lines : List Line) (c : List ℕ) → (exist (length lines) c ≡ true) ↔ Exist lines c
unfolding exist
exist-says lines [] = (λ e. tt, λ e. refl)
exist-says lines (i ∷ c) =
    let r = exist-says lines c in
    let b = and-eq-true_iff (ltb i (length lines)) (exist (length lines) c) in
    (λ e. let x = b.0 e in (ltb-true _ _ x.0, r.0 x.1), λ h. b.1 (lt-ltb _ _ h.0, r.1 h.1))

-- the goal g is moved to from X exactly by a run from a state of X
module _ (next : ℕ → ℕ → List ℕ) (m g : ℕ) where
  moved-complete : (c X : List ℕ) → (s : ℕ) × (s ∈ X) × Run (g ∷ []) next m s c → g ∈ moved next X c
  unfolding moved Run
  moved-complete [] X (s, k, r) = Memᴰ.cast (sym (Memᴰ.eq_of_singleton r)) k
  moved-complete (i ∷ c) X (s, k, (t, li, n, r)) =
      moved-complete c (nub (flat (λ s. next s i) X)) (t, (nub-in _ t).1 ((flat_in (λ s. next s i) X t).1 (s, k, n)), r)

  moved-sound : (c X : List ℕ) → exist m c ≡ true → g ∈ moved next X c → (s : ℕ) × (s ∈ X) × Run (g ∷ []) next m s c
  unfolding moved Run exist
  moved-sound [] X e k = (g, k, Memᴰ.head refl)
  moved-sound (i ∷ c) X e k =
      let (low, e') = (and-eq-true_iff (ltb i m) (exist m c)).0 e in
      let (t, j, r) = moved-sound c (nub (flat (λ s. next s i) X)) e' k in
      let (s, l, n) = (flat_in (λ s. next s i) X t).0 ((nub-in _ t).0 j) in
      (s, l, (t, ltb-true _ _ low, n, r))

-- it goes by the members of X, in whatever order
pub moved-members : (next : ℕ → ℕ → List ℕ) (c X Y : List ℕ) → ((s : ℕ) → (s ∈ X) ↔ (s ∈ Y)) → (s : ℕ) → (s ∈ moved next X c) ↔ (s ∈ moved next Y c)
unfolding moved
moved-members next [] X Y e s = e s
moved-members next (i ∷ c) X Y e s = moved-members next c (go X) (go Y) (λ t. (over X Y (λ u. (e u).0) t, over Y X (λ u. (e u).1) t)) s
  where
    go : List ℕ → List ℕ
    go Z = nub (flat (λ u. next u i) Z)

    over : (Z W : List ℕ) → ((u : ℕ) → u ∈ Z → u ∈ W) → (t : ℕ) → t ∈ go Z → t ∈ go W
    over Z W f t m = let (u, k, n) = (flat_in (λ u. next u i) Z t).0 ((nub-in _ t).0 m) in (nub-in _ t).1 ((flat_in (λ u. next u i) W t).1 (u, f u k, n))

module _ (lines : List Line) (places : ℕ) (p : Pattern) (within : LinesWithin lines places) (a b : ℕ) (ha : a < places) where
  pub checked-says : (c : List ℕ) → (checked lines p a b c ≡ true) ↔ Matches lines p a b c
  unfolding checked setting
  checked-says c =
      let S = setting lines p in
      let X = starts S p a in
      let r = runs lines places p within a b ha c in
      let both = and-eq-true_iff (exist (length lines) c) (memb (goal S b) (moved (succs S) X c)) in (
        λ e. let x = both.0 e in r.0 (moved-sound (succs S) (length lines) (goal S b) c X x.0 (memb-in _ _ x.1)),
        λ k. both.1 ((exist-says lines c).1 k.0, in-memb _ _ (moved-complete (succs S) (length lines) (goal S b) c X (r.1 k))),
      )
