-- Does a word belong to the language of a pattern? `member` answers by computing; `member-says`: its answer is right.
-- Tables of examples evaluate `member`, and so speak about the language.
use Rattle.std.specs.Prelude.{◌≡◌, refl, Bool, true, false, ◌&&◌, ◌||◌, ◌⊎◌, ◌↔◌, ℕ, zero, suc, ◌≤◌, eqb, length}
use Rattle.std.proofs.Common.{ap, inl, inr, ⊎_elim, le_refl, arith, length-append, eqb-true, eq-eqb}
use Rattle.std.proofs.Math.Bool.{So, and-eq-true_iff}
use Rattle.std.proofs.lemmas.Bool.{false≢true}
use mathlib.Core.List.{[], ◌∷◌, ◌++◌, cons≢nil}
use Rattle.std.proofs.Math.Logic.{⊎_map}
use Rattle.std.proofs.Math.Option.{Option, none, some}
use Rattle.meaning.specs.Record.{Boat}
use Rattle.meaning.specs.Pattern.{Rule, Pattern, nothing, line, test, either, then, repeat, keep, counted}
use Rattle.meaning.specs.Language.{Letter, Word, Valuation, bind, compared, meets, Meets, Star, stop, more, Times, L}
use Rattle.pattern.specs.Rounds.{times_none, times_more, times-maybe}

-- ---- the tests (what a `let` binds is computed only where it is asked for)

-- no letter
abbrev pub empty : Word → Bool
empty [] = true
empty (a ∷ w) = false

-- one letter, of f
abbrev pub single : (Letter → Bool) → Word → Bool
single f [] = false
single f (a ∷ []) = f a
single f (a ∷ b ∷ w) = false

-- a first letter and a rest, of f
abbrev pub begins : (Letter → Word → Bool) → Word → Bool
begins f [] = false
begins f (a ∷ u) = f a u

-- a word of f, then a word of g
abbrev pub cuts : (Word → Bool) → (Word → Bool) → Word → Bool
cuts f g [] = let back = g [] in f [] && back
cuts f g (a ∷ w) = let back = g (a ∷ w) in let later = cuts (λ u. f (a ∷ u)) g w in f [] && back || later

-- none or more words of f that are not empty; the number bounds how many there can be
abbrev pub rounds : ℕ → (Word → Bool) → Word → Bool
rounds zero f w = empty w
rounds (suc n) f [] = true
rounds (suc n) f (a ∷ w) = cuts (λ u. f (a ∷ u)) (λ v. rounds n f v) w

-- from the first number to the second of words of f, which may be empty
abbrev pub counts : ℕ → ℕ → (Word → Bool) → Word → Bool
counts zero zero f w = empty w
counts (suc low) zero f w = false
counts zero (suc high) f w = let later = cuts f (λ v. counts zero high f v) w in empty w || later
counts (suc low) (suc high) f w = cuts f (λ v. counts low high f v) w

-- a line's boat against what a slot has
abbrev pub passes : Rule → Option Boat → Boat → Bool
passes r none b = false
passes r (some kept) b = meets r (compared b kept)

abbrev pub member : Pattern → Valuation → Word → Bool
member nothing ν w = empty w
member (line k) ν w = single (λ a. eqb a.kind k) w
member (test r k s) ν w = single (λ a. eqb a.kind k && passes r (ν s) a.boat) w
member (either p q) ν w = let right = member q ν w in member p ν w || right
member (then p q) ν w = cuts (λ u. member p ν u) (λ v. member q ν v) w
member (repeat p) ν w = rounds (length w) (λ u. member p ν u) w
member (keep k s p) ν w = begins (λ a u. let inside = member p (bind ν s a.boat) u in eqb a.kind k && inside) w
member (counted low high p) ν w = counts low high (λ u. member p ν u) w

-- ---- what each test says

or-says : (x y : Bool) → So (x || y) ↔ (So x ⊎ So y)
or-says true y = (λ h. inl refl, λ s. refl)
or-says false y = (λ h. inr h, λ s. ⊎_elim (λ h. absurd (false≢true h)) (λ h. h) s)

empty-says : (w : Word) → So (empty w) ↔ (w ≡ [])
empty-says [] = (λ h. refl, λ e. refl)
empty-says (a ∷ w) = (λ h. absurd (false≢true h), λ e. absurd (cons≢nil e))

passes-says : (r : Rule) (o : Option Boat) (b : Boat) → So (passes r o b) ↔ Meets r o b
passes-says r none b = (λ h. false≢true h, λ h. absurd h)
passes-says r (some kept) b = (λ h. h, λ h. h)

single-says : (f : Letter → Bool) (w : Word) → So (single f w) ↔ ((a : Letter) × (w ≡ a ∷ []) × So (f a))
single-says f w = (sound w, λ (a, e, h). rw e h)
  where
    sound : (w : Word) → So (single f w) → (a : Letter) × (w ≡ a ∷ []) × So (f a)
    sound [] h = absurd (false≢true h)
    sound (a ∷ []) h = (a, refl, h)
    sound (a ∷ b ∷ w) h = absurd (false≢true h)

begins-says : (f : Letter → Word → Bool) (w : Word) → So (begins f w) ↔ ((a : Letter) × (u : Word) × (w ≡ a ∷ u) × So (f a u))
begins-says f w = (sound w, λ (a, u, e, h). rw e h)
  where
    sound : (w : Word) → So (begins f w) → (a : Letter) × (u : Word) × (w ≡ a ∷ u) × So (f a u)
    sound [] h = absurd (false≢true h)
    sound (a ∷ u) h = (a, u, refl, h)

cuts-sound : (f g : Word → Bool) (w : Word) → So (cuts f g w) → (u : Word) × (v : Word) × (w ≡ u ++ v) × So (f u) × So (g v)
cuts-sound f g [] h = let (x, y) = (and-eq-true_iff (f []) (g [])).0 h in ([], [], refl, x, y)
cuts-sound f g (a ∷ w) h =
    ⊎_elim
    (λ b. let (x, y) = (and-eq-true_iff (f []) (g (a ∷ w))).0 b in ([], a ∷ w, refl, x, y))
    (λ b. let (u, v, e, x, y) = cuts-sound (λ u. f (a ∷ u)) g w b in (a ∷ u, v, ap (a ∷◌) e, x, y))
    ((or-says (f [] && g (a ∷ w)) (cuts (λ u. f (a ∷ u)) g w)).0 h)

cuts-complete : (f g : Word → Bool) (u v : Word) → So (f u) → So (g v) → So (cuts f g (u ++ v))
cuts-complete f g [] [] x y = (and-eq-true_iff (f []) (g [])).1 (x, y)
cuts-complete f g [] (b ∷ v) x y = (or-says (f [] && g (b ∷ v)) _).1 (inl ((and-eq-true_iff (f []) (g (b ∷ v))).1 (x, y)))
cuts-complete f g (a ∷ u) v x y = (or-says (f [] && g (a ∷ (u ++ v))) _).1 (inr (cuts-complete (λ t. f (a ∷ t)) g u v x y))

-- ---- the rounds of a repeat

module _ (f : Word → Bool) (P : Word → Type 0) where
  rounds-sound : ((u : Word) → So (f u) → P u) → (n : ℕ) (w : Word) → So (rounds n f w) → Star P w
  rounds-sound is zero w h = stop ((empty-says w).0 h)
  rounds-sound is (suc n) [] h = stop refl
  rounds-sound is (suc n) (a ∷ w) h =
      let (u, v, e, x, y) = cuts-sound (λ t. f (a ∷ t)) (λ t. rounds n f t) w h in
      more (a ∷ u) v (ap (a ∷◌) e) (is (a ∷ u) x) (rounds-sound is n v y)

  rounds-none : (n : ℕ) → So (rounds n f [])
  rounds-none zero = refl
  rounds-none (suc n) = refl

  -- a round that reads nothing is left out
  rounds-complete : ((u : Word) → P u → So (f u)) → {w : Word} → Star P w → (n : ℕ) → length w ≤ n → So (rounds n f w)
  rounds-complete is (stop e) n l = rw e (rounds-none n)
  rounds-complete is (more [] v e x s) n l = rw e (rounds-complete is s n (omega (arith, ap length e)))
  rounds-complete is (more (a ∷ u) v e x s) zero l = absurd (omega (arith, ap length e))
  rounds-complete is (more (a ∷ u) v e x s) (suc n) l =
      rw e (cuts-complete (λ t. f (a ∷ t)) (λ t. rounds n f t) u v (is (a ∷ u) x) (rounds-complete is s n (omega (arith, ap length e, length-append u v))))

-- ---- the rounds of a counted pattern

module _ (f : Word → Bool) (P : Word → Type 0) where
  counts-sound : ((u : Word) → So (f u) → P u) → (low high : ℕ) (w : Word) → So (counts low high f w) → Times P low high w
  counts-sound is zero zero w h = (times_none P w).1 ((empty-says w).0 h)
  counts-sound is (suc low) zero w h = absurd (false≢true h)
  counts-sound is zero (suc high) w h =
      (times-maybe P high w).1
      (⊎_map
      (empty-says w).0
      (λ c. let (u, v, e, x, y) = cuts-sound f (λ v. counts zero high f v) w c in (u, v, e, is u x, counts-sound is zero high v y))
      ((or-says (empty w) (cuts f (λ v. counts zero high f v) w)).0 h))
  counts-sound is (suc low) (suc high) w h =
      let (u, v, e, x, y) = cuts-sound f (λ v. counts low high f v) w h in
      (times_more P low high w).1 (u, v, e, is u x, counts-sound is low high v y)

  counts-complete : ((u : Word) → P u → So (f u)) → (low high : ℕ) (w : Word) → Times P low high w → So (counts low high f w)
  counts-complete is zero zero w t = (empty-says w).1 ((times_none P w).0 t)
  counts-complete is (suc low) zero w (n, l, h, x) = absurd (omega (arith, l, h))
  counts-complete is zero (suc high) w t =
      (or-says (empty w) (cuts f (λ v. counts zero high f v) w)).1
      (⊎_map
      (empty-says w).1
      (λ (u, v, e, x, y). rw e (cuts-complete f (λ v. counts zero high f v) u v (is u x) (counts-complete is zero high v y)))
      ((times-maybe P high w).0 t))
  counts-complete is (suc low) (suc high) w t =
      let (u, v, e, x, y) = (times_more P low high w).0 t in
      rw e (cuts-complete f (λ v. counts low high f v) u v (is u x) (counts-complete is low high v y))

-- ---- the answer is right

pub member-sound : (p : Pattern) (ν : Valuation) (w : Word) → member p ν w ≡ true → L p ν w
member-sound nothing ν w h = (empty-says w).0 h
member-sound (line k) ν w h = let (a, e, x) = (single-says (λ a. eqb a.kind k) w).0 h in (a, e, eqb-true a.kind k x)
member-sound (test r k s) ν w h =
    let (a, e, b) = (single-says (λ a. eqb a.kind k && passes r (ν s) a.boat) w).0 h in
    let (x, y) = (and-eq-true_iff (eqb a.kind k) (passes r (ν s) a.boat)).0 b in
    (a, e, eqb-true a.kind k x, (passes-says r (ν s) a.boat).0 y)
member-sound (either p q) ν w h = ⊎_elim (λ x. inl (member-sound p ν w x)) (λ y. inr (member-sound q ν w y)) ((or-says (member p ν w) (member q ν w)).0 h)
member-sound (then p q) ν w h =
    let (u, v, e, x, y) = cuts-sound (λ u. member p ν u) (λ v. member q ν v) w h in
    (u, v, e, member-sound p ν u x, member-sound q ν v y)
member-sound (repeat p) ν w h = rounds-sound (λ u. member p ν u) (L p ν) (member-sound p ν) (length w) w h
member-sound (keep k s p) ν w h =
    let (a, u, e, b) = (begins-says (λ a u. eqb a.kind k && member p (bind ν s a.boat) u) w).0 h in
    let (x, y) = (and-eq-true_iff (eqb a.kind k) (member p (bind ν s a.boat) u)).0 b in
    (a, u, e, eqb-true a.kind k x, member-sound p (bind ν s a.boat) u y)
member-sound (counted low high p) ν w h = counts-sound (λ u. member p ν u) (L p ν) (member-sound p ν) low high w h

pub member-complete : (p : Pattern) (ν : Valuation) (w : Word) → L p ν w → member p ν w ≡ true
member-complete nothing ν w h = (empty-says w).1 h
member-complete (line k) ν w (a, e, x) = (single-says (λ a. eqb a.kind k) w).1 (a, e, eq-eqb a.kind k x)
member-complete (test r k s) ν w (a, e, x, y) =
    (single-says (λ a. eqb a.kind k && passes r (ν s) a.boat) w).1
    (a, e, (and-eq-true_iff (eqb a.kind k) _).1 (eq-eqb a.kind k x, (passes-says r (ν s) a.boat).1 y))
member-complete (either p q) ν w h = (or-says (member p ν w) (member q ν w)).1 (⊎_elim (λ x. inl (member-complete p ν w x)) (λ y. inr (member-complete q ν w y)) h)
member-complete (then p q) ν w (u, v, e, x, y) = rw e (cuts-complete (λ u. member p ν u) (λ v. member q ν v) u v (member-complete p ν u x) (member-complete q ν v y))
member-complete (repeat p) ν w h = rounds-complete (λ u. member p ν u) (L p ν) (member-complete p ν) h (length w) (le_refl (length w))
member-complete (keep k s p) ν w (a, u, e, x, y) =
    (begins-says (λ a u. eqb a.kind k && member p (bind ν s a.boat) u) w).1
    (a, u, e, (and-eq-true_iff (eqb a.kind k) _).1 (eq-eqb a.kind k x, member-complete p (bind ν s a.boat) u y))
member-complete (counted low high p) ν w h = counts-complete (λ u. member p ν u) (L p ν) (member-complete p ν) low high w h

pub member-says : (p : Pattern) (ν : Valuation) (w : Word) → (member p ν w ≡ true) ↔ L p ν w
member-says p ν w = (member-sound p ν w, member-complete p ν w)
