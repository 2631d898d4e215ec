-- Queues as lists: what waits behind the first n members, and lists without repeats.
-- Claimed for `Counted` and `PhaseOne`: putting more at the end changes nothing for those that wait, and in a list without repeats no member waits again later.
use Rattle.std.specs.Prelude.{◌≡◌, refl, ℕ, zero, suc, ◌<◌, length, drop}
use Rattle.std.proofs.Common.{ap, arith}
use mathlib.Core.List.Memᴰ
use mathlib.Core.List.{List, [], ◌∷◌, ◌++◌, map, nil≢cons, head-eq_of_cons-eq, tail-eq_of_cons-eq}
use Rattle.lists.specs.Listed.{◌∈◌}

module _ {A : Type 0} where
  -- ---- x is the next that waits, and q are those after it

  pub waits_in : (n : ℕ) (l : List A) (x : A) (q : List A) → drop n l ≡ x ∷ q → x ∈ l
  waits_in zero l x q h = rw h (Memᴰ.head refl)
  waits_in (suc n) [] x q h = absurd (nil≢cons h)
  waits_in (suc n) (y ∷ l) x q h = Memᴰ.tail (waits_in n l x q h)

  pub waits-below : (n : ℕ) (l : List A) (x : A) (q : List A) → drop n l ≡ x ∷ q → n < length l
  waits-below zero [] x q h = absurd (nil≢cons h)
  waits-below zero (y ∷ l) x q h = omega arith
  waits-below (suc n) [] x q h = absurd (nil≢cons h)
  waits-below (suc n) (y ∷ l) x q h = omega (arith, waits-below n l x q h)

  pub waits-more : (n : ℕ) (l g : List A) (x : A) (q : List A) → drop n l ≡ x ∷ q → drop n (l ++ g) ≡ x ∷ (q ++ g)
  waits-more zero l g x q h = ap (◌++ g) h
  waits-more (suc n) [] g x q h = absurd (nil≢cons h)
  waits-more (suc n) (y ∷ l) g x q h = waits-more n l g x q h

  pub waits-after : (n : ℕ) (l : List A) (x : A) (q : List A) → drop n l ≡ x ∷ q → drop (suc n) l ≡ q
  waits-after zero [] x q h = absurd (nil≢cons h)
  waits-after zero (y ∷ l) x q h = tail-eq_of_cons-eq h
  waits-after (suc n) [] x q h = absurd (nil≢cons h)
  waits-after (suc n) (y ∷ l) x q h = waits-after n l x q h

  -- ---- no member twice

  abbrev pub Distinct : List A → Type 0
  Distinct [] = Unit {0}
  Distinct (x ∷ l) = (x ∈ l → ⊥) × Distinct l

  pub distinct-waits : (n n' : ℕ) (l : List A) (x : A) (q q' : List A) → Distinct l → n < n' → drop n l ≡ x ∷ q → drop n' l ≡ x ∷ q' → ⊥
  distinct-waits n zero l x q q' o lt h h' = omega arith
  distinct-waits zero (suc n') [] x q q' o lt h h' = nil≢cons h
  distinct-waits zero (suc n') (y ∷ l) x q q' o lt h h' = o.0 (Memᴰ.cast (head-eq_of_cons-eq h) (waits_in n' l x q' h'))
  distinct-waits (suc n) (suc n') [] x q q' o lt h h' = nil≢cons h
  distinct-waits (suc n) (suc n') (y ∷ l) x q q' o lt h h' = distinct-waits n n' l x q q' o.1 (omega arith) h h'

pub drop-map : {A B : Type 0} (g : A → B) (n : ℕ) (l : List A) → drop n (map g l) ≡ map g (drop n l)
drop-map g zero l = refl
drop-map g (suc n) [] = refl
drop-map g (suc n) (x ∷ l) = drop-map g n l
