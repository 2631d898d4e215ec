-- Counting the different boats: a line's boat is new exactly where no earlier line has it.
-- Claimed: `boats-more` (one line more, by the first line with its boat) and `number-agree` (a boat as one number).
use Rattle.std.specs.Prelude.{◌≡◌, refl, Bool, true, false, cond, ◌||◌, List, [], ◌∷◌, ◌++◌, ℕ, zero, suc, ◌<◌, ◌≤◌, ltb, eqb, length, take}
use Rattle.std.proofs.Common.{sym, ap, ◌∙◌, length-append, take-suc, eqb-true, eq-eqb, ne_eqb, lt-ltb, le-ltb, ltb-true, ltb-false}
use native.Mathlib.Omega.{arith}
use Rattle.std.proofs.Math.Dec.{leb-suc-suc}
use Rattle.meaning.specs.Record.{Boat, Line, agree, among, boats_after, boats}
use Rattle.meaning.specs.Writing.{line_at, no_line}
use Rattle.meaning.specs.Count.{first_with, first_same}
use Rattle.std.proofs.Math.Bool.{or_assoc, or-false}
use Rattle.record.specs.Outcomes.{and-true, true-and}
use Rattle.boats.specs.Boats.{as_number}

-- ---- boats that agree

pub agree_same : (a b : Boat) → agree a b ≡ true → a ≡ b
agree_same a b h =
    let (c, s) = and-true (eqb a.class b.class) (eqb a.sail b.sail) h in
    let same_Class = eqb-true _ _ c in
    let same-sail = eqb-true _ _ s in
    λ i. record { class = same_Class i; sail = same-sail i }

pub agree-self : (a : Boat) → agree a a ≡ true
agree-self a = true-and _ _ (eq-eqb a.class a.class refl) (eq-eqb a.sail a.sail refl)

-- ---- a boat as one number: class · 2^24 + sail number

module _ (a b : Boat) (small-a : a.sail < 16777216) (small_b : b.sail < 16777216) where
  pub number-agree : as_number a ≡ as_number b → agree a b ≡ true
  number-agree e = true-and _ _ (eq-eqb a.class b.class (omega arith)) (eq-eqb a.sail b.sail (omega arith))

  pub number-differ : (as_number a ≡ as_number b → ⊥) → agree a b ≡ false
  number-differ n = go (agree a b) refl
    where
      go : (t : Bool) → agree a b ≡ t → t ≡ false
      go true e = absurd (n (ap as_number (agree_same a b e)))
      go false e = refl

-- ---- the first line with a boat

first-hit : (b : Boat) (l : Line) (ls : List Line) → agree b l.boat ≡ true → first_with b (l ∷ ls) ≡ 0
unfolding first_with
first-hit b l ls h = rw (h, first_with)

first-miss : (b : Boat) (l : Line) (ls : List Line) → agree b l.boat ≡ false → first_with b (l ∷ ls) ≡ suc (first_with b ls)
unfolding first_with
first-miss b l ls h = rw (h, first_with)

-- ---- one line more

-- the boats seen, with one more at the end if it is new
abbrev pub noted : List Boat → Boat → List Boat
noted seen b = cond (among b seen) seen (seen ++ (b ∷ []))

pub after-append : (ls rest : List Line) (seen : List Boat) → boats_after seen (ls ++ rest) ≡ boats_after (boats_after seen ls) rest
unfolding boats_after
after-append [] rest seen = refl
after-append (l ∷ ls) rest seen = after-append ls rest (noted seen l.boat)

-- is the boat among these, or the last one?
among-end : (b : Boat) (seen : List Boat) (c : Boat) → among b (seen ++ (c ∷ [])) ≡ (among b seen || agree b c)
among-end b [] c = go (agree b c)
  where
    go : (t : Bool) → cond t true false ≡ (false || t)
    go true = refl
    go false = refl
among-end b (x ∷ seen) c = go (agree b x) (among-end b seen c)
  where
    go : (t : Bool) → among b (seen ++ (c ∷ [])) ≡ (among b seen || agree b c) → cond t true (among b (seen ++ (c ∷ []))) ≡ (cond t true (among b seen) || agree b c)
    go true ih = refl
    go false ih = ih

among-noted : (b : Boat) (seen : List Boat) (x : Boat) → among b (noted seen x) ≡ (among b seen || agree b x)
among-noted b seen x = go (among x seen) refl
  where
    known : (t u : Bool) → agree b x ≡ t → among b seen ≡ u → among x seen ≡ true → u ≡ (u || t)
    known true u same here seen-it = let e : u ≡ true = sym here ∙ (ap (λ y. among y seen) (agree_same b x same) ∙ seen-it) in rw e
    known false true same here seen-it = refl
    known false false same here seen-it = refl

    go : (t : Bool) → among x seen ≡ t → among b (cond t seen (seen ++ (x ∷ []))) ≡ (among b seen || agree b x)
    go true e = known (agree b x) (among b seen) refl refl e
    go false e = among-end b seen x

-- has one of the lines the boat?
abbrev has : Boat → List Line → Bool
has b [] = false
has b (l ∷ ls) = agree b l.boat || has b ls

among-after : (b : Boat) (seen : List Boat) (ls : List Line) → among b (boats_after seen ls) ≡ (among b seen || has b ls)
unfolding boats_after
among-after b seen [] = sym (or-false (among b seen))
among-after b seen (l ∷ ls) = among-after b (noted seen l.boat) ls ∙ (ap (λ t. t || has b ls) (among-noted b seen l.boat) ∙ or_assoc (among b seen) (agree b l.boat) (has b ls))

-- one of the first i lines has the boat just if the first with it comes before line i
has_first : (b : Boat) (ls : List Line) (i : ℕ) → i ≤ length ls → has b (take i ls) ≡ ltb (first_with b ls) i
has_first b ls zero h = sym (le-ltb (first_with b ls) 0 (omega arith))
has_first b [] (suc i) h = absurd (omega (arith, h))
has_first b (l ∷ ls) (suc i) h = go (agree b l.boat) refl (has_first b ls i (omega (arith, h)))
  where
    go : (t : Bool) → agree b l.boat ≡ t → has b (take i ls) ≡ ltb (first_with b ls) i → (t || has b (take i ls)) ≡ ltb (first_with b (l ∷ ls)) (suc i)
    go true e ih = sym (ap (λ n. ltb n (suc i)) (first-hit b l ls e) ∙ lt-ltb 0 (suc i) (omega arith))
    go false e ih = ih ∙ sym (ap (λ n. ltb n (suc i)) (first-miss b l ls e) ∙ leb-suc-suc (suc (first_with b ls)) i)

-- the first line with a boat comes no later than any line with it
pub first-le : (b : Boat) (ls : List Line) (k : ℕ) → k < length ls → agree b (line_at ls k).boat ≡ true → first_with b ls ≤ k
first-le b [] k h it = absurd (omega (arith, h))
first-le b (l ∷ ls) zero h it = omega (arith, first-hit b l ls it)
first-le b (l ∷ ls) (suc k) h it = go (agree b l.boat) refl (first-le b ls k (omega (arith, h)) it)
  where
    go : (t : Bool) → agree b l.boat ≡ t → first_with b ls ≤ k → first_with b (l ∷ ls) ≤ suc k
    go true e ih = omega (arith, first-hit b l ls e)
    go false e ih = omega (arith, first-miss b l ls e, ih)

-- the boat of line i is put at the end just if it is the first line with it
pub boats-next : (lines : List Line) (i : ℕ) → i < length lines → boats (take (suc i) lines) ≡ cond (eqb (first_same lines i) i) (boats (take i lines) ++ ((line_at lines i).boat ∷ [])) (boats (take i lines))
unfolding boats_after
boats-next lines i h =
    let l : Line = line_at lines i in
    let seen : List Boat = boats (take i lines) in
    let met : among l.boat seen ≡ ltb (first_same lines i) i = among-after l.boat [] (take i lines) ∙ has_first l.boat lines i (omega (arith, h)) in
    ap boats (take-suc lines i no_line h)
    ∙ (after-append (take i lines) (l ∷ []) []
    ∙ (ap (λ t. cond t seen (seen ++ (l.boat ∷ []))) met ∙ by_first (first_same lines i) i seen (seen ++ (l.boat ∷ [])) (first-le l.boat lines i h (agree-self l.boat))))
  where
    by_first : (f i : ℕ) (x y : List Boat) → f ≤ i → cond (ltb f i) x y ≡ cond (eqb f i) y x
    by_first f i x y le = go (ltb f i) refl
      where
        go : (t : Bool) → ltb f i ≡ t → cond t x y ≡ cond (eqb f i) y x
        go true e = sym (ap (λ t. cond t y x) (ne_eqb f i (λ q. omega (arith, ltb-true f i e, q))))
        go false e = sym (ap (λ t. cond t y x) (eq-eqb f i (omega (arith, ltb-false f i e, le))))

-- and counted just then
pub boats-more : (lines : List Line) (i : ℕ) → i < length lines → length (boats (take (suc i) lines)) ≡ cond (eqb (first_same lines i) i) (suc (length (boats (take i lines)))) (length (boats (take i lines)))
boats-more lines i h = ap length (boats-next lines i h) ∙ go (eqb (first_same lines i) i)
  where
    go : (t : Bool) → length (cond t (boats (take i lines) ++ ((line_at lines i).boat ∷ [])) (boats (take i lines))) ≡ cond t (suc (length (boats (take i lines)))) (length (boats (take i lines)))
    go true = omega (arith, length-append (boats (take i lines)) ((line_at lines i).boat ∷ []))
    go false = refl

-- no more boats than lines
pub boats-few : (lines : List Line) (i : ℕ) → i ≤ length lines → length (boats (take i lines)) ≤ i
boats-few lines zero h = unfold boats_after in omega arith
boats-few lines (suc i) h = go (eqb (first_same lines i) i) (boats-more lines i (omega (arith, h))) (boats-few lines i (omega (arith, h)))
  where
    go : (t : Bool) → length (boats (take (suc i) lines)) ≡ cond t (suc (length (boats (take i lines)))) (length (boats (take i lines))) → length (boats (take i lines)) ≤ i → length (boats (take (suc i) lines)) ≤ suc i
    go true e ih = omega (arith, e, ih)
    go false e ih = omega (arith, e, ih)
