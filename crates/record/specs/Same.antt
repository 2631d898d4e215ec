-- Lines that are the same in every field. Claimed: `same-equal` and `equal-same` (two lines are the same exactly if they are equal), `new-differs`
-- and `differs-new` (a line is new exactly if no line of the record is equal to it); `same-apart`, `new-at` and `new-end` are for the code that
-- compares and for the loop that asks 29. Assumes nothing.
use Rattle.std.specs.Prelude.{◌≡◌, refl, Bool, true, false, cond, ◌&&◌, List, [], ◌∷◌, ℕ, zero, suc, ◌<◌, eqb, length, drop}
use Rattle.std.proofs.Common.{sym, ap, ◌∙◌, arith, eqb-true, eq-eqb}
use Rattle.std.proofs.Math.Option.{Option, none, some}
use Rattle.meaning.specs.Record.{Boat, Line, agree}
use Rattle.meaning.specs.Writing.{same_time, same_line, is_new, line_at}
use Rattle.record.specs.Outcomes.{false-true, and-true}
use Rattle.record.specs.Reading.{untimed}

-- ---- two lines

time-equal : (s t : Option ℕ) → same_time s t ≡ true → s ≡ t
time-equal none none h = refl
time-equal none (some u) h = absurd (false-true h)
time-equal (some t) none h = absurd (false-true h)
time-equal (some t) (some u) h = ap some (eqb-true t u h)

time-same : (t : Option ℕ) → same_time t t ≡ true
time-same none = refl
time-same (some t) = eq-eqb t t refl

-- the five tests of two lines, and the two of their boats
tests-all : (a b c d e : Bool) → a && b && c && d && e ≡ true → (a ≡ true) × (b ≡ true) × (c ≡ true) × (d ≡ true) × (e ≡ true)
tests-all true true true true true h = (refl, refl, refl, refl, refl)
tests-all true true true true false h = absurd (false-true h)
tests-all true true true false e h = absurd (false-true h)
tests-all true true false d e h = absurd (false-true h)
tests-all true false c d e h = absurd (false-true h)
tests-all false b c d e h = absurd (false-true h)

boat-equal : (a b : Boat) → agree a b ≡ true → a ≡ b
boat-equal a b h =
    let (class, sail) = and-true (eqb a.class b.class) (eqb a.sail b.sail) h in
    λ i. record { class = eqb-true a.class b.class class i; sail = eqb-true a.sail b.sail sail i }

pub same-equal : (a b : Line) → same_line a b ≡ true → a ≡ b
same-equal a b h =
    let (from, kind, boat, to, time) = tests-all (eqb a.from b.from) (eqb a.kind b.kind) (agree a.boat b.boat) (eqb a.to b.to) (same_time a.time b.time) h in
    λ i. record {
      from = eqb-true a.from b.from from i;
      kind = eqb-true a.kind b.kind kind i;
      boat = boat-equal a.boat b.boat boat i;
      to = eqb-true a.to b.to to i;
      time = time-equal a.time b.time time i;
    }

same-itself : (a : Line) → same_line a a ≡ true
same-itself a =
    rw (eq-eqb a.from a.from refl, eq-eqb a.kind a.kind refl, eq-eqb a.boat.class a.boat.class refl, eq-eqb a.boat.sail a.boat.sail refl, eq-eqb a.to a.to refl)
    (time-same a.time)

pub equal-same : (a b : Line) → a ≡ b → same_line a b ≡ true
equal-same a b h = ap (same_line a) (sym h) ∙ same-itself a

pub differs-same : (a b : Line) → (a ≡ b → ⊥) → same_line a b ≡ false
differs-same a b h = go (same_line a b) refl
  where
    go : (t : Bool) → same_line a b ≡ t → t ≡ false
    go true e = absurd (h (same-equal a b e))
    go false e = refl

-- the operands and the time apart
pub same-apart : (a b : Line) → same_line a b ≡ same_line (untimed a) (untimed b) && same_time a.time b.time
same-apart a b = go (eqb a.from b.from && eqb a.kind b.kind && agree a.boat b.boat && eqb a.to b.to)
  where
    go : (t : Bool) → t && same_time a.time b.time ≡ t && true && same_time a.time b.time
    go true = refl
    go false = refl

-- where the times differ the lines do, and where they agree the operands decide
pub times-differ : (t : Bool) → t && false ≡ false
times-differ true = refl
times-differ false = refl

pub times-agree : (t : Bool) → t && true ≡ t
times-agree true = refl
times-agree false = refl

-- ---- a line and those of a record

-- from line i on: that line, and those after it
pub new-at : (l : Line) (ls : List Line) (i : ℕ) → i < length ls → is_new l (drop i ls) ≡ cond (same_line l (line_at ls i)) false (is_new l (drop (suc i) ls))
unfolding is_new
new-at l [] i h = absurd (omega (arith, h))
new-at l (k ∷ ks) zero h = refl
new-at l (k ∷ ks) (suc i) h = new-at l ks i (omega (arith, h))

-- after the last line there is none
pub new-end : (l : Line) (ls : List Line) → is_new l (drop (length ls) ls) ≡ true
unfolding is_new
new-end l [] = refl
new-end l (k ∷ ks) = new-end l ks

-- a new line is equal to none of them
pub new-differs : (l : Line) (ls : List Line) → is_new l ls ≡ true → (i : ℕ) → i < length ls → line_at ls i ≡ l → ⊥
unfolding is_new
new-differs l [] h i less e = omega (arith, less)
new-differs l (k ∷ ks) h i less e = go (same_line l k) refl h (new-differs l ks) i less e
  where
    go : (b : Bool) → same_line l k ≡ b → cond b false (is_new l ks) ≡ true → (is_new l ks ≡ true → (j : ℕ) → j < length ks → line_at ks j ≡ l → ⊥)
        → (i : ℕ) → i < length (k ∷ ks) → line_at (k ∷ ks) i ≡ l → ⊥
    go true s h rest i less e = false-true h
    go false s h rest zero less e = false-true (sym s ∙ equal-same l k (sym e))
    go false s h rest (suc i) less e = rest h i (omega (arith, less)) e

-- and one that is equal to none is new
pub differs-new : (l : Line) (ls : List Line) → ((i : ℕ) → i < length ls → line_at ls i ≡ l → ⊥) → is_new l ls ≡ true
unfolding is_new
differs-new l [] h = refl
differs-new l (k ∷ ks) h = go (same_line l k) refl (differs-new l ks (λ i less. h (suc i) (omega (arith, less))))
  where
    go : (b : Bool) → same_line l k ≡ b → is_new l ks ≡ true → cond b false (is_new l ks) ≡ true
    go true s rest = absurd (h 0 (omega arith) (sym (same-equal l k s)))
    go false s rest = rest
