-- How many earlier lines the count of boats reads.
-- Claimed: `one-boat` (n for n + 1 lines of one boat) and `full-of-one` (4,095); `all-different` (n · (n − 1) / 2) and `full-of-different`
-- (8,386,560); `most-reads` (never more than that); `more-lines` (lines after a record's never lower it); `reads-scanned` (for one line they
-- are the earlier lines read one after the other). `count-refused`, `count-passed` and `count_low` are of a record's bytes. Assumes nothing.
use Rattle.std.specs.Prelude.{◌≡◌, Bool, true, false, cond, List, [], ◌∷◌, ◌++◌, ℕ, zero, suc, ◌+◌, ◌*◌, ◌-◌, ◌/◌, ◌<◌, ◌≤◌, ltb, length, take}
use Rattle.std.proofs.Math.Path.{refl}
use Rattle.std.proofs.Common.{sym, ap, ◌∙◌, subst, suc-mul, mul-suc, arith, length-append, lt-ltb, le-ltb}
use Rattle.std.proofs.Math.Decide.{dec_lt}
use Rattle.std.proofs.Math.ListN.{get_or-append}
use Rattle.std.proofs.Math.Seq.{take-length}
use Rattle.meaning.specs.Outcome.{Outcome, refused, passed}
use Rattle.meaning.specs.Record.{Boat, Line, Day, agree, boats, read_record}
use Rattle.meaning.specs.Writing.{line_at, no_line}
use Rattle.meaning.specs.Count.{first_with, first_same, reads_at, reads_before, reads, Count, tallied, count_of}
use Rattle.record.specs.Whole.{lines-few}
use Rattle.boats.proofs.Boats.{agree-self, first-le, boats-few}
use Rattle.boats.proofs.Codes.{same-agree, first-has}

-- ---- for one line

module _ (lines : List Line) (i : ℕ) where
  -- the first line with its boat is an earlier one, and is read
  pub reads-met : first_same lines i < i → reads_at lines i ≡ suc (first_same lines i)
  reads-met h = ap (λ t. cond t (suc (first_same lines i)) i) (lt-ltb (first_same lines i) i h)

  -- no earlier line has its boat
  pub reads_all : i ≤ first_same lines i → reads_at lines i ≡ i
  reads_all h = ap (λ t. cond t (suc (first_same lines i)) i) (le-ltb (first_same lines i) i h)

  -- no line after it is read, nor itself
  pub reads-early : reads_at lines i ≤ i
  reads-early = elim (dec_lt (first_same lines i) i) [ yes h ↦ omega (arith, reads-met h, h) | no n ↦ omega (arith, reads_all (omega (arith, n))) ]

  pub reads-next : reads_before lines (suc i) ≡ reads_before lines i + reads_at lines i
  unfolding reads_before
  reads-next = refl

pub reads_none : (lines : List Line) → reads_before lines 0 ≡ 0
unfolding reads_before
reads_none lines = refl

-- ---- line after line

-- the lines read for a boat, one after the other, up to the first with it
unfoldable pub scanned : Boat → List Line → ℕ
scanned b [] = 0
scanned b (l ∷ ls) = suc (cond (agree b l.boat) 0 (scanned b ls))

-- up to f, where that is before i
abbrev up_to : ℕ → ℕ → ℕ
up_to f i = cond (ltb f i) (suc f) i

one_further : (f i : ℕ) → up_to (suc f) (suc i) ≡ suc (up_to f i)
one_further f i = elim (dec_lt f i) [
  | yes h ↦ rw (lt-ltb (suc f) (suc i) (omega (arith, h)), lt-ltb f i h)
  | no n ↦ rw (le-ltb (suc f) (suc i) (omega (arith, n)), le-ltb f i (omega (arith, n)))
]

scan-of : (b : Boat) (ls : List Line) (i : ℕ) → i ≤ length ls → up_to (first_with b ls) i ≡ scanned b (take i ls)
unfolding first_with scanned
scan-of b ls zero h = ap (λ t. cond t (suc (first_with b ls)) 0) (le-ltb (first_with b ls) 0 (omega arith))
scan-of b [] (suc i) h = absurd (omega (arith, h))
scan-of b (l ∷ ls) (suc i) h = go (agree b l.boat) refl (scan-of b ls i (omega (arith, h)))
  where
    go : (t : Bool) → agree b l.boat ≡ t → up_to (first_with b ls) i ≡ scanned b (take i ls) → up_to (first_with b (l ∷ ls)) (suc i) ≡ scanned b (l ∷ take i ls)
    go true e later = rw (e, first_with, scanned) (ap (λ t. cond t 1 (suc i)) (lt-ltb 0 (suc i) (omega arith)))
    go false e later = rw (e, first_with, scanned) (one_further (first_with b ls) i ∙ ap suc later)

-- those of line i are the earlier lines, read so
pub reads-scanned : (lines : List Line) (i : ℕ) → i ≤ length lines → reads_at lines i ≡ scanned (line_at lines i).boat (take i lines)
reads-scanned lines i h = scan-of (line_at lines i).boat lines i h

-- ---- n · (n − 1) / 2

-- half of i · (i − 1), which grows by i
half-next : (i : ℕ) → suc i * (suc i - 1) / 2 ≡ i * (i - 1) / 2 + i
half-next zero = refl
half-next (suc m) =
    let one : (n : ℕ) → suc n - 1 ≡ n = λ n. omega arith in
    let next : suc (suc m) * (suc (suc m) - 1) ≡ suc (suc m) * suc m = ap (suc (suc m) *◌) (one (suc m)) in
    let this : suc m * (suc m - 1) ≡ suc m * m = ap (suc m *◌) (one m) in
    omega (arith, next, this, suc-mul (suc m) (suc m), mul-suc (suc m) m)

module _ (lines : List Line) where
  most-before : (i : ℕ) → reads_before lines i ≤ i * (i - 1) / 2
  most-before zero = omega (arith, reads_none lines)
  most-before (suc i) = omega (arith, reads-next lines i, reads-early lines i, most-before i, half-next i)

  pub most-reads : reads lines ≤ length lines * (length lines - 1) / 2
  most-reads = most-before (length lines)

  -- as a sum that has room in a word
  pub reads-low : (i : ℕ) → i ≤ 4096 → reads_before lines i ≤ 4096 * i
  reads-low zero h = omega (arith, reads_none lines)
  reads-low (suc i) h = omega (arith, reads-next lines i, reads-early lines i, reads-low i (omega (arith, h)), h)

  -- ---- all lines of one boat

  module _ (b : Boat) (one : (i : ℕ) → i < length lines → (line_at lines i).boat ≡ b) where
    first-is-first : (i : ℕ) → i < length lines → first_same lines i ≡ 0
    first-is-first i h =
        let early : first_same lines i ≤ 0 = first-le (line_at lines i).boat lines 0 (omega (arith, h)) (same-agree (one i h ∙ sym (one 0 (omega (arith, h))))) in
        omega (arith, early)

    one-before : (i : ℕ) → suc i ≤ length lines → reads_before lines (suc i) ≡ i
    one-before zero h = omega (arith, reads-next lines 0, reads_none lines, reads-early lines 0)
    one-before (suc i) h =
        omega (arith, reads-next lines (suc i), one-before i (omega (arith, h)), reads-met lines (suc i) (omega (arith, first-is-first (suc i) h)), first-is-first (suc i) h)

    pub one-boat : (n : ℕ) → length lines ≡ suc n → reads lines ≡ n
    one-boat n e = ap (reads_before lines) e ∙ one-before n (omega (arith, e))

    pub full-of-one : length lines ≡ 4096 → reads lines ≡ 4095
    full-of-one = one-boat 4095

  -- ---- no two lines of one boat

  module _ (differ : (i j : ℕ) → i < j → j < length lines → (line_at lines i).boat ≡ (line_at lines j).boat → ⊥) where
    first-is-own : (i : ℕ) → i < length lines → i ≤ first_same lines i
    first-is-own i h = elim (dec_lt (first_same lines i) i) [
      | yes less ↦ absurd (differ (first_same lines i) i less h (sym (first-has (line_at lines i).boat lines (omega (arith, less, h)))))
      | no n ↦ omega (arith, n)
    ]

    different-before : (i : ℕ) → i ≤ length lines → reads_before lines i ≡ i * (i - 1) / 2
    different-before zero h = reads_none lines
    different-before (suc i) h =
        omega (arith, reads-next lines i, reads_all lines i (first-is-own i h), different-before i (omega (arith, h)), half-next i)

    pub all-different : reads lines ≡ length lines * (length lines - 1) / 2
    all-different = different-before (length lines) (omega arith)

    pub full-of-different : length lines ≡ 4096 → reads lines ≡ 8386560
    full-of-different e = all-different ∙ ap (λ n. n * (n - 1) / 2) e

-- ---- lines after a record's

first-append : (b : Boat) (ls more : List Line) → first_with b ls < length ls → first_with b (ls ++ more) ≡ first_with b ls
unfolding first_with
first-append b [] more h = absurd (omega (arith, h))
first-append b (l ∷ ls) more h = go (agree b l.boat) refl h (first-append b ls more)
  where
    go : (t : Bool) → agree b l.boat ≡ t → first_with b (l ∷ ls) < suc (length ls) → (first_with b ls < length ls → first_with b (ls ++ more) ≡ first_with b ls) → first_with b (l ∷ (ls ++ more)) ≡ first_with b (l ∷ ls)
    go true e h later = rw (e, first_with)
    go false e h later = rw (e, first_with) (ap suc (later (omega (arith, rw (e, first_with) at h))))

module _ (lines more : List Line) where
  at-append : (i : ℕ) → i < length lines → first_same (lines ++ more) i ≡ first_same lines i
  at-append i h =
      let b = (line_at lines i).boat in
      ap (λ (l : Line). first_with l.boat (lines ++ more)) (get_or-append lines more no_line i h)
      ∙ first-append b lines more (omega (arith, h, first-le b lines i h (agree-self b)))

  same-before : (i : ℕ) → i ≤ length lines → reads_before (lines ++ more) i ≡ reads_before lines i
  same-before zero h = reads_none (lines ++ more) ∙ sym (reads_none lines)
  same-before (suc i) h =
      let each : reads_at (lines ++ more) i ≡ reads_at lines i = ap (λ f. cond (ltb f i) (suc f) i) (at-append i h) in
      omega (arith, reads-next (lines ++ more) i, reads-next lines i, same-before i (omega (arith, h)), each)

  grows : (k : ℕ) → reads_before lines (length lines) ≤ reads_before (lines ++ more) (length lines + k)
  grows zero = omega (arith, same-before (length lines) (omega arith), ap (reads_before (lines ++ more)) (let e : length lines + 0 ≡ length lines = omega arith in e))
  grows (suc k) = omega (arith, grows k, reads-next (lines ++ more) (length lines + k), ap (reads_before (lines ++ more)) (let e : length lines + suc k ≡ suc (length lines + k) = omega arith in e))

  pub more-lines : reads lines ≤ reads (lines ++ more)
  more-lines = omega (arith, grows (length more), ap (reads_before (lines ++ more)) (length-append lines more))

-- ---- of a record's bytes

pub count-refused : (s : List ℕ) (number : ℕ) → read_record s ≡ refused number → count_of s ≡ refused number
unfolding count_of
count-refused s number e = simp e

pub count-passed : (s : List ℕ) (day : Day) → read_record s ≡ passed day → count_of s ≡ passed (tallied day.lines)
unfolding count_of
count-passed s day e = simp e

-- both numbers have room in a word
abbrev pub Low : Outcome Count → Type 0
Low (refused number) = Unit {0}
Low (passed c) = (c.boats ≤ 4096) × (c.reads ≤ 16777216)

pub count_low : (s : List ℕ) → Low (count_of s)
count_low s = go (read_record s) refl
  where
    go : (o : Outcome Day) → read_record s ≡ o → Low (count_of s)
    go (refused number) e = subst Low (sym (count-refused s number e)) tt
    go (passed day) e =
        let few = lines-few s day e in
        let seen = boats-few day.lines (length day.lines) (omega arith) in
        subst Low (sym (count-passed s day e)) (omega (arith, few, seen, ap (λ ls. length (boats ls)) (take-length day.lines)), omega (arith, few, reads-low day.lines (length day.lines) few))
