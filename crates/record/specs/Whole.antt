-- What a record that passes is made of, and how long it is. Assumes nothing.
use Rattle.std.specs.Prelude.{◌≡◌, refl, true, ◌&&◌, List, [], ℕ, ◌+◌, ◌<◌, ◌≤◌, leb, eqb, length, drop, take, Ok, Err}
use Rattle.std.proofs.Common.{sym, ap, ◌∙◌, subst, arith, length-drop, drop-drop, leb-true, le-leb}
use Rattle.meaning.specs.Outcome.{Outcome, refused, passed}
use Rattle.meaning.specs.Record.{Line, Day, byte, two, count_allowed, time_allowed, places_whole, lines_from, read_record}
use Rattle.meaning.specs.Writing.{line_at}
use Rattle.record.specs.Reading.{counts_of}
use Rattle.record.specs.declared.Counts.{Counts}
use Rattle.refusals.specs.declared.Refusal.{Refusal}
use Rattle.refusals.specs.Refusal.{number, outcome, mapped}
use Rattle.record.specs.Outcomes.{passed-inj, not-both, ask-passed, and_then-passed, and-true}
use Rattle.record.specs.Walk.{LineStands, widths, lines-many, lines-length, lines_at}

-- the parts of a record that passes: the places command, and the walk over the lines
pub record Whole (s : List ℕ) (places : ℕ) (lines : List Line) : Type 0 where
  pub short : length s ≤ 57348
  pub head : places_whole s ≡ true
  pub count : places ≡ two s 1
  pub walk : lines_from (length s) (two s 1) 0 (drop 3 s) ≡ passed lines

pub whole_of : (s : List ℕ) (day : Day) → read_record s ≡ passed day → Whole s day.places day.lines
unfolding read_record
whole_of s day h =
    let (a, g) = ask-passed _ _ _ _ h in
    let (b, f) = ask-passed _ _ _ _ g in
    let (ls, w, e) = and_then-passed (lines_from (length s) (two s 1) 0 (drop 3 s)) _ _ f in
    let d = passed-inj e in
    record { short = leb-true _ _ a; head = b; count = sym (ap (λ (x : Day). x.places) d); walk = w ∙ ap (λ (x : Day). passed x.lines) d }

pub of-whole : (s : List ℕ) (places : ℕ) (lines : List Line) → Whole s places lines → read_record s ≡ passed (record { places = places; lines = lines })
unfolding read_record
of-whole s places lines w = simp (le-leb _ _ w.short, w.head, w.walk, w.count)

pub head-long : (s : List ℕ) → places_whole s ≡ true → 3 ≤ length s
head-long s h = leb-true _ _ (and-true _ _ (and-true _ _ h).0).0

-- ---- of a record that passes

module _ (s : List ℕ) (day : Day) (h : read_record s ≡ passed day) where
  -- three bytes for the places, those of the lines, one for the end
  pub record-length : length s ≡ 4 + widths day.lines
  record-length =
      let w = whole_of s day h in
      omega (arith, lines-length (length s) (two s 1) 0 (drop 3 s) day.lines w.walk, length-drop 3 s, head-long s w.head)

  -- at most 4,096 lines
  pub lines-few : length day.lines ≤ 4096
  lines-few = omega (arith, lines-many (length s) (two s 1) 0 (drop 3 s) day.lines (omega arith) (whole_of s day h).walk)

  -- line i stands after the places command and the lines before it, and passes its questions
  pub line-stands : (i : ℕ) → i < length day.lines → LineStands day.places i (drop (3 + widths (take i day.lines)) s) (line_at day.lines i)
  line-stands i k =
      let w = whole_of s day h in
      let at = widths (take i day.lines) in
      let same : at + 3 ≡ 3 + at = omega arith in
      let none_before : 0 + i ≡ i = omega arith in
      subst (λ n. LineStands n i (drop (3 + at) s) (line_at day.lines i)) (sym w.count)
      (subst (λ t. LineStands (two s 1) i t (line_at day.lines i)) (drop-drop at 3 s)
      (subst (λ n. LineStands (two s 1) n (drop at (drop 3 s)) (line_at day.lines i)) none_before
      (lines_at (length s) (two s 1) 0 (drop 3 s) day.lines w.walk i k)))

  -- a line's kind is one of the fifteen, and its time one of the day's
  pub line-passes : (i : ℕ) → i < length day.lines → (1 ≤ (line_at day.lines i).kind) × ((line_at day.lines i).kind ≤ 15) × (time_allowed (line_at day.lines i).time ≡ true)
  line-passes i less =
      let l = line-stands i less in
      let (a, b) = and-true _ _ l.kind in
      (leb-true _ _ a, leb-true _ _ b, l.time)

-- ---- the lines that a record says

-- none where it is refused, so a line's number below their count says that the record passes
abbrev pub lines_in : Outcome Day → List Line
lines_in (refused number) = []
lines_in (passed day) = day.lines

abbrev pub lines_of : List ℕ → List Line
lines_of s = lines_in (read_record s)

pub has-line : (s : List ℕ) (i : ℕ) → i < length (lines_of s) → (day : Day) × (read_record s ≡ passed day)
has-line s i h = go (read_record s) h
  where
    go : (o : Outcome Day) → i < length (lines_in o) → (day : Day) × (o ≡ passed day)
    go (refused number) less = absurd (omega (arith, less))
    go (passed day) less = (day, refl)

-- line i of them stands there
pub line_read : (s : List ℕ) (i : ℕ) → i < length (lines_of s)
    → (places : ℕ) × LineStands places i (drop (3 + widths (take i (lines_of s))) s) (line_at (lines_of s) i)
line_read s i h =
    let (day, e) = has-line s i h in
    let less : i < length day.lines = subst (λ o. i < length (lines_in o)) e h in
    (day.places, subst (λ o. LineStands day.places i (drop (3 + widths (take i (lines_in o))) s) (line_at (lines_in o) i)) (sym e) (line-stands s day e i less))

pub kind-read : (s : List ℕ) (i : ℕ) → i < length (lines_of s) → (1 ≤ (line_at (lines_of s) i).kind) × ((line_at (lines_of s) i).kind ≤ 15)
kind-read s i h =
    let (day, e) = has-line s i h in
    let less : i < length day.lines = subst (λ o. i < length (lines_in o)) e h in
    let (a, b, t) = line-passes s day e i less in
    subst (λ o. (1 ≤ (line_at (lines_in o) i).kind) × ((line_at (lines_in o) i).kind ≤ 15)) (sym e) (a, b)

pub lines-short : (s : List ℕ) → length (lines_of s) ≤ 4096
lines-short s = go (read_record s) refl
  where
    go : (o : Outcome Day) → read_record s ≡ o → length (lines_in o) ≤ 4096
    go (refused number) e = omega arith
    go (passed day) e = lines-few s day e

-- 1 to 1,024 places
pub places-few : (s : List ℕ) (day : Day) → read_record s ≡ passed day → (0 < day.places) × (day.places ≤ 1024)
places-few s day h =
    let w = whole_of s day h in
    let (a, b) = and-true (leb 1 (two s 1)) (leb (two s 1) 1024) (and-true (leb 3 (length s) && eqb (byte s 0) 1) (count_allowed (two s 1)) w.head).1 in
    (omega (arith, w.count, leb-true 1 (two s 1) a), omega (arith, w.count, leb-true (two s 1) 1024 b))

-- ---- what a reading of the record says

pub reading-refused : (o : Outcome Day) (e : Refusal) → outcome (Err e) ≡ mapped counts_of o → o ≡ refused (number e)
reading-refused (refused q) e h = ap refused cc
reading-refused (passed day) e h = absurd (not-both h)

pub reading-passed : (o : Outcome Day) (counts : Counts) → outcome (Ok counts) ≡ mapped counts_of o → (day : Day) × (o ≡ passed day) × (counts.places ≡ day.places) × (counts.lines ≡ length day.lines)
reading-passed (refused q) counts h = absurd (not-both (sym h))
reading-passed (passed day) counts h = let e = passed-inj h in (day, refl, ap (λ (c : Counts). c.places) e, ap (λ (c : Counts). c.lines) e)
