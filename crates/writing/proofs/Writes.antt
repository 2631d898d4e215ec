-- Adding a line: a line beside those of a record, the questions in order, and what the reply says of the buffer after it.
-- Assumes nothing.
use mathlib.Core.Path.{◌≡◌, sym, ap, ◌∙◌}
use mathlib.Core.Bool.{Bool, false, cond}
use mathlib.Core.List.{List, [], ◌∷◌, ◌++◌}
use Prim.Native.Nat.{ℕ, suc, ◌+◌, ◌-◌, ◌<◌, ◌≤◌}
use native.Mathlib.Omega.{arith}
use lib.ListN.{length, take, drop}
use lib.Seq.{length-take-le}
use borrow.Author.Tests.{le-leb}
use Rattle.meaning.specs.Outcome.{Outcome, refused, passed}
use Rattle.meaning.specs.Record.{Line, width, bytes_of, read_record}
use Rattle.meaning.specs.Writing.{written, unless_refused, same_line, is_new, line_at, ask_new, add_of, add_after}
use Rattle.std.specs.Prelude.{Ok}
use Rattle.refusals.specs.Refusal.{outcome, mapped}
use Rattle.record.specs.Reading.{counts_of}
use Rattle.record.specs.declared.Counts.{Counts}
use Rattle.writing.specs.Added.{adds}
use Rattle.record.specs.Whole.{record-length, reading-passed}
use Rattle.record.specs.Same.{new-at}

-- ---- a line beside those of a record

-- from line i on: that line decides, or those after it do
pub new-by : (l : Line) (ls : List Line) (i : ℕ) (same : Bool) → i < length ls → same ≡ same_line l (line_at ls i) → is_new l (drop i ls) ≡ cond same false (is_new l (drop (suc i) ls))
new-by l ls i same less e = new-at l ls i less ∙ ap (λ x. cond x false (is_new l (drop (suc i) ls))) (sym e)

-- ---- adding a line

module _ (buffer : List ℕ) (len : ℕ) (l : Line) (inside : len ≤ length buffer) where
  pub add-refused : (number : ℕ) → read_record (take len buffer) ≡ refused number → add_of buffer len l ≡ refused number
  unfolding add_of
  add-refused number e = simp (le-leb _ _ inside, e)

  -- the record read, the questions are those about the new line
  pub add-asked : (counts : Counts) (o : Outcome ℕ) → outcome (Ok counts) ≡ mapped counts_of (read_record (take len buffer)) → o ≡ ask_new counts.places counts.lines (length buffer) len l → o ≡ add_of buffer len l
  unfolding add_of
  add-asked counts o t h =
      let (day, e, p, m) = reading-passed (read_record (take len buffer)) counts t in
      rw (le-leb len (length buffer) inside, e) (h ∙ (λ i. ask_new (p i) (m i) (length buffer) len l))

-- ---- the buffer after a line was added

module _ (buffer : List ℕ) (len : ℕ) (l : Line) (n : ℕ) (asked : passed n ≡ add_of buffer len l) where
  -- the sail number has three bytes, the line fits, and there is an old end byte to begin at
  pub add-fits : (l.boat.sail < 16777216) × (len + width l ≤ length buffer) × (4 ≤ len)
  add-fits =
      let a = adds buffer len l n (sym asked) in
      (a.sail, a.room, omega (arith, record-length (take len buffer) a.day a.reads, length-take-le len buffer a.inside))

  -- and the line's bytes written there are all that changes
  pub add_done : (after : List ℕ) → after ≡ written (len - 1) (bytes_of l ++ (0 ∷ [])) buffer → after ≡ add_after buffer len l
  add_done after w = w ∙ ap (λ o. unless_refused o (written (len - 1) (bytes_of l ++ (0 ∷ [])) buffer) buffer) asked

-- a refusal leaves the buffer as it was
pub add_kept : (buffer : List ℕ) (len : ℕ) (l : Line) (q : ℕ) → refused q ≡ add_of buffer len l → buffer ≡ add_after buffer len l
add_kept buffer len l q h = ap (λ o. unless_refused o (written (len - 1) (bytes_of l ++ (0 ∷ [])) buffer) buffer) h
