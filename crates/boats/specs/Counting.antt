-- The lines gone over so far: the place of the next one, each line's boat noted and numbered, the boats counted and the earlier lines read.
-- Claimed: `first-noted` (the first equal word among those noted is that of the first line with the boat).
use Rattle.std.specs.Prelude.{◌≡◌, List, ℕ, ◌<◌, ◌≤◌, length, get_or, take}
use Rattle.meaning.specs.Record.{Line, boats}
use Rattle.meaning.specs.Writing.{line_at}
use Rattle.meaning.specs.Count.{reads_before}
use Rattle.record.specs.Cursor.{start_of}
use Rattle.boats.specs.Boats.{BoatIs}
use Rattle.boats.specs.Codes.{codes}
use Rattle.boats.specs.declared.Tally.{Tally}

-- r words have been read, and none of them is w
pub record NoneBefore (words : List ℕ) (w r : ℕ) : Type 0 where
  pub early : r ≤ length words
  pub none : (k : ℕ) → k < r → get_or words k 0 ≡ w → ⊥

-- the first word that is w stands at r, which is their count where none is
pub record FirstAt (words : List ℕ) (w r : ℕ) : Type 0 where
  pub before : NoneBefore words w r
  pub here : r < length words → get_or words r 0 ≡ w

-- each of the first i lines has its boat noted
abbrev pub Noted : List Line → ℕ → List ℕ → Type 0
Noted lines i words = (k : ℕ) → k < i → BoatIs (line_at lines k).boat (get_or words k 0)

-- the first i lines are gone over
pub record Counted (lines : List Line) (i : ℕ) (t : Tally) (noted numbers : List ℕ) : Type 0 where
  pub place : t.at ≡ start_of lines i
  pub count : t.boats ≡ length (boats (take i lines))
  pub read : t.reads ≡ reads_before lines i
  pub words : Noted lines i noted
  pub so_far : take i numbers ≡ take i (codes lines)
