-- Computed examples of the boat count: nothing to believe. An edited definition of `Count` breaks one of them.
use Rattle.std.specs.Prelude.{◌≡◌, refl, List, [], ◌∷◌, ◌++◌, map, ℕ, replicate}
use Rattle.meaning.specs.Outcome.{refused, passed}
use Rattle.meaning.specs.Record.{Line, boats_after, entry_at, lines_from, read_record}
use Rattle.meaning.specs.Count.{first_with, reads_at, reads_before, reads, Count, tallied, count_of}
use Rattle.meaning.specs.Rows.{line_of, lines_r, written_out, bytes_r}

-- lines of boats A = 1-7, B = 1-8, C = 2-7 and one whose numbers nobody could read
abbrev A : Line
A = line_of 0 1 1 7 0

abbrev B : Line
B = line_of 0 2 1 8 0

abbrev C : Line
C = line_of 1 1 2 7 0

abbrev U : Line
U = line_of 0 1 0 0 1

abbrev count : ℕ → ℕ → Count
count boats reads = record { boats = boats; reads = reads }

-- lines, and how many boats they have and how many earlier lines are read
record Row : Type 0 where
  lines : List Line
  gives : Count

abbrev row : List Line → Count → Row
row lines gives = record { lines = lines; gives = gives }

rows : List Row
rows =
    row [] (count 0 0)
    ∷ row (A ∷ []) (count 1 0)
    ∷ row (A ∷ A ∷ B ∷ A ∷ []) (count 2 4)
    ∷ row (A ∷ B ∷ C ∷ []) (count 3 3)
    -- the line met is read too, and none after it
    ∷ row (A ∷ B ∷ B ∷ B ∷ []) (count 2 5)
    ∷ row (A ∷ B ∷ A ∷ B ∷ []) (count 2 4)
    -- earlier lines are read, not boats met so far: C is met at line 3
    ∷ row (A ∷ A ∷ A ∷ C ∷ C ∷ []) (count 2 9)
    -- one sail number in two classes is two boats; 0-0 is one boat
    ∷ row (A ∷ C ∷ A ∷ C ∷ []) (count 2 4)
    ∷ row (U ∷ A ∷ U ∷ U ∷ []) (count 2 3)
    -- one boat, 9 lines; and document 01's record R
    ∷ row (replicate 9 A) (count 1 8)
    ∷ row lines_r (count 3 13)
    ∷ []

counts : map (λ r. tallied r.lines) rows ≡ map (λ r. r.gives) rows
unfolding rows line_of lines_r boats_after first_with reads_before
counts = refl

-- line by line, of A A B A
each : map (reads_at (A ∷ A ∷ B ∷ A ∷ [])) (0 ∷ 1 ∷ 2 ∷ 3 ∷ []) ≡ 0 ∷ 1 ∷ 2 ∷ 1 ∷ []
unfolding line_of first_with
each = refl

-- a record's bytes: passed, no line, refused with 7 and with 1
from_bytes : map count_of (bytes_r ∷ (0x01 ∷ 0x00 ∷ 0x04 ∷ 0x00 ∷ []) ∷ (bytes_r ++ (0x00 ∷ [])) ∷ replicate 57349 0x00 ∷ []) ≡ passed (count 3 13) ∷ passed (count 0 0) ∷ refused 7 ∷ refused 1 ∷ []
unfolding count_of read_record lines_from entry_at bytes_r lines_r written_out line_of boats_after first_with reads_before
from_bytes = refl
