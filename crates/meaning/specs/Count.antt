-- Counting the different boats (document 02, request Four): how many there are, and how many earlier lines are read to tell.
-- `count_of` is the whole of it: questions 1 to 7, then both numbers.
use Rattle.std.specs.Prelude.{cond, true, false, List, [], ◌∷◌, ℕ, zero, suc, ◌+◌, ltb, length}
use Rattle.meaning.specs.Outcome.{Outcome, passed, and_then}
use Rattle.meaning.specs.Record.{Boat, Line, agree, boats, read_record}
use Rattle.meaning.specs.Writing.{line_at}

-- the first line with a boat: its number, or the count of lines where none has the boat
unfoldable pub first_with : Boat → List Line → ℕ
first_with b [] = 0
first_with b (l ∷ ls) = elim (agree b l.boat) [ true ↦ 0 | false ↦ suc (first_with b ls) ]

-- the first line with the same boat as line i
abbrev pub first_same : List Line → ℕ → ℕ
first_same lines i = first_with (line_at lines i).boat lines

-- the earlier lines read for line i: from line 0 up to the first with its boat, that one too; all of them where none has it
abbrev pub reads_at : List Line → ℕ → ℕ
reads_at lines i = cond (ltb (first_same lines i) i) (suc (first_same lines i)) i

-- those read for the lines before line n
unfoldable pub reads_before : List Line → ℕ → ℕ
reads_before lines zero = 0
reads_before lines (suc i) = reads_before lines i + reads_at lines i

abbrev pub reads : List Line → ℕ
reads lines = reads_before lines (length lines)

-- both numbers
pub record Count : Type 0 where
  pub boats : ℕ
  pub reads : ℕ

abbrev pub tallied : List Line → Count
tallied lines = record { boats = length (boats lines); reads = reads lines }

-- of a record's bytes
unfoldable pub count_of : List ℕ → Outcome Count
count_of s = and_then (read_record s) (λ day. passed (tallied day.lines))
