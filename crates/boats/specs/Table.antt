-- The boats by their numbers as a table of words, which the search goes by.
-- Claimed: `table-told` (comparing two numbers by the table tells what comparing their boats does, where sail numbers are below 2^24); no boat
-- has two numbers; `next-new` and `next_known` (a line adds its boat to the table exactly where its number is the next one), for the writer.
use Rattle.std.specs.Prelude.{cond, ◌||◌, List, ◌∷◌, map, eqb}
use Prim.Native.Nat.{ℕ, ◌/◌}
use Rattle.meaning.specs.Record.{Line, boats}
use Rattle.meaning.specs.Language.{Compared, unread, same-boat, same_Class, other-class}
use Rattle.boats.specs.Boats.{as_number}

-- ---- the definitions

-- the boats by their numbers, as a table of words; number 0 has none, and its word is that of an unread boat
unfoldable pub boat_table : List Line → List ℕ
boat_table lines = 0 ∷ map as_number (boats lines)

-- the class that such a word says
abbrev pub class_in : ℕ → ℕ
class_in w = w / 16777216

-- what comparing two numbers tells, by such a table: each boat has one number, so that of two read boats the numbers tell whether they are one
abbrev pub told_by : (ℕ → ℕ) → ℕ → ℕ → Compared
told_by T x y = cond (eqb (T x) 0 || eqb (T y) 0) unread (cond (eqb x y) same-boat (cond (eqb (class_in (T x)) (class_in (T y))) same_Class other-class))
