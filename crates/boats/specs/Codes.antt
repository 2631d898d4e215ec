-- Boats as numbers 1, 2, … in order of first appearance: the number of each line's boat, and the boat of each number.
-- Claimed: `code-low` and `code-compared` (comparing two lines' numbers tells what comparing their boats tells), for the states;
-- `code-earlier` and `code-new` (the number of an earlier line with the boat, else the next one), for the code that numbers the lines; `codes-length`, for reading them back.
use Rattle.std.specs.Prelude.{cond, get_or}
use mathlib.Core.List.{List, [], ◌∷◌, map}
use Prim.Native.Nat.{ℕ, zero, suc}
use Rattle.meaning.specs.Record.{Boat, Line, agree, boats}
use Rattle.meaning.specs.Writing.{no_line}
use Rattle.meaning.specs.Language.{Compared, compared}

-- ---- the definitions

-- where a boat stands in a list of boats
abbrev pub index_in : List Boat → Boat → ℕ
index_in [] b = 0
index_in (c ∷ cs) b = cond (agree b c) 0 (suc (index_in cs b))

-- for each line the number of its boat
unfoldable pub codes : List Line → List ℕ
codes lines = let bs = boats lines in map (λ l. suc (index_in bs l.boat)) lines

-- the boat of a number; 0 has none
abbrev pub numbered : List Boat → ℕ → Boat
numbered bs zero = no_line.boat
numbered bs (suc x) = get_or bs x no_line.boat

-- what comparing two numbers tells: what comparing their boats does
abbrev pub telling : List Boat → ℕ → ℕ → Compared
telling bs x y = compared (numbered bs x) (numbered bs y)
