-- What is answered to a request, for its lines as the search meets them: `answer` (the finder's chain) and `check` (the checker's yes or no).
use Rattle.std.specs.Prelude.{Bool, List}
use Rattle.std.proofs.Math.Option.{Option}
use Prim.Native.Nat.{ℕ}
use Rattle.meaning.specs.Request.{Asked}
use Rattle.meaning.specs.Chain.{lines_met}
use Rattle.search.specs.Answer.{solution}
use Rattle.search.specs.Check.{checked}

-- the first shortest chain from a to b that is accepted
abbrev pub answer : Asked → ℕ → ℕ → Option (List ℕ)
answer q a b = solution (lines_met q) q.day.places q.pattern a b

-- is the chain accepted?
abbrev pub check : Asked → ℕ → ℕ → List ℕ → Bool
check q a b c = checked (lines_met q) q.pattern a b c

-- the request as the search meets it: its record has the lines met
abbrev pub met_asked : Asked → Asked
met_asked q = record { day = record { places = q.day.places; lines = lines_met q }; pattern = q.pattern; options = q.options }
