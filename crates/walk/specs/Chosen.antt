-- The table after a line is chosen, and a loop's end that is said elsewhere.
use Rattle.std.specs.Prelude.{ℕ}
use Rattle.graph.specs.Table.{Search, blank}
use Rattle.graph.specs.PhaseTwo.{try}

-- the table after a line is chosen
unfoldable pub try_table : (ℕ → ℕ → ℕ → Search → Search) → ℕ → ℕ → ℕ → ℕ → Search → Search
try_table E w lo n l st = (try E w lo n l st).table

-- whatever a pair holds; for loops whose end is said elsewhere
unfoldable pub anything : Search → Search
anything st = blank 0
