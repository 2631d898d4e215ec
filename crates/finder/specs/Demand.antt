-- How large a length may be that the finder tells: it fits the output, or is below the largest search size.
use Rattle.std.specs.Prelude.{ℕ, ◌<◌, ◌≤◌}
use Rattle.finder.specs.Promise.{Said, found, none_found, refusal}

-- ---- lengths are small: they fit the output where a chain is found, and are always below the largest search size

abbrev pub Bounds : ℕ → Said → Type 0
Bounds room (found n) = (n ≤ room) × (n < 1048576)
Bounds room none_found = Unit {0}
Bounds room (refusal number n) = n < 1048576
