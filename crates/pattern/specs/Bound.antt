-- The bound of `read_at` is no part of what it says: `bound-enough` shows that every bound that is at least the bytes left gives
-- the same outcome, `pattern-step` that a pattern is its command and the patterns after it, with no bound to count down.
-- `read-within` says where a pattern ends, `pattern-small` that it has at most 63 commands, as written and unfolded, and three keeps
-- in each other. Laws of meaning's definitions. Assumes nothing.
use Rattle.std.specs.Prelude.{ℕ}
use Rattle.meaning.specs.Outcome.{Outcome}
use Rattle.meaning.specs.Pattern.{Outside, Part}

-- ---- where a pattern ends, and that it is small

-- what reads a pattern at a place
abbrev pub Reader : Type 0
Reader = ℕ → ℕ → Outside → Outcome Part
