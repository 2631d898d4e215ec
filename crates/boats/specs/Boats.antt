-- Counting the different boats: a line's boat is new exactly where no earlier line has it.
-- Claimed: `boats-more` (one line more, by the first line with its boat) and `number-agree` (a boat as one number).
use Rattle.std.specs.Prelude.{◌≡◌, ℕ, ◌+◌, ◌*◌, ◌<◌}
use Rattle.meaning.specs.Record.{Boat}

-- ---- a boat as one number: class · 2^24 + sail number

abbrev pub as_number : Boat → ℕ
as_number b = b.class * 16777216 + b.sail

-- a number says which boat it is
pub record BoatIs (b : Boat) (n : ℕ) : Type 0 where
  pub is : n ≡ as_number b
  pub small : b.sail < 16777216
