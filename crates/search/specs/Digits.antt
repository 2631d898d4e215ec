-- A stack of numbers below a radix R as one number: the entry at level j, the outermost at 0, has the weight R^j.
use Rattle.std.specs.Prelude.{Bool, true, false, ℕ, ◌+◌, ◌*◌, ◌-◌, ◌^◌, ◌/◌, ◌%◌}

module _ (R : ℕ) where
  -- ---- the definitions

  -- the entry of the stack v at level j
  abbrev pub entry : ℕ → ℕ → ℕ
  entry v j = v / R ^ j % R

  -- the stack v of depth d with x put on it, where there is a push; and without its top again
  abbrev pub push_on : Bool → ℕ → ℕ → ℕ → ℕ
  push_on true d v x = x * R ^ d + v
  push_on false d v x = v

  abbrev pub pop_off : Bool → ℕ → ℕ → ℕ
  pop_off true d v = v % R ^ d
  pop_off false d v = v
