-- The tables in the front of a work area: what is read where; and states counted by the plan's numbers.
use Rattle.std.specs.Prelude.{List, take, drop}
use Prim.Native.Nat.{ℕ, ◌+◌, ◌*◌}
use Rattle.request.specs.declared.Plan.{Plan}
use Rattle.search.specs.Product.{stacks}

-- ---- the tables in an area

-- the words from `boats` up to `base`
abbrev pub tables : Plan → List ℕ → List ℕ
tables plan g = drop plan.boats (take plan.base g)

-- ---- states by the plan's numbers

-- the state at place q and position k with the stack v
abbrev pub state_in : Plan → ℕ → ℕ → ℕ → ℕ
state_in plan q k v = (q * (plan.done + 1) + k) * plan.stacks + v
