-- Phase one may stop early: as soon as a first state is as near as the next state to expand. Both ends of phase one are `Ended`.
use Rattle.std.specs.Prelude.{◌≡◌, Bool, false, cond, ◌⊎◌, eqb, leb, get_or}
use mathlib.Core.List.{List, [], ◌∷◌}
use Prim.Native.Nat.{ℕ, ◌<◌, ◌≤◌}
use Rattle.graph.specs.Plain.{next}
use Rattle.graph.specs.PhaseOne.{Progress, waiting}
use Rattle.graph.specs.PhaseTwo.{nearest_word}

-- ---- the early stop

-- some state of S has a distance, and the nearest is no further than the state that waits first
pub record Met (S : List ℕ) (u : Progress) : Type 0 where
  pub next : ℕ
  pub rest : List ℕ
  pub waits : waiting u ≡ next ∷ rest
  pub some_near : 0 < nearest_word u.table.dist S
  pub as-near : nearest_word u.table.dist S ≤ get_or u.table.dist next 0

-- the test for it, by words: is the nearest state of S as near as the one that waits first, with the word d? Never where d is that of the
-- state expanded before
unfoldable pub met_by : ℕ → ℕ → ℕ → Bool
met_by near d last = cond (eqb d last) false (cond (eqb near 0) false (leb near d))

-- where phase one towards the states S ends: nothing waits, or one of them is met
abbrev pub Ended : List ℕ → Progress → Type 0
Ended S u = (waiting u ≡ []) ⊎ Met S u
