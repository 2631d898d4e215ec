-- Phase one stopped: some states are expanded, and it has ended, because nothing waits or because a first state is met.
use Rattle.std.specs.Prelude.{List, map, ℕ}
use Rattle.search.specs.Along.{goal}
use Rattle.search.specs.Front.{state_in}
use Rattle.request.specs.declared.Plan.{Plan}
use Rattle.graph.specs.Early.{Ended}
use Rattle.search.specs.Moves.{expand}
use Rattle.graph.specs.PhaseOne.{Progress, begun, advance_by}
use Rattle.search.specs.Product.{Setting}
use Rattle.graph.specs.Table.{Search, blank, push}
use Rattle.area.specs.Area.{found, Step}

-- ---- where phase one begins

-- with the table as it stands
abbrev pub opened : Search → Progress
opened st = record { expanded = 0; table = st }

-- with the goals at the places bs, of N states; whatever the pair held before
abbrev pub from_goals : Setting → ℕ → List ℕ → Search → Progress
from_goals S N bs st = begun N (map (goal S) bs)

-- nothing found, of N states; whatever the pair held before
abbrev pub forgotten : ℕ → Search → Search
forgotten N st = blank N

-- nothing but the goal at the place b
abbrev pub seeded : Plan → ℕ → Search → Search
seeded plan b st = push 1 (state_in plan b plan.done 0) (blank plan.size)

-- ---- where it stops

-- the table after k expansions
unfoldable pub table_after : (ℕ → ℕ → Search → Search) → ℕ → (Search → Progress) → Search → Search
table_after E k start st = (advance_by E k (start st)).table

-- from words w with t in the queue to words v with u in the queue: so many states are expanded, and phase one towards the states S has ended
pub record Stopped (base size : ℕ) (E : ℕ → ℕ → Search → Search) (S : List ℕ) (start : Search → Progress) (t : ℕ) (w : List ℕ) (u : ℕ) (v : List ℕ) : Type 0 where
  pub count : ℕ
  pub step : Step base size (table_after E count start) t w u v
  pub ended : Ended S (advance_by E count (start (found base size t w)))

-- by the plan's pair of stretches, the setting S and these first states: with the table as it stands, or from the goals at the places bs
abbrev pub StoppedAt : (Search → Progress) → Setting → Plan → List ℕ → ℕ → List ℕ → ℕ → List ℕ → Type 0
StoppedAt start S plan firsts = Stopped plan.base plan.size (expand S) firsts start

abbrev pub StoppedFrom : List ℕ → Setting → Plan → List ℕ → ℕ → List ℕ → ℕ → List ℕ → Type 0
StoppedFrom bs S plan = StoppedAt (from_goals S plan.size bs) S plan
