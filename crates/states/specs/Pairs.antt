-- The two pairs of stretches of a plan. Phase one's: distances and queue. Phase two's, after the distances: marks and frontiers.
-- What a function of either phase asks and promises of its pair is said by these names.
use Rattle.std.specs.Prelude.{List, ℕ}
use Rattle.request.specs.declared.Plan.{Plan}
use Rattle.search.specs.Moves.{visit}
use Rattle.graph.specs.Table.{Search}
use Rattle.area.specs.Area.{stretch, found, Good, Ready, Step, Room, StepAny}

-- ---- phase one

abbrev pub ReadyBack : Plan → ℕ → List ℕ → Type 0
ReadyBack plan = Ready plan.base plan.size

abbrev pub StepBack : Plan → (Search → Search) → ℕ → List ℕ → ℕ → List ℕ → Type 0
StepBack plan = Step plan.base plan.size

-- whatever words stand in it; and that a search stands in it
abbrev pub RoomBack : Plan → ℕ → List ℕ → Type 0
RoomBack plan = Room plan.base plan.size

abbrev pub StepBackAny : Plan → (Search → Search) → ℕ → List ℕ → ℕ → List ℕ → Type 0
StepBackAny plan = StepAny plan.base plan.size

abbrev pub found_back : Plan → ℕ → List ℕ → Search
found_back plan = found plan.base plan.size

abbrev pub GoodBack : Plan → ℕ → List ℕ → Type 0
GoodBack plan tail w = Good plan.size (found_back plan tail w)

-- the words of the distances
abbrev pub distances : Plan → List ℕ → List ℕ
distances plan w = stretch plan.base plan.size w

-- ---- phase two

abbrev pub ReadyForth : Plan → ℕ → List ℕ → Type 0
ReadyForth plan = Ready plan.marks plan.size

abbrev pub StepForth : Plan → (Search → Search) → ℕ → List ℕ → ℕ → List ℕ → Type 0
StepForth plan = Step plan.marks plan.size

abbrev pub found_forth : Plan → ℕ → List ℕ → Search
found_forth plan = found plan.marks plan.size

-- a state is visited where its distance's word is the one that is wanted
abbrev pub seen : Plan → List ℕ → ℕ → ℕ → Search → Search
seen plan w want = visit (distances plan w) want
