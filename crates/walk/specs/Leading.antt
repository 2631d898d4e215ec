-- Phase two by place: a frontier stands at one place, and after the frontiers, where there is room, stand the lines in order of the place that
-- they come from. `Chose` is what choosing a line promises, by whichever way.
use Rattle.std.specs.Prelude.{◌≡◌, true, List, ℕ, ◌+◌, ◌-◌, ◌/◌, ◌≤◌, ◌<◌, get_or}
use Rattle.request.specs.declared.Plan.{Plan}
use Rattle.graph.specs.Loops.{loop}
use Rattle.graph.specs.Table.{Search, blank}
use Rattle.graph.specs.PhaseTwo.{try, put, walk}
use Rattle.search.specs.Loaded.{setting_at}
use Rattle.search.specs.Moves.{from_state}
use Rattle.states.specs.Pairs.{distances, StepForth, found_forth}
use Rattle.states.specs.Spots.{Fit}
use Rattle.sorted.specs.Sorting.{Sorted}
use Rattle.sorted.specs.declared.Order.TheVariants as Order
use Rattle.forward.specs.Firsts.{first_states}
use Rattle.walk.specs.Chosen.{try_table}

-- ---- the lines in order of the place that they come from

-- where the plan has room for them, they stand there
abbrev pub Ordered : Plan → List ℕ → Type 0
Ordered plan w = plan.ordered ≡ true → Sorted Order.Start plan plan.bystart w

-- what phase two goes by: the loaded tables, and the lines in that order
pub record Leading (plan : Plan) (a : List ℕ) (w : List ℕ) : Type 0 where
  pub fit : Fit plan a w
  pub ordered : Ordered plan w

-- ---- the frontier

-- the place of the state s
abbrev pub place_at : Plan → ℕ → ℕ
place_at plan s = s / plan.stacks / (plan.done + 1)

-- its states, those in the queue from index lo on, are at place q; they are at one place
abbrev pub Standing : Plan → ℕ → ℕ → ℕ → List ℕ → Type 0
Standing plan q lo tail w = (j : ℕ) → lo ≤ j → j < tail → place_at plan (get_or (found_forth plan tail w).queue j 0) ≡ q

abbrev pub Together : Plan → ℕ → ℕ → List ℕ → Type 0
Together plan lo tail w = (q : ℕ) × Standing plan q lo tail w

-- ---- the line chosen

-- the states to which a line leads, by the distances and the tables in the area's words
abbrev pub leads : List ℕ → Plan → List ℕ → ℕ → ℕ → ℕ → Search → Search
leads a plan w = from_state (setting_at a plan w) (distances plan w)

-- from words w with `tail` in the queue to words v with u in it: the first of all lines that leads on, and the states to which it leads
pub record Chose (plan : Plan) (a : List ℕ) (want lo tail : ℕ) (w : List ℕ) (line u : ℕ) (v : List ℕ) : Type 0 where
  pub line-is : line ≡ (try (leads a plan w) want lo plan.lines 0 (found_forth plan tail w)).line
  pub low : line ≤ plan.lines
  pub step : StepForth plan (try_table (leads a plan w) want lo plan.lines 0) tail w u v

-- ---- the chain

-- `far` lines chosen one after the other, from the frontier of a table on
abbrev pub chain_from : List ℕ → Plan → ℕ → Search → List ℕ → List ℕ
chain_from a plan far table w = walk (leads a plan w) plan.lines far 0 table

-- the first frontier: the first states whose distance's word is `near`
abbrev pub first_frontier : Plan → ℕ → ℕ → ℕ → List ℕ → Search
first_frontier plan begin from near w = loop (put (distances plan w) near) (first_states plan begin from) (blank plan.size)

-- the chain by the word of the nearest first state, one more than its length
abbrev pub chain_by : List ℕ → Plan → ℕ → ℕ → ℕ → List ℕ → List ℕ
chain_by a plan begin from near w = chain_from a plan (near - 1) (first_frontier plan begin from near w) w
