-- A search under way as it stands in the area (`underway_in`), and what moving it on promises: it becomes what graph's `Underway` says, and every word
-- that is not its own is as it was.
use Rattle.std.specs.Prelude.{◌≡◌, true, false, List, [], ℕ, ◌+◌, ◌*◌, ◌-◌, ◌≤◌, ◌<◌, length, get_or, take, drop}
use Rattle.graph.specs.Underway.{Underway, expanded_next, taken, taken_by, at_end}
use Rattle.request.specs.Layout.{table_words, Laid}
use Rattle.request.specs.declared.Plan.{Plan}
use Rattle.search.specs.Loaded.{setting_at}
use Rattle.search.specs.Product.{succs}
use Rattle.search.specs.Traced.{trace}
use Rattle.area.specs.Area.{stretch, found}
use Rattle.states.specs.Pairs.{RoomBack, GoodBack}
use Rattle.states.specs.Spots.{Fit}
use Rattle.forward.specs.Firsts.{first_states}
use Rattle.holding.specs.Holding.{InOrder, OfPlan}
use Rattle.holding.specs.declared.SearchState.{SearchState}
use Rattle.tracing.specs.Tracing.{reached_in, Indexed}
use Rattle.sweeping.specs.Sweeping.{index_at, marks_in, Ordered}
use Rattle.stepping.specs.declared.Going.{Going}

-- ---- the search in the area

unfoldable pub underway_in : SearchState → List ℕ → Underway
underway_in s w = record {
  found = reached_in s.plan s.at.found w;
  expanded = s.at.expanded;
  phase = s.at.phase;
  far = s.at.far;
  sweep = record { rest = s.at.rest; chosen = s.at.chosen; noted = record { line = s.at.noted; marks = marks_in s.plan w } };
}

-- the word of the state at place i of the queue
abbrev pub queued_word : SearchState → List ℕ → ℕ → ℕ
queued_word s w i = let table = found s.plan.base s.plan.size s.at.found w in get_or table.dist (get_or table.queue i 0) 0

-- the first states, by the mask of where runs begin
abbrev pub firsts : SearchState → ℕ → List ℕ
firsts s begin = first_states s.plan begin s.from

-- the first word after the lines in order of a place
abbrev pub index_end : Plan → ℕ
index_end plan = index_at plan + table_words plan.places plan.lines

-- ---- what is done, by the program and the loaded words

module _ (s : SearchState) (program : List ℕ) where
  -- the next state that waits is expanded
  abbrev pub expanded_by : List ℕ → Underway → Underway
  expanded_by w = let S = setting_at program s.plan w in expanded_next [] 0 (trace S) (succs S)

  -- one state is taken up, and so many
  abbrev pub taken_in : ℕ → List ℕ → Underway → Underway
  taken_in begin w = let S = setting_at program s.plan w in taken (firsts s begin) s.plan.lines (trace S) (succs S)

  abbrev pub taken_by_in : ℕ → List ℕ → ℕ → Underway → Underway
  taken_by_in begin w = let S = setting_at program s.plan w in taken_by (firsts s begin) s.plan.lines (trace S) (succs S)

-- ---- what is asked

-- the numbers are in order, and the four stretches stand in the area, whatever words these have
pub record Standing (s : SearchState) (w : List ℕ) : Type 0 where
  pub laid : Laid s.plan (length w)
  pub from_low : s.from < s.plan.places
  pub room : index_end s.plan ≤ length w
  pub order : InOrder s.at
  pub fits : OfPlan s.plan.size s.plan.lines s.at
  pub ready : RoomBack s.plan s.at.found w

-- a search stands in them
abbrev pub Searched : SearchState → List ℕ → Type 0
Searched s w = GoodBack s.plan s.at.found w

-- the loaded tables fit; and the lines stand in order of the place that they lead to, or that they come from
abbrev pub Fitting : SearchState → List ℕ → List ℕ → Type 0
Fitting s program w = Fit s.plan program w

pub record Indexing (s : SearchState) (program w : List ℕ) : Type 0 where
  pub fit : Fit s.plan program w
  pub index : Indexed s.plan w

pub record Ordering (s : SearchState) (program w : List ℕ) : Type 0 where
  pub fit : Fit s.plan program w
  pub index : Ordered s.plan w

-- ---- what is promised

-- from the state s in words w to the state r in words v: only its own words and those of the four stretches change, `end` being the first word that
-- stays after these; and where a search stands in w, what is under way is F of what was, and a search stands in v
pub record Held (F : Underway → Underway) (end : ℕ) (s : SearchState) (w : List ℕ) (r : SearchState) (v : List ℕ) : Type 0 where
  pub now-held : Searched s w → underway_in r v ≡ F (underway_in s w)
  pub searched : Searched s w → Searched r v
  pub plan-same : r.plan ≡ s.plan
  pub from-same : r.from ≡ s.from
  pub front : take s.plan.base v ≡ take s.plan.base w
  -- the queue's words that are not used yet, and the tags'
  pub queue-gap : stretch (s.plan.base + s.plan.size + r.at.found) (s.plan.size - r.at.found) v ≡ stretch (s.plan.base + s.plan.size + r.at.found) (s.plan.size - r.at.found) w
  pub how-gap : stretch (s.plan.base + 2 * s.plan.size + r.at.found) (s.plan.size - r.at.found) v ≡ stretch (s.plan.base + 2 * s.plan.size + r.at.found) (s.plan.size - r.at.found) w
  pub after : drop end v ≡ drop end w
  pub long : length v ≡ length w
  pub grows : s.at.found ≤ r.at.found
  pub standing : Standing r v

-- no word after the four stretches changes
abbrev pub StepHeld : (Underway → Underway) → SearchState → List ℕ → SearchState → List ℕ → Type 0
StepHeld F s w r v = Held F (index_at s.plan) s w r v

-- so many turns are done; all of them, or `Done` holds of what is under way then; and before each the search, if it is one, had not ended
pub record Turned (Done : Underway → Type 0) (end : ℕ) (s : SearchState) (program : List ℕ) (begin amount : ℕ) (w : List ℕ) (g : Going) (v : List ℕ) : Type 0 where
  pub few : g.left ≤ amount
  pub held : Held (taken_by_in s program begin w (amount - g.left)) end s w g.state v
  pub done : 0 < g.left → Done (underway_in g.state v)
  pub going : Searched s w → (j : ℕ) → j < amount - g.left → at_end (taken_by_in s program begin w j (underway_in s w)) ≡ false

-- turns of one phase: no word after the four stretches changes
module _ (s : SearchState) where
  abbrev pub BackBy : List ℕ → ℕ → ℕ → List ℕ → Going → List ℕ → Type 0
  BackBy = Turned (λ u. u.phase ≡ 0 → ⊥) (index_at s.plan) s

  abbrev pub ForthBy : List ℕ → ℕ → ℕ → List ℕ → Going → List ℕ → Type 0
  ForthBy = Turned (λ u. at_end u ≡ true) (index_at s.plan) s

  -- with the lines put in order before them
  abbrev pub BackMoved : List ℕ → ℕ → ℕ → List ℕ → Going → List ℕ → Type 0
  BackMoved = Turned (λ u. u.phase ≡ 0 → ⊥) (index_end s.plan) s

  abbrev pub ForthMoved : List ℕ → ℕ → ℕ → List ℕ → Going → List ℕ → Type 0
  ForthMoved = Turned (λ u. (s.at.phase ≡ 0 → ⊥) → at_end u ≡ true) (index_end s.plan) s

  -- both phases
  abbrev pub MovedOn : List ℕ → ℕ → ℕ → List ℕ → Going → List ℕ → Type 0
  MovedOn = Turned (λ u. at_end u ≡ true) (index_end s.plan) s
