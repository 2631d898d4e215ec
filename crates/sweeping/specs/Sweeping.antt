-- The marks of a search under way, and what the functions of the sweep promise: they change marks alone, as the definitions of graph's `Sweep` say.
-- The four stretches begin at the plan's `base`: distances, queue, tags beside the queue, marks; after them stand the lines in order of a place.
use Rattle.std.specs.Prelude.{◌≡◌, Bool, true, false, cond, List, ℕ, suc, ◌+◌, ◌*◌, ◌-◌, ◌≤◌, ◌<◌, eqb, length, get_or, set, take, drop}
use Rattle.positions.specs.Program.{bit_of}
use Rattle.graph.specs.Plain.{filt}
use Rattle.graph.specs.Sweep.{Noted, Sweep, marked, lead, take_up, back}
use Rattle.request.specs.declared.Plan.{Plan}
use Rattle.search.specs.Front.{state_in}
use Rattle.search.specs.Loaded.{setting_at}
use Rattle.search.specs.Moves.{onward}
use Rattle.search.specs.Product.{Setting, succs}
use Rattle.area.specs.Area.{stretch}
use Rattle.states.specs.Pairs.{distances, GoodBack}
use Rattle.states.specs.Spots.{front}
use Rattle.sorted.specs.Sorting.{sorted_end, Sorted}
use Rattle.sorted.specs.declared.Order.TheVariants as Order
use Rattle.forward.specs.Firsts.{first_states}
use Rattle.forward.specs.Leads.{lead_in}
use Rattle.forward.specs.declared.Lead.{Lead}
use Rattle.sweeping.specs.declared.Sweeping.{Sweeping}

-- ---- where things stand

-- the first word of the marks, and the first after the four stretches
abbrev pub marks_at : Plan → ℕ
marks_at plan = plan.base + 3 * plan.size

abbrev pub index_at : Plan → ℕ
index_at plan = plan.base + 4 * plan.size

-- the lines stand there in order of the place that they come from
pub record Ordered (plan : Plan) (w : List ℕ) : Type 0 where
  pub sorted : Sorted Order.Start plan (index_at plan) w
  pub room : sorted_end Order.Start plan (index_at plan) ≤ length w

abbrev pub marks_in : Plan → List ℕ → List ℕ
marks_in plan w = stretch (marks_at plan) plan.size w

-- from words w to words v: only marks are other words
pub record OnlyMarks (plan : Plan) (w v : List ℕ) : Type 0 where
  pub before : take (marks_at plan) v ≡ take (marks_at plan) w
  pub after : drop (index_at plan) v ≡ drop (index_at plan) w
  pub long : length v ≡ length w

-- ---- marks written

-- the marks, and whether any was written
pub record Led : Type 0 where
  pub marks : List ℕ
  pub led : Bool

-- the state t is marked, if D gives it the word `want`
unfoldable pub mark_turn : List ℕ → ℕ → ℕ → ℕ → Led → Led
mark_turn D want with t x = cond (eqb (get_or D t 0) want) (record { marks = set x.marks t with; led = true }) x

-- the first state at position k
unfoldable pub first_turn : Plan → List ℕ → ℕ → ℕ → ℕ → ℕ → ℕ → Led → Led
first_turn plan D begin from want with k x = cond (eqb (bit_of begin k) 1) (mark_turn D want with (state_in plan from k 0) x) x

abbrev pub led_in : Plan → Bool → List ℕ → Led
led_in plan led w = record { marks = marks_in plan w; led = led }

pub record Marked (plan : Plan) (F : Led → Led) (b : Bool) (w : List ℕ) (r : Bool) (v : List ℕ) : Type 0 where
  pub now-marked : led_in plan r v ≡ F (led_in plan b w)
  pub only : OnlyMarks plan w v

-- by the line `lead` from the state s, of whichever line it is: each state to which it leads is marked, if its word is `want`
abbrev pub LineMarked : List ℕ → Plan → ℕ → ℕ → Lead → ℕ → List ℕ → Bool → List ℕ → Type 0
LineMarked program plan want with lead s w r v =
    (i : ℕ) → i < plan.lines → lead ≡ lead_in plan (front plan w) i → Marked plan (onward (setting_at program plan w) (mark_turn (distances plan w) want with) i s) false w r v

-- ---- a state taken up

-- the least line so far, and the marks
abbrev pub noted_in : Plan → ℕ → List ℕ → Noted
noted_in plan line w = record { line = line; marks = marks_in plan w }

pub record LedOn (plan : Plan) (S : Setting) (s want noted : ℕ) (w : List ℕ) (r : ℕ) (v : List ℕ) : Type 0 where
  pub now-noted : noted_in plan r v ≡ lead (distances plan w) (succs S) plan.lines want s (noted_in plan noted w)
  pub low : r ≤ plan.lines
  pub only : OnlyMarks plan w v

-- the state s with the word d
pub record TakenUp (plan : Plan) (S : Setting) (s d : ℕ) (at : Sweeping) (w : List ℕ) (r : ℕ) (v : List ℕ) : Type 0 where
  pub now-noted : noted_in plan r v ≡ take_up (distances plan w) (succs S) plan.lines (d - 1) at.chosen s (noted_in plan at.noted w)
  pub low : r ≤ plan.lines
  pub only : OnlyMarks plan w v

-- ---- the sweep

abbrev pub sweep_in : Plan → Sweeping → List ℕ → Sweep
sweep_in plan at w = record { rest = at.rest; chosen = at.chosen; noted = noted_in plan at.noted w }

-- by the queue's `tail` words, where a search stands in the pair
pub record SweptTo (plan : Plan) (S : Setting) (tail : ℕ) (at : Sweeping) (w : List ℕ) (r : Sweeping) (v : List ℕ) : Type 0 where
  pub now-swept : GoodBack plan tail w → sweep_in plan r v ≡ back (distances plan w) (succs S) plan.lines (stretch (plan.base + plan.size) tail w) (sweep_in plan at w)
  pub rest-is : suc r.rest ≡ at.rest
  pub chosen-low : r.chosen ≤ plan.lines
  pub noted-low : r.noted ≤ plan.lines
  pub only : OnlyMarks plan w v

-- the first states with the word `near` are marked with one more than the count of lines
pub record FirstsMarked (plan : Plan) (begin from near : ℕ) (w v : List ℕ) : Type 0 where
  pub now-marked : marks_in plan v ≡ marked (suc plan.lines) (filt (λ t. eqb (get_or (distances plan w) t 0) near) (first_states plan begin from)) (marks_in plan w)
  pub only : OnlyMarks plan w v
