-- A search with how each state was reached, in three of the four stretches of a search under way, and what a function that changes it promises.
-- The stretches begin at the plan's `base`: distances, queue, tags beside the queue, marks; after them stand the lines in order of a place.
use Rattle.std.specs.Prelude.{◌≡◌, cond, List, ℕ, ◌+◌, ◌*◌, ◌-◌, ◌^◌, ◌≤◌, eqb, length, take, drop}
use Rattle.positions.specs.Program.{bit_of, follow_at, leaves_at}
use Rattle.request.specs.declared.Plan.{Plan}
use Rattle.graph.specs.Loops.{turns}
use Rattle.graph.specs.Trace.{Reached, tag_of, tagged}
use Rattle.area.specs.Area.{stretch, found}
use Rattle.states.specs.Pairs.{RoomBack, GoodBack}
use Rattle.states.specs.Spots.{front, spot_in, line_turn}
use Rattle.states.specs.declared.Target.{Target}
use Rattle.sorted.specs.Sorting.{sorted_end, Sorted}
use Rattle.sorted.specs.declared.Order.TheVariants as Order
use Rattle.expanding.specs.Undoing.{line_undone}
use Rattle.expanding.specs.declared.Undo.{Undo}

-- ---- where things stand

-- the first word of the tags, and the first after the four stretches
abbrev pub how_at : Plan → ℕ
how_at plan = plan.base + 2 * plan.size

abbrev pub index_at : Plan → ℕ
index_at plan = plan.base + 4 * plan.size

-- the lines stand there in order of the place that they lead to
pub record Indexed (plan : Plan) (w : List ℕ) : Type 0 where
  pub sorted : Sorted Order.End plan (index_at plan) w
  pub room : sorted_end Order.End plan (index_at plan) ≤ length w

-- ---- the search, its queue having `tail` words

unfoldable pub reached_in : Plan → ℕ → List ℕ → Reached
reached_in plan tail w = record { table = found plan.base plan.size tail w; how = stretch (how_at plan) tail w }

-- from words w with t in the queue to words v with u in it, whatever words these are: every word that is not of the search is as it was; and where a
-- search stands in w, what is reached is F of what was reached, and a search stands in v
pub record StepTraced (plan : Plan) (F : Reached → Reached) (t : ℕ) (w : List ℕ) (u : ℕ) (v : List ℕ) : Type 0 where
  pub now-reached : GoodBack plan t w → reached_in plan u v ≡ F (reached_in plan t w)
  pub good : GoodBack plan t w → GoodBack plan u v
  pub front : take plan.base v ≡ take plan.base w
  -- the queue's words that are not used yet
  pub gap : stretch (plan.base + plan.size + u) (plan.size - u) v ≡ stretch (plan.base + plan.size + u) (plan.size - u) w
  -- the tags' words that are not used yet, and all that comes after
  pub back : drop (how_at plan + u) v ≡ drop (how_at plan + u) w
  pub long : length v ≡ length w
  pub grows : t ≤ u
  pub ready : RoomBack plan u v

-- ---- what is done

module _ (plan : Plan) (u : Undo) (g : List ℕ) (place c parent : ℕ) where
  -- by line i
  unfoldable pub line_traced : ℕ → Reached → Reached
  line_traced i = tagged (tag_of i parent) (line_undone plan u g place c i)

  -- by each line
  unfoldable pub into_traced : Reached → Reached
  into_traced = turns line_traced 0 plan.lines

-- line i finds nothing, whichever place and state it is asked for
abbrev pub NothingTraced : Plan → Undo → ℕ → ℕ → ℕ → List ℕ → Type 0
NothingTraced plan u c i tail w =
    (place parent : ℕ) → line_traced plan u (front plan w) place c parent i (reached_in plan tail w) ≡ reached_in plan tail w

-- back to the position c, if the target's position may come after it
unfoldable pub spot_traced : List ℕ → Plan → List ℕ → Target → ℕ → ℕ → ℕ → Reached → Reached
spot_traced a plan g t d parent c x =
    cond (eqb (bit_of (follow_at a c) t.position) 1)
    (turns (λ i. tagged (tag_of i parent) (line_turn plan g (spot_in a plan.radix c) t d c (plan.radix ^ (leaves_at a c - t.depth)) i)) 0 plan.lines x)
    x
