-- The ways back that go over stacks one by one: what one word written of a line does, and which words of the sorted lines are enough.
use Rattle.std.specs.Prelude.{◌≡◌, List, ℕ, ◌+◌, ◌-◌, ◌/◌, ◌%◌, ◌≤◌, ◌<◌, length, get_or}
use Rattle.request.specs.declared.Plan.{Plan}
use Rattle.search.specs.Front.{state_in}
use Rattle.graph.specs.Loops.{turns}
use Rattle.graph.specs.Table.{Search}
use Rattle.states.specs.Spots.{front, boats_in, stack_turn, line_turn, Stacks}
use Rattle.states.specs.declared.Spot.{Spot}
use Rattle.states.specs.declared.Target.{Target}
use Rattle.sorted.specs.Sorting.{pack_by}

-- the words from lo up to hi stand after the pair of stretches, and say places
pub record Words (plan : Plan) (w : List ℕ) (lo hi : ℕ) : Type 0 where
  pub behind : plan.base + plan.size + plan.size ≤ lo
  pub rising : lo ≤ hi
  pub inside : hi ≤ length w
  pub starts : (p : ℕ) → lo ≤ p → p < hi → get_or w p 0 / pack_by < plan.places

module _ (plan : Plan) (s : Spot) (t : Target) where
  -- by the boats' table B, the word e, the place that a line comes from times pack_by and its boat's number: gone back over to the position c, for `count` stacks
  unfoldable pub stacked_turn : (ℕ → ℕ) → ℕ → ℕ → ℕ → ℕ → Search → Search
  stacked_turn B d c count e = turns (stack_turn B plan.radix s d (state_in plan (e / pack_by) c 0) (e % pack_by) t.weight t.stack) 0 count

  -- the words from lo up to hi do what all lines do, for all positions and stacks
  pub record Enough (w : List ℕ) (lo hi : ℕ) : Type 0 where
    pub words : Words plan w lo hi
    pub same : (d c count : ℕ) → 0 < d → c ≤ plan.done → Stacks count t.weight t.stack plan.stacks → (st : Search) → length st.dist ≡ plan.size
        → turns (line_turn plan (front plan w) s t d c count) 0 plan.lines st ≡ turns (λ p. stacked_turn (boats_in plan w) d c count (get_or w p 0)) lo (hi - lo) st
