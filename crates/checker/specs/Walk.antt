-- A set of states moved along a chain inside the work area: what the pair of marks and frontier holds, and what each function makes of it.
-- The list, from word `base` on, takes the frontier's states while the next frontier is made.
use Rattle.std.specs.Prelude.{◌≡◌, Bool, List, [], ◌∷◌, ℕ, ◌+◌, ◌≤◌, ◌<◌, length, get_or, set, take, drop}
use Rattle.meaning.specs.Request.{Asked}
use Rattle.lists.specs.Listed.{◌∈◌}
use Rattle.positions.specs.Program.{members}
use Rattle.request.specs.declared.Plan.{Plan}
use Rattle.search.specs.Along.{goal, starting}
use Rattle.graph.specs.Plain.{flat, memb}
use Rattle.graph.specs.Loops.{loop}
use Rattle.graph.specs.Table.{Search, blank, push}
use Rattle.area.specs.Area.{stretch, found, Ready}
use Rattle.forward.specs.Posed.{Posed}
use Rattle.search.specs.Product.{Setting, succs}
use Rattle.search.specs.Check.{moved, checked}
use Rattle.search.specs.Moves.{visit, onward}

-- ---- sets of states, marked and listed

-- the states of a list, each once
unfoldable pub seeded : ℕ → List ℕ → Search
seeded N states = loop (push 1) states (blank N)

-- the states to which line i leads
unfoldable pub stepped : (ℕ → ℕ → List ℕ) → ℕ → ℕ → Search → Search
stepped next N i st = seeded N (flat (λ s. next s i) st.queue)

-- the states to which the chain leads
unfoldable pub walked : (ℕ → ℕ → List ℕ) → ℕ → List ℕ → Search → Search
walked next N [] st = st
walked next N (i ∷ c) st = walked next N c (stepped next N i st)

-- ---- in the area

-- marks and frontier begin here
abbrev pub marks : Plan → ℕ
marks plan = plan.marks

-- between two lines of the chain: the pair holds a set of states, and nothing else is marked
pub record Alive (plan : Plan) (tail : ℕ) (w : List ℕ) : Type 0 where
  pub ready : Ready (marks plan) plan.size tail w
  pub states : List ℕ
  pub low : (s : ℕ) → s ∈ states → s < plan.size
  pub holds : found (marks plan) plan.size tail w ≡ seeded plan.size states

-- from words w to words v: what is found is f of what was found, the loaded tables are as they were, and the pair holds a set again
pub record Advanced (plan : Plan) (f : Search → Search) (t : ℕ) (w : List ℕ) (u : ℕ) (v : List ℕ) : Type 0 where
  pub now-found : found (marks plan) plan.size u v ≡ f (found (marks plan) plan.size t w)
  pub front : take plan.base v ≡ take plan.base w
  pub long : length v ≡ length w
  pub alive : Alive plan u v

-- ---- the frontier set aside

-- word i of the frontier
abbrev pub frontier_at : Plan → List ℕ → ℕ → ℕ
frontier_at plan w i = get_or w (marks plan + plan.size + i) 0

-- its first n states
abbrev pub frontier : Plan → ℕ → List ℕ → List ℕ
frontier plan n w = stretch (marks plan + plan.size) n w

-- state i of the frontier comes into the list and loses its mark
unfoldable pub aside_of : Plan → ℕ → List ℕ → List ℕ
aside_of plan i w = let s = frontier_at plan w i in set (set w (plan.base + i) s) (marks plan + s) 0

-- the words of these states become 0
unfoldable pub wiped : List ℕ → List ℕ → List ℕ
wiped states D = loop (λ s D. set D s 0) states D

-- the first n states of w's frontier are in v's list and have lost their marks; tables and frontier are as they were
pub record Aside (plan : Plan) (n : ℕ) (w v : List ℕ) : Type 0 where
  pub front : take plan.base v ≡ take plan.base w
  pub listed : stretch plan.base n v ≡ frontier plan n w
  pub unmarked : stretch (marks plan) plan.size v ≡ wiped (frontier plan n w) (stretch (marks plan) plan.size w)
  pub kept : drop (marks plan + plan.size) v ≡ drop (marks plan + plan.size) w
  pub long : length v ≡ length w

-- ---- the next frontier

-- the list's first `count` words are states
abbrev pub Listed : Plan → ℕ → List ℕ → Type 0
Listed plan count w = (j : ℕ) → j < count → get_or w (plan.base + j) 0 < plan.size

-- line i from state j of the list
unfoldable pub list_turn : Setting → Plan → List ℕ → ℕ → ℕ → Search → Search
list_turn S plan w i j = onward S (visit (stretch plan.base plan.size w) 0) i (get_or w (plan.base + j) 0)

-- ---- the start

-- the mask's positions are positions up to the end
abbrev pub Within : Plan → ℕ → Type 0
Within plan begin = (k : ℕ) → k ∈ members begin → k ≤ plan.done

-- does the chain lead from the mask's positions at the place `from` to the end at the place `to`?
abbrev pub ends : Setting → ℕ → ℕ → ℕ → List ℕ → Bool
ends S begin from to chain = memb (goal S to) (moved (succs S) (starting S from (members begin)) chain)

-- ---- a request

-- the reply b is right for every request that the area is of
abbrev pub RightFor : List ℕ → Plan → ℕ → ℕ → List ℕ → List ℕ → Bool → Type 0
RightFor pat plan from to chain w b = (q : Asked) → Posed q pat plan from to w → b ≡ checked q.day.lines q.pattern from to chain
