-- The ways back over lines from a state that is expanded to a position: most need only one run of the sorted lines, and of each line only
-- the word written of it, which gives one state before. A lane says which of the run's words are taken and what state each gives.
-- `proofs/Right` shows that the way chosen does what going over all lines and all stacks does.
use Rattle.std.specs.Prelude.{◌≡◌, Bool, cond, true, false, List, ℕ, ◌+◌, ◌*◌, ◌/◌, ◌%◌, ◌≤◌, ◌<◌, eqb, get_or}
use Rattle.request.specs.Layout.{largest, Laid, from_in, to_in}
use Rattle.request.specs.declared.Plan.{Plan}
use Rattle.search.specs.Loaded.{boat_at, code_at, word_at}
use Rattle.graph.specs.Loops.{turns}
use Rattle.graph.specs.Table.{Search, push}
use Rattle.sorted.specs.Sorting.{pack_by, keys, key_in, pack_in}
use Rattle.sorted.specs.declared.Order.{Order}
use Rattle.states.specs.Served.{ServedBy}
use Rattle.states.specs.declared.Sieve.{Sieve}
use Rattle.states.specs.Spots.{front, boats_in, read_but, sister_of, foreign_to, stack_turn, line_turn, Aimed, Sane}
use Rattle.states.specs.declared.Spot.{Spot}
use Rattle.states.specs.declared.Target.{Target}
use Rattle.ways.specs.declared.Lane.{Lane}
use Rattle.ways.specs.declared.Taking.{Taking}
use Rattle.ways.specs.declared.ClassWay.{ClassWay}
use Rattle.ways.specs.declared.Way.{Way}

-- ---- a lane

-- a word written of a line is the place that it comes from times pack_by and a number; the state before, by that place and that number
unfoldable pub lane_state : Lane → ℕ → ℕ
lane_state lane e = e / pack_by * lane.block + (lane.home + e % pack_by * lane.weight)

-- is a line with the number y taken, by the boats' table B? All, only those with the number x, the read ones of the others, those of
-- its class, or those of another class
abbrev pub taken_by : (ℕ → ℕ) → Taking → ℕ → Bool
taken_by B Taking.All y = true
taken_by B (Taking.Only x) y = eqb y x
taken_by B (Taking.ReadBut x) y = read_but B x y
taken_by B (Taking.Sister x) y = sister_of B x y
taken_by B (Taking.Foreign x) y = foreign_to B x y

-- the number x
abbrev pub number_in : Taking → ℕ
number_in Taking.All = 0
number_in (Taking.Only x) = x
number_in (Taking.ReadBut x) = x
number_in (Taking.Sister x) = x
number_in (Taking.Foreign x) = x

unfoldable pub lane_turn : (ℕ → ℕ) → ℕ → Lane → ℕ → Search → Search
lane_turn B d lane e st = cond (taken_by B lane.taking (e % pack_by)) (push d (lane_state lane e) st) st

-- the lane to position c with the stack u
pub record LaneTo (plan : Plan) (c u weight : ℕ) (taking : Taking) (lane : Lane) : Type 0 where
  pub block-is : lane.block ≡ (plan.done + 1) * plan.stacks
  pub home-is : lane.home ≡ c * plan.stacks + u
  pub weight_is : lane.weight ≡ weight
  pub taking-is : lane.taking ≡ taking

-- its numbers are small
pub record Narrow (lane : Lane) : Type 0 where
  pub block-low : lane.block ≤ largest
  pub home-low : lane.home ≤ largest
  pub weight-low : lane.weight ≤ largest
  pub number-low : number_in lane.taking ≤ largest

-- it does not ask for classes
abbrev pub by_class : Taking → Bool
by_class Taking.All = false
by_class (Taking.Only x) = false
by_class (Taking.ReadBut x) = false
by_class (Taking.Sister x) = true
by_class (Taking.Foreign x) = true

abbrev pub NoClass : Taking → Type 0
NoClass taking = by_class taking ≡ false

abbrev pub Plain : Lane → Type 0
Plain lane = NoClass lane.taking

-- the thin words of a sieve do for it: only the place that a word says and whether its number is taken matter, and the numbers taken are a set
-- that is served
pub record ThinLane (sieve : Sieve) (B : ℕ → ℕ) (lane : Lane) : Type 0 where
  pub flat : lane.weight ≡ 0
  pub served : ServedBy sieve B (taken_by B lane.taking)

-- each of the words from lo up to hi gives one of so many states
abbrev pub Within : Lane → ℕ → ℕ → ℕ → List ℕ → Type 0
Within lane size lo hi w = (p : ℕ) → lo ≤ p → p < hi → lane_state lane (get_or w p 0) < size

-- ---- the lines of a key

-- line i, if it has the key k, by the word written of it
unfoldable pub run_turn : Order → Plan → List ℕ → ℕ → (ℕ → Search → Search) → ℕ → Search → Search
run_turn o plan g k f i st = cond (eqb (key_in o plan g i) k) (f (pack_in o plan g i) st) st

-- all lines of the key, by the words of the area
abbrev pub run_lines : Order → Plan → List ℕ → ℕ → ℕ → Lane → Search → Search
run_lines o plan w k d lane = turns (run_turn o plan (front plan w) k (lane_turn (boats_in plan w) d lane)) 0 plan.lines

-- what the loaded words g have to be: boats have numbers below the radix, and lines go between the places
pub record Told (plan : Plan) (g : List ℕ) : Type 0 where
  pub codes-low : (i : ℕ) → i < plan.lines → code_at plan g i < plan.radix
  pub starts : (i : ℕ) → i < plan.lines → from_in (word_at plan g i) < plan.places
  pub ends : (i : ℕ) → i < plan.lines → to_in (word_at plan g i) < plan.places

-- every line of the key gives a state
abbrev pub Gives : Order → Plan → List ℕ → ℕ → Lane → Type 0
Gives o plan g k lane = (i : ℕ) → i < plan.lines → lane_state lane (pack_in o plan g i) < plan.size

-- ---- a way

-- by the loaded words g, the run of the key k and the lane do what line i does for all `count` stacks
pub record Runs (o : Order) (plan : Plan) (g : List ℕ) (s : Spot) (t : Target) (c count k : ℕ) (lane : Lane) : Type 0 where
  pub key-low : k < keys o plan
  pub narrow : Narrow lane
  pub gives : Gives o plan g k lane
  pub same : (d i : ℕ) → i < plan.lines → (st : Search) → line_turn plan g s t d c count i st ≡ run_turn o plan g k (lane_turn (boat_at plan g) d lane) i st

-- a way is right for so many stacks
abbrev pub Right : Plan → List ℕ → Spot → Target → ℕ → ℕ → Way → Type 0
Right plan g s t c count (Way.ByBoat k lane) = (0 < plan.keeps) × Plain lane × Runs Order.Boat plan g s t c count k lane
Right plan g s t c count (Way.ByKind k lane) = Plain lane × Runs Order.Kind plan g s t c count k lane
Right plan g s t c count Way.ByStack = Unit {0}
Right plan g s t c count Way.Nowhere = (d i : ℕ) → i < plan.lines → (st : Search) → line_turn plan g s t d c count i st ≡ st

-- a way by classes is right where the stack after the position is the state's
abbrev pub ClassRight : Plan → List ℕ → Spot → Target → ℕ → ClassWay → Type 0
ClassRight plan g s t c (ClassWay.Sister k lane) = ((B : ℕ → ℕ) → ThinLane Sieve.Sisters B lane) × Runs Order.Kind plan g s t c 1 k lane
ClassRight plan g s t c (ClassWay.Foreign k lane) = ((B : ℕ → ℕ) → ThinLane Sieve.Classes B lane) × Runs Order.Kind plan g s t c 1 k lane

-- by the boats' table B, what `count` stacks of a line do, whatever line: if p has its boat's number x, the state with the stack u x is pushed,
-- else nothing is done
pub record Single (B : ℕ → ℕ) (plan : Plan) (s : Spot) (t : Target) (count : ℕ) (p : ℕ → Bool) (u : ℕ → ℕ) : Type 0 where
  pub fits : (x : ℕ) → x < plan.radix → u x < plan.stacks
  pub law : (d home x : ℕ) → x < plan.radix → (st : Search) → turns (stack_turn B plan.radix s d home x t.weight t.stack) 0 count st ≡ cond (p x) (push d (home + u x) st) st

-- a way is right where the stacks of a line do this: p says by the boats' table which boats' numbers are taken
abbrev pub RightFor : Plan → Spot → Target → ℕ → ((ℕ → ℕ) → ℕ → Bool) → (ℕ → ℕ) → Way → Type 0
RightFor plan s t c p u way =
    (g : List ℕ) (count : ℕ) → Told plan g → Single (boat_at plan g) plan s t count (p (boat_at plan g)) u → Right plan g s t c count way

-- what a way is chosen from: a state and a position before it, by their numbers
pub record Before (plan : Plan) (s : Spot) (t : Target) (c leaves : ℕ) : Type 0 where
  pub area : ℕ
  pub laid : Laid plan area
  pub aimed : Aimed plan t
  pub sane : Sane s
  pub kind-low : s.kind ≤ 15
  pub position-low : c ≤ plan.done
  pub leaves-low : leaves ≤ plan.keeps
