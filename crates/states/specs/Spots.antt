-- The code's steps by numbers: a position, a state that is expanded and a line as the code holds them, and what it does with them.
-- `proofs/Bridge` shows that loops of these are the loops of `Moves` over the setting that the program and the loaded words say.
use Rattle.std.specs.Prelude.{◌≡◌, Bool, true, false, cond, not, ◌&&◌, List, ℕ, ◌+◌, ◌*◌, ◌-◌, ◌^◌, ◌/◌, ◌%◌, ◌≤◌, ◌<◌, eqb, length, take, Option, Some, None, MatchOption}
use Rattle.meaning.specs.Pattern.{same, other, sister, foreign}
use Rattle.meaning.specs.Language.{Compared, unread, same-boat, same_Class, other-class, meets}
use Rattle.positions.specs.Program.{bit_of, row_at, follow_at, depth_at, leaves_at}
use Rattle.positions.specs.declared.Rule.{Rule}
use Rattle.boats.specs.Table.{class_in, told_by}
use Rattle.request.specs.Layout.{largest, Laid, from_in, to_in, kind_in}
use Rattle.request.specs.declared.Plan.{Plan}
use Rattle.graph.specs.Loops.{turns}
use Rattle.graph.specs.Table.{Search, push}
use Rattle.search.specs.Front.{state_in}
use Rattle.search.specs.Loaded.{boat_at, code_at, word_at}
use Rattle.states.specs.declared.Spot.{Spot}
use Rattle.states.specs.declared.Target.{Target}
use Rattle.states.specs.declared.Takes.{Takes}
use Rattle.states.specs.declared.Kin.{Kin}
use Rattle.states.specs.declared.Told.{Told}

-- ---- what the loops go by

-- the words before the search's stretches: boat numbers and lines stand there
abbrev pub front : Plan → List ℕ → List ℕ
front plan w = take plan.base w

-- the boats' table that stands there
abbrev pub boats_in : Plan → List ℕ → ℕ → ℕ
boats_in plan w = boat_at plan (front plan w)

-- lines start at places
abbrev pub Starts : Plan → List ℕ → Type 0
Starts plan g = (i : ℕ) → i < plan.lines → from_in (word_at plan g i) < plan.places

-- the tables stand in the area, lines go between the places, boat numbers are below the radix, and no stack is deeper than the keeps
pub record Fit (plan : Plan) (a : List ℕ) (w : List ℕ) : Type 0 where
  pub laid : Laid plan (length w)
  pub starts : Starts plan (front plan w)
  pub ends : (i : ℕ) → i < plan.lines → to_in (word_at plan (front plan w) i) < plan.places
  pub codes-low : (i : ℕ) → i < plan.lines → code_at plan (front plan w) i < plan.radix
  pub levels-low : (c : ℕ) → c ≤ plan.done → (row_at a c).level ≤ plan.keeps
  pub depths-low : (c : ℕ) → c ≤ plan.done → depth_at a c ≤ plan.keeps
  pub leaves-low : (c : ℕ) → c ≤ plan.done → leaves_at a c ≤ plan.keeps

-- ---- the comparison of two boats

abbrev pub told_shown : Told → Compared
told_shown Told.Unread = unread
told_shown Told.SameBoat = same-boat
told_shown Told.SameClass = same_Class
told_shown Told.OtherClass = other-class

-- does a rule take it?
abbrev pub met_by : Rule → Compared → Bool
met_by Rule.Never o = false
met_by Rule.Always o = true
met_by Rule.Same o = meets same o
met_by Rule.Other o = meets other o
met_by Rule.Sister o = meets sister o
met_by Rule.Foreign o = meets foreign o

-- the outcomes that a rule takes, as a mask
abbrev pub outcomes : Rule → ℕ
outcomes Rule.Never = 0
outcomes Rule.Always = 15
outcomes Rule.Same = 2
outcomes Rule.Other = 12
outcomes Rule.Sister = 4
outcomes Rule.Foreign = 8

-- ---- a position by its numbers

unfoldable pub spot_in : List ℕ → ℕ → ℕ → Spot
spot_in a R c =
    let x = row_at a c in
    record { kind = x.kind; rule = x.rule; push = x.push; level = R ^ x.level; weight = R ^ x.depth }

-- its powers are powers
pub record Sane (s : Spot) : Type 0 where
  pub some_level : 0 < s.level
  pub some-weight : 0 < s.weight
  pub small-weight : s.weight ≤ largest

-- the stack v without its top, and the stack u with the boat number x on top, where there is a push
abbrev pub off_by : Bool → ℕ → ℕ → ℕ
off_by true d v = v % d
off_by false d v = v

abbrev pub on_by : Bool → ℕ → ℕ → ℕ → ℕ
on_by true d u x = x * d + u
on_by false d u x = u

unfoldable pub off : Spot → ℕ → ℕ
off s v = off_by s.push s.weight v

unfoldable pub on : Spot → ℕ → ℕ → ℕ
on s u x = on_by s.push s.weight u x

-- by the boats' table B: does the boat number x pass, against the stack v of boat numbers below R?
unfoldable pub okay : (ℕ → ℕ) → ℕ → Spot → ℕ → ℕ → Bool
okay B R s x v = met_by s.rule (told_by B x (v / s.level % R))

-- is x the number of a read boat?
abbrev pub read_by : (ℕ → ℕ) → ℕ → Bool
read_by B x = not (eqb (B x) 0)

-- is x the number of a read boat other than y's?
abbrev pub read_but : (ℕ → ℕ) → ℕ → ℕ → Bool
read_but B y x = read_by B x && not (eqb x y)

-- by the boats' table: is x the number of another boat of y's class, which is read?
abbrev pub sister_of : (ℕ → ℕ) → ℕ → ℕ → Bool
sister_of B y x = read_but B y x && eqb (class_in (B x)) (class_in (B y))

-- is it the number of a read boat of another class than y's?
abbrev pub foreign_to : (ℕ → ℕ) → ℕ → ℕ → Bool
foreign_to B y x = read_by B x && not (eqb (class_in (B x)) (class_in (B y)))

-- which boat numbers pass
abbrev pub TakenBy : (ℕ → ℕ) → ℕ → Spot → ℕ → Takes → Type 0
TakenBy B R s v Takes.Any = (x : ℕ) → okay B R s x v ≡ true
TakenBy B R s v (Takes.Only y) = (y < R) × ((x : ℕ) → okay B R s x v ≡ eqb x y)
TakenBy B R s v (Takes.ReadBut y) = (y < R) × ((x : ℕ) → okay B R s x v ≡ read_but B y x)
TakenBy B R s v Takes.Nobody = (x : ℕ) → okay B R s x v ≡ false
TakenBy B R s v Takes.Ask = Unit {0}

abbrev pub KinTaken : (ℕ → ℕ) → ℕ → Spot → ℕ → Option Kin → Type 0
KinTaken B R s v (Some (Kin.Sister y)) = (y < R) × ((x : ℕ) → okay B R s x v ≡ sister_of B y x)
KinTaken B R s v (Some (Kin.Foreign y)) = (y < R) × ((x : ℕ) → okay B R s x v ≡ foreign_to B y x)
KinTaken B R s v None = Unit {0}

-- only the boat at the rule's level does, where it is read
pub record OnlyKept (s : Spot) : Type 0 where
  pub kept : (B : ℕ → ℕ) (R x v : ℕ) → okay B R s x v ≡ (read_by B x && eqb x (v / s.level % R))

-- every boat does
pub record TakesAll (s : Spot) : Type 0 where
  pub every : (B : ℕ → ℕ) (R x v : ℕ) → okay B R s x v ≡ true

-- ---- a state that is expanded, by its numbers

unfoldable pub target_in : List ℕ → Plan → ℕ → Target
target_in a plan t =
    let k = t / plan.stacks % (plan.done + 1) in
    let e = depth_at a k in
    let v = t % plan.stacks % plan.radix ^ e in
    record {
      place = t / plan.stacks / (plan.done + 1);
      position = k;
      depth = e;
      weight = plan.radix ^ e;
      stack = v;
      first = v % plan.radix;
      second = v / plan.radix % plan.radix;
    }

-- its stack's lowest entries are that
pub record Entries (R : ℕ) (t : Target) : Type 0 where
  pub first-is : t.first ≡ t.stack % R
  pub second_is : t.second ≡ t.stack / R % R

-- its place, position and depth are in range
pub record Aimed (plan : Plan) (t : Target) : Type 0 where
  pub place-low : t.place < plan.places
  pub position-low : t.position ≤ plan.done
  pub depth_low : t.depth ≤ plan.keeps
  pub weight_is : t.weight ≡ plan.radix ^ t.depth
  pub stack-low : t.stack < t.weight
  pub entries : Entries plan.radix t

-- ---- forward

-- the position k is the lowest that the mask has
pub record Lowest (mask k : ℕ) : Type 0 where
  pub has : bit_of mask k ≡ 1
  pub none_below : (j : ℕ) → j < k → bit_of mask j ≡ 1 → ⊥

-- `rest` has the mask's positions from j on
pub record From (mask j rest : ℕ) : Type 0 where
  pub same : (i : ℕ) → j ≤ i → bit_of rest i ≡ bit_of mask i
  pub none_below : (i : ℕ) → i < j → bit_of rest i ≡ 1 → ⊥

-- a mask gives its lowest position and leaves the others; none, where it has none
abbrev pub TakesLowest : ℕ → Option ℕ → ℕ → Type 0
TakesLowest mask r rest = MatchOption r (mask ≡ 0) (λ k. (k < 64) × Lowest mask k × From mask (k + 1) rest)

-- the position k, if the mask has it, at the place `to` with the stack v cut to its depth
unfoldable pub next_turn : {A : Type 0} → Plan → List ℕ → ℕ → (ℕ → A → A) → ℕ → ℕ → ℕ → A → A
next_turn plan a mask seen to v k st = cond (eqb (bit_of mask k) 1) (seen (state_in plan to k (v % plan.radix ^ depth_at a k)) st) st

-- ---- backward

-- the stack v undone for the boat number x; `home` is the state with the empty stack at the line's start
unfoldable pub stack_at : (ℕ → ℕ) → ℕ → Spot → ℕ → ℕ → ℕ → ℕ → Search → Search
stack_at B R s d home x v st = cond (eqb (on s (off s v) x) v && okay B R s x (off s v)) (push d (home + off s v) st) st

unfoldable pub stack_turn : (ℕ → ℕ) → ℕ → Spot → ℕ → ℕ → ℕ → ℕ → ℕ → ℕ → Search → Search
stack_turn B R s d home x weight w n = stack_at B R s d home x (n * weight + w)

module _ (plan : Plan) (g : List ℕ) where
  -- line i, if it leads to the target's place and is of the position's kind, for `count` stacks
  unfoldable pub line_turn : Spot → Target → ℕ → ℕ → ℕ → ℕ → Search → Search
  line_turn s t d c count i st =
      cond (eqb (to_in (word_at plan g i)) t.place && eqb (kind_in (word_at plan g i)) s.kind)
      (turns (stack_turn (boat_at plan g) plan.radix s d (state_in plan (from_in (word_at plan g i)) c 0) (code_at plan g i) t.weight t.stack) 0 count st)
      st

-- every stack tried is one of the stacks
abbrev pub Stacks : ℕ → ℕ → ℕ → ℕ → Type 0
Stacks count weight w stacks = (x : ℕ) → x < count → x * weight + w < stacks

-- the position c, if the target's position may come after it: each line, for the stacks that it can leave
unfoldable pub spot_turn : List ℕ → Plan → List ℕ → Target → ℕ → ℕ → Search → Search
spot_turn a plan g t d c st =
    cond (eqb (bit_of (follow_at a c) t.position) 1)
    (turns (line_turn plan g (spot_in a plan.radix c) t d c (plan.radix ^ (leaves_at a c - t.depth))) 0 plan.lines st)
    st
