-- What the functions below begin, move and finish promise, in the terms of `Promise` where the area is one that a begin and its moves left.
use Rattle.std.specs.Prelude.{◌≡◌, cond, List, [], ◌∷◌, ◌++◌, ℕ, zero, suc, ◌+◌, ◌-◌, ◌≤◌, ◌<◌, eqb, leb, length, take, drop, replicate, Some, None, IfSome}
use Rattle.std.specs.Prelude.{Option as Maybe}
use Rattle.meaning.specs.Windows.{Options}
use Rattle.meaning.specs.Request.{Asked}
use Rattle.graph.specs.Underway.{taken_up}
use Rattle.request.specs.declared.Plan.{Plan}
use Rattle.search.specs.Asked.{answer, met_asked}
use Rattle.area.specs.Area.{stretch}
use Rattle.forward.specs.Posed.{Posed}
use Rattle.finder.specs.Searching.{Searched}
use Rattle.holding.specs.Holding.{tables_at}
use Rattle.holding.specs.declared.SearchState.{SearchState}
use Rattle.readout.specs.Readout.{chain_of}
use Rattle.compiler.specs.Compiling.{CompiledFrom}
use Rattle.stepping.specs.Stepping.{index_end, MovedOn, Searched as InSearch}
use Rattle.stepping.specs.declared.Going.{Going}
use Rattle.searching.specs.Promise.{search_at, held_in, Left}

-- ---- begin

-- the numbers that stay and the pattern's bytes in front of the words w
unfoldable pub front_of : Plan → ℕ → List ℕ → List ℕ → List ℕ
front_of plan from pat w = (plan.radix ∷ plan.places ∷ plan.lines ∷ from ∷ length pat ∷ []) ++ (stretch 5 12 w ++ (pat ++ drop (17 + length pat) w))

-- the record is loaded behind the words for numbers and pattern, and every other word is 0
pub record ReadyToBegin (pat : List ℕ) (plan : Plan) (from to : ℕ) (w : List ℕ) : Type 0 where
  pub asked : Asked
  pub posed : Posed asked pat plan from to w
  pub boats-at : plan.boats ≡ tables_at
  pub room : index_end plan ≤ length w
  pub short : length pat ≤ 192
  pub front-zero : take tables_at w ≡ replicate tables_at 0
  pub back-zero : drop plan.base w ≡ replicate (length w - plan.base) 0

-- for every request that the area is of
abbrev pub BegunIn : List ℕ → Plan → ℕ → ℕ → List ℕ → List ℕ → Type 0
BegunIn pat plan from to w v = (q : Asked) → Posed q pat plan from to w → v ≡ held_in q pat from to (length w) 0

-- ---- move

-- so many turns are done, by a program that is compiled from the pattern's bytes
pub record TurnedBy (s : SearchState) (pat : List ℕ) (turns : ℕ) (w : List ℕ) (g : Going) (v : List ℕ) : Type 0 where
  pub program : List ℕ
  pub begin : ℕ
  pub compiled : CompiledFrom pat program begin
  pub moved : MovedOn s program begin turns w g v

-- r states are taken up
pub record MovedIn (s : SearchState) (pat : List ℕ) (amount : ℕ) (w : List ℕ) (r : ℕ) (v : List ℕ) : Type 0 where
  pub few : r ≤ amount
  pub small : r ≤ 2097154
  pub long : length v ≡ length w
  pub begun : (rec : List ℕ) (from to : ℕ) (options : Options) (q : Asked) (k : ℕ) → Left rec pat from to options q k w
      → (r ≡ taken_up (search_at (met_asked q) from to (k + amount)) - taken_up (search_at (met_asked q) from to k)) × (v ≡ held_in (met_asked q) pat from to (length w) (k + amount))

-- ---- finish

-- the length that a distance's word says, one less; 0 says that there is none
abbrev pub length_by : ℕ → Maybe ℕ
length_by zero = None
length_by (suc n) = Some n

-- a length has 32 bits, and is not the highest of them
abbrev pub Short : Maybe ℕ → Type 0
Short r = IfSome r (λ n. n < 4294967295)

-- nothing is written where there is no chain, or the output does not hold it
abbrev pub Kept : Maybe ℕ → List ℕ → List ℕ → Type 0
Kept None out after = after ≡ out
Kept (Some n) out after = length out < n → after ≡ out

-- a chain of that length at the front of an output that holds it
abbrev pub put_out : Maybe ℕ → List ℕ → List ℕ → List ℕ
put_out None c out = out
put_out (Some n) c out = cond (leb n (length out)) (c ++ drop n out) out

-- the length is that of the chain that phase two found; and where a search stands in the area, the chain by the marks is written
pub record ReadOut (s : SearchState) (w out : List ℕ) (r : Maybe ℕ) (after : List ℕ) : Type 0 where
  pub short : Short r
  pub length-is : r ≡ cond (eqb s.at.phase 1) (length_by s.at.far) None
  pub kept : Kept r out after
  pub after_is : InSearch s w → after ≡ put_out r (chain_of s.plan s.at.found s.at.far w) out

pub record FinishedIn (s : SearchState) (pat w out : List ℕ) (r : Maybe ℕ) (after : List ℕ) : Type 0 where
  pub short : Short r
  pub long : length after ≡ length out
  pub kept : Kept r out after
  pub begun : (rec : List ℕ) (from to : ℕ) (options : Options) (q : Asked) (k : ℕ) → Left rec pat from to options q k w → Searched (answer q from to) r out after
