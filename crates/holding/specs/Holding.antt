-- What an area holds of a search between its calls: the numbers and the pattern in front, and what must hold of these and of the lines so that the
-- search can be moved on (`Sound`). A check says yes exactly where that holds.
use Rattle.std.specs.Prelude.{◌≡◌, List, [], ◌∷◌, map, ℕ, ◌+◌, ◌*◌, ◌%◌, ◌≤◌, ◌<◌, min, length, get_or, Option, None, Some}
use Rattle.meaning.specs.Outcome.{passed}
use Rattle.meaning.specs.Pattern.{Pattern, unfolded, keeps, read_pattern, none_given}
use Rattle.request.specs.Layout.{table_words, Laid, from_in, to_in}
use Rattle.request.specs.declared.Plan.{Plan}
use Rattle.search.specs.Loaded.{code_at, word_at}
use Rattle.area.specs.Area.{stretch}
use Rattle.states.specs.Spots.{front}
use Rattle.holding.specs.declared.Counters.{Counters}
use Rattle.holding.specs.declared.SearchState.{SearchState}

-- ---- the words in front

-- the first word of what is loaded of the record
abbrev pub tables_at : ℕ
tables_at = 209

-- the different boats and one, the places, the lines, the place asked about, how many bytes the pattern has
abbrev pub radix_in : List ℕ → ℕ
radix_in w = get_or w 0 0

abbrev pub places_in : List ℕ → ℕ
places_in w = get_or w 1 0

abbrev pub lines_in : List ℕ → ℕ
lines_in w = get_or w 2 0

abbrev pub asked_in : List ℕ → ℕ
asked_in w = get_or w 3 0

abbrev pub length_in : List ℕ → ℕ
length_in w = get_or w 4 0

-- the numbers that move
unfoldable pub counters_in : List ℕ → Counters
counters_in w = record {
  phase = get_or w 5 0;
  expanded = get_or w 6 0;
  found = get_or w 7 0;
  far = get_or w 8 0;
  rest = get_or w 9 0;
  chosen = get_or w 10 0;
  noted = get_or w 11 0;
}

abbrev pub numbers_of : Counters → List ℕ
numbers_of s = s.phase ∷ s.expanded ∷ s.found ∷ s.far ∷ s.rest ∷ s.chosen ∷ s.noted ∷ []

-- so many of the pattern's bytes, and all of them that there is room for
abbrev pub bytes_of : ℕ → List ℕ → List ℕ
bytes_of n w = map (λ x. x % 256) (stretch 17 n w)

abbrev pub bytes_in : List ℕ → List ℕ
bytes_in w = bytes_of (min (length_in w) 192) w

-- ---- what is checked

pub record CountsRange (w : List ℕ) : Type 0 where
  pub some-radix : 0 < radix_in w
  pub few-boats : radix_in w ≤ 4097
  pub some-place : 0 < places_in w
  pub few-places : places_in w ≤ 1024
  pub few-lines : lines_in w ≤ 4096

pub record InRange (w : List ℕ) : Type 0 where
  pub counts : CountsRange w
  pub from_low : asked_in w < places_in w
  pub short : length_in w ≤ 192

pub record InOrder (at : Counters) : Type 0 where
  pub expanded-low : at.expanded ≤ at.found
  pub rest-low : at.rest ≤ at.found
  pub phases : at.phase ≤ 2

pub record OfPlan (size lines : ℕ) (at : Counters) : Type 0 where
  pub found-low : at.found ≤ size
  pub chosen-low : at.chosen ≤ lines
  pub noted-low : at.noted ≤ lines

-- by the loaded words g
pub record LineSound (plan : Plan) (g : List ℕ) (i : ℕ) : Type 0 where
  pub starts : from_in (word_at plan g i) < plan.places
  pub ends : to_in (word_at plan g i) < plan.places
  pub code-low : code_at plan g i < plan.radix

abbrev pub LinesSound : Plan → List ℕ → Type 0
LinesSound plan g = (i : ℕ) → i < plan.lines → LineSound plan g i

-- ---- the plan

-- the plan is that of the numbers in front, for so many positions and keeps, and the area has the four stretches and the lines in order of a place
pub record PlanIs (w : List ℕ) (done keeps : ℕ) (plan : Plan) : Type 0 where
  pub places-are : plan.places ≡ places_in w
  pub lines_are : plan.lines ≡ lines_in w
  pub radix-is : plan.radix ≡ radix_in w
  pub done-is : plan.done ≡ done
  pub keeps-are : plan.keeps ≡ keeps
  pub boats-at : plan.boats ≡ tables_at
  pub laid : Laid plan (length w)
  pub room : plan.base + 4 * plan.size + table_words plan.places plan.lines ≤ length w

abbrev pub PlanRight : List ℕ → ℕ → ℕ → Option Plan → Type 0
PlanRight w done keeps (Some plan) = PlanIs w done keeps plan
PlanRight w done keeps None = (plan : Plan) → PlanIs w done keeps plan → ⊥

-- and the pattern reads as one with so many
pub record PlanOf (w pat : List ℕ) (plan : Plan) : Type 0 where
  pub tree : Pattern
  pub reads : read_pattern none_given pat ≡ passed tree
  pub is : PlanIs w (unfolded tree) (keeps tree) plan

abbrev pub PlanRead : List ℕ → List ℕ → Option Plan → Type 0
PlanRead w pat (Some plan) = PlanOf w pat plan
PlanRead w pat None = (plan : Plan) → PlanOf w pat plan → ⊥

-- ---- the search

-- by the plan: its numbers are in order, and its lines are sound
pub record StateIs (plan : Plan) (w : List ℕ) (s : SearchState) : Type 0 where
  pub plan-is : s.plan ≡ plan
  pub from_is : s.from ≡ asked_in w
  pub at-is : s.at ≡ counters_in w
  pub order : InOrder s.at
  pub fits : OfPlan plan.size plan.lines s.at
  pub lines : LinesSound plan (front plan w)

abbrev pub StateRight : Plan → List ℕ → Option SearchState → Type 0
StateRight plan w (Some s) = StateIs plan w s
StateRight plan w None = (s : SearchState) → StateIs plan w s → ⊥

pub record Sound (w pat : List ℕ) (s : SearchState) : Type 0 where
  pub range : InRange w
  pub planned : PlanOf w pat s.plan
  pub state : StateIs s.plan w s

-- the search that is taken out is sound, and none is taken out only where none is
abbrev pub TakenRight : List ℕ → List ℕ → Option SearchState → Type 0
TakenRight w pat (Some s) = Sound w pat s
TakenRight w pat None = (s : SearchState) → Sound w pat s → ⊥
