-- What the functions of a request answer, in the terms of `meaning`: the definitions that their contracts cite.
-- No open function's promise uses them.
use Rattle.std.specs.Prelude.{◌≡◌, cond, ◌&&◌, List, ℕ, suc, ◌+◌, ◌*◌, ◌≤◌, ◌<◌, ltb, leb, length, take, Option, Some, None, Result, Ok, IfOk}
use Rattle.meaning.specs.Outcome.{Outcome, refused, passed, ask, and_then}
use Rattle.meaning.specs.Record.{Line, boats}
use Rattle.meaning.specs.Pattern.{unfolded, keeps}
use Rattle.meaning.specs.Windows.{Options, plain}
use Rattle.meaning.specs.Request.{Asked, size_of, ask_both, ask_windows}
use Rattle.boats.specs.Codes.{codes}
use Rattle.refusals.specs.Refusal.{outcome, mapped}
use Rattle.refusals.specs.declared.Refusal.{Refusal}
use Rattle.request.specs.Layout.{largest, table_words, Laid, Planned}
use Rattle.request.specs.declared.Plan.{Plan}
use Rattle.request.specs.declared.Both.{Both}
use Rattle.request.specs.declared.Counts.{Counts}
use Rattle.request.specs.declared.Weight.{Weight}

-- ---- record and pattern

abbrev pub both_of : Asked → Both
both_of q = record { places = q.day.places; lines = length q.day.lines; unfolded = unfolded q.pattern; keeps = keeps q.pattern }

-- of the bytes of a record and a pattern, whatever goes with the question
abbrev pub BothTold : List ℕ → List ℕ → Result Both Refusal → Type 0
BothTold rec pat r = (options : Options) → outcome r ≡ mapped both_of (ask_both rec pat options)

-- the counts of what passes are small
abbrev pub Small : Result Both Refusal → Type 0
Small r = IfOk r (λ b. (0 < b.places) × (b.places ≤ 1024) × (b.lines ≤ 4096) × (b.unfolded ≤ 63) × (b.keeps ≤ 3))

-- ---- the search size

-- a size up to the limit
abbrev pub size_within : ℕ → Option ℕ
size_within n = cond (leb n largest) (Some n) None

-- ---- all questions up to 16

unfoldable pub ask_sized : List ℕ → List ℕ → ℕ → ℕ → Options → Outcome Asked
ask_sized rec pat from to options =
    and_then (ask_both rec pat options) (λ q.
    ask (ltb from q.day.places && ltb to q.day.places) 15
    (ask_windows q
    (ask (leb (size_of q) largest) 16
    (passed q))))

-- the counts are those of what passed, and small
pub record CountsOf (q : Asked) (c : Counts) : Type 0 where
  pub places-are : c.places ≡ q.day.places
  pub lines_are : c.lines ≡ length q.day.lines
  pub unfolded_is : c.unfolded ≡ unfolded q.pattern
  pub keeps-are : c.keeps ≡ keeps q.pattern
  pub radix-is : c.radix ≡ suc (length (boats q.day.lines))
  pub size_is : c.size ≡ size_of q
  pub some-place : 0 < c.places
  pub few-places : c.places ≤ 1024
  pub few-lines : c.lines ≤ 4096
  pub few-positions : c.unfolded ≤ 63
  pub few-keeps : c.keeps ≤ 3
  pub few-boats : c.radix ≤ 4097
  pub small : c.size ≤ largest

-- the question that failed, or the counts of what passed
abbrev pub CountsTold : Outcome Asked → Result Counts Refusal → Type 0
CountsTold (refused number) r = outcome r ≡ refused number
CountsTold (passed q) r = (c : Counts) × (r ≡ Ok c) × CountsOf q c

-- where they pass, the first words are the numbers of the lines' boats
abbrev pub CountsNumbers : List Line → List ℕ → Result Counts Refusal → Type 0
CountsNumbers lines numbers r = IfOk r (λ c. take c.lines numbers ≡ codes lines)

-- ---- the same without 15 and 27

unfoldable pub ask_weight : List ℕ → List ℕ → Outcome Asked
ask_weight rec pat = and_then (ask_both rec pat plain) (λ q. ask (leb (size_of q) largest) 16 (passed q))

-- the lines and the size of what passed
abbrev pub weight_of : Asked → Weight
weight_of q = record { lines = length q.day.lines; size = size_of q }

-- both are small
abbrev pub Light : Result Weight Refusal → Type 0
Light r = IfOk r (λ w. (w.lines ≤ 4096) × (w.size ≤ largest))

-- ---- a request that passes

-- the question that failed, or a plan that fits an area of so many words
abbrev pub Answers : Outcome Asked → ℕ → Result Plan Refusal → Type 0
Answers (refused number) area r = outcome r ≡ refused number
Answers (passed q) area r = (plan : Plan) × (r ≡ Ok plan) × Planned q plan × Laid plan area

-- the first word of the tables of a search that is begun
abbrev pub tables : ℕ
tables = 209

-- the same for a search that is begun: its tables stand from that word on, and after its four stretches there is room for the lines by place
abbrev pub AnswersSearch : Outcome Asked → ℕ → Result Plan Refusal → Type 0
AnswersSearch (refused number) area r = outcome r ≡ refused number
AnswersSearch (passed q) area r =
    (plan : Plan)
    × (r ≡ Ok plan)
    × Planned q plan
    × Laid plan area
    × (plan.boats ≡ tables)
    × (plan.base + 4 * plan.size + table_words plan.places plan.lines ≤ area)

-- where the questions pass, the first words are the numbers of the lines' boats
abbrev pub Numbers : List Line → List ℕ → Result Plan Refusal → Type 0
Numbers lines numbers r = IfOk r (λ plan. take plan.lines numbers ≡ codes lines)
