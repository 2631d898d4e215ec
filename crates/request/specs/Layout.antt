-- The layout of the work area: the limits, where the tables of a plan stand (`Laid`), the plan of a request (`Planned`), a line in one word,
-- and what is loaded.
use Rattle.std.specs.Prelude.{◌≡◌, refl, cond, List, [], ◌++◌, map, leb, length}
use Rattle.std.proofs.Math.Path.{ap}
use Prim.Native.Nat.{ℕ, zero, suc, ◌+◌, ◌*◌, ◌^◌, ◌≤◌, ◌<◌, ◌/◌, ◌%◌}
use Rattle.std.proofs.Common.{arith}
use Rattle.std.proofs.lemmas.List.{length-map}
use Rattle.meaning.specs.Record.{Line, boats}
use Rattle.meaning.specs.Pattern.{unfolded, keeps}
use Rattle.meaning.specs.Windows.{Windows, inside}
use Rattle.meaning.specs.Writing.{line_at}
use Rattle.meaning.specs.Chain.{struck, masked}
use Rattle.meaning.specs.Request.{Asked}
use Rattle.boats.specs.Boats.{as_number}
use Rattle.boats.specs.Codes.{codes}
use Rattle.boats.specs.Table.{boat_table}
use Rattle.request.specs.declared.Plan.{Plan}

-- ---- limits

-- the largest search size (question 16)
abbrev pub largest : ℕ
largest = 1048576

-- the last word at which the search's stretches may begin, after all that is loaded; requests Five and Ten raise it
abbrev pub most_front : ℕ
most_front = 16384

-- an inverse is this number divided by another
abbrev pub scale : ℕ
scale = 4398046511104

-- ---- the tables of a plan

-- the lines in order of a key: for each key a word, one word more, and a word for each line
abbrev pub table_words : ℕ → ℕ → ℕ
table_words keys lines = suc keys + lines

-- the boats by their numbers: a word for each, and one for 0, where boats are kept; nothing compares boats otherwise
abbrev pub boat_words : ℕ → ℕ → ℕ
boat_words zero radix = 0
boat_words (suc keeps) radix = radix

-- the first word after phase one's sorted lines and the two words for each place
abbrev pub filed_end : Plan → ℕ
filed_end plan = plan.stamps + 2 * plan.places

-- the first word after phase two's sorted lines
abbrev pub ordered_end : Plan → ℕ
ordered_end plan = plan.bystart + table_words plan.places plan.lines

-- the plan's numbers agree, and its tables stand in an area of so many words
pub record Laid (plan : Plan) (area : ℕ) : Type 0 where
  -- its numbers
  pub some-place : 0 < plan.places
  pub few-places : plan.places ≤ 1024
  pub few-lines : plan.lines ≤ 4096
  pub few-positions : plan.done ≤ 63
  pub few-keeps : plan.keeps ≤ 3
  pub some-radix : 0 < plan.radix
  pub few-boats : plan.radix ≤ 4097
  pub stacks-is : plan.stacks ≡ plan.radix ^ plan.keeps
  pub inverse-is : plan.inverse ≡ scale / plan.stacks + 1
  pub size_is : plan.size ≡ plan.places * (plan.done + 1) * plan.stacks
  pub small : plan.size ≤ largest
  -- what is loaded, end to end
  pub codes_at : plan.codes ≡ plan.boats + boat_words plan.keeps plan.radix
  pub words-at : plan.words ≡ plan.codes + plan.lines
  pub base-at : plan.base ≡ plan.words + plan.lines
  pub few_words : plan.base ≤ most_front
  -- the search's stretches
  pub marks-at : plan.marks ≡ plan.base + plan.size
  pub room : plan.base + 3 * plan.size ≤ area
  -- phase one's sorted lines, in words that it does not use otherwise
  pub kinds-at : plan.bykind ≡ plan.base + 2 * plan.size
  pub boats-at : plan.byboat ≡ plan.bykind + table_words (plan.places * 16) plan.lines
  pub thin_at : plan.thin ≡ plan.byboat + table_words (plan.places * plan.radix) plan.lines
  pub stamps-at : plan.stamps ≡ plan.thin + table_words (plan.places * 16) plan.lines
  pub filed-is : plan.filed ≡ leb (filed_end plan) area
  -- phase two's sorted lines, after the frontiers
  pub starts-at : plan.bystart ≡ plan.base + 3 * plan.size
  pub ordered-is : plan.ordered ≡ leb (ordered_end plan) area

-- what a plan is made from: the numbers of a request that passed question 16, the first word, and how many words the area has
pub record Fitting (places lines done keeps radix size at area : ℕ) : Type 0 where
  pub some-place : 0 < places
  pub few-places : places ≤ 1024
  pub few-lines : lines ≤ 4096
  pub few-positions : done ≤ 63
  pub few-keeps : keeps ≤ 3
  pub some-radix : 0 < radix
  pub few-boats : radix ≤ 4097
  pub size_is : size ≡ places * (done + 1) * radix ^ keeps
  pub small : size ≤ largest
  pub few_words : at + boat_words keeps radix + lines + lines ≤ most_front
  pub room : at + boat_words keeps radix + lines + lines + 3 * size ≤ area

-- the plan's numbers are those of what is asked about
pub record Planned (q : Asked) (plan : Plan) : Type 0 where
  pub places-are : plan.places ≡ q.day.places
  pub lines_are : plan.lines ≡ length q.day.lines
  pub done-is : plan.done ≡ unfolded q.pattern
  pub keeps-are : plan.keeps ≡ keeps q.pattern
  pub radix-is : plan.radix ≡ suc (length (boats q.day.lines))

-- ---- a line in one word: from, to and kind, 10, 10 and 4 bits; kind 0 says that the line may not be used

abbrev pub line_word : Line → ℕ
line_word l = l.from * 16384 + l.to * 16 + l.kind

abbrev pub from_in : ℕ → ℕ
from_in w = w / 16384 % 1024

abbrev pub to_in : ℕ → ℕ
to_in w = w / 16 % 1024

abbrev pub kind_in : ℕ → ℕ
kind_in w = w % 16

-- a line outside its kind's window has kind 0
abbrev pub word_met : Windows → Line → ℕ
word_met w l = line_word (cond (inside w l) l (struck l))

-- the lines as the search meets them
abbrev pub met_by : Windows → List Line → List Line
met_by w lines = masked (λ i. inside w (line_at lines i)) 0 lines

-- what is put into a word is read off it
module _ (l : Line) (from_low : l.from < 1024) (to_low : l.to < 1024) (kind-low : l.kind ≤ 15) where
  pub line-from : from_in (line_word l) ≡ l.from
  line-from = omega arith

  pub line-to : to_in (line_word l) ≡ l.to
  line-to = omega arith

  pub line-kind : kind_in (line_word l) ≡ l.kind
  line-kind = omega arith

-- ---- what is loaded

-- the boats, where some are kept
abbrev pub boats_loaded : ℕ → List Line → List ℕ
boats_loaded zero lines = []
boats_loaded (suc keeps) lines = boat_table lines

-- they fill their words
pub table-long : (lines : List Line) (k : ℕ) → length (boats_loaded k lines) ≡ boat_words k (suc (length (boats lines)))
table-long lines zero = refl
table-long lines (suc k) = unfold boat_table in ap suc (length-map (boats lines) as_number)

-- where some are kept they have a word for each number
pub some_words : (lines : List Line) (radix k : ℕ) → (k ≡ 0 → ⊥) → (boats_loaded k lines ≡ boat_table lines) × (boat_words k radix ≡ radix)
some_words lines radix zero some = absurd (some refl)
some_words lines radix (suc k) some = (refl, refl)

-- the boats, each line's boat number, the lines; for a pattern with so many keeps
abbrev pub loaded_of : ℕ → List Line → List ℕ
loaded_of keeps lines = boats_loaded keeps lines ++ (codes lines ++ map line_word lines)
