-- The setting that a program and the words loaded into the work area say: what the loops of the search go by.
use Rattle.std.specs.Prelude.{cond, List, [], ◌∷◌, ℕ, zero, suc, ◌+◌, ltb, get_or, take}
use Rattle.meaning.specs.Record.{Line}
use Rattle.meaning.specs.Writing.{no_line}
use Rattle.positions.specs.Program.{node_in}
use Rattle.boats.specs.Table.{told_by}
use Rattle.request.specs.Layout.{from_in, to_in, kind_in}
use Rattle.request.specs.declared.Plan.{Plan}
use Rattle.search.specs.Product.{Setting}

-- words of the loaded tables; g is the area's front, or the whole area. A number that has no word in the boats' table has that of an unread one
abbrev pub boat_at : Plan → List ℕ → ℕ → ℕ
boat_at plan g x = cond (ltb (plan.boats + x) plan.codes) (get_or g (plan.boats + x) 0) 0

abbrev pub code_at : Plan → List ℕ → ℕ → ℕ
code_at plan g i = get_or g (plan.codes + i) 0

abbrev pub word_at : Plan → List ℕ → ℕ → ℕ
word_at plan g i = get_or g (plan.words + i) 0

-- a line as its word says it; its boat stands elsewhere
abbrev pub line_in : ℕ → Line
line_in w = record { from = from_in w; kind = kind_in w; boat = no_line.boat; to = to_in w; time = no_line.time }

-- the n lines from line i on
unfoldable pub lines_in : Plan → List ℕ → ℕ → ℕ → List Line
lines_in plan g i zero = []
lines_in plan g i (suc n) = line_in (word_at plan g i) ∷ lines_in plan g (suc i) n

unfoldable pub setting_in : List ℕ → Plan → List ℕ → Setting
setting_in a plan g =
    record {
      lines = lines_in plan g 0 plan.lines;
      code = code_at plan g;
      tells = told_by (boat_at plan g);
      node = node_in a;
      done = plan.done;
      radix = plan.radix;
      deepest = plan.keeps;
    }

-- the same by the words of the whole area, of which those before `base` are the loaded ones
abbrev pub setting_at : List ℕ → Plan → List ℕ → Setting
setting_at program plan w = setting_in program plan (take plan.base w)
