-- A request posed: its record is loaded into the area, for the checker and the finder alike.
use Rattle.std.specs.Prelude.{◌≡◌, List, ℕ, ◌<◌, length}
use Rattle.meaning.specs.Outcome.{passed}
use Rattle.meaning.specs.Pattern.{read_pattern, none_given}
use Rattle.meaning.specs.Request.{Asked}
use Rattle.record.specs.Fit.{Fit}
use Rattle.request.specs.Layout.{Laid, Planned, loaded_of}
use Rattle.request.specs.declared.Plan.{Plan}
use Rattle.search.specs.Front.{tables}

-- the pattern's bytes, the plan, the places and the area are those of a request that passed questions 1 to 17
pub record Posed (q : Asked) (pat : List ℕ) (plan : Plan) (from to : ℕ) (w : List ℕ) : Type 0 where
  pub reads : read_pattern none_given pat ≡ passed q.pattern
  pub planned : Planned q plan
  pub laid : Laid plan (length w)
  pub fit : Fit q.day.lines q.day.places
  pub from_low : from < q.day.places
  pub to_low : to < q.day.places
  pub loaded : tables plan w ≡ loaded_of plan.keeps q.day.lines

-- the area is that of some request
abbrev pub SomePosed : List ℕ → Plan → ℕ → ℕ → List ℕ → Type 0
SomePosed pat plan from to w = (q : Asked) × Posed q pat plan from to w
