-- What phase one goes by: the loaded tables, and, where the plan has room for them, the lines sorted.
use Rattle.std.specs.Prelude.{◌≡◌, true, List, ℕ}
use Rattle.request.specs.declared.Plan.{Plan}
use Rattle.states.specs.Spots.{Fit}
use Rattle.ways.specs.Filed.{Filed}

pub record Backing (plan : Plan) (a : List ℕ) (w : List ℕ) : Type 0 where
  pub fit : Fit plan a w
  pub tables : plan.filed ≡ true → Filed plan w
