-- Both phases as counting loops, from any count of expanded states on. The finder runs these loops over the work area.
use Rattle.std.specs.Prelude.{List, ℕ}
use Rattle.std.proofs.Math.Option.{Option}
use Rattle.graph.specs.Table.{Search}
use Rattle.graph.specs.PhaseOne.{Progress, advance_by}
use Rattle.graph.specs.PhaseTwo.{forward}

-- phase one to its end, N expansions at most, and then phase two from the states S, by m lines
unfoldable pub finish : (ℕ → ℕ → Search → Search) → (List ℕ → ℕ → ℕ → ℕ → Search → Search) → ℕ → ℕ → List ℕ → Progress → Option (List ℕ)
finish expand from_state N m S u = forward from_state N m S (advance_by expand N u).table.dist
