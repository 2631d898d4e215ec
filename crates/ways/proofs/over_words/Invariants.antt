-- `ways::over_words` meets its contract, by what is left of its turns; the words gone over stay. Assumes nothing.
use Prim.Native.Nat.{ℕ, ◌-◌, ◌≤◌}
use lib.ListN.{get_or}
use Rattle.graph.specs.Loops.{turns}
use Rattle.graph.specs.Table.{Search}
use Rattle.area.specs.Area.{Under}
use Rattle.states.specs.Spots.{boats_in}
use Rattle.ways.specs.Ways.{lane_turn}
use Rattle.ways.proofs.over_words.Given as goal

abbrev pub invariant-loop-p : goal.invariant-loop-p
invariant-loop-p g l = let turn : ℕ → Search → Search = λ q. lane_turn (boats_in l.plan l.initial.work) l.d l.lane (get_or l.initial.work q 0) in (l.lo ≤ l.p) × (l.p ≤ l.hi) × Under l.plan.base l.plan.size (turns turn l.lo (l.hi - l.lo)) l.tail l.initial.work (turns turn l.p (l.hi - l.p)) l.t l.work
