-- `walk::gather_line`: the states of the frontier below index j are done, and what is left is the turns from j on.
use Rattle.std.proofs.Common.{◌-◌}
use Rattle.graph.specs.Loops.{turns}
use Rattle.area.specs.Area.{Under}
use Rattle.graph.specs.PhaseTwo.{gather}
use Rattle.walk.specs.Leading.{leads}
use Rattle.walk.proofs.Ahead.{gather_turn}
use Rattle.walk.proofs.gather_line.Given as goal

abbrev pub invariant-loop-j : goal.invariant-loop-j
invariant-loop-j l =
    let E = leads l.program l.plan l.initial.work in
    Under l.plan.marks l.plan.size (gather E l.want l.i l.lo) l.tail l.initial.work (turns (gather_turn E l.want l.i) l.j (l.tail - l.j)) l.t l.work
