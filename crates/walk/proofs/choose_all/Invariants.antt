-- `walk::choose_all`: trying the lines from `line` on is trying all lines, for those below it gathered nothing.
use Rattle.std.proofs.Common.{◌≡◌, ◌-◌}
use Rattle.area.specs.Area.{Under}
use Rattle.graph.specs.PhaseTwo.{try}
use Rattle.states.specs.Pairs.{found_forth}
use Rattle.walk.specs.Chosen.{try_table}
use Rattle.walk.specs.Leading.{leads}
use Rattle.walk.proofs.choose_all.Given as goal

abbrev pub invariant-loop-line : goal.invariant-loop-line
invariant-loop-line l =
    let E = leads l.program l.plan l.initial.work in
    let m = l.plan.lines in
    record {
      whole : try E l.want l.lo (m - l.line) l.line (found_forth l.plan l.tail l.work) ≡ try E l.want l.lo m 0 (found_forth l.plan l.tail l.initial.work);
      under : Under l.plan.marks l.plan.size (try_table E l.want l.lo m 0) l.tail l.initial.work (try_table E l.want l.lo (m - l.line) l.line) l.tail l.work;
    }
