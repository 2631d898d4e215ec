-- `walk::choose_here`: trying the run's words from k on is trying all lines, for those below k gathered nothing. The run's words are lines.
use Rattle.std.proofs.Common.{◌≡◌, ◌-◌}
use Rattle.area.specs.Area.{stretch, Under}
use Rattle.graph.specs.PhaseTwo.{try}
use Rattle.search.proofs.ByPlace.{try_list}
use Rattle.states.specs.Pairs.{found_forth}
use Rattle.walk.specs.Chosen.{try_table}
use Rattle.walk.specs.Leading.{leads}
use Rattle.walk.proofs.Places.{Here, list_table}
use Rattle.walk.proofs.choose_here.Given as goal

abbrev pub invariant-loop-k : goal.invariant-loop-k
invariant-loop-k l =
    let E = leads l.program l.plan l.initial.work in
    let m = l.plan.lines in
    let left = stretch l.k (l.k-end - l.k) l.initial.work in
    record {
      here : Here l.plan l.initial.k l.k-end l.initial.work;
      whole : try_list E l.want l.lo m left (found_forth l.plan l.tail l.work) ≡ try E l.want l.lo m 0 (found_forth l.plan l.tail l.initial.work);
      under : Under l.plan.marks l.plan.size (try_table E l.want l.lo m 0) l.tail l.initial.work (list_table E l.want l.lo m left) l.tail l.work;
    }
