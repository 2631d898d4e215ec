-- `walk::walk_lines`: what is written so far and the walk from the frontier that is reached are the whole walk; the frontier stands at one place.
use Rattle.std.proofs.Common.{◌≡◌, ◌++◌, ◌-◌, ◌≤◌, take}
use Rattle.area.specs.Area.{Under}
use Rattle.states.specs.Pairs.{found_forth}
use Rattle.walk.specs.Chosen.{anything}
use Rattle.graph.specs.PhaseTwo.{walk}
use Rattle.walk.specs.Leading.{Together, leads, chain_from}
use Rattle.walk.proofs.walk_lines.Given as goal

abbrev pub invariant-loop-j : goal.invariant-loop-j
invariant-loop-j l =
    record {
      rising : l.lo ≤ l.t;
      whole : take l.j l.x-items ++ walk (leads l.program l.plan l.initial.work) l.plan.lines (l.far - l.j) l.lo (found_forth l.plan l.t l.work)
          ≡ chain_from l.program l.plan l.far (found_forth l.plan l.tail l.initial.work) l.initial.work;
      together : Together l.plan l.lo l.t l.work;
      under : Under l.plan.marks l.plan.size anything l.tail l.initial.work anything l.t l.work;
    }
