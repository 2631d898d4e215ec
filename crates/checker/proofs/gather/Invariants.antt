-- `checker::gather`: what is left are the turns over the list's states from j on.
use Rattle.std.proofs.Common.{◌-◌}
use Rattle.graph.specs.Loops.{turns}
use Rattle.area.specs.Area.{Under}
use Rattle.search.specs.Loaded.{setting_at}
use Rattle.checker.specs.Walk.{list_turn}
use Rattle.checker.proofs.gather.Given as goal

abbrev pub invariant-loop-j : goal.invariant-loop-j
invariant-loop-j l =
    let turn = list_turn (setting_at l.program l.plan l.initial.work) l.plan l.initial.work l.line in
    Under l.plan.marks l.plan.size (turns turn 0 l.count) 0 l.initial.work (turns turn l.j (l.count - l.j)) l.t l.work
