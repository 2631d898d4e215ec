-- `sweeping::mark_firsts`: the turns below k are done.
use Rattle.std.proofs.Common.{◌+◌, ◌-◌}
use Rattle.graph.specs.Loops.{turns}
use Rattle.states.specs.Pairs.{distances}
use Rattle.sweeping.specs.Sweeping.{first_turn}
use Rattle.sweeping.proofs.Marks.{Amid}
use Rattle.sweeping.proofs.mark_firsts.Given as goal

abbrev pub invariant-loop-k : goal.invariant-loop-k
invariant-loop-k l =
    let turn = first_turn l.plan (distances l.plan l.initial.work) l.begin l.from l.marking.want l.marking.with in
    Amid l.plan (turns turn 0 (l.plan.done + 1)) l.initial.led l.initial.work (turns turn l.k (l.plan.done + 1 - l.k)) l.led l.work
