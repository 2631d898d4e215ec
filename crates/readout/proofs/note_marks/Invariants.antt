-- `readout::note_marks`: what the turns left make of the output so far is what all turns make of it at first.
use Rattle.std.proofs.Common.{◌≡◌, ◌-◌}
use Rattle.graph.specs.Loops.{turns}
use Rattle.states.specs.Pairs.{GoodBack}
use Rattle.readout.specs.Readout.{note_turn, noted}
use Rattle.readout.proofs.note_marks.Given as goal

abbrev pub invariant-loop-j : goal.invariant-loop-j
invariant-loop-j l = GoodBack l.plan l.tail l.work → turns (note_turn l.plan l.tail l.far l.work) l.j (l.tail - l.j) l.out ≡ noted l.plan l.tail l.far l.work l.initial.out
