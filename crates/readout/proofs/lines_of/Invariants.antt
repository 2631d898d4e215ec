-- `readout::lines_of`: the first marks are lines, and the others stay marks.
use Rattle.std.proofs.Common.{◌≡◌, ◌++◌, take, drop}
use Rattle.readout.specs.Readout.{lines_of}
use Rattle.readout.proofs.lines_of.Given as goal

abbrev pub invariant-loop-mark : goal.invariant-loop-mark
invariant-loop-mark l = l.mark-items ≡ lines_of (take l.mark-index l.initial.mark-items) ++ drop l.mark-index l.initial.mark-items
