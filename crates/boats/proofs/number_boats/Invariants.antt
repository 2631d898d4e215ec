-- `boats::number_boats`: after i turns the first i lines are counted and numbered.
use Rattle.std.proofs.Common.{◌≡◌, length}
use Rattle.record.specs.Whole.{lines_of}
use Rattle.boats.specs.Counting.{Counted}
use Rattle.boats.proofs.number_boats.Given as goal

abbrev pub invariant-loop-i : goal.invariant-loop-i
invariant-loop-i l = (length l.noted ≡ 4096) × Counted (lines_of l.day) l.i l.t l.noted l.numbers
