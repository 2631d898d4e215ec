-- `boats::first_from`: of the words read so far none is the boat's.
use Rattle.boats.specs.Counting.{NoneBefore}
use Rattle.boats.proofs.first_from.Given as goal

abbrev pub invariant-loop-j : goal.invariant-loop-j
invariant-loop-j l = NoneBefore l.noted l.boat l.j
