-- `boats::first_same`: of the words read so far none is the boat's, in a turn and from turn to turn.
use Rattle.std.proofs.Common.{◌*◌}
use Rattle.boats.specs.Counting.{NoneBefore}
use Rattle.boats.proofs.first_same.Given as goal

abbrev pub invariant-loop-turn : goal.invariant-loop-turn
invariant-loop-turn l = NoneBefore l.noted l.boat (4 * l.turn)
