-- `thinned::thin_run` meets its contract: each word read leaves the run under way, one word on. Assumes nothing.
use Rattle.states.specs.Spots.{boats_in}
use Rattle.thinned.specs.Marks.{Going}
use Rattle.thinned.proofs.thin_run.Given as goal

abbrev pub invariant-loop-p : goal.invariant-loop-p
invariant-loop-p l = Going l.table.sieve (boats_in l.plan l.initial.work) l.table.marks l.table.groups l.stamp l.fn.run.lo l.start l.p l.next l.initial.work l.work
