-- `thinned::thin_lines` meets its contract: the keys below k are done. Assumes nothing.
use Rattle.sorted.specs.Sorting.{Kept}
use Rattle.thinned.specs.Thinning.{thin_end}
use Rattle.thinned.specs.Marks.{Made}
use Rattle.states.specs.Spots.{boats_in}
use Rattle.thinned.proofs.thin_lines.Given as goal

abbrev pub invariant-loop-k : goal.invariant-loop-k
invariant-loop-k l =
    record {
      kept : Kept l.table.at (thin_end l.table.sieve l.plan l.table.at) l.fn.work l.work;
      made : Made l.table.sieve l.plan l.plan.bykind l.table.at (boats_in l.plan l.work) l.k l.work;
    }
