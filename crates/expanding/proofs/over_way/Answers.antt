-- `expanding::over_way` meets its contract: the run chosen does what all lines do, and where no line leads back they do nothing.
-- Assumes nothing.
use native.Mathlib.Omega.{arith}
use Rattle.ways.proofs.Filing.{boats-fit}
use Rattle.graph.proofs.Loops.{turns-idle}
use Rattle.area.proofs.Changes.{step-as, step-none}
use Rattle.expanding.proofs.Backs.{run-lines}
use Rattle.expanding.proofs.over_way.Goals as goal

pub over_run-requires-clause-sorted : goal.over_run-requires-clause-sorted
over_run-requires-clause-sorted c =
    let r = rw c.in-ByBoat.is at c.way_of.ensures in (c.requires.filed.basic.boats r.0, boats-fit c.requires.laid.0 c.requires.filed.basic)

pub returns-in-ByBoat : goal.returns-in-ByBoat
returns-in-ByBoat c = let r = rw c.in-ByBoat.is at c.way_of.ensures in step-as _ c.over_run.ensures (run-lines r.2 _ _)

pub returns-in-ByKind : goal.returns-in-ByKind
returns-in-ByKind c = let r = rw c.in-ByKind.is at c.way_of.ensures in step-as _ c.over_kind.ensures (run-lines r.1 _ _)

pub returns-in-Nowhere : goal.returns-in-Nowhere
returns-in-Nowhere c =
    let r = rw c.in-Nowhere.is at c.way_of.ensures in step-none _ c.requires.ready_back (turns-idle _ 0 c.args.plan.lines _ (λ i from less. r c.args.d i (omega (arith, less)) _))
