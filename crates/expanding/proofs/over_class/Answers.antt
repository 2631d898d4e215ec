-- `expanding::over_class` meets its contract, by either table. Assumes nothing.
use Rattle.ways.proofs.Filing.{kinds-fit}
use Rattle.expanding.proofs.over_class.Goals as goal

pub over_run-requires-clause-sorted : goal.over_run-requires-clause-sorted
over_run-requires-clause-sorted c =
    let (laid, filed, low) = c.requires.laid in (filed.basic.kinds, kinds-fit laid filed.basic)
