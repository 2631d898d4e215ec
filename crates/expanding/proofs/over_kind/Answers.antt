-- `expanding::over_kind` meets its contract, by either table. Assumes nothing.
use native.Mathlib.Omega.{arith}
use Rattle.states.specs.declared.Sieve.TheVariants as Sieve
use Rattle.thinned.specs.Runs.{stamps-are}
use Rattle.ways.specs.Filed.{Sieved}
use Rattle.ways.proofs.Filing.{kinds-fit}
use Rattle.expanding.proofs.over_kind.Goals as goal

pub over_thin-requires-clause-laid : goal.over_thin-requires-clause-laid
over_thin-requires-clause-laid c =
    let (laid, filed, low) = c.requires.laid in
    let made : Sieved Sieve.Boats c.args.plan c.args.work.now = record { room = omega (arith, stamps-are laid, filed.basic.room); thin = filed.basic.thin } in
    (laid, filed, made, low)

pub over_run-requires-clause-sorted : goal.over_run-requires-clause-sorted
over_run-requires-clause-sorted c =
    let (laid, filed, low) = c.requires.laid in
    (filed.basic.kinds, kinds-fit laid filed.basic)
