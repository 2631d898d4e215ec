-- `ways::forgetting_way` meets its contract: the boat that is forgotten is the line's. Assumes nothing.
use mathlib.Core.Path.{refl}
use native.Mathlib.Omega.{arith}
use Rattle.search.specs.Loaded.{boat_at}
use Rattle.ways.proofs.Chosen.{shallow, weight-small, left-single}
use Rattle.ways.proofs.forgetting_way.Goals as goal

pub kind_way-requires : goal.kind_way-requires
kind_way-requires c =
    (shallow c.requires, weight-small _ _ _ _ _ c.requires, omega arith, refl)

pub returns-then-wants_kept : goal.returns-then-wants_kept
returns-then-wants_kept c =
    λ g told. c.kind_way.ensures g _ told (left-single (boat_at c.args.plan g) _ _ _ _ _ c.requires c.if-spot.false (c.wants_kept.ensures c.if-wants_kept.true) c.if-spot-target.true refl)
