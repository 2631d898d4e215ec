-- `ways::exact_way` meets its contract, by which boats pass. Assumes nothing.
use mathlib.Core.Path.{subst}
use Rattle.states.specs.Spots.{front, TakenBy}
use Rattle.ways.proofs.Right.{stack-fits, nowhere}
use Rattle.ways.proofs.Chosen.{any-single, only-single, but-single}
use Rattle.ways.proofs.exact_way.Goals as goal

pub boat_way-requires : goal.boat_way-requires
boat_way-requires c =
    let takes = subst (TakenBy _ _ _ _) c.in-Only.is c.taken_by.ensures in
    (c.requires.before, stack-fits _ _ _ _ _ c.requires.before, takes.0)

pub returns-in-Any : goal.returns-in-Any
returns-in-Any c =
    let any = subst (TakenBy _ _ _ _) c.in-Any.is c.taken_by.ensures in
    c.kind_way.ensures ((front c.args.plan c.args.work.now)) 1 c.requires.laid.1 (any-single _ _ _ _ _ _ c.requires.before c.if-spot.false any)

pub returns-in-Only : goal.returns-in-Only
returns-in-Only c =
    let takes = subst (TakenBy _ _ _ _) c.in-Only.is c.taken_by.ensures in
    c.boat_way.ensures ((front c.args.plan c.args.work.now)) 1 c.requires.laid.1 (only-single _ _ _ _ _ _ c.requires.before c.if-spot.false _ takes.1)

pub returns-in-ReadBut : goal.returns-in-ReadBut
returns-in-ReadBut c =
    let takes = subst (TakenBy _ _ _ _) c.in-ReadBut.is c.taken_by.ensures in
    c.kind_way-in-ReadBut.ensures ((front c.args.plan c.args.work.now)) 1 c.requires.laid.1 (but-single _ _ _ _ _ _ c.requires.before c.if-spot.false _ takes.1)

pub returns-in-Nobody : goal.returns-in-Nobody
returns-in-Nobody c =
    let none = subst (TakenBy _ _ _ _) c.in-Nobody.is c.taken_by.ensures in
    nowhere _ _ _ _ _ c.requires.before ((front c.args.plan c.args.work.now)) c.if-spot.false none
