-- `ways::lines_for` meets its contract: the run of the kind is enough, and its thin words are where they are taken. Assumes nothing.
use Rattle.ways.proofs.Filing.{kinds-fit}
use Rattle.ways.proofs.Stacked.{key-low, full-enough, thin-enough}
use Rattle.ways.proofs.lines_for.Goals as goal

pub thin_of-requires-clause-k_bound : goal.thin_of-requires-clause-k_bound
thin_of-requires-clause-k_bound c =
    (key-low c.args.plan c.args.target.place c.args.spot.kind c.requires.kind_bound.1 c.requires.kind_bound.0, (c.has_thin.ensures c.if-has_thin.true).room)

pub returns-in-Some : goal.returns-in-Some
returns-in-Some c =
    let x = c.args in
    let made = c.has_thin.ensures c.if-has_thin.true in
    let served = rw c.in-Some.is at c.enough.ensures in
    let (lo, hi, rising, inside) = c.thin_of.ensures in
    thin-enough x.plan _ c.requires.laid.0 c.requires.laid.1 c.requires.filed x.spot x.target c.requires.kind_bound.0 c.requires.kind_bound.1 _ _ rising inside _ made served lo hi

pub run_of-requires-clause-k_bound : goal.run_of-requires-clause-k_bound
run_of-requires-clause-k_bound c =
    (key-low c.args.plan c.args.target.place c.args.spot.kind c.requires.kind_bound.1 c.requires.kind_bound.0, kinds-fit c.requires.laid.0 c.requires.filed.basic)

pub returns-in_default : goal.returns-in_default
returns-in_default c =
    let x = c.args in
    let (lo, hi, rising, inside) = c.run_of.ensures in
    full-enough x.plan _ c.requires.laid.0 c.requires.laid.1 c.requires.filed x.spot x.target c.requires.kind_bound.0 c.requires.kind_bound.1 _ _ rising inside lo hi
