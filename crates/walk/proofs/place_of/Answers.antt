-- `walk::place_of`: the first state of the frontier is where all of them are.
use Rattle.std.proofs.Common.{sym, ap, ◌∙◌, subst, ◌<◌, arith}
use Rattle.states.proofs.Bounds.{place-below}
use Rattle.walk.specs.Leading.{place_at}
use Rattle.walk.proofs.place_of.Goals as goal

pub returns-then-lo-tail : goal.returns-then-lo-tail
returns-then-lo-tail c =
    let (q, stand) = c.requires.together in
    let here = c.place_of.ensures in
    let first = here ∙ (ap (place_at c.args.plan) c.waiting-s.ensures.0 ∙ stand c.args.lo (omega arith) c.if-lo-tail.true) in
    (subst (◌< c.args.plan.places) (sym here) (place-below c.requires.laid c.waiting-s.result c.waiting-s.ensures.1), λ j le less. stand j le less ∙ sym first)
