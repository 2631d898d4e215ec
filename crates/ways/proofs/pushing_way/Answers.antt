-- `ways::pushing_way` meets its contract: the boat on top of the state's stack is the line's, where every boat passes. Assumes nothing.
use native.Mathlib.Omega.{arith}
use Rattle.search.specs.Loaded.{boat_at}
use Rattle.ways.proofs.Chosen.{before-fits, push-single}
use Rattle.ways.proofs.pushing_way.Goals as goal

pub boat_way-requires : goal.boat_way-requires
boat_way-requires c =
    (c.requires.0, before-fits _ _ _ _ _ c.requires.0, omega (arith, c.if-plan-x.false))

pub returns-then-takes_all : goal.returns-then-takes_all
returns-then-takes_all c =
    let all = c.takes_all.ensures c.if-takes_all.true in
    λ g told. c.boat_way.ensures g 1 told (push-single (boat_at c.args.plan g) _ _ _ _ _ c.requires.0 c.requires.1 (λ x. all.every _ _ x _))
