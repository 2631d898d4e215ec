-- `ways::dropping_way` meets its contract: the boat that is forgotten is the line's, where every boat passes. Assumes nothing.
use native.Mathlib.Omega.{arith}
use Rattle.search.specs.Loaded.{boat_at}
use Rattle.ways.proofs.Chosen.{drop-single}
use Rattle.ways.proofs.dropping_way.Goals as goal

pub returns-then-takes_all : goal.returns-then-takes_all
returns-then-takes_all c =
    let all = c.takes_all.ensures c.if-takes_all.true in
    λ g told. c.kind_way.ensures g _ told (drop-single (boat_at c.args.plan g) _ _ _ _ _ c.requires.0 c.requires.1 (omega (arith, c.if-spot-target.true)) (λ x. all.every _ _ x _))
