-- `ways::boat_way` meets its contract: the key is a place and a boat number, and the lane the position's with the stack. Assumes nothing.
use mathlib.Core.Path.{refl, ap}
use native.Mathlib.Omega.{arith}
use Rattle.ways.proofs.Right.{boat-runs}
use Rattle.ways.specs.Ways.{by_class}
use Rattle.ways.proofs.boat_way.Goals as goal

pub returns : goal.returns
returns c =
    λ g count told single. (omega (arith, c.if-plan-eq0.false), ap by_class c.lane_at-lane.ensures.taking-is, boat-runs _ _ _ _ _ c.requires.0 g told count _ _ c.args.u c.args.boat c.lane_at-lane.ensures refl c.requires.2 c.requires.1 single)
