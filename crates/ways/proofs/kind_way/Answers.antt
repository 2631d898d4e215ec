-- `ways::kind_way` meets its contract: the key is a place and the position's kind, and the lane the position's. Assumes nothing.
use mathlib.Core.Path.{refl, sym, subst}
use Rattle.ways.proofs.Right.{stack-fits, kind-runs}
use Rattle.ways.proofs.Chosen.{lane-asked}
use Rattle.ways.specs.Ways.{NoClass}
use Rattle.ways.proofs.kind_way.Goals as goal

pub lane_at-lane-requires : goal.lane_at-lane-requires
lane_at-lane-requires c = lane-asked c.requires.0 (stack-fits _ _ _ _ _ c.requires.0)

pub returns : goal.returns
returns c =
    λ g count told single. (subst NoClass (sym c.lane_at-lane.ensures.taking-is) c.requires.3, kind-runs _ _ _ _ _ c.requires.0 g told count _ _ c.args.weight c.args.taking c.lane_at-lane.ensures refl c.requires.1 c.requires.2 single)
