-- `ways::lane_state` meets its contract: products of small numbers. Assumes nothing.
use mathlib.Core.Path.{refl}
use Rattle.ways.specs.Ways.{lane_state}
use Rattle.ways.proofs.lane_state.Goals as goal

pub returns : goal.returns
unfolding lane_state
returns c = refl
