-- `states::spot_at` meets its contract, number by number. Assumes nothing.
use Rattle.positions.specs.Program.{level-few, depth-few}
use Rattle.states.specs.Spots.{spot_in}
use Rattle.states.proofs.spot_at.Goals as goal

pub power-requires : goal.power-requires
power-requires c = rw (c.from-2.ensures, c.row_at-row.ensures) (c.requires.c_bound.1, level-few _ _, c.requires.c_bound_2.0)

pub power-requires-2 : goal.power-requires-2
power-requires-2 c = rw (c.from-3.ensures, c.row_at-row.ensures) (c.requires.c_bound.1, depth-few _ _, c.requires.c_bound_2.1)

pub returns : goal.returns
unfolding spot_in
returns c = rw (c.from.ensures, c.power-2.ensures, c.from-3.ensures, c.power.ensures, c.from-2.ensures, c.row_at-row.ensures)
