-- `backward::all_distances` meets its contract: the goal is found, and the search goes on from there. Assumes nothing.
use Rattle.area.proofs.Changes.{step-under}
use Rattle.expanding.proofs.Backs.{backing-under}
use Rattle.backward.proofs.Stopping.{seeded-stopped}
use Rattle.backward.proofs.all_distances.Goals as goal

pub seed_alone-t-requires : goal.seed_alone-t-requires
seed_alone-t-requires c =
    (c.requires.backing.fit.laid, c.requires.to_lt_places)

pub run_out-requires : goal.run_out-requires
run_out-requires c =
    record { ready_back = c.seed_alone-t.ensures.ready; backing = backing-under (step-under c.seed_alone-t.ensures) c.requires.backing }

pub returns : goal.returns
returns c =
    seeded-stopped c.args.program.now c.requires.backing.fit.laid c.args.to c.seed_alone-t.ensures c.run_out.ensures
