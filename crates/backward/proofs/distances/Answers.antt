-- `backward::distances` meets its contract: the goal is found, and the search goes on from there. Assumes nothing.
use Rattle.area.proofs.Changes.{step-under}
use Rattle.expanding.proofs.Backs.{backing-under}
use Rattle.backward.proofs.Stopping.{seeded-stopped}
use Rattle.backward.proofs.distances.Goals as goal

pub seed_alone-t-requires : goal.seed_alone-t-requires
seed_alone-t-requires c =
    (c.requires.backing.fit.laid, c.requires.from_lt_places.1)

pub search_back-requires : goal.search_back-requires
search_back-requires c =
    record { ready_back = c.seed_alone-t.ensures.ready; backing = backing-under (step-under c.seed_alone-t.ensures) c.requires.backing; from_lt_places = c.requires.from_lt_places.0 }

pub returns : goal.returns
returns c =
    seeded-stopped c.args.program.now c.requires.backing.fit.laid c.args.to c.seed_alone-t.ensures c.search_back.ensures
