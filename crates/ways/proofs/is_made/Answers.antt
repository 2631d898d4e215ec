-- `ways::is_made` meets its contract: there is room, and the first word is not 0. Assumes nothing.
use Rattle.thinned.specs.Runs.{stamps-are, stamps-small}
use Rattle.ways.proofs.is_made.Goals as goal

pub thin_end-requires : goal.thin_end-requires
thin_end-requires c =
    (stamps-are c.requires, stamps-small c.requires, c.requires.few-places)

pub thin_at-requires : goal.thin_at-requires
thin_at-requires c =
    (stamps-are c.requires, stamps-small c.requires, c.requires.few-places)
