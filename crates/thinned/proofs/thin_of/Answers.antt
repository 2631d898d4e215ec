-- `thinned::thin_of` meets its contract: the two words are the key's, and its run is thin. Assumes nothing.
use Rattle.thinned.specs.Runs.{stamps-are, stamps-small}
use Rattle.thinned.proofs.thin_of.Goals as goal

pub thin_at-requires : goal.thin_at-requires
thin_at-requires c = let laid = c.requires.laid.0 in (stamps-are laid, stamps-small laid, laid.few-places)
