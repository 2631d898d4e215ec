-- `area::dist_at`: the word stands in the pair's first stretch, and no distance is above the count of the queue.
use Rattle.std.proofs.Common.{sym}
use Rattle.area.proofs.Changes.{found-dist, ready-near}
use Rattle.area.proofs.Anyhow.{ready_of}
use Rattle.area.proofs.dist_at.Goals as goal

pub returns : goal.returns
returns c = (sym (found-dist _ _ _ _ _ c.requires.s_lt_size), λ g. ready-near (ready_of c.requires.room g) _ c.requires.s_lt_size)
