-- `positions::put_row`: both words are set.
use Rattle.std.proofs.Common.{arith}
use Rattle.positions.specs.Program.{put-set}
use Rattle.positions.proofs.put_row.Goals as goal

pub returns : goal.returns
returns c small = rw c.pack.ensures (put-set _ _ _ _ (omega arith) small)
