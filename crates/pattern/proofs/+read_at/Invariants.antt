-- `pattern::read_at`: the bytes left fall with each call.
use Rattle.std.proofs.Common.{◌-◌, length}
use Rattle.pattern.proofs.+read_at.Given as goal

abbrev pub decreases-read_at : goal.decreases-read_at
decreases-read_at l = length l.src.now - l.at
