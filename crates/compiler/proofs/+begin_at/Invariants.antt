-- `compiler::begin_at`: the bytes left fall with each call.
use Rattle.std.proofs.Common.{◌-◌, length}
use Rattle.compiler.proofs.+begin_at.Given as goal

abbrev pub decreases-begin_at : goal.decreases-begin_at
decreases-begin_at l = length l.src.now - l.at
