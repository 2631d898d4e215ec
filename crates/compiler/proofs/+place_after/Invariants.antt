-- `compiler::place_after`: the bytes left fall with each call.
use Rattle.std.proofs.Common.{◌-◌, length}
use Rattle.compiler.proofs.+place_after.Given as goal

abbrev pub decreases-place_after : goal.decreases-place_after
decreases-place_after l = length l.src.now - l.at
