-- `compiler::heads_of`: no round has no heads.
use Rattle.positions.specs.Masks.{marks-none}
use Rattle.compiler.proofs.heads_of.Goals as goal

pub loop-init : goal.loop-init
loop-init c x b o fits = marks-none
