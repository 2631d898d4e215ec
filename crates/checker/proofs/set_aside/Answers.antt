-- `checker::set_aside`: two words are written, the state into the list and 0 at its mark.
use Rattle.checker.specs.Walk.{aside_of}
use Rattle.checker.proofs.set_aside.Goals as goal

pub returns : goal.returns
unfolding aside_of
returns c = rw (c.write-2.ensures, c.write.ensures, c.word-s.ensures)
