-- `compiler::after_inner`: in a repeat the pattern's own heads may follow too.
use Rattle.positions.specs.Masks.{marks-append}
use Rattle.compiler.proofs.after_inner.Goals as goal

pub returns-in-Repeat : goal.returns-in-Repeat
returns-in-Repeat c K x b next m h = rw c.in-Repeat.is (marks-append h.heads-are m)
