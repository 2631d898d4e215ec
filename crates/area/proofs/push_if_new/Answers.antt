-- `area::push_if_new`: the state has a word, or the queue has no room, or both words are written.
use Rattle.std.proofs.Common.{arith}
use Rattle.area.proofs.Anyhow.{push-new, push-old, push-full}
use Rattle.area.proofs.push_if_new.Goals as goal

pub returns-then-work-i-ne0 : goal.returns-then-work-i-ne0
returns-then-work-i-ne0 c = push-old c.requires.room _ _ (omega arith) (omega arith) (omega arith) c.if-work-i-ne0.true

pub returns-then-size-tail : goal.returns-then-size-tail
returns-then-size-tail c = push-full c.requires.room _ _ (omega arith) (omega arith) (omega arith) c.if-work-i-ne0.false (omega arith)

pub returns : goal.returns
returns c =
    rw (c.write-2.ensures, c.write.ensures)
    (push-new c.requires.room _ _ (omega arith) (omega arith) (omega arith) c.if-work-i-ne0.false (omega arith))
