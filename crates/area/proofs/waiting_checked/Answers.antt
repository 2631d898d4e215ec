-- `area::waiting_checked`: in a search every word of the queue is a state.
use Rattle.std.proofs.Common.{sym, ◌∙◌, arith}
use Rattle.area.proofs.Changes.{found-queue, ready-state}
use Rattle.area.proofs.Anyhow.{ready_of}
use Rattle.area.proofs.waiting_checked.Goals as goal

pub returns-then-s-size : goal.returns-then-s-size
returns-then-s-size c = (omega arith, λ _. c.word-s.ensures ∙ sym (found-queue _ _ _ _ _ c.requires.i_lt_tail))

pub returns-else-s-size : goal.returns-else-s-size
returns-else-s-size c =
    (omega arith, λ g. absurd (let low = ready-state (ready_of c.requires.room g) _ c.requires.i_lt_tail in omega (arith, c.word-s.ensures)))
