-- `area::waiting`: the queue is the pair's second stretch, and its states are states.
use Rattle.std.proofs.Common.{sym}
use Rattle.area.proofs.Changes.{found-queue, ready-state}
use Rattle.area.proofs.waiting.Goals as goal

pub returns : goal.returns
returns c = (sym (found-queue _ _ _ _ _ c.requires.i_lt_tail), ready-state c.requires.ready _ c.requires.i_lt_tail)
