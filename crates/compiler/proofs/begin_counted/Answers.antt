-- `compiler::begin_counted`: as many rounds as there may be stand after the command's own position.
use Rattle.std.proofs.Common.{refl}
use Rattle.compiler.proofs.RoundMasks.{counted-begins}
use Rattle.compiler.proofs.begin_counted.Goals as goal

pub returns : goal.returns
returns c x next low fits h =
    counted-begins h (c.round_of-round.ensures.is x next h) c.from-rounds.ensures c.from.ensures low fits refl refl c.heads_of.ensures c.may_end.ensures
