-- `stepping::back_one` meets its contract: the next state is expanded, and the search settled. Assumes nothing.
use Rattle.stepping.proofs.Settling.{back-held}
use Rattle.stepping.proofs.back_one.Goals as goal

pub returns : goal.returns
returns c =
    back-held _ _ _ _ c.requires.phase_value c.expand_next-next.ensures c.settle.ensures
