-- `sweeping::mark_state`: a mark, or nothing, as the state's word says.
use Rattle.std.proofs.Common.{sym, ◌∙◌}
use Rattle.sweeping.proofs.Marks.{mark-one, mark-none}
use Rattle.sweeping.proofs.mark_state.Goals as goal

pub returns-then-word-marking : goal.returns-then-word-marking
returns-then-word-marking c =
    mark-one c.args.plan c.args.work.now c.args.t c.requires.2 _ _ _ _ (sym c.word.ensures ∙ c.if-word-marking.true) c.write.ensures

pub returns : goal.returns
returns c = mark-none c.args.plan c.args.work.now c.args.t c.requires.2 _ _ _ (λ e. c.if-word-marking.false (c.word.ensures ∙ e))
