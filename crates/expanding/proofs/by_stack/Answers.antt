-- `expanding::by_stack` meets its contract: the stacks tried are those of the depth, and each is one of the stacks. Assumes nothing.
use mathlib.Core.Path.{sym, ap, ◌∙◌}
use Rattle.graph.specs.Loops.{turns}
use Rattle.area.specs.Area.{found}
use Rattle.states.specs.Spots.{front}
use Rattle.area.proofs.Changes.{step-as}
use Rattle.expanding.specs.Undoing.{line_undone}
use Rattle.expanding.proofs.Undone.{by-line, undo-power, undo-leads}
use Rattle.expanding.proofs.by_stack.Goals as goal

pub undo_of-undo-requires : goal.undo_of-undo-requires
undo_of-undo-requires c = undo-power c.requires.before

pub over_lines-requires-clause-leads_to : goal.over_lines-requires-clause-leads_to
over_lines-requires-clause-leads_to c =
    undo-leads c.requires.before c.undo_of-undo.ensures

pub returns : goal.returns
returns c =
    let x = c.args in
    let g = front x.plan x.work.now in
    let st = found x.plan.base x.plan.size x.tail x.work.now in
    step-as _ (c.over_lines.ensures.sound c.requires.ready_back.good)
    (by-line x.plan x.spot x.target x.d x.c x.leaves st g ∙ sym (ap (λ u. turns (line_undone x.plan u g x.target.place x.c) 0 x.plan.lines st) c.undo_of-undo.ensures))
