-- `expanding::by_sorted` meets its contract: the words gone over do what all lines do. Assumes nothing.
use mathlib.Core.Path.{sym, ap, ◌∙◌}
use Prim.Native.Nat.{◌-◌}
use lib.ListN.{get_or}
use Rattle.graph.specs.Loops.{turns}
use Rattle.area.specs.Area.{found}
use Rattle.states.specs.Spots.{boats_in}
use Rattle.area.proofs.Changes.{step-as}
use Rattle.ways.proofs.Lanes.{found-long}
use Rattle.expanding.specs.Undoing.{word_undone}
use Rattle.expanding.proofs.Undone.{by_word, undo-power, undo-leads, undo-fits}
use Rattle.expanding.proofs.by_sorted.Goals as goal

pub undo_of-undo-requires : goal.undo_of-undo-requires
undo_of-undo-requires c = undo-power c.requires.before

pub over_stacked-requires-clause-leads_to : goal.over_stacked-requires-clause-leads_to
over_stacked-requires-clause-leads_to c =
    undo-leads c.requires.before c.undo_of-undo.ensures

pub returns : goal.returns
returns c =
    let x = c.args in
    let w = x.work.now in
    let n = c.lines_for-run.result.hi - c.lines_for-run.result.lo in
    let st = found x.plan.base x.plan.size x.tail w in
    step-as _ (c.over_stacked.ensures.sound c.requires.ready_back.good)
    (c.lines_for-run.ensures.same x.d x.c _ c.requires.d_nonzero.0 c.requires.before.position-low (undo-fits c.requires.before) st (found-long x.plan.base x.plan.size x.tail w c.requires.ready_back)
    ∙ (by_word x.plan x.spot x.target x.d x.c x.leaves st (boats_in x.plan w) w c.lines_for-run.result.lo n ∙ sym (ap (λ u. turns (λ p. word_undone x.plan u (boats_in x.plan w) x.c (get_or w p 0)) c.lines_for-run.result.lo n st) c.undo_of-undo.ensures)))
