-- `tracing::worth_going` meets its contract: a line that cannot lead back, or that finds only what has been met, does nothing.
use Rattle.std.proofs.Common.{sym, ◌∙◌}
use Rattle.std.proofs.lemmas.Bool.{not-false}
use Rattle.graph.specs.Trace.{tag_of}
use Rattle.states.specs.Spots.{front}
use Rattle.expanding.specs.Undoing.{line_undone}
use Rattle.tracing.specs.Tracing.{reached_in, line_traced}
use Rattle.tracing.proofs.Traces.{tagged-idle}
use Rattle.tracing.proofs.Wanting.{line-unwanted}
use Rattle.tracing.proofs.worth_going.Goals as goal

pub returns-then-can_lead : goal.returns-then-can_lead
unfolding line_traced reached_in
returns-then-can_lead c e place parent =
    let x = c.args in
    tagged-idle (tag_of x.i parent) (line_undone x.plan x.undo (front x.plan x.work.now) place x.c x.i) (reached_in x.plan x.tail x.work.now) (c.line_met.ensures (not-false _ e) place)

pub returns-else-can_lead : goal.returns-else-can_lead
returns-else-can_lead c _ place parent =
    let x = c.args in
    line-unwanted x.plan x.undo (front x.plan x.work.now) place x.c x.i parent x.wanted c.requires.undoing.1 (sym c.can_lead.ensures ∙ c.if-can_lead.false) _
