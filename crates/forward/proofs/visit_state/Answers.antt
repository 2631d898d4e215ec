-- `forward::visit_state`: a push, or nothing, as the word wanted says.
use Rattle.std.proofs.Common.{sym, ◌∙◌}
use Rattle.area.proofs.Stretches.{stretch-get}
use Rattle.area.proofs.Changes.{step-as, step-none}
use Rattle.forward.proofs.Visits.{visit-all, visit-taken, visit-passed}
use Rattle.forward.proofs.visit_state.Goals as goal
use Rattle.forward.proofs.visit_state.Goals.{then-want-eq0-via-then-want-eq0, then-want-eq0-via-else-want-eq0+then-word-want}

pub returns-then-want-eq0 : goal.returns-then-want-eq0
returns-then-want-eq0 c =
    let a = c.args in
    let own = stretch-get a.plan.base a.plan.size a.work.now a.t c.requires.laid.1 in
    step-as _ (c.push_if_new.ensures.sound c.requires.ready_forth.good)
    (elim c.then-want-eq0.branch [
      | then-want-eq0-via-then-want-eq0 w ↦ visit-all _ _ _ _ w.if-want-eq0.true
      | then-want-eq0-via-else-want-eq0+then-word-want w ↦ visit-taken _ _ _ _ w.if-want-eq0.false (own ∙ (sym w.word.ensures ∙ w.if-word-want.true))
    ])

pub returns : goal.returns
returns c =
    let a = c.args in
    let own = stretch-get a.plan.base a.plan.size a.work.now a.t c.requires.laid.1 in
    step-none _ c.requires.ready_forth (visit-passed _ _ _ _ c.if-want-eq0.false (λ e. c.if-word-want.false (c.word.ensures ∙ (sym own ∙ e))))
