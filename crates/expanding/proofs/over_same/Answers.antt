-- `expanding::over_same` meets its contract: the entry compared is the same for all stacks, or the line's boat alone is gone over, if it is read.
-- Assumes nothing.
use mathlib.Core.Path.{sym, ◌∙◌}
use native.Mathlib.Omega.{arith}
use Rattle.states.specs.Spots.{boats_in}
use Rattle.area.proofs.Anyhow.{step-as, step-none}
use Rattle.expanding.proofs.Entries.{same-unread, same_none, same_entries, entries-low}
use Rattle.expanding.proofs.over_same.Goals as goal

pub returns-then-entry_at-code : goal.returns-then-entry_at-code
returns-then-entry_at-code c =
    let x = c.args in
    step-none _ c.requires.undoing.ready
    (same_none (boats_in x.plan x.work.now) x.plan x.undo x.home x.code c.requires.wants_same c.requires.undoing.sane.some_level (c.entry_below.ensures c.if-entry_below.true) (λ e. absurd (omega (arith, e, c.entry_at.ensures.0, c.if-entry_at-code.true))) _)

pub returns-then-boat_of-eq0 : goal.returns-then-boat_of-eq0
returns-then-boat_of-eq0 c =
    let x = c.args in
    step-none _ c.requires.undoing.ready (same-unread (boats_in x.plan x.work.now) x.plan x.undo x.home x.code c.requires.wants_same (sym c.boat_of.ensures ∙ c.if-boat_of-eq0.true) _)

pub over_entries-requires-clause-weight_nonzero : goal.over_entries-requires-clause-weight_nonzero
over_entries-requires-clause-weight_nonzero c =
    let x = c.args in
    let among = c.entry_among.ensures c.if-entry_among.true in
    (omega (arith, c.requires.wants_same.low), among.some, entries-low x.plan x.undo x.home x.code among c.requires.in_states)

pub returns-then-entry_among : goal.returns-then-entry_among
returns-then-entry_among c =
    let x = c.args in
    let among = c.entry_among.ensures c.if-entry_among.true in
    step-as _ c.over_entries.ensures (same_entries (boats_in x.plan x.work.now) x.plan x.undo x.home x.code c.requires.wants_same (λ e. c.if-boat_of-eq0.false (c.boat_of.ensures ∙ e)) among _)
