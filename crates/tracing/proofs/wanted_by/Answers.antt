-- `tracing::wanted_by` meets its contract, by its three questions.
use mathlib.Core.Path.{refl}
use Rattle.tracing.proofs.Wanting.{top-alone, kept-alone}
use Rattle.tracing.proofs.wanted_by.Goals as goal

pub returns-then-spot : goal.returns-then-spot
returns-then-spot c =
    top-alone c.args.plan c.args.undo c.if-undo-ne1.false c.if-spot.true c.requires.0.some-weight _ refl

pub returns-then-wants_kept : goal.returns-then-wants_kept
returns-then-wants_kept c =
    kept-alone c.args.plan c.args.undo c.if-undo-ne1.false c.if-spot.false (c.wants_kept.ensures c.if-wants_kept.true) _ c.entry_at.ensures.0
