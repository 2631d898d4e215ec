-- `record::lines_from`: what an entry is told goes on, ends, or refuses the walk.
use Rattle.std.proofs.Common.{ap, sym, ◌∙◌, length, arith}
use Rattle.meaning.specs.Outcome.{passed}
use Rattle.refusals.proofs.Handed.{handed}
use Rattle.record.proofs.Loop.{counted-all, turn, stop-here, refused-here}
use Rattle.record.proofs.lines_from.Goals as goal

pub returns-in_err-width : goal.returns-in_err-width
returns-in_err-width c =
    let i = c.loop-width.invariant in
    handed _ _ c.from_residual.ensures.1
    ∙ (refused-here (length c.args.day.now) c.args.places c.loop-width.rest.now c.loop-width.lines i.0 c.in_err-width.field-0.0 c.in_err-width.ensures ∙ (i.2 ∙ counted-all _))

pub slice_bounds-rest-count-in-Some : goal.slice_bounds-rest-count-in-Some
slice_bounds-rest-count-in-Some c =
    (turn (length c.args.day.now) c.args.places c.loop-width.rest.now c.loop-width.lines c.loop-width.invariant.0 c.in-Some.width (ap passed (sym c.in-Some.is) ∙ c.in_ok-width.ensures)).1

pub overflow_add-lines : goal.overflow_add-lines
overflow_add-lines c =
    let t = turn (length c.args.day.now) c.args.places c.loop-width.rest.now c.loop-width.lines c.loop-width.invariant.0 c.in-Some.width (ap passed (sym c.in-Some.is) ∙ c.in_ok-width.ensures) in
    omega (arith, t.2)

pub loop-width-smaller : goal.loop-width-smaller
loop-width-smaller c =
    let t = turn (length c.args.day.now) c.args.places c.loop-width.rest.now c.loop-width.lines c.loop-width.invariant.0 c.in-Some.width (ap passed (sym c.in-Some.is) ∙ c.in_ok-width.ensures) in
    omega (arith, t.0, t.1)

pub loop-width-preserved : goal.loop-width-preserved
loop-width-preserved c =
    let t = turn (length c.args.day.now) c.args.places c.loop-width.rest.now c.loop-width.lines c.loop-width.invariant.0 c.in-Some.width (ap passed (sym c.in-Some.is) ∙ c.in_ok-width.ensures) in
    (omega (arith, c.loop-width.invariant.0, t.0, t.1), c.loop-width.invariant.1, t.3 ∙ c.loop-width.invariant.2)

pub returns : goal.returns
returns c =
    let i = c.loop-width.invariant in
    stop-here (length c.args.day.now) c.args.places c.loop-width.rest.now c.loop-width.lines i.0 (ap passed (sym c.in_default.is) ∙ c.in_ok-width.ensures) ∙ (i.2 ∙ counted-all _)

pub slice_bounds-rest-start-in-Some : goal.slice_bounds-rest-start-in-Some
slice_bounds-rest-start-in-Some c =
    (turn (length c.args.day.now) c.args.places c.loop-width.rest.now c.loop-width.lines c.loop-width.invariant.0 c.in-Some.width (ap passed (sym c.in-Some.is) ∙ c.in_ok-width.ensures)).1
