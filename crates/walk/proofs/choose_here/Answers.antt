-- `walk::choose_here`: the words of the run are the lines from the frontier's place, and trying them is trying all lines. As long as a line
-- gathers nothing the queue is as long as before, and the next word's line is tried.
use Rattle.std.proofs.Common.{refl, sym, ap, ◌∙◌, ◌<◌, ◌≤◌, arith}
use Rattle.graph.specs.PhaseTwo.{Tried}
use Rattle.area.proofs.Changes.{under-as, under-step, under-end, under-front, under-stretch, ready-long, step_count}
use Rattle.states.proofs.Bounds.{fit_same}
use Rattle.walk.proofs.Places.{here_of, here-all, here-same, start-keys, start-room, listed_same, listed-table, listed-none, listed_next, listed-next-table, listed_here}
use Rattle.walk.proofs.choose_here.Goals as goal

pub run_of-run-requires-clause-k_bound : goal.run_of-run-requires-clause-k_bound
run_of-run-requires-clause-k_bound c = (start-keys c.args.plan c.place_of-q.ensures.0, start-room c.requires.leading.fit.laid c.requires.ordered_value)

pub loop-k-init : goal.loop-k-init
loop-k-init c =
    let h = c.requires.leading in
    let (low, stand) = c.place_of-q.ensures in
    let run = h.ordered c.requires.ordered_value c.place_of-q.result (start-keys c.args.plan low) in
    let room = start-room h.fit.laid c.requires.ordered_value in
    let (el, eh, rises, within) = c.run_of-run.ensures in
    let b = c.run_of-run.result in
    let all = here-all room run b.lo b.hi el eh h.fit c.args.want c.args.lo c.args.tail c.requires.ready_forth stand in
    record { here = here_of room run b.lo b.hi el eh; whole = all; under = under-as _ _ c.requires.ready_forth (listed_same _ _ _ _ _ _ _ all) }

-- the word at k is a line
pub gather_line-t-requires : goal.gather_line-t-requires
gather_line-t-requires c =
    let so_far = c.loop-k.invariant in
    let u = so_far.under in
    let h = c.requires.leading in
    let is = c.word-line.ensures ∙ here-same h.fit.laid u c.loop-k.k (omega (arith, so_far.here.after)) in
    let line_low : c.word-line.result < c.args.plan.lines = omega (arith, is, so_far.here.lines-low c.loop-k.k (omega arith) c.loop-k-test.true) in
    record {
      ready_forth = u.ready;
      fit = fit_same u.long (under-front u c.args.plan.base (omega arith)) h.fit;
      want_nonzero = (c.requires.want_nonzero.0, line_low, c.requires.want_nonzero.1);
    }

-- the line gathers something: it is chosen
pub returns-then-t-tail : goal.returns-then-t-tail
returns-then-t-tail c =
    let so_far = c.loop-k.invariant in
    let u = so_far.under in
    let p = c.args.plan in
    let laid = c.requires.leading.fit.laid in
    let at = c.word-line.ensures ∙ here-same laid u c.loop-k.k (omega (arith, so_far.here.after)) in
    let line_low : c.word-line.result < p.lines = omega (arith, at, so_far.here.lines-low c.loop-k.k (omega arith) c.loop-k-test.true) in
    let step = rw (under-front u p.base (omega (arith, laid.marks-at)), under-stretch u p.base p.size (omega (arith, laid.marks-at))) at c.gather_line-t.ensures in
    let here = listed_here _ _ _ p.lines c.loop-k.k _ _ _ _ _ c.loop-k-test.true so_far.here.within at step.now-found (λ e. c.if-t-tail.true (sym (ready-long step.ready) ∙ (e ∙ ready-long u.ready))) in
    let table = sym (listed-table _ _ _ _ _ _ _ here ∙ step.now-found) in
    record {
      line-is = ap (λ (y : Tried). y.line) (sym here ∙ so_far.whole);
      low = omega (arith, line_low);
      step = under-end (under-step u (λ st. st) step table) refl;
    }

pub loop-k-preserved : goal.loop-k-preserved
loop-k-preserved c =
    let so_far = c.loop-k.invariant in
    let u = so_far.under in
    let p = c.args.plan in
    let laid = c.requires.leading.fit.laid in
    let less = c.loop-k-test.true in
    let at = c.word-line.ensures ∙ here-same laid u c.loop-k.k (omega (arith, so_far.here.after)) in
    let any = rw (under-front u p.base (omega (arith, laid.marks-at)), under-stretch u p.base p.size (omega (arith, laid.marks-at))) at c.gather_line-t.ensures in
    let step = step_count c.if-t-tail.false any in
    let long = ready-long step.ready ∙ sym (ready-long u.ready) in
    let next = listed_next _ _ _ p.lines c.loop-k.k _ _ _ _ _ less so_far.here.within at step.now-found long in
    let table = listed-next-table _ _ _ p.lines c.loop-k.k _ _ _ _ _ less so_far.here.within at step.now-found long in
    record { here = so_far.here; whole = next ∙ so_far.whole; under = under-step u _ step table }

-- no line of the run leads on
pub returns : goal.returns
returns c =
    let past : c.run_of-run.result.hi ≤ c.loop-k.k = omega (arith, c.loop-k-test.false) in
    let none = listed-none _ _ _ c.args.plan.lines c.loop-k.k _ _ _ past in
    record { line-is = ap (λ (y : Tried). y.line) (sym none ∙ c.loop-k.invariant.whole); low = omega arith; step = under-end c.loop-k.invariant.under (listed-table _ _ _ _ _ _ _ none) }
