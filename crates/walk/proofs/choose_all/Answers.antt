-- `walk::choose_all`: as long as a line gathers nothing the queue is as long as before, and the next line is tried.
use Rattle.std.proofs.Common.{◌≡◌, ◌≤◌, refl, sym, ap, ◌∙◌, arith}
use Rattle.graph.specs.PhaseTwo.{Tried}
use Rattle.states.proofs.Bounds.{fit_same}
use Rattle.walk.proofs.Ahead.{tried-next, tried-table, tried_here, tried-none, table_of}
use Rattle.area.proofs.Changes.{under-step, under-end, under-front, under-stretch, ready-long, step_count}
use Rattle.walk.proofs.choose_all.Goals as goal

pub gather_line-t-requires-clause-fit : goal.gather_line-t-requires-clause-fit
gather_line-t-requires-clause-fit c = let u = c.loop-line.invariant.under in fit_same u.long (under-front u c.args.plan.base (omega arith)) c.requires.fit

-- the line gathers something: it is chosen
pub returns-then-t-tail : goal.returns-then-t-tail
returns-then-t-tail c =
    let u = c.loop-line.invariant.under in
    let p = c.args.plan in
    let step = rw (under-front u p.base (omega arith), under-stretch u p.base p.size (omega arith)) at c.gather_line-t.ensures in
    let here = tried_here _ _ _ _ _ _ _ c.loop-line-test.true step.now-found (λ e. c.if-t-tail.true (sym (ready-long step.ready) ∙ (e ∙ ready-long u.ready))) in
    let table = sym (table_of _ _ _ _ _ _ _ here ∙ step.now-found) in
    record {
      line-is = ap (λ (y : Tried). y.line) (sym here ∙ c.loop-line.invariant.whole);
      low = omega (arith, c.loop-line-test.true);
      step = under-end (under-step u (λ st. st) step table) refl;
    }

pub loop-line-preserved : goal.loop-line-preserved
loop-line-preserved c =
    let u = c.loop-line.invariant.under in
    let p = c.args.plan in
    let less = c.loop-line-test.true in
    let any = rw (under-front u p.base (omega arith), under-stretch u p.base p.size (omega arith)) at c.gather_line-t.ensures in
    let step = step_count c.if-t-tail.false any in
    let long = ready-long step.ready ∙ sym (ready-long u.ready) in
    let next = tried-next _ _ _ _ _ _ _ less step.now-found long in
    record { whole = next ∙ c.loop-line.invariant.whole; under = under-step u _ step (tried-table _ _ _ _ _ _ _ less step.now-found long) }

-- no line leads on
pub returns : goal.returns
returns c =
    let past : c.args.plan.lines ≤ c.loop-line.line = omega (arith, c.loop-line-test.false) in
    let end : c.loop-line.line ≡ c.args.plan.lines = omega arith in
    let none = tried-none _ _ _ _ _ _ past in
    record { line-is = sym end ∙ ap (λ (y : Tried). y.line) (sym none ∙ c.loop-line.invariant.whole); low = omega arith; step = under-end c.loop-line.invariant.under (table_of _ _ _ _ _ _ _ none) }
