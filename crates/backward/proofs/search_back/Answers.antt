-- `backward::search_back` meets its contract: the invariant is that `head` states are expanded since the loop began.
-- A state that waits is a state, and no distance is above the count of the queue. Assumes nothing.
use mathlib.Core.Path.{sym, ◌∙◌}
use native.Mathlib.Omega.{arith}
use Rattle.states.specs.Spots.{Fit}
use Rattle.expanding.proofs.Backs.{backing-under}
use Rattle.backward.proofs.Stopping.{met-near, going_start, going_end, going-met, going_next}
use Rattle.area.proofs.Changes.{step-under, under-front}
use Rattle.area.proofs.Anyhow.{room_of}
use Rattle.backward.proofs.search_back.Goals as goal

pub loop-head-init : goal.loop-head-init
loop-head-init c = going_start c.requires.ready_back

pub waiting-s-requires : goal.waiting-s-requires
waiting-s-requires c = record { ready = c.loop-head.invariant.step.ready; i_lt_tail = omega arith }

pub dist_at-d-requires : goal.dist_at-d-requires
dist_at-d-requires c = record { room = room_of c.loop-head.invariant.step.ready; s_lt_size = c.waiting-s.ensures.1 }

pub first_met-requires : goal.first_met-requires
first_met-requires c =
    record { laid = (backing-under (step-under c.loop-head.invariant.step) c.requires.backing).fit.laid; from_lt_places = c.requires.from_lt_places }

pub returns-then-first_met : goal.returns-then-first_met
returns-then-first_met c =
    let (any, near) = met-near _ _ _ (sym c.first_met.ensures ∙ c.if-first_met.true) in
    going-met c.loop-head.invariant _ _ c.loop-head-test.true c.waiting-s.ensures.0 c.dist_at-d.ensures.0 _ any near

pub overflow_add-d : goal.overflow_add-d
overflow_add-d c =
    let fit : Fit c.args.plan (c.args.program.now) c.args.work.now = c.requires.backing.fit in
    omega (arith, c.dist_at-d.ensures.1 c.loop-head.invariant.step.ready.good, c.loop-head.invariant.step.ready.fits, fit.laid.small)

pub expand_state-t-requires : goal.expand_state-t-requires
expand_state-t-requires c =
    record { ready_back = c.loop-head.invariant.step.ready; backing = backing-under (step-under c.loop-head.invariant.step) c.requires.backing; d_nonzero = (omega arith, omega (arith, c.dist_at-d.ensures.1 c.loop-head.invariant.step.ready.good), c.waiting-s.ensures.1) }

pub overflow_add-head : goal.overflow_add-head
overflow_add-head c =
    let fit : Fit c.args.plan (c.args.program.now) c.args.work.now = c.requires.backing.fit in
    omega (arith, c.loop-head-test.true, c.loop-head.invariant.step.ready.fits, fit.laid.small)

pub loop-head-smaller : goal.loop-head-smaller
loop-head-smaller c = omega (arith, c.loop-head-test.true, c.loop-head.invariant.step.ready.fits)

pub loop-head-preserved : goal.loop-head-preserved
loop-head-preserved c =
    let next = rw (under-front (step-under c.loop-head.invariant.step) c.args.plan.base (omega arith)) at c.expand_state-t.ensures in
    going_next c.loop-head.invariant _ _ c.loop-head-test.true c.waiting-s.ensures.0 c.dist_at-d.ensures.0 next

pub returns : goal.returns
returns c = going_end c.loop-head.invariant _ (omega (arith, c.loop-head-test.false))
