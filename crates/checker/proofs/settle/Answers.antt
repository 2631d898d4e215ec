-- `checker::settle`: one state after the other is set aside, and the frontier itself is not written.
use Rattle.std.proofs.Common.{sym, subst, ◌<◌, arith}
use Rattle.area.proofs.Changes.{ready-state}
use Rattle.checker.proofs.Moving.{aside_none, aside-at, aside-turn}
use Rattle.checker.proofs.settle.Goals as goal

pub loop-i-init : goal.loop-i-init
loop-i-init c = aside_none c.requires.ready_forth.room

pub set_aside-requires-clause-i_lt_size : goal.set_aside-requires-clause-i_lt_size
set_aside-requires-clause-i_lt_size c =
    let ready = c.requires.ready_forth in
    let less : c.loop-i.i < c.args.plan.size = omega (arith, c.loop-i-test.true, ready.fits) in
    (less, subst (◌< c.args.plan.size) (sym (aside-at ready.room c.loop-i.invariant less)) (ready-state ready _ c.loop-i-test.true))

pub loop-i-preserved : goal.loop-i-preserved
loop-i-preserved c =
    let ready = c.requires.ready_forth in
    let less : c.loop-i.i < c.args.plan.size = omega (arith, c.loop-i-test.true, ready.fits) in
    rw c.set_aside.ensures (aside-turn ready.room c.loop-i.invariant less c.requires.laid.marks-at (ready-state ready _ c.loop-i-test.true))
