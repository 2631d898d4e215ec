-- `stepping::forth_by` meets its contract: the invariant is the contract for the turns that are done, in phase two. Assumes nothing.
use Rattle.std.proofs.Common.{◌≡◌, refl, ap, ◌+◌, ◌-◌, ◌<◌, arith}
use Rattle.request.specs.declared.Plan.{Plan}
use Rattle.sweeping.specs.Sweeping.{index_at}
use Rattle.stepping.specs.Stepping.{underway_in}
use Rattle.stepping.proofs.Moving.{held_none, held-fit, held-ordered, turned_none, turned-left, turned-as, turned-one, turned_then, forth-goes, forth-over}
use Rattle.stepping.proofs.forth_by.Goals as goal

pub loop-done-init : goal.loop-done-init
loop-done-init c =
    let all : c.args.amount ≡ c.args.amount - 0 = omega arith in
    (c.requires.phase_value, turned-left all (turned_none (held_none (λ u. u) _ c.requires.standing.0 refl) (λ _. tt)))

pub returns-then-state-le1 : goal.returns-then-state-le1
unfolding underway_in
returns-then-state-le1 c =
    let (one, i) = c.loop-done.invariant in
    turned-as i (λ _. forth-over _ one c.if-state-le1.true)

pub forth_one-state-requires : goal.forth_one-state-requires
forth_one-state-requires c =
    let (one, i) = c.loop-done.invariant in
    record { standing = (i.held.standing, record { fit = held-fit i.held c.requires.standing.1.fit; index = held-ordered i.held c.requires.standing.1.index }); phase_value = (one, c.if-state-le1.false) }

pub loop-done-preserved : goal.loop-done-preserved
unfolding underway_in
loop-done-preserved c =
    let (one, i) = c.loop-done.invariant in
    let (step, still) = c.forth_one-state.ensures in
    let some : 0 < c.args.amount - c.loop-done.done = omega (arith, c.loop-done-test.true) in
    let next : c.args.amount - c.loop-done.done - 1 ≡ c.args.amount - (c.loop-done.done + 1) = omega arith in
    let turn = turned-one some (forth-goes _ one c.if-state-le1.false) step in
    (still, turned-left next (turned_then i turn _ (omega arith) (omega (arith, ap (λ (p : Plan). index_at p) i.held.plan-same)) (λ _. tt)))

pub returns : goal.returns
returns c =
    let none : c.args.amount - c.loop-done.done ≡ 0 = omega (arith, c.loop-done-test.false) in
    turned-as (turned-left none c.loop-done.invariant.1) (λ l. absurd (omega (arith, l)))
