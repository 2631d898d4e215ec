-- `stepping::back_by` meets its contract: the invariant is the contract for the turns that are done. Assumes nothing.
use Rattle.std.proofs.Common.{◌≡◌, refl, ap, ◌+◌, ◌-◌, ◌<◌, arith}
use Rattle.request.specs.declared.Plan.{Plan}
use Rattle.sweeping.specs.Sweeping.{index_at}
use Rattle.stepping.specs.Stepping.{underway_in}
use Rattle.stepping.proofs.Moving.{held_none, held-fit, held-indexed, turned_none, turned-left, turned-as, turned-one, turned_then, back-goes}
use Rattle.stepping.proofs.back_by.Goals as goal

pub loop-done-init : goal.loop-done-init
loop-done-init c =
    let all : c.args.amount ≡ c.args.amount - 0 = omega arith in
    turned-left all (turned_none (held_none (λ u. u) _ c.requires.0 refl) (λ _. tt))

pub returns-then-state : goal.returns-then-state
unfolding underway_in
returns-then-state c =
    turned-as c.loop-done.invariant (λ _. c.if-state.true)

pub back_one-state-requires : goal.back_one-state-requires
back_one-state-requires c =
    record { standing = (c.loop-done.invariant.held.standing, record { fit = held-fit c.loop-done.invariant.held c.requires.1.fit; index = held-indexed c.loop-done.invariant.held c.requires.1.index }); phase_value = c.if-state.false }

pub loop-done-preserved : goal.loop-done-preserved
unfolding underway_in
loop-done-preserved c =
    let i = c.loop-done.invariant in
    let some : 0 < c.args.amount - c.loop-done.done = omega (arith, c.loop-done-test.true) in
    let next : c.args.amount - c.loop-done.done - 1 ≡ c.args.amount - (c.loop-done.done + 1) = omega arith in
    let turn = turned-one some (back-goes _ c.if-state.false) c.back_one-state.ensures in
    turned-left next (turned_then i turn _ (omega arith) (omega (arith, ap (λ (p : Plan). index_at p) i.held.plan-same)) (λ _. tt))

pub returns : goal.returns
returns c =
    let none : c.args.amount - c.loop-done.done ≡ 0 = omega (arith, c.loop-done-test.false) in
    turned-as (turned-left none c.loop-done.invariant) (λ l. absurd (omega (arith, l)))
