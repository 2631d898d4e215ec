-- `expanding::over_each` meets its contract, by what is left of its turns. Assumes nothing.
use mathlib.Core.Path.{sym}
use Prim.Native.Nat.{ℕ, ◌+◌, ◌*◌}
use native.Mathlib.Omega.{arith}
use Rattle.graph.specs.Table.{Search}
use Rattle.area.specs.Area.{found}
use Rattle.states.specs.Spots.{boats_in, stack_at, stack_turn}
use Rattle.states.proofs.Bounds.{boats-front}
use Rattle.area.proofs.Anyhow.{step-as, loop-turn, loop-end, under-front}
use Rattle.expanding.proofs.over_each.Goals as goal

pub loop-x-preserved : goal.loop-x-preserved
unfolding stack_turn
loop-x-preserved c =
    let x = c.args in
    let v = c.loop-x.x * x.undo.weight + x.undo.stack in
    let here = found x.plan.base x.plan.size c.loop-x.t c.loop-x.work in
    let boats = boats-front x.plan c.loop-x.work x.work.now (under-front c.loop-x.invariant.1 x.plan.base (omega arith)) in
    let turn : (ℕ → ℕ) → Search → Search = λ B. stack_at B x.plan.radix x.undo.spot x.undo.d x.home x.code v in
    let step = step-as (turn (boats_in x.plan x.work.now)) c.one_stack-t.ensures (λ i. turn (sym boats i) here) in
    (omega arith, loop-turn _ _ _ c.loop-x.invariant.1 c.loop-x-test.true step)

pub returns : goal.returns
returns c = loop-end _ _ _ c.loop-x.invariant.1 (omega arith)
