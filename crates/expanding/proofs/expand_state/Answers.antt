-- `expanding::expand_state` meets its contract, by what is left of the turns over positions, which are the expansion of the setting. Assumes nothing.
use mathlib.Core.Path.{sym, ap, ◌∙◌, subst₂}
use Prim.Native.Nat.{ℕ}
use native.Mathlib.Nat.{sub-zero}
use native.Mathlib.Omega.{arith}
use Rattle.positions.specs.Program.{bit_of}
use Rattle.graph.specs.Loops.{turns}
use Rattle.area.specs.Area.{found, Step}
use Rattle.states.specs.Spots.{front, Fit, spot_turn}
use Rattle.states.proofs.Bounds.{stacks-pos, stacks-small, power_small, aimed}
use Rattle.expanding.proofs.Bridge.{expand-is}
use Rattle.expanding.proofs.Backs.{spot_passed, backing-under}
use Rattle.area.proofs.Changes.{under-as, step-none, loop-turn, loop-end, under-front}
use Rattle.expanding.proofs.expand_state.Goals as goal
use Rattle.expanding.proofs.expand_state.Goals.{then-follow_at-target-eq1, else-follow_at-target-eq1}

step_of : (c : goal.Joined-follow_at-target-eq1) →
    Step c.args.plan.base c.args.plan.size (spot_turn (c.args.program.now) c.args.plan (front c.args.plan c.args.work.now) c.target_of-target.result c.args.d c.loop-c.c) c.loop-c.u c.loop-c.work c.if-follow_at-target-eq1.u c.if-follow_at-target-eq1.work
step_of c =
    let plan = c.args.plan in
    let turn = spot_turn (c.args.program.now) plan (front plan c.args.work.now) c.target_of-target.result c.args.d c.loop-c.c in
    let same = under-front c.loop-c.invariant.1 plan.base (omega arith) in
    elim c.if-follow_at-target-eq1.branch [
      | then-follow_at-target-eq1 w ↦ subst₂ (λ u v. Step plan.base plan.size turn c.loop-c.u c.loop-c.work u v) (sym w.u-is) (sym w.work-is) (rw same at w.one_spot-u.ensures)
      | else-follow_at-target-eq1 w ↦ subst₂ (λ u v. Step plan.base plan.size turn c.loop-c.u c.loop-c.work u v) (sym w.u-is) (sym w.work-is) (step-none turn c.loop-c.invariant.1.ready (spot_passed c.args.program.now plan _ _ _ _ _ (λ e. w.if-follow_at-target-eq1.false (ap (λ (k : ℕ). bit_of k c.target_of-target.result.position) c.follow_at.ensures ∙ e))))
    ]

pub target_of-target-requires : goal.target_of-target-requires
target_of-target-requires c =
    let fit : Fit c.args.plan (c.args.program.now) c.args.work.now = c.requires.backing.fit in
    let f = fit in
    let laid = f.laid in
    record { stacks_nonzero = (stacks-pos laid, laid.some-radix, laid.few-positions, λ k h. power_small laid _ (f.depths-low k h)); stacks_le_largest = (omega (arith, stacks-small laid, laid.small), omega (arith, c.requires.d_nonzero.2, laid.small), laid.inverse-is) }

pub loop-c-init : goal.loop-c-init
loop-c-init c =
    let fit : Fit c.args.plan (c.args.program.now) c.args.work.now = c.requires.backing.fit in
    let laid = fit.laid in
    let plan = c.args.plan in
    let g = front plan c.args.work.now in
    let st = found plan.base plan.size c.args.tail c.args.work.now in
    let aim = ap (λ x. turns (spot_turn (c.args.program.now) plan g x c.args.d) 0 plan.done st) c.target_of-target.ensures in
    (omega arith, rw sub-zero (under-as _ _ c.requires.ready_back (aim ∙ sym (expand-is (c.args.program.now) plan g laid.stacks-is laid.few-positions c.args.d c.args.t st))))

pub follow_at-requires : goal.follow_at-requires
follow_at-requires c =
    let fit : Fit c.args.plan (c.args.program.now) c.args.work.now = c.requires.backing.fit in
    omega (arith, c.loop-c-test.true, fit.laid.few-positions)

pub overflow_shr-follow_at : goal.overflow_shr-follow_at
overflow_shr-follow_at c =
    let fit : Fit c.args.plan (c.args.program.now) c.args.work.now = c.requires.backing.fit in
    omega (arith, (aimed fit c.args.t c.requires.d_nonzero.2 _ c.target_of-target.ensures).position-low, fit.laid.few-positions)

pub one_spot-u-requires : goal.one_spot-u-requires
one_spot-u-requires c =
    let fit : Fit c.args.plan (c.args.program.now) c.args.work.now = c.requires.backing.fit in
    let (some, near, less) = c.requires.d_nonzero in
    record { ready_back = c.loop-c.invariant.1.ready; backing = backing-under c.loop-c.invariant.1 c.requires.backing; aimed = aimed fit c.args.t less _ c.target_of-target.ensures; d_nonzero = (some, omega (arith, near, c.loop-c.invariant.1.grows), omega arith, ap (λ (m : ℕ). bit_of m c.target_of-target.result.position) (sym c.follow_at.ensures) ∙ c.if-follow_at-target-eq1.true) }

pub loop-c-preserved : goal.loop-c-preserved
loop-c-preserved c = (omega (arith, c.loop-c-test.true), loop-turn _ _ _ c.loop-c.invariant.1 c.loop-c-test.true (step_of c))

pub returns : goal.returns
returns c = loop-end _ _ _ c.loop-c.invariant.1 (omega arith)
