-- `tracing::expand_traced` meets its contract, by what is left of the turns over positions, which are what `trace` does in the setting.
use mathlib.Core.Path.{sym, ap, ◌∙◌, subst₂}
use Prim.Native.Nat.{ℕ}
use native.Mathlib.Nat.{sub-zero}
use native.Mathlib.Omega.{arith}
use Rattle.positions.specs.Program.{bit_of}
use Rattle.graph.specs.Loops.{turns}
use Rattle.states.specs.Spots.{front, Fit}
use Rattle.states.proofs.Bounds.{stacks-pos, stacks-small, power_small, aimed, fit_same}
use Rattle.tracing.specs.Tracing.{reached_in, StepTraced, spot_traced}
use Rattle.tracing.proofs.Traces.{loop-start, loop-turn, loop-end, traced-none, indexed-traced}
use Rattle.tracing.proofs.Bridge.{trace-is, spot_passed}
use Rattle.tracing.proofs.expand_traced.Goals as goal
use Rattle.tracing.proofs.expand_traced.Goals.{then-follow_at-target-eq1, else-follow_at-target-eq1}

-- a position that the state's may come after is gone back to, and another does nothing
step_of : (c : goal.Joined-follow_at-target-eq1) →
    StepTraced c.args.plan (spot_traced (c.args.program.now) c.args.plan (front c.args.plan c.args.work.now) c.target_of-target.result c.args.d c.args.t c.loop-c.c) c.loop-c.u c.loop-c.work c.if-follow_at-target-eq1.u c.if-follow_at-target-eq1.work
step_of c =
    let plan = c.args.plan in
    let turn = spot_traced (c.args.program.now) plan (front plan c.args.work.now) c.target_of-target.result c.args.d c.args.t c.loop-c.c in
    elim c.if-follow_at-target-eq1.branch [
      | then-follow_at-target-eq1 m ↦ subst₂ (λ u w. StepTraced plan turn c.loop-c.u c.loop-c.work u w) (sym m.u-is) (sym m.work-is) (rw c.loop-c.invariant.front at m.spot_traced-u.ensures)
      | else-follow_at-target-eq1 m ↦ subst₂ (λ u w. StepTraced plan turn c.loop-c.u c.loop-c.work u w) (sym m.u-is) (sym m.work-is) (traced-none turn c.loop-c.invariant.ready (spot_passed (c.args.program.now) plan _ _ _ _ _ _ (λ e. m.if-follow_at-target-eq1.false (ap (λ (k : ℕ). bit_of k c.target_of-target.result.position) c.follow_at.ensures ∙ e))))
    ]

pub target_of-target-requires : goal.target_of-target-requires
target_of-target-requires c =
    let fit : Fit c.args.plan (c.args.program.now) c.args.work.now = c.requires.fit.0 in
    let f = fit in
    let laid = f.laid in
    record { stacks_nonzero = (stacks-pos laid, laid.some-radix, laid.few-positions, λ k h. power_small laid _ (f.depths-low k h)); stacks_le_largest = (omega (arith, stacks-small laid, laid.small), omega (arith, c.requires.d_nonzero.2, laid.small), laid.inverse-is) }

pub loop-c-init : goal.loop-c-init
loop-c-init c =
    let fit : Fit c.args.plan (c.args.program.now) c.args.work.now = c.requires.fit.0 in
    let laid = fit.laid in
    let plan = c.args.plan in
    let g = front plan c.args.work.now in
    let x = reached_in plan c.args.tail c.args.work.now in
    let aim = ap (λ z. turns (spot_traced (c.args.program.now) plan g z c.args.d c.args.t) 0 plan.done x) c.target_of-target.ensures in
    rw sub-zero (loop-start _ _ c.requires.room_back (aim ∙ sym (trace-is (c.args.program.now) plan g laid.stacks-is laid.few-positions c.args.d c.args.t x)))

pub overflow_shr-follow_at : goal.overflow_shr-follow_at
overflow_shr-follow_at c =
    let fit : Fit c.args.plan (c.args.program.now) c.args.work.now = c.requires.fit.0 in
    omega (arith, (aimed fit c.args.t c.requires.d_nonzero.2 _ c.target_of-target.ensures).position-low, fit.laid.few-positions)

pub spot_traced-u-requires : goal.spot_traced-u-requires
spot_traced-u-requires c =
    let fit : Fit c.args.plan (c.args.program.now) c.args.work.now = c.requires.fit.0 in
    let (some, near, less) = c.requires.d_nonzero in
    let follows = ap (λ (m : ℕ). bit_of m c.target_of-target.result.position) (sym c.follow_at.ensures) ∙ c.if-follow_at-target-eq1.true in record { room_back = c.loop-c.invariant.ready; fit = (fit_same c.loop-c.invariant.long c.loop-c.invariant.front fit, indexed-traced c.loop-c.invariant c.requires.fit.1); aimed = (aimed fit c.args.t less _ c.target_of-target.ensures, less); d_nonzero = (some, omega (arith, near, c.loop-c.invariant.grows), c.loop-c-test.true, follows) }

pub loop-c-preserved : goal.loop-c-preserved
loop-c-preserved c = loop-turn _ _ _ c.loop-c.invariant c.loop-c-test.true (step_of c)

pub returns : goal.returns
returns c = loop-end _ _ _ c.loop-c.invariant (omega arith)
