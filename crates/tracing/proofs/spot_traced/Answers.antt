-- `tracing::spot_traced` meets its contract: the stacks tried are those that the position can leave, and each line that leads to the target's
-- place is gone back over for them.
use mathlib.Core.Path.{◌≡◌, ◌∙◌}
use Prim.Native.Nat.{◌≤◌}
use native.Mathlib.Omega.{arith}
use Rattle.positions.specs.Program.{leaves_at}
use Rattle.automaton.specs.Shape.{deeper}
use Rattle.states.specs.Spots.{Fit, spot_in}
use Rattle.states.proofs.Bounds.{power_small}
use Rattle.ways.specs.Ways.{Before}
use Rattle.expanding.specs.Undoing.{undo_of}
use Rattle.expanding.proofs.Undone.{undo-power, undo-leads, undo-goes}
use Rattle.tracing.proofs.Traces.{traced-as}
use Rattle.tracing.proofs.Bridge.{before_of, spot-taken}
use Rattle.tracing.proofs.spot_traced.Goals as goal

pub spot_at-spot-requires : goal.spot_at-spot-requires
spot_at-spot-requires c =
    let fit : Fit c.args.plan (c.args.program.now) c.args.work.now = c.requires.fit.0 in
    let low : c.args.c ≤ c.args.plan.done = omega (arith, c.requires.d_nonzero.2) in
    let f = fit in
    record { c_bound = (omega (arith, low, f.laid.few-positions), f.laid.some-radix); c_bound_2 = (power_small f.laid _ (f.levels-low _ low), power_small f.laid _ (f.depths-low _ low)) }

pub leaves_of-leaves-requires : goal.leaves_of-leaves-requires
leaves_of-leaves-requires c =
    let fit : Fit c.args.plan (c.args.program.now) c.args.work.now = c.requires.fit.0 in
    let low : c.args.c ≤ c.args.plan.done = omega (arith, c.requires.d_nonzero.2) in
    let f = fit in omega (arith, c.depth_at.ensures, f.depths-low _ low, f.laid.few-keeps)

pub undo_of-undo-requires : goal.undo_of-undo-requires
unfolding spot_in
undo_of-undo-requires c =
    let fit : Fit c.args.plan (c.args.program.now) c.args.work.now = c.requires.fit.0 in
    let low : c.args.c ≤ c.args.plan.done = omega (arith, c.requires.d_nonzero.2) in
    let leaves-are : c.leaves_of-leaves.result ≡ leaves_at (c.args.program.now) c.args.c = c.leaves_of-leaves.ensures ∙ (λ t. deeper (c.spot_at-spot.ensures t).push (c.depth_at.ensures t)) in
    let before : Before c.args.plan c.spot_at-spot.result c.args.target c.args.c c.leaves_of-leaves.result = before_of fit c.requires.aimed.0 c.args.c low _ c.spot_at-spot.ensures _ leaves-are in
    undo-power before

pub over_into-requires : goal.over_into-requires
unfolding spot_in
over_into-requires c =
    let fit : Fit c.args.plan (c.args.program.now) c.args.work.now = c.requires.fit.0 in
    let low : c.args.c ≤ c.args.plan.done = omega (arith, c.requires.d_nonzero.2) in
    let leaves-are : c.leaves_of-leaves.result ≡ leaves_at (c.args.program.now) c.args.c = c.leaves_of-leaves.ensures ∙ (λ t. deeper (c.spot_at-spot.ensures t).push (c.depth_at.ensures t)) in
    let before : Before c.args.plan c.spot_at-spot.result c.args.target c.args.c c.leaves_of-leaves.result = before_of fit c.requires.aimed.0 c.args.c low _ c.spot_at-spot.ensures _ leaves-are in
    let (some, near, less, follows) = c.requires.d_nonzero in
    let (aim, state) = c.requires.aimed in
    record { undoing = undo-goes before c.undo_of-undo.ensures c.requires.room_back fit.laid some near; starts = (fit.starts, c.requires.fit.1, aim.place-low, state); leads_to = undo-leads before c.undo_of-undo.ensures }

pub returns : goal.returns
unfolding spot_in
returns c =
    let leaves-are : c.leaves_of-leaves.result ≡ leaves_at (c.args.program.now) c.args.c = c.leaves_of-leaves.ensures ∙ (λ t. deeper (c.spot_at-spot.ensures t).push (c.depth_at.ensures t)) in
    let x = c.args in
    let is = c.undo_of-undo.ensures ∙ (λ t. undo_of x.plan (c.spot_at-spot.ensures t) x.target x.d (leaves-are t)) in
    traced-as _ c.over_into.ensures (spot-taken (c.args.program.now) _ _ _ _ _ _ _ c.requires.d_nonzero.3 _ is)
