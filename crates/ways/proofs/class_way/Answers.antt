-- `ways::class_way` meets its contract, by which boats pass: the key is a place and the position's kind, and the lane's numbers are a set that is
-- served. Assumes nothing.
use mathlib.Core.Path.{refl}
use native.Mathlib.Omega.{arith}
use Rattle.states.proofs.Comparing.{sister-served, foreign-served}
use Rattle.states.specs.Spots.{front}
use Rattle.ways.proofs.Right.{stack-fits, kind-runs}
use Rattle.ways.proofs.Chosen.{lane-asked, sister-single, foreign-single}
use Rattle.ways.specs.Ways.{taken_by}
use Rattle.ways.specs.declared.Taking.TheVariants as Taking
use Rattle.ways.proofs.class_way.Goals as goal

pub lane_at-requires : goal.lane_at-requires
lane_at-requires c = lane-asked c.requires.before (stack-fits _ _ _ _ _ c.requires.before)

pub returns-in-Sister : goal.returns-in-Sister
returns-in-Sister c =
    let b = c.requires.before in
    let is = c.lane_at.ensures in
    let takes = rw c.in-Sister.is at c.in_ok-kin.ensures in (
      λ B. record { flat = is.weight_is; served = sister-served B c.in-Sister.x _ (λ y i. taken_by B (is.taking-is i) y) },
      kind-runs _ _ _ _ _ b (front c.args.plan c.args.work.now) c.requires.laid.1 1 _ _ 0 (Taking.Sister c.in-Sister.x) is refl (omega arith) (omega (arith, takes.0, b.laid.few-boats)) (sister-single _ _ _ _ _ _ b c.if-spot.false _ takes.1),
    )

pub lane_at-requires-in-Foreign : goal.lane_at-requires-in-Foreign
lane_at-requires-in-Foreign c = lane-asked c.requires.before (stack-fits _ _ _ _ _ c.requires.before)

pub returns-in-Foreign : goal.returns-in-Foreign
returns-in-Foreign c =
    let b = c.requires.before in
    let is = c.lane_at-in-Foreign.ensures in
    let takes = rw c.in-Foreign.is at c.in_ok-kin.ensures in (
      λ B. record { flat = is.weight_is; served = foreign-served B c.in-Foreign.x _ (λ y i. taken_by B (is.taking-is i) y) },
      kind-runs _ _ _ _ _ b (front c.args.plan c.args.work.now) c.requires.laid.1 1 _ _ 0 (Taking.Foreign c.in-Foreign.x) is refl (omega arith) (omega (arith, takes.0, b.laid.few-boats)) (foreign-single _ _ _ _ _ _ b c.if-spot.false _ takes.1),
    )
