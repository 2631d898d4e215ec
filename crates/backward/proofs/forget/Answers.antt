-- `backward::forget` meets its contract: a pair that is cleared holds nothing found. Assumes nothing.
use mathlib.Core.Path.{refl, sym, subst}
use Prim.Native.Nat.{◌+◌, ◌≤◌}
use lib.ListN.{length}
use native.Mathlib.Omega.{arith}
use Rattle.area.proofs.Changes.{cleared-ready, step-none, step-cleared}
use Rattle.states.specs.Pairs.{StepBack}
use Rattle.backward.specs.Stopped.{forgotten}
use Rattle.backward.proofs.forget.Goals as goal

pub clear_stretch-requires : goal.clear_stretch-requires
clear_stretch-requires c = omega (arith, c.requires.room)

pub returns : goal.returns
returns c =
    let room : c.args.plan.base + c.args.plan.size + c.args.plan.size ≤ length c.args.work.now = omega (arith, c.requires.room) in
    let none = step-none (λ st. st) (cleared-ready c.args.plan.base c.args.plan.size c.args.work.now room (omega (arith, c.requires.small))) refl in
    subst (λ v. StepBack c.args.plan (forgotten c.args.plan.size) 0 c.args.work.now 0 v) (sym c.clear_stretch.ensures) (step-cleared c.args.plan.base c.args.plan.size c.args.work.now room (λ st. st) 0 _ none)
