-- `expanding::over_entries` meets its contract, by what is left of its turns. Assumes nothing.
use Prim.Native.Nat.{ℕ, ◌+◌, ◌*◌, ◌≤◌, ◌<◌}
use native.Mathlib.Nat.{zero-mul}
use native.Mathlib.Omega.{arith}
use Rattle.request.specs.Layout.{largest}
use Rattle.request.specs.declared.Plan.{Plan}
use Rattle.area.proofs.Anyhow.{loop-turn, loop-end}
use Rattle.expanding.specs.Stepping.{Entries, entries_turn}
use Rattle.expanding.specs.declared.Undo.{Undo}
use Rattle.expanding.proofs.Entries.{le-product}
use Rattle.expanding.proofs.over_entries.Goals as goal

-- the numbers that the first state is made of
parts : (plan : Plan) (u : Undo) (home code below above h : ℕ) → (0 < u.weight) × (0 < below) × Entries plan u home code below above → plan.size ≤ largest → h < above
    → let n = h * plan.radix + code in (home + (n * below * u.weight + u.stack) < largest) × (n ≤ n * below) × (n * below ≤ n * below * u.weight)
parts plan u home code below above h (some, few, there) small less =
    (omega (arith, there h 0 less few, zero-mul u.weight, small), le-product _ _ few, le-product _ _ some)

pub overflow_mul-first : goal.overflow_mul-first
overflow_mul-first c =
    let x = c.args in
    let (first, one, two) = parts x.plan x.undo x.home x.code x.below x.above c.loop-h.h c.requires.weight_nonzero c.requires.undoing.laid.small c.loop-h-test.true in
    omega arith

pub overflow_add-first : goal.overflow_add-first
overflow_add-first c =
    let x = c.args in
    let (first, one, two) = parts x.plan x.undo x.home x.code x.below x.above c.loop-h.h c.requires.weight_nonzero c.requires.undoing.laid.small c.loop-h-test.true in
    omega arith

pub overflow_mul-first-in-loop-h : goal.overflow_mul-first-in-loop-h
overflow_mul-first-in-loop-h c =
    let x = c.args in
    let (first, one, two) = parts x.plan x.undo x.home x.code x.below x.above c.loop-h.h c.requires.weight_nonzero c.requires.undoing.laid.small c.loop-h-test.true in
    omega arith

pub overflow_mul-first-in-loop-h-2 : goal.overflow_mul-first-in-loop-h-2
overflow_mul-first-in-loop-h-2 c =
    let x = c.args in
    let (first, one, two) = parts x.plan x.undo x.home x.code x.below x.above c.loop-h.h c.requires.weight_nonzero c.requires.undoing.laid.small c.loop-h-test.true in
    omega arith

pub overflow_add-first-in-loop-h : goal.overflow_add-first-in-loop-h
overflow_add-first-in-loop-h c =
    let x = c.args in
    let (first, one, two) = parts x.plan x.undo x.home x.code x.below x.above c.loop-h.h c.requires.weight_nonzero c.requires.undoing.laid.small c.loop-h-test.true in
    omega arith

pub overflow_add-first-in-loop-h-2 : goal.overflow_add-first-in-loop-h-2
overflow_add-first-in-loop-h-2 c =
    let x = c.args in
    let (first, one, two) = parts x.plan x.undo x.home x.code x.below x.above c.loop-h.h c.requires.weight_nonzero c.requires.undoing.laid.small c.loop-h-test.true in
    omega arith

pub loop-h-preserved : goal.loop-h-preserved
loop-h-preserved c = (omega arith, loop-turn _ _ _ c.loop-h.invariant.1 c.loop-h-test.true (unfold entries_turn in c.over_low-t.ensures))

pub returns : goal.returns
returns c = loop-end _ _ _ c.loop-h.invariant.1 (omega arith)
