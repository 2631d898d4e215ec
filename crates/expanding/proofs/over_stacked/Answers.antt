-- `expanding::over_stacked` meets its contract, by what is left of its turns; the words gone over stay. Assumes nothing.
use mathlib.Core.Path.{sym, subst}
use Prim.Native.Nat.{◌/◌, ◌<◌}
use native.Mathlib.Omega.{arith}
use lib.ListN.{get_or}
use Rattle.area.specs.Area.{found}
use Rattle.states.specs.Spots.{boats_in}
use Rattle.states.proofs.Bounds.{boats-front}
use Rattle.sorted.specs.Sorting.{pack_by}
use Rattle.area.proofs.Anyhow.{step-as, loop-turn, loop-end, under-front, under_back}
use Rattle.ways.proofs.Lanes.{back-word}
use Rattle.expanding.specs.Undoing.{word_undone}
use Rattle.expanding.proofs.over_stacked.Goals as goal

pub one_stacked-t-requires-clause-p_in_bounds : goal.one_stacked-t-requires-clause-p_in_bounds
one_stacked-t-requires-clause-p_in_bounds c =
    let (from, up_to_lem, u) = c.loop-p.invariant in
    let same = back-word c.loop-p.p c.loop-p.work c.args.work.now (under_back u c.loop-p.p (omega (arith, u.ready.fits, c.requires.words.behind, from))) in
    let placed = subst (λ e. e / pack_by < c.args.plan.places) (sym same) (c.requires.words.starts c.loop-p.p from (omega arith)) in
    (omega (arith, u.long, c.requires.words.inside), placed)

pub loop-p-preserved : goal.loop-p-preserved
loop-p-preserved c =
    let (from, up_to_lem, u) = c.loop-p.invariant in
    let same = back-word c.loop-p.p c.loop-p.work c.args.work.now (under_back u c.loop-p.p (omega (arith, u.ready.fits, c.requires.words.behind, from))) in
    let x = c.args in
    let here = found x.plan.base x.plan.size c.loop-p.t c.loop-p.work in
    let boats = boats-front x.plan c.loop-p.work x.work.now (under-front u x.plan.base (omega arith)) in
    let step = step-as (word_undone x.plan x.undo (boats_in x.plan x.work.now) x.c (get_or x.work.now c.loop-p.p 0)) c.one_stacked-t.ensures
    (λ i. word_undone x.plan x.undo (sym boats i) x.c (sym same i) here) in
    (omega arith, omega arith, loop-turn _ _ _ u (omega arith) step)

pub returns : goal.returns
returns c = loop-end _ _ _ c.loop-p.invariant.2 (omega arith)
