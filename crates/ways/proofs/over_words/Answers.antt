-- `ways::over_words` meets its contract, by what is left of its turns; the words gone over stay. Assumes nothing.
use mathlib.Core.Path.{sym, subst}
use Prim.Native.Nat.{◌<◌}
use native.Mathlib.Omega.{arith}
use lib.ListN.{get_or}
use Rattle.area.specs.Area.{found}
use Rattle.area.proofs.Changes.{step-as, loop-turn, loop-end}
use Rattle.states.specs.Spots.{boats_in}
use Rattle.states.proofs.Bounds.{boats-under}
use Rattle.ways.specs.Ways.{lane_state, lane_turn}
use Rattle.ways.proofs.Lanes.{under-word}
use Rattle.ways.proofs.over_words.Goals as goal

pub one_word-t-requires-clause-d_nonzero : goal.one_word-t-requires-clause-d_nonzero
one_word-t-requires-clause-d_nonzero g c =
    let (from, up_to_lem, u) = c.loop-p.invariant in
    let (some, near, behind, ordered, inside) = c.requires.d_nonzero in
    let same = under-word u c.loop-p.p (omega (arith, u.ready.fits, behind, from)) in
    let low = subst (λ e. lane_state c.args.lane e < c.args.plan.size) (sym same) (c.requires.within c.loop-p.p from (omega arith)) in
    (some, omega (arith, near, u.grows), omega (arith, u.long, inside), low)

pub loop-p-preserved : goal.loop-p-preserved
loop-p-preserved g c =
    let (from, up_to_lem, u) = c.loop-p.invariant in
    let same = under-word u c.loop-p.p (omega (arith, u.ready.fits, c.requires.d_nonzero.2, from)) in
    let plan = c.args.plan in
    let here = found plan.base plan.size c.loop-p.t c.loop-p.work in
    let boats = boats-under plan u in
    let step = step-as (lane_turn (boats_in plan c.args.work.now) c.args.d c.args.lane (get_or c.args.work.now c.loop-p.p 0)) c.one_word-t.ensures
    (λ i. lane_turn (sym boats i) c.args.d c.args.lane (sym same i) here) in
    (omega arith, omega arith, loop-turn _ _ _ u (omega arith) step)

pub returns : goal.returns
returns g c = loop-end _ _ _ c.loop-p.invariant.2 (omega arith)
