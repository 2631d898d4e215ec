-- `ways::one_word` meets its contract: the state that the word gives is pushed, or nothing is done. Assumes nothing.
use mathlib.Core.Path.{sym, ap, ◌∙◌}
use Prim.Native.Nat.{◌%◌}
use Rattle.area.proofs.Changes.{step-as, step-none}
use Rattle.sorted.specs.Sorting.{pack_by}
use Rattle.states.specs.Spots.{boats_in}
use Rattle.ways.specs.Ways.{lane_state, taken_by}
use Rattle.ways.proofs.Lanes.{lane-taken, lane-passed, lane-met}
use Rattle.ways.proofs.one_word.Goals as goal

pub returns-then-dist_at-ne0 : goal.returns-then-dist_at-ne0
returns-then-dist_at-ne0 g c =
    let state-is = c.lane_state-s.ensures ∙ ap (lane_state c.args.lane) c.word-e.ensures in
    step-none _ c.requires.ready_back (lane-met (boats_in c.args.plan c.args.work.now) c.args.lane c.args.d _ _ _ state-is (λ e. c.if-dist_at-ne0.true (c.dist_at.ensures.0 ∙ e)))

pub returns-then-taken : goal.returns-then-taken
returns-then-taken g c =
    let state-is = c.lane_state-s.ensures ∙ ap (lane_state c.args.lane) c.word-e.ensures in
    let B = boats_in c.args.plan c.args.work.now in
    let yes = ap (λ e. taken_by B c.args.lane.taking (e % pack_by)) (sym c.word-e.ensures) ∙ (sym c.taken.ensures ∙ c.if-taken.true) in
    step-as _ (c.push_if_new.ensures.sound c.requires.ready_back.good) (lane-taken B c.args.lane c.args.d _ _ _ yes state-is)

pub returns : goal.returns
returns g c =
    let B = boats_in c.args.plan c.args.work.now in
    let no = ap (λ e. taken_by B c.args.lane.taking (e % pack_by)) (sym c.word-e.ensures) ∙ (sym c.taken.ensures ∙ c.if-taken.false) in
    step-none _ c.requires.ready_back (lane-passed B c.args.lane c.args.d _ _ no)
