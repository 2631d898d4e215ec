-- `searching::begin_loaded` meets its contract: the goal is pushed into an area without anything found, the search settled, and its numbers and the
-- pattern put in front. That is the request's search before any state is taken up. Assumes nothing.
use mathlib.Core.Path.{◌∙◌, ap, subst, sym}
use Prim.Native.Nat.{◌<◌}
use native.Mathlib.Omega.{arith}
use Rattle.states.proofs.Bounds.{stacks-pos}
use Rattle.searching.specs.Promise.{held_in}
use Rattle.searching.specs.Words.{stretched-held}
use Rattle.searching.specs.Searching.{ReadyToBegin}
use Rattle.searching.proofs.Beginning.{begin-ready, begun-long, begun-room, begun-at}
use Rattle.searching.proofs.begin_loaded.Goals as goal

pub state_at-goal-requires-clause-place_lt_places : goal.state_at-goal-requires-clause-place_lt_places
state_at-goal-requires-clause-place_lt_places c =
    let posed = c.requires.posed in
    (subst (c.args.to <◌) (sym posed.planned.places-are) posed.to_low, omega arith, stacks-pos posed.laid)

pub returns : goal.returns
returns c q posed =
    let x = c.args in
    let ready : ReadyToBegin c.args.pattern.now c.args.plan c.args.from c.args.to c.args.work.now = c.requires in
    let r = ready in
    let step = c.push_if_new-found.ensures.sound (begin-ready ready).good in
    let (sized, stretched) = begun-at r posed (c.compile-begin.ensures.automaton q.pattern posed.reads) _ c.state_at-goal.ensures.0 step c.settle-begun.ensures c.put_front.ensures c.put_back.ensures in
    stretched-held q x.pattern.now x.from _ _ sized r.short (begun-room r _ step _ c.settle-begun.ensures c.put_front.ensures c.put_back.ensures posed) stretched
    ∙ ap (λ n. held_in q x.pattern.now x.from x.to n 0) (begun-long r _ step _ c.settle-begun.ensures c.put_front.ensures c.put_back.ensures)
