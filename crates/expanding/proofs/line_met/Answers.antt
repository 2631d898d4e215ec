-- `expanding::line_met` meets its contract: the state with the empty stack is the one at the line's start. Assumes nothing.
use mathlib.Core.Path.{ap, ◌∙◌}
use Rattle.search.specs.Front.{state_in}
use Rattle.states.specs.Spots.{front}
use Rattle.states.proofs.Bounds.{stacks-pos}
use Rattle.expanding.proofs.Undone.{home-in, from-line, from-low, line-idle}
use Rattle.expanding.proofs.line_met.Goals as goal

pub state_at-home-requires-clause-place_lt_places : goal.state_at-home-requires-clause-place_lt_places
state_at-home-requires-clause-place_lt_places c =
    (from-low c.args.work.now c.requires.undoing.laid c.requires.starts.0 c.args.i c.requires.starts.1 _ c.word-line.ensures _ c.from_of.ensures.0, c.requires.leads_to.low, stacks-pos c.requires.undoing.laid)

pub met_alone-requires-clause-in_states : goal.met_alone-requires-clause-in_states
met_alone-requires-clause-in_states c =
    let low = from-low c.args.work.now c.requires.undoing.laid c.requires.starts.0 c.args.i c.requires.starts.1 _ c.word-line.ensures _ c.from_of.ensures.0 in
    home-in _ _ c.requires.undoing.laid _ c.args.c _ low c.requires.leads_to c.state_at-home.ensures.0

pub returns : goal.returns
returns c met place =
    let x = c.args in
    let from = from-line c.args.work.now c.requires.undoing.laid c.requires.starts.0 x.i c.requires.starts.1 _ c.word-line.ensures _ c.from_of.ensures.0 in
    line-idle x.plan x.undo (front x.plan x.work.now) place x.c x.i _ _ (c.state_at-home.ensures.0 ∙ ap (λ q. state_in x.plan q x.c 0) from) (c.met_alone.ensures met)
