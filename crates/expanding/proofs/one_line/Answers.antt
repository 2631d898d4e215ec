-- `expanding::one_line` meets its contract: a line that leads elsewhere or is of another kind does nothing, and another is the loop over stacks.
-- Assumes nothing.
use mathlib.Core.Path.{ap, ◌∙◌}
use Rattle.request.specs.Layout.{to_in, kind_in}
use Rattle.states.proofs.Bounds.{word-front, code-front, stacks-pos}
use Rattle.area.proofs.Anyhow.{step-as, step-none}
use Rattle.expanding.proofs.Undone.{home-in, from-line, from-low, line-elsewhere, line-other-kind, line_taken}
use Rattle.expanding.proofs.one_line.Goals as goal
use Rattle.expanding.proofs.one_line.Goals.{else-to_of-place-via-then-to_of-place+else-kind_of-undo, else-to_of-place-via-else-to_of-place}

pub state_at-home-requires-clause-place_lt_places : goal.state_at-home-requires-clause-place_lt_places
state_at-home-requires-clause-place_lt_places c =
    (from-low c.args.work.now c.requires.undoing.laid c.requires.starts.0 c.args.i c.requires.starts.1 _ c.word-line.ensures _ c.from_of.ensures.0, c.requires.leads_to.low, stacks-pos c.requires.undoing.laid)

pub over_stacks-requires-clause-in_states : goal.over_stacks-requires-clause-in_states
over_stacks-requires-clause-in_states c =
    let low = from-low c.args.work.now c.requires.undoing.laid c.requires.starts.0 c.args.i c.requires.starts.1 _ c.word-line.ensures _ c.from_of.ensures.0 in
    home-in _ _ c.requires.undoing.laid _ c.args.c _ low c.requires.leads_to c.state_at-home.ensures.0

pub returns-then-kind_of-undo : goal.returns-then-kind_of-undo
returns-then-kind_of-undo c =
    let laid = c.requires.undoing.laid in
    let h = c.requires.starts.1 in
    let word = word-front laid c.args.work.now c.args.i h _ c.word-line.ensures in
    let from = from-line c.args.work.now laid c.requires.starts.0 c.args.i h _ c.word-line.ensures _ c.from_of.ensures.0 in
    let code = code-front laid c.args.work.now c.args.i h _ c.word-code.ensures in
    step-as _ c.over_stacks.ensures
    (line_taken _ _ _ _ _ _ _ _ (c.to_of.ensures.0 ∙ ap to_in word) c.if-to_of-place.true _ (c.kind_of.ensures.0 ∙ ap kind_in word) c.if-kind_of-undo.true _ from _ _ code c.state_at-home.ensures.0)

pub returns : goal.returns
returns c =
    let ready = c.requires.undoing.ready in
    let word = word-front c.requires.undoing.laid c.args.work.now c.args.i c.requires.starts.1 _ c.word-line.ensures in
    let to = c.to_of.ensures.0 ∙ ap to_in word in
    elim c.else-to_of-place.branch [
      | else-to_of-place-via-then-to_of-place+else-kind_of-undo w ↦ step-none _ ready (line-other-kind _ _ _ _ _ _ _ _ to w.if-to_of-place.true _ (w.kind_of.ensures.0 ∙ ap kind_in word) w.if-kind_of-undo.false)
      | else-to_of-place-via-else-to_of-place w ↦ step-none _ ready (line-elsewhere _ _ _ _ _ _ _ _ to w.if-to_of-place.false)
    ]
