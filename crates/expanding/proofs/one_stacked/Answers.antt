-- `expanding::one_stacked` meets its contract: the word says the state with the empty stack and the boat's number, for the loop over stacks.
-- Assumes nothing.
use Rattle.states.proofs.Bounds.{stacks-pos}
use Rattle.area.proofs.Anyhow.{step-as}
use Rattle.expanding.proofs.Undone.{home-in, word-is}
use Rattle.expanding.proofs.one_stacked.Goals as goal

pub state_at-home-requires-clause-place_lt_places : goal.state_at-home-requires-clause-place_lt_places
state_at-home-requires-clause-place_lt_places c =
    (rw (← c.word-e.ensures) at c.requires.p_in_bounds.1, c.requires.leads_to.low, stacks-pos c.requires.undoing.laid)

pub over_stacks-requires-clause-in_states : goal.over_stacks-requires-clause-in_states
over_stacks-requires-clause-in_states c =
    let placed = rw (← c.word-e.ensures) at c.requires.p_in_bounds.1 in
    home-in _ _ c.requires.undoing.laid _ c.args.c _ placed c.requires.leads_to c.state_at-home.ensures.0

pub returns : goal.returns
returns c =
    step-as _ c.over_stacks.ensures (word-is _ _ _ _ _ _ _ c.word-e.ensures _ c.state_at-home.ensures.0)
