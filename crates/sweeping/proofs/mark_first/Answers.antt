-- `sweeping::mark_first`: the state with the empty stack is in range.
use Rattle.states.proofs.Bounds.{stacks-pos}
use Rattle.sweeping.proofs.Marks.{marked-as, marked-nothing}
use Rattle.sweeping.proofs.Led.{first-passed, first_taken}
use Rattle.sweeping.proofs.mark_first.Goals as goal

pub state_at-s-requires : goal.state_at-s-requires
state_at-s-requires c =
    let laid = c.requires.laid.0 in
    record { size_value = (laid.size_is, laid.small, laid.few-positions); place_lt_places = (c.requires.from_lt_places.0, c.requires.from_lt_places.1, stacks-pos laid) }

pub returns-then-begin-k-eq1 : goal.returns-then-begin-k-eq1
returns-then-begin-k-eq1 c = marked-as _ c.mark_state.ensures (first_taken _ _ _ _ _ _ _ _ c.if-begin-k-eq1.true _ c.state_at-s.ensures.0)

pub returns : goal.returns
returns c = marked-nothing _ (first-passed _ _ _ _ _ _ _ _ c.if-begin-k-eq1.false)
