-- `sweeping::mark_one`: the state after is in range, since a cut stack is below its power.
use Rattle.std.proofs.Common.{ap, ◌∙◌, ◌^◌, ◌%◌, arith}
use Rattle.search.specs.Front.{state_in}
use Rattle.states.proofs.Bounds.{power_pos, power-fits, power_small}
use Rattle.sweeping.proofs.Marks.{marked-as, mark-same}
use Rattle.sweeping.proofs.mark_one.Goals as goal

pub power-weight-requires : goal.power-weight-requires
power-weight-requires c =
    let laid = c.requires.laid.0 in
    let deep = c.requires.to_lt_places.2 in
    (laid.some-radix, omega (arith, c.depth_at.ensures, deep, laid.few-keeps), power_small laid c.depth_at.result (omega (arith, c.depth_at.ensures, deep)))

pub cut-requires : goal.cut-requires
cut-requires c = omega (arith, c.power-weight.ensures, power_pos c.requires.laid.0 c.depth_at.result)

pub state_at-t-requires : goal.state_at-t-requires
state_at-t-requires c =
    let laid = c.requires.laid.0 in
    let (there, low, deep) = c.requires.to_lt_places in
    let fits = power-fits laid c.depth_at.result (omega (arith, c.depth_at.ensures, deep)) in
    record { size_value = (laid.size_is, laid.small, laid.few-positions); place_lt_places = (there, low, omega (arith, c.cut.ensures.1, fits, c.power-weight.ensures)) }

pub returns : goal.returns
returns c =
    let a = c.args in
    let weight = c.power-weight.ensures ∙ ap (a.plan.radix ^◌) c.depth_at.ensures in
    let stack = c.cut.ensures.0 ∙ ap (a.v %◌) weight in
    let state = c.state_at-t.ensures.0 ∙ ap (state_in a.plan a.to a.k) stack in
    marked-as _ c.mark_state.ensures (mark-same _ _ _ _ _ _ state)
