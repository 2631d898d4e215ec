-- `forward::one_next`: the state after is in range, since a cut stack is below its power.
use Rattle.std.proofs.Common.{ap, ◌∙◌, ◌^◌, ◌%◌, arith}
use Rattle.states.proofs.Bounds.{power_pos, power-fits, power_small}
use Rattle.area.proofs.Changes.{step-as}
use Rattle.search.specs.Front.{state_in}
use Rattle.forward.proofs.Visits.{visit-same}
use Rattle.forward.proofs.one_next.Goals as goal

pub power-weight-requires : goal.power-weight-requires
power-weight-requires c =
    let (there, low, deep) = c.requires.to_lt_places in
    let laid = c.requires.laid in
    (laid.some-radix, omega (arith, c.depth_at.ensures, deep, laid.few-keeps), power_small laid c.depth_at.result (omega (arith, c.depth_at.ensures, deep)))

pub cut-requires : goal.cut-requires
cut-requires c = omega (arith, c.power-weight.ensures, power_pos c.requires.laid c.depth_at.result)

pub state_at-t-requires-clause-place_lt_places : goal.state_at-t-requires-clause-place_lt_places
state_at-t-requires-clause-place_lt_places c =
    let (there, low, deep) = c.requires.to_lt_places in
    let fits = power-fits c.requires.laid c.depth_at.result (omega (arith, c.depth_at.ensures, deep)) in
    (there, low, omega (arith, c.cut.ensures.1, fits, c.power-weight.ensures))

pub returns : goal.returns
returns c =
    let a = c.args in
    let weight = c.power-weight.ensures ∙ ap (a.plan.radix ^◌) c.depth_at.ensures in
    let stack = c.cut.ensures.0 ∙ ap (a.v %◌) weight in
    let state = c.state_at-t.ensures.0 ∙ ap (state_in a.plan a.to a.k) stack in
    step-as _ c.visit_state.ensures (visit-same _ _ _ _ _ state)
