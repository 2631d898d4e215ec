-- `forward::from_state`: each test that stops the line makes the step of the setting none, and past them it is the loop over the next positions.
use Rattle.std.proofs.Common.{refl, sym, ap, ◌∙◌, arith}
use Rattle.states.specs.Spots.{front}
use Rattle.states.proofs.Bounds.{stacks-pos, power_small, block-small}
use Rattle.area.proofs.Changes.{step-as, step-none}
use Rattle.forward.specs.declared.Lead.{Lead}
use Rattle.forward.proofs.Leading.{ends_low, position-low, stack-small}
use Rattle.forward.proofs.Bridge.{from-elsewhere, from-other-kind, from-refused, from-taken}
use Rattle.forward.proofs.from_state.Goals as goal

pub stands_at-requires : goal.stands_at-requires
stands_at-requires c =
    let laid = c.requires.fit.laid in
    (stacks-pos laid, block-small laid, laid.few-positions, omega (arith, (ends_low c.requires.fit c.requires.some_lead.0).0))

pub standing_at-here-requires : goal.standing_at-here-requires
standing_at-here-requires c =
    let laid = c.requires.fit.laid in
    record {
      stacks_nonzero = (stacks-pos laid, block-small laid, laid.few-positions, omega (arith, (ends_low c.requires.fit c.requires.some_lead.0).0));
      done_value = (sym c.stands_at.ensures ∙ c.if-stands_at.true, laid.inverse-is);
    }

pub kind_at-requires : goal.kind_at-requires
kind_at-requires c = omega (arith, position-low _ _ _ c.standing_at-here.ensures.0, c.requires.fit.laid.few-positions)

pub passes_at-requires : goal.passes_at-requires
passes_at-requires c =
    let laid = c.requires.fit.laid in
    (laid, omega (arith, position-low _ _ _ c.standing_at-here.ensures.0, laid.few-positions))

pub put_on_at-u-requires : goal.put_on_at-u-requires
put_on_at-u-requires c =
    let f = c.requires.fit in
    let low = position-low _ _ _ c.standing_at-here.ensures.0 in
    (omega (arith, low, f.laid.few-positions), f.laid.some-radix, power_small f.laid _ (f.depths-low _ low), stack-small f.laid _ _ c.standing_at-here.ensures.1)

pub follow_at-follow-requires : goal.follow_at-follow-requires
follow_at-follow-requires c = omega (arith, position-low _ _ _ c.standing_at-here.ensures.0, c.requires.fit.laid.few-positions)

pub over_next-requires : goal.over_next-requires
over_next-requires c =
    let f = c.requires.fit in
    record { ready_forth = c.requires.ready_forth; laid = f.laid; to_lt_places = ((ends_low f c.requires.some_lead.0).1, f.depths-low) }

pub returns-then-passes_at : goal.returns-then-passes_at
returns-then-passes_at c = λ i less is.
    let laid = c.requires.fit.laid in
    let here = c.standing_at-here.ensures in
    step-as _ c.over_next.ensures
    (from-taken c.args.program.now _ (front c.args.plan c.args.work.now) laid.stacks-is laid.few-positions _ _ _ _ less _ (ap (λ (l : Lead). l.from) is) (sym c.stands_at.ensures ∙ c.if-stands_at.true) _ _ here.0 here.1 _ (ap (λ (l : Lead). l.kind) is)
    (c.if-lead-kind_at.true ∙ c.kind_at.ensures) _ refl _ (ap (λ (l : Lead). l.code) is) (sym c.passes_at.ensures ∙ c.if-passes_at.true) _ c.put_on_at-u.ensures _ c.follow_at-follow.ensures _ (ap (λ (l : Lead). l.to) is))

pub returns-else-passes_at : goal.returns-else-passes_at
returns-else-passes_at c = λ i less is.
    let laid = c.requires.fit.laid in
    let here = c.standing_at-here.ensures in
    step-none _ c.requires.ready_forth
    (from-refused c.args.program.now _ (front c.args.plan c.args.work.now) laid.stacks-is laid.few-positions _ _ _ _ less _ (ap (λ (l : Lead). l.from) is) (sym c.stands_at.ensures ∙ c.if-stands_at.true) _ _ here.0 here.1 _ (ap (λ (l : Lead). l.kind) is)
    (c.if-lead-kind_at.true ∙ c.kind_at.ensures) _ refl _ (ap (λ (l : Lead). l.code) is) (sym c.passes_at.ensures ∙ c.if-passes_at.false))

pub returns-else-lead-kind_at : goal.returns-else-lead-kind_at
returns-else-lead-kind_at c = λ i less is.
    let laid = c.requires.fit.laid in
    let here = c.standing_at-here.ensures in
    step-none _ c.requires.ready_forth
    (from-other-kind c.args.program.now _ (front c.args.plan c.args.work.now) laid.stacks-is laid.few-positions _ _ _ _ less _ (ap (λ (l : Lead). l.from) is) (sym c.stands_at.ensures ∙ c.if-stands_at.true) _ _ here.0 here.1 _ (ap (λ (l : Lead). l.kind) is)
    (λ e. c.if-lead-kind_at.false (e ∙ sym c.kind_at.ensures)))

pub returns-else-stands_at : goal.returns-else-stands_at
returns-else-stands_at c = λ i less is.
    let laid = c.requires.fit.laid in
    step-none _ c.requires.ready_forth
    (from-elsewhere c.args.program.now _ (front c.args.plan c.args.work.now) laid.stacks-is laid.few-positions _ _ _ _ less _ (ap (λ (l : Lead). l.from) is) (sym c.stands_at.ensures ∙ c.if-stands_at.false))
