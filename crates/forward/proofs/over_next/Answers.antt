-- `forward::over_next`: the turns below the lowest position that is left do nothing, and none does anything once no position is left in the mask.
-- The distances stand before the pair and stay.
use Rattle.std.proofs.Common.{sym, subst, ◌+◌, ◌≤◌, arith}
use Rattle.request.specs.Layout.{Laid}
use Rattle.area.proofs.Changes.{loop-start, under-step, under-end, under-stretch}
use Rattle.forward.proofs.Visits.{next-none, next-lowest, next-beyond, rest-after, from_all}
use Rattle.forward.proofs.over_next.Goals as goal

pub loop-k-init : goal.loop-k-init
loop-k-init c = rw c.into_iter-k-iterator.ensures.into_iter_gives (0, omega arith, from_all c.args.mask, loop-start _ _ c.requires.ready_forth)

-- no position up to the last is left in the mask: the turns that are left do nothing
pub returns-then-plan-k : goal.returns-then-plan-k
returns-then-plan-k c =
    under-end c.loop-k.invariant.3 (next-beyond _ _ _ _ _ _ _ _ _ _ _ c.loop-k.invariant.2 c.in-Some.ensures.steps.1 (omega (arith, c.if-plan-k.true)))

pub one_next-t-requires : goal.one_next-t-requires
one_next-t-requires c =
    let laid = subst (Laid c.args.plan) (sym c.loop-k.invariant.3.long) c.requires.laid in
    let low : c.in-Some.k ≤ c.args.plan.done = omega (arith, c.if-plan-k.false) in
    record { ready_forth = c.loop-k.invariant.3.ready; laid = laid; to_lt_places = (c.requires.to_lt_places.0, low, c.requires.to_lt_places.1 _ low) }

pub loop-k-preserved : goal.loop-k-preserved
loop-k-preserved c =
    let (j, most, left, under) = c.loop-k.invariant in
    let (few, low, rest) = c.in-Some.ensures.steps in
    let step = rw (under-stretch under c.args.plan.base c.args.plan.size (omega arith)) at c.one_next-t.ensures in (
      c.in-Some.k + 1,
      omega (arith, c.if-plan-k.false),
      rest-after left low _ rest,
      under-step under _ step (next-lowest _ _ _ _ _ _ _ _ _ _ _ left low (omega (arith, c.if-plan-k.false))),
    )

pub returns : goal.returns
returns c = under-end c.loop-k.invariant.3 (next-none _ _ _ _ _ _ _ _ _ _ c.loop-k.invariant.2 c.in-None.ensures.steps)
