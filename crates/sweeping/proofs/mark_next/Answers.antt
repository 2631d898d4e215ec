-- `sweeping::mark_next`: the turns below the lowest position that is left do nothing, and none does anything once no position is left in the mask.
-- The distances stay.
use Rattle.std.proofs.Common.{◌+◌, ◌≤◌, arith}
use Rattle.forward.proofs.Visits.{next-none, next-lowest, next-beyond, rest-after, from_all}
use Rattle.sweeping.proofs.Marks.{amid-start, amid-step, amid-end, only-laid, only-room, only-dist}
use Rattle.sweeping.proofs.mark_next.Goals as goal

pub loop-k-init : goal.loop-k-init
loop-k-init c = rw c.into_iter-k-iterator.ensures.into_iter_gives (0, omega arith, from_all c.args.mask, amid-start _ _)

-- no position up to the last is left in the mask: the turns that are left do nothing
pub returns-then-plan-k : goal.returns-then-plan-k
returns-then-plan-k c =
    amid-end c.loop-k.invariant.3 (next-beyond _ _ _ _ _ _ _ _ _ _ _ c.loop-k.invariant.2 c.in-Some.ensures.steps.1 (omega (arith, c.if-plan-k.true)))

pub mark_one-led-requires : goal.mark_one-led-requires
mark_one-led-requires c =
    let only = c.loop-k.invariant.3.only in
    let low : c.in-Some.k ≤ c.args.plan.done = omega (arith, c.if-plan-k.false) in
    record { laid = (only-laid only c.requires.laid.0, only-room only c.requires.laid.1); to_lt_places = (c.requires.to_lt_places.0, low, c.requires.to_lt_places.1 _ low) }

pub loop-k-preserved : goal.loop-k-preserved
loop-k-preserved c =
    let (j, most, left, amid) = c.loop-k.invariant in
    let (few, low, rest) = c.in-Some.ensures.steps in
    let step = rw (only-dist amid.only c.requires.laid.0) at c.mark_one-led.ensures in (
      c.in-Some.k + 1,
      omega (arith, c.if-plan-k.false),
      rest-after left low _ rest,
      amid-step amid _ step (next-lowest _ _ _ _ _ _ _ _ _ _ _ left low (omega (arith, c.if-plan-k.false))),
    )

pub returns : goal.returns
returns c = amid-end c.loop-k.invariant.3 (next-none _ _ _ _ _ _ _ _ _ _ c.loop-k.invariant.2 c.in-None.ensures.steps)
