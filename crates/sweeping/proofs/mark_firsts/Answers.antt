-- `sweeping::mark_firsts`: by what is left of its turns. The distances stay.
use Rattle.std.proofs.Common.{arith}
use Rattle.sweeping.proofs.Marks.{amid-start, amid-turn, amid-over, only-laid, only-room, only-dist}
use Rattle.sweeping.proofs.Led.{firsts-marked}
use Rattle.sweeping.proofs.mark_firsts.Goals as goal

pub loop-k-init : goal.loop-k-init
loop-k-init c = amid-start _ _

pub mark_first-led-requires : goal.mark_first-led-requires
mark_first-led-requires c =
    let only = c.loop-k.invariant.only in
    record { laid = (only-laid only c.requires.laid.0, only-room only c.requires.laid.1); from_lt_places = (c.requires.from_lt_places, omega arith) }

pub loop-k-preserved : goal.loop-k-preserved
loop-k-preserved c =
    let u = c.loop-k.invariant in
    let step = rw (only-dist u.only c.requires.laid.0) at c.mark_first-led.ensures in
    amid-turn _ _ _ u (omega arith) step

pub returns : goal.returns
returns c = firsts-marked (amid-over _ _ _ c.loop-k.invariant (omega arith)) (omega arith)
