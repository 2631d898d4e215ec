-- `put_bytes` meets its contract: a byte more is stored in each turn. Assumes nothing.
use Rattle.std.proofs.Common.{arith}
use Rattle.lists.specs.Filled.{fill-next}
use Rattle.searching.proofs.put_bytes.Goals as goal

pub loop-i-preserved : goal.loop-i-preserved
loop-i-preserved c =
    rw (c.loop-i.invariant, c.from.ensures) (fill-next c.args.pattern.now c.args.part.now c.loop-i.i c.loop-i-test.true (omega (arith, c.loop-i-test.true)))
