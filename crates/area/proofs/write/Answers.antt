-- `area::write`: a word put into the lent middle part is a word put into the area.
use Rattle.std.proofs.Common.{◌≡◌, ◌+◌, ◌-◌, arith}
use Rattle.area.specs.Area.{stretch, patch}
use Rattle.area.proofs.Stretches.{patch-set}
use Rattle.area.proofs.write.Goals as goal

pub returns : goal.returns
unfolding patch stretch
returns c =
    let k : c.args.base + c.args.size - c.args.base ≡ c.args.size = omega arith in
    rw (c.put.ensures, k) (patch-set c.args.base c.args.size c.args.work.now c.args.i c.args.v (omega arith) (omega arith))
