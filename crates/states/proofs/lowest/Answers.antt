-- `states::lowest` meets its contract: the zeros below the lowest position are counted. Assumes nothing.
use Prim.Native.Nat.{◌<◌}
use native.Mathlib.Omega.{arith}
use Rattle.states.proofs.Masks.{trailing-lowest}
use Rattle.states.proofs.lowest.Goals as goal

pub returns : goal.returns
returns c =
    let less : c.args.mask < 18446744073709551616 = omega arith in
    trailing-lowest 64 c.args.mask c.requires less
