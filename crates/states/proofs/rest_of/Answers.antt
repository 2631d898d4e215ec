-- `states::rest_of` meets its contract: the digits of a number and of the one before it differ up to the lowest that is set. Assumes nothing.
use Prim.Native.Nat.{◌-◌}
use native.Mathlib.Omega.{arith}
use lib.Bits.{and_le_r}
use Rattle.states.proofs.Masks.{cleared}
use Rattle.states.proofs.rest_of.Goals as goal

pub returns : goal.returns
returns c = let n = c.args.mask in (omega (arith, and_le_r n (n - 1), c.requires), λ k low. cleared n k low)
