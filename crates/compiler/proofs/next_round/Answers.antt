-- `compiler::next_round`: only what may come after is another, and `after_round` gives it.
use Rattle.std.proofs.Common.{refl}
use Rattle.compiler.proofs.next_round.Goals as goal

pub returns : goal.returns
returns c = record {
  at-is = refl;
  base-is = refl;
  depth_is = refl;
  fits = λ scope K x next f l fits h.
      record { depth_is = f.depth_is; levels-are = f.levels-are; after-marks = c.after_round.ensures x K (c.round_of-round.ensures.is x next h) l fits f.after-marks };
}
