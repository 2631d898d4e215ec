-- `compiler::begin_nothing`: one position, and no letter.
use Rattle.std.proofs.Common.{refl}
use Rattle.compiler.proofs.Beginnings.{nothing-begins}
use Rattle.compiler.proofs.begin_nothing.Goals as goal

pub returns : goal.returns
returns c = nothing-begins c.args.base refl refl refl refl
