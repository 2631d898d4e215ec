-- `compiler::begin_around`: `begin_counted` gives a counted pattern.
use Rattle.std.proofs.Common.{ap, eq-eqb, arith}
use Rattle.meaning.specs.Pattern.{unfolded}
use Rattle.pattern.specs.Reading.{byte_of}
use Rattle.compiler.proofs.Beginnings.{around-counted, begins-as}
use Rattle.compiler.proofs.begin_around.Goals as goal

pub returns-in-Counted : goal.returns-in-Counted
returns-in-Counted c x next one low fits h =
    let code = ap byte_of c.in-Counted.is in
    let tree = around-counted c.args.c.first c.args.c.second x code in
    begins-as tree (c.begin_counted.ensures x next (low (eq-eqb _ _ code)) (omega (arith, fits, ap unfolded tree)) h)
