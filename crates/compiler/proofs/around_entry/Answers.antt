-- `compiler::around_entry`: a keep's node pushes and is followed by what the pattern in it enters, the others are silent.
use Rattle.std.proofs.Common.{true, suc, refl, ap, arith}
use Rattle.compiler.specs.Compiling.{first_node}
use Rattle.pattern.specs.Reading.{byte_of}
use Rattle.compiler.proofs.Beginnings.{around-keep, begins-suc}
use Rattle.compiler.proofs.Entries.{says-as, says-taking}
use Rattle.compiler.proofs.around_entry.Goals as goal

pub returns-in-Keep : goal.returns-in-Keep
returns-in-Keep c scope K x next one f h =
    says-as (ap (λ p. first_node p c.args.task.base scope K) (around-keep c.args.c.first c.args.c.second x (ap byte_of c.in-Keep.is)))
    (says-taking scope refl c.requires.kind refl (omega arith) f.depth_is c.requires.depth
    (c.entered.ensures x (suc c.args.task.base) next K (begins-suc h) f.after-marks) true refl)
