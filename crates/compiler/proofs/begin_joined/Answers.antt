-- `compiler::begin_joined`: an either begins as either of its patterns, a then as its first, and as its second where the first can be
-- empty.
use Rattle.std.proofs.Common.{◌||◌, refl, sym, ap, ◌∙◌}
use Rattle.pattern.specs.Reading.{byte_of}
use Rattle.compiler.proofs.Beginnings.{joined-either, begins-as, either-begins}
use Rattle.compiler.proofs.begin_joined.Goals as goal

pub returns-then-p : goal.returns-then-p
returns-then-p c b x y n m h k =
    begins-as (joined-either x y (ap byte_of c.in-Either.is))
    (either-begins h k refl refl refl (c.if-p.true ∙ ap (◌|| c.args.q.nullable) (sym c.if-p.true)))

pub returns-else-p : goal.returns-else-p
returns-else-p c b x y n m h k =
    begins-as (joined-either x y (ap byte_of c.in-Either.is)) (either-begins h k refl refl refl (ap (◌|| c.args.q.nullable) (sym c.if-p.false)))
