-- `compiler::entered`: each arm is one side of `enter`'s condition.
use Rattle.std.proofs.Common.{Bool, cond, subst, bit_or}
use Rattle.automaton.specs.Automaton.{enter}
use Rattle.positions.specs.Masks.{Marks}
use Rattle.compiler.proofs.Beginnings.{enter-marked}
use Rattle.compiler.proofs.entered.Goals as goal

pub returns-then-p : goal.returns-then-p
returns-then-p c x b next K h m =
    subst (λ (e : Bool). Marks (cond e (bit_or c.args.p.heads c.args.after) c.args.p.heads) (enter x b K)) c.if-p.true (enter-marked h m)
