-- `compiler::one_more`: those after the round come first where it may be empty.
use Rattle.std.proofs.Common.{Bool, cond, suc, subst, bit_or}
use Rattle.automaton.specs.Automaton.{heads_counted}
use Rattle.positions.specs.Masks.{Marks}
use Rattle.compiler.proofs.RoundMasks.{shifted, more-marked}
use Rattle.compiler.proofs.one_more.Goals as goal

pub returns-then-round : goal.returns-then-round
returns-then-round c x b n o fits h =
    subst (λ (e : Bool). Marks (cond e (bit_or c.args.round.heads (shifted c.args.later c.args.round.width)) c.args.round.heads) (heads_counted x (suc n) b)) c.if-round.true (more-marked o n fits h)
