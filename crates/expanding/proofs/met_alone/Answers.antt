-- `expanding::met_alone` meets its contract: the one state that could be pushed has a word. Assumes nothing.
use mathlib.Core.Path.{◌≡◌}
use mathlib.Core.Bool.{false}
use Rattle.std.proofs.Common.{rules, tests}
use native.Mathlib.Omega.{arith}
use Rattle.expanding.proofs.Undone.{alone-met}
use Rattle.expanding.proofs.met_alone.Goals as goal

pub overflow_add-home : goal.overflow_add-home
overflow_add-home c = omega (arith, c.requires.in_states 0 (omega arith), c.requires.undoing.laid.small)

pub dist_at-requires : goal.dist_at-requires
dist_at-requires c = record { room = c.requires.undoing.ready; s_lt_size = omega (arith, c.requires.in_states 0 (omega arith)) }

pub returns-then-not-undo : goal.returns-then-not-undo
returns-then-not-undo c met =
    let one : c.args.undo.count ≡ 1 = omega arith in
    let plain : c.args.undo.spot.push ≡ false = search rules in
    λ B x. alone-met c.args.plan c.args.undo B c.args.home x _ one plain (λ z. search (rules, tests, z))
