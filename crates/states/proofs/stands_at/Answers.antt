-- `states::stands_at` meets its contract: the states at a place are one block of numbers. Assumes nothing.
use mathlib.Core.Path.{refl, ◌∙◌}
use Prim.Native.Nat.{◌+◌, ◌*◌, ◌<◌}
use native.Mathlib.Omega.{arith}
use native.Mathlib.Nat.{le-mul_of_pos_right}
use borrow.Author.Tests.{lt-leb}
use Rattle.states.proofs.Standing.{stands-before, stands-within}
use Rattle.states.proofs.stands_at.Goals as goal
use Rattle.states.proofs.stands_at.Goals.{Start}

some_block : (c : Start) → 0 < (c.args.plan.done + 1) * c.args.plan.stacks
some_block c = omega (arith, c.requires.0, le-mul_of_pos_right (c.args.plan.done + 1) c.requires.0)

pub returns-then-low-s : goal.returns-then-low-s
returns-then-low-s c = stands-within c.args.plan.stacks (c.args.plan.done + 1) _ _ _ refl (some_block (goal.at.returns-then-low-s c).Start) c.if-low-s.true

pub returns-else-low-s : goal.returns-else-low-s
returns-else-low-s c = lt-leb _ _ c.if-low-s.false ∙ stands-before c.args.plan.stacks (c.args.plan.done + 1) _ _ _ refl (some_block (goal.at.returns-else-low-s c).Start) c.if-low-s.false
