-- `expanding::over_each` meets its contract, by what is left of its turns. Assumes nothing.
use Prim.Native.Nat.{◌-◌, ◌≤◌}
use Rattle.graph.specs.Loops.{turns}
use Rattle.area.specs.Area.{UnderAny}
use Rattle.states.specs.Spots.{boats_in, stack_turn}
use Rattle.expanding.specs.Undoing.{undone}
use Rattle.expanding.proofs.over_each.Given as goal

abbrev pub invariant-loop-x : goal.invariant-loop-x
invariant-loop-x l =
    (l.x ≤ l.undo.count) × UnderAny l.plan.base l.plan.size (undone l.plan l.undo (boats_in l.plan l.initial.work) l.home l.code) l.tail l.initial.work (turns (stack_turn (boats_in l.plan l.initial.work) l.plan.radix l.undo.spot l.undo.d l.home l.code l.undo.weight l.undo.stack) l.x (l.undo.count - l.x)) l.t l.work
