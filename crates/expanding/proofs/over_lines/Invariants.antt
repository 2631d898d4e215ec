-- `expanding::over_lines` meets its contract, by what is left of its turns; the lines stand before the search and stay. Assumes nothing.
use Prim.Native.Nat.{◌-◌, ◌≤◌}
use Rattle.graph.specs.Loops.{turns}
use Rattle.area.specs.Area.{UnderAny}
use Rattle.states.specs.Spots.{front}
use Rattle.expanding.specs.Undoing.{line_undone}
use Rattle.expanding.proofs.over_lines.Given as goal

abbrev pub invariant-loop-i : goal.invariant-loop-i
invariant-loop-i l =
    (l.i ≤ l.plan.lines)
    × UnderAny l.plan.base l.plan.size (turns (line_undone l.plan l.undo (front l.plan l.initial.work) l.place l.c) 0 l.plan.lines) l.tail l.initial.work (turns (line_undone l.plan l.undo (front l.plan l.initial.work) l.place l.c) l.i (l.plan.lines - l.i)) l.t l.work
