-- `expanding::over_entries` meets its contract, by what is left of its turns. Assumes nothing.
use Prim.Native.Nat.{◌-◌, ◌≤◌}
use Rattle.graph.specs.Loops.{turns}
use Rattle.area.specs.Area.{UnderAny}
use Rattle.expanding.specs.Stepping.{entries_turn}
use Rattle.expanding.proofs.over_entries.Given as goal

abbrev pub invariant-loop-h : goal.invariant-loop-h
invariant-loop-h l =
    (l.h ≤ l.above) × UnderAny l.plan.base l.plan.size (turns (entries_turn l.plan l.undo l.home l.code l.below) 0 l.above) l.tail l.initial.work (turns (entries_turn l.plan l.undo l.home l.code l.below) l.h (l.above - l.h)) l.t l.work
