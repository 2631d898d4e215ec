-- `expanding::over_stacked` meets its contract, by what is left of its turns; the words gone over stay. Assumes nothing.
use Prim.Native.Nat.{◌-◌, ◌≤◌}
use lib.ListN.{get_or}
use Rattle.graph.specs.Loops.{turns}
use Rattle.area.specs.Area.{UnderAny}
use Rattle.states.specs.Spots.{boats_in}
use Rattle.expanding.specs.Undoing.{word_undone}
use Rattle.expanding.proofs.over_stacked.Given as goal

abbrev pub invariant-loop-p : goal.invariant-loop-p
invariant-loop-p l =
    (l.lo ≤ l.p)
    × (l.p ≤ l.hi)
    × UnderAny l.plan.base l.plan.size (turns (λ q. word_undone l.plan l.undo (boats_in l.plan l.initial.work) l.c (get_or l.initial.work q 0)) l.lo (l.hi - l.lo)) l.tail l.initial.work (turns (λ q. word_undone l.plan l.undo (boats_in l.plan l.initial.work) l.c (get_or l.initial.work q 0)) l.p (l.hi - l.p)) l.t l.work
