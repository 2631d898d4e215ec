-- `expanding::over_low` meets its contract, by what is left of its turns. Assumes nothing.
use Prim.Native.Nat.{◌+◌, ◌*◌, ◌-◌, ◌≤◌}
use Rattle.graph.specs.Loops.{turns}
use Rattle.graph.specs.Table.{push}
use Rattle.area.specs.Area.{UnderAny}
use Rattle.expanding.proofs.over_low.Given as goal

abbrev pub invariant-loop-l : goal.invariant-loop-l
invariant-loop-l l = (l.l ≤ l.many) × UnderAny l.plan.base l.plan.size (turns (λ n. push l.d (l.first + n * l.weight)) 0 l.many) l.tail l.initial.work (turns (λ n. push l.d (l.first + n * l.weight)) l.l (l.many - l.l)) l.t l.work
