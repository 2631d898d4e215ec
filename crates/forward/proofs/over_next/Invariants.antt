-- `forward::over_next`: the positions below some j are done, and the mask's others are left.
use Rattle.std.proofs.Common.{ℕ, ◌+◌, ◌-◌, ◌≤◌}
use Rattle.graph.specs.Loops.{turns}
use Rattle.area.specs.Area.{Under}
use Rattle.states.specs.Pairs.{seen}
use Rattle.states.specs.Spots.{From, next_turn}
use Rattle.forward.proofs.over_next.Given as goal

abbrev pub invariant-loop-k : goal.invariant-loop-k
invariant-loop-k l =
    let turn = next_turn l.plan l.program l.mask (seen l.plan l.initial.work l.want) l.to l.v in
    (j : ℕ)
    × (j ≤ l.plan.done + 1)
    × From l.mask j l.k-iterator.0
    × Under l.plan.marks l.plan.size (turns turn 0 (l.plan.done + 1)) l.tail l.initial.work (turns turn j (l.plan.done + 1 - j)) l.t l.work
