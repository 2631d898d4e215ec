-- `sweeping::mark_next`: the positions below some j are done, and the mask's others are left.
use Rattle.std.proofs.Common.{ℕ, ◌+◌, ◌-◌, ◌≤◌}
use Rattle.graph.specs.Loops.{turns}
use Rattle.states.specs.Pairs.{distances}
use Rattle.states.specs.Spots.{From, next_turn}
use Rattle.sweeping.specs.Sweeping.{mark_turn}
use Rattle.sweeping.proofs.Marks.{Amid}
use Rattle.sweeping.proofs.mark_next.Given as goal

abbrev pub invariant-loop-k : goal.invariant-loop-k
invariant-loop-k l =
    let turn = next_turn l.plan l.program l.mask (mark_turn (distances l.plan l.initial.work) l.marking.want l.marking.with) l.to l.v in
    (j : ℕ)
    × (j ≤ l.plan.done + 1)
    × From l.mask j l.k-iterator.0
    × Amid l.plan (turns turn 0 (l.plan.done + 1)) l.initial.led l.initial.work (turns turn j (l.plan.done + 1 - j)) l.led l.work
