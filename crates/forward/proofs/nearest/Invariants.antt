-- `forward::nearest`: what the turns left make of the word so far is what all turns make of 0.
use Rattle.std.proofs.Common.{◌≡◌, ◌+◌, ◌-◌}
use Rattle.graph.specs.Loops.{turns}
use Rattle.states.specs.Pairs.{distances}
use Rattle.forward.specs.Firsts.{near_turn}
use Rattle.forward.proofs.nearest.Given as goal

abbrev pub invariant-loop-k : goal.invariant-loop-k
invariant-loop-k l =
    let f = near_turn l.plan (distances l.plan l.work) l.begin l.from in
    turns f l.k (l.plan.done + 1 - l.k) l.v ≡ turns f 0 (l.plan.done + 1) 0
