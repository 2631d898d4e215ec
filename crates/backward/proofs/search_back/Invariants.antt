-- `backward::search_back` meets its contract: the invariant is that `head` states are expanded since the loop began.
-- A state that waits is a state, and no distance is above the count of the queue. Assumes nothing.
use Prim.Native.Nat.{◌-◌}
use Rattle.search.specs.Loaded.{setting_in}
use Rattle.search.specs.Moves.{expand}
use Rattle.states.specs.Spots.{front}
use Rattle.backward.proofs.Stopping.{Going}
use Rattle.backward.proofs.search_back.Given as goal

abbrev pub invariant-loop-head : goal.invariant-loop-head
invariant-loop-head l = Going l.plan.base l.plan.size (expand (setting_in l.program l.plan (front l.plan l.initial.work))) l.head l.tail l.initial.work l.t l.work

abbrev pub decreases-loop-head : goal.decreases-loop-head
decreases-loop-head l = l.plan.size - l.head
