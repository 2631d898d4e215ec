-- `stepping::back_by` meets its contract: the invariant is the contract for the turns that are done. Assumes nothing.
use Prim.Native.Nat.{◌-◌}
use Rattle.sweeping.specs.Sweeping.{index_at}
use Rattle.stepping.specs.Stepping.{Turned}
use Rattle.stepping.proofs.back_by.Given as goal

abbrev pub invariant-loop-done : goal.invariant-loop-done
invariant-loop-done l =
    Turned (λ _. Unit {0}) (index_at l.initial.state.plan) l.initial.state l.program l.begin l.amount l.initial.work (record { state = l.state; left = l.amount - l.done }) l.work
