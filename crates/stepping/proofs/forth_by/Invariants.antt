-- `stepping::forth_by` meets its contract: the invariant is the contract for the turns that are done, in phase two. Assumes nothing.
use mathlib.Core.Path.{◌≡◌}
use Prim.Native.Nat.{◌-◌}
use Rattle.sweeping.specs.Sweeping.{index_at}
use Rattle.stepping.specs.Stepping.{Turned}
use Rattle.stepping.proofs.forth_by.Given as goal

abbrev pub invariant-loop-done : goal.invariant-loop-done
invariant-loop-done l =
    (l.state.at.phase ≡ 1) × Turned (λ _. Unit {0}) (index_at l.initial.state.plan) l.initial.state l.program l.begin l.amount l.initial.work (record { state = l.state; left = l.amount - l.done }) l.work
