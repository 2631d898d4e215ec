-- `checker::settle`: the first i states of the frontier are set aside.
use Rattle.checker.specs.Walk.{Aside}
use Rattle.checker.proofs.settle.Given as goal

abbrev pub invariant-loop-i : goal.invariant-loop-i
invariant-loop-i l = Aside l.plan l.i l.initial.work l.work
