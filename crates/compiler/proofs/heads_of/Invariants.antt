-- `compiler::heads_of`: after so many turns the mask is that of so many rounds.
use Rattle.compiler.specs.Compiling.{HeadsOf}
use Rattle.compiler.proofs.heads_of.Given as goal

abbrev pub invariant-loop : goal.invariant-loop
invariant-loop l = HeadsOf l.round l.counter l.heads
