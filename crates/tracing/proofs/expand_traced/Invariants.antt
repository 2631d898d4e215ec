-- `tracing::expand_traced` meets its contract, by what is left of the turns over positions, which are what `trace` does in the setting.
use Prim.Native.Nat.{◌-◌}
use Rattle.graph.specs.Loops.{turns}
use Rattle.search.specs.Loaded.{setting_in}
use Rattle.search.specs.Traced.{trace}
use Rattle.states.specs.Spots.{front}
use Rattle.tracing.specs.Tracing.{spot_traced}
use Rattle.tracing.proofs.Traces.{UnderTraced}
use Rattle.tracing.proofs.expand_traced.Given as goal

abbrev pub invariant-loop-c : goal.invariant-loop-c
invariant-loop-c l =
    UnderTraced l.plan (trace (setting_in l.program l.plan (front l.plan l.initial.work)) l.d l.t) l.tail l.initial.work (turns (spot_traced l.program l.plan (front l.plan l.initial.work) l.target l.d l.t) l.c (l.plan.done - l.c)) l.u l.work
