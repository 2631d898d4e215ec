-- `tracing::over_into` meets its contract: the words of the run are the lines that lead to the place, and going over them is going over all lines.
-- They stand after the stretches, and stay. A line that is left out would do nothing.
use Prim.Native.Nat.{◌-◌, ◌≤◌}
use lib.ListN.{get_or}
use Rattle.graph.specs.Loops.{turns}
use Rattle.states.specs.Spots.{front}
use Rattle.tracing.specs.Tracing.{line_traced, into_traced}
use Rattle.tracing.proofs.Traces.{UnderTraced}
use Rattle.tracing.proofs.Into.{Lined}
use Rattle.tracing.proofs.over_into.Given as goal

abbrev pub invariant-loop-k : goal.invariant-loop-k
invariant-loop-k l =
    ((l.initial.k ≤ l.k) × (l.k ≤ l.k-end) × Lined l.plan l.initial.k l.k-end l.initial.work)
    × UnderTraced l.plan (into_traced l.plan l.undo (front l.plan l.initial.work) l.place l.c l.parent) l.tail l.initial.work (turns (λ p. line_traced l.plan l.undo (front l.plan l.initial.work) l.place l.c l.parent (get_or l.initial.work p 0)) l.k (l.k-end - l.k)) l.t l.work
