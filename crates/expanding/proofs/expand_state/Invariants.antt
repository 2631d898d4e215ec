-- `expanding::expand_state` meets its contract, by what is left of the turns over positions, which are the expansion of the setting. Assumes nothing.
use Prim.Native.Nat.{◌-◌, ◌≤◌}
use Rattle.graph.specs.Loops.{turns}
use Rattle.area.specs.Area.{Under}
use Rattle.search.specs.Loaded.{setting_in}
use Rattle.search.specs.Moves.{expand}
use Rattle.states.specs.Spots.{front, spot_turn}
use Rattle.expanding.proofs.expand_state.Given as goal

abbrev pub invariant-loop-c : goal.invariant-loop-c
invariant-loop-c l = (l.c ≤ l.plan.done) × Under l.plan.base l.plan.size (expand (setting_in l.program l.plan (front l.plan l.initial.work)) l.d l.t) l.tail l.initial.work (turns (spot_turn l.program l.plan (front l.plan l.initial.work) l.target l.d) l.c (l.plan.done - l.c)) l.u l.work
