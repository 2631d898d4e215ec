-- `sweeping::lead_on`: every word is as it was, the words of the run are the lines from the state's place, and those that lead on stand at k or above.
use Rattle.std.proofs.Common.{◌≡◌, ◌+◌, ◌/◌}
use Rattle.search.specs.Loaded.{setting_at}
use Rattle.sweeping.proofs.Runs.{Lined, Looking}
use Rattle.sweeping.proofs.lead_on.Given as goal

abbrev pub invariant-loop-k : goal.invariant-loop-k
invariant-loop-k l =
    (l.work ≡ l.initial.work)
    × Lined l.plan (l.s / l.plan.stacks / (l.plan.done + 1)) l.initial.k l.k-end l.initial.work
    × Looking l.plan (setting_at l.program l.plan l.initial.work) l.want l.s l.initial.k l.k-end l.initial.work l.k
