-- `starts::write_lengths` meets its contract: after i turns the first i words are the lengths of the first i places. Assumes nothing.
use mathlib.Core.Path.{◌≡◌}
use mathlib.Core.List.{map}
use Rattle.area.specs.Area.{stretch}
use Rattle.lists.specs.Filled.{filled}
use Rattle.starts.specs.Lengths.{length_at}
use Rattle.starts.proofs.write_lengths.Given as goal

abbrev pub invariant-loop-i : goal.invariant-loop-i
invariant-loop-i l =
    l.lengths ≡ filled (map (length_at l.plan l.begin (stretch l.plan.base l.plan.size l.work)) l.starts) l.i l.initial.lengths
