-- `request::load_boats`: after i turns the boats of the first i lines stand by their numbers, and the next line is the one that
-- begins at `at`.
use Rattle.std.proofs.Common.{◌≡◌}
use Rattle.record.specs.Cursor.{start_of}
use Rattle.record.specs.Whole.{lines_of}
use Rattle.request.specs.Loading.{BoatsNoted}
use Rattle.request.proofs.load_boats.Given as goal

abbrev pub invariant-loop-i : goal.invariant-loop-i
invariant-loop-i l = BoatsNoted (lines_of l.day) l.i l.next l.part × (l.at ≡ start_of (lines_of l.day) l.i)
