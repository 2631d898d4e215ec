-- `record::line_at`: k lines were passed, and the next begins here.
use Rattle.std.proofs.Common.{◌≡◌, ◌<◌, ◌≤◌, length}
use Rattle.record.specs.Whole.{lines_of}
use Rattle.record.specs.Cursor.{start_of}
use Rattle.record.proofs.line_at.Given as goal

abbrev pub invariant-loop-k : goal.invariant-loop-k
invariant-loop-k l = (l.k ≤ l.i) × (l.i < length (lines_of l.day)) × (l.at ≡ start_of (lines_of l.day) l.k)
