-- `writing::is_new`: i lines were passed, the next begins here, and none of those passed is the new line, so that the rest decides.
use Rattle.std.proofs.Common.{◌≡◌, ◌≤◌, length, drop}
use Rattle.meaning.specs.Writing.{is_new}
use Rattle.record.specs.Reading.{written_shown}
use Rattle.record.specs.Whole.{lines_of}
use Rattle.record.specs.Cursor.{start_of}
use Rattle.writing.proofs.is_new.Given as goal

abbrev pub invariant-loop-i : goal.invariant-loop-i
invariant-loop-i l =
    (l.i ≤ l.lines) × (l.lines ≡ length (lines_of l.day)) × (l.at ≡ start_of (lines_of l.day) l.i)
    × (is_new (written_shown l.w) (lines_of l.day) ≡ is_new (written_shown l.w) (drop l.i (lines_of l.day)))
