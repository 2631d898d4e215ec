-- `record::lines_from`: ten bytes a line have been passed at least, and what is left to count from here, with the lines passed, is what
-- there was to count at the start. The measure is the bytes left.
use Rattle.std.proofs.Common.{◌≡◌, ◌+◌, ◌*◌, ◌-◌, ◌≤◌, length, drop}
use Rattle.meaning.specs.Record.{lines_from}
use Rattle.record.proofs.Loop.{counted}
use Rattle.record.proofs.lines_from.Given as goal

abbrev pub invariant-loop-width : goal.invariant-loop-width
invariant-loop-width l =
    (3 + 10 * l.lines + length l.rest ≤ length l.day) × (length l.day ≤ 57348)
    × (counted l.lines (lines_from (length l.day - l.lines) l.places l.lines l.rest) ≡ counted 0 (lines_from (length l.day) l.places 0 (drop 3 l.day)))

abbrev pub decreases-loop-width : goal.decreases-loop-width
decreases-loop-width l = length l.rest
