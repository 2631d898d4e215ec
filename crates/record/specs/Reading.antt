-- What the steps of the walk over a record answer, in the terms of `meaning`: the definitions that their contracts cite.
-- No open function's promise uses them.
use Rattle.std.specs.Prelude.{Bool, cond, ℕ, ◌+◌, ◌*◌, ◌%◌, length, Some, None}
use Rattle.std.specs.Prelude.{Option as Maybe}
use Rattle.std.proofs.Math.Option.{none}
use Rattle.meaning.specs.Record.{Line, Day, Entry, width}
use Rattle.meaning.specs.Record as meaning
pub use Rattle.record.specs.Promise.{time_shown, written_shown}
use Rattle.record.specs.declared.Counts.{Counts}

-- ---- a line as it is written

-- a line without its time
abbrev pub untimed : Line → Line
untimed l = record { from = l.from; kind = l.kind; boat = l.boat; to = l.to; time = none }

abbrev pub width_shown : Bool → ℕ
width_shown timed = cond timed 14 10

-- from, kind and class as one number: bytes 1 to 4 of a line
abbrev pub head_word : Line → ℕ
head_word l = l.from * 65536 + (l.kind * 256 + l.boat.class)

-- the sail number's two low bytes, and to: bytes 6 to 9; byte 5 has the sail number's high byte
abbrev pub tail_word : Line → ℕ
tail_word l = l.boat.sail % 65536 * 65536 + l.to

-- ---- what was read

-- how many bytes an entry has that is a line
abbrev pub entry_width : Entry → Maybe ℕ
entry_width (meaning.line l) = Some (width l)
entry_width meaning.end = None

-- how many places and lines a record has
abbrev pub counts_of : Day → Counts
counts_of day = record { places = day.places; lines = length day.lines }
