-- What reading a line back promises: the line as it is written, or the documents' numbers of the refusal.
-- `line_reply r ≡ told (read_of s i)` is the promise of the open function `read_line`.
use Rattle.std.proofs.Math.Option.{Option, none, some}
use Rattle.std.specs.Prelude.{ℕ, Result, Some, None}
use Rattle.std.specs.Prelude.{Option as Maybe}
use Rattle.meaning.specs.Outcome.{Reply}
use Rattle.meaning.specs.Record.{Line}
use Rattle.record.specs.declared.Line.{Line as LineStruct}
use Rattle.record.specs.declared.Written.{Written}
use Rattle.refusals.specs.declared.Refusal.{Refusal}
use Rattle.refusals.specs.Refusal.{reply, reply_mapped}

-- the untimed line that the five operands are
abbrev pub line_shown : LineStruct → Line
line_shown l = record { from = l.from; kind = l.kind; boat = record { class = l.class; sail = l.sail }; to = l.to; time = none }

-- the line with a time
abbrev pub timed_shown : LineStruct → ℕ → Line
timed_shown l time = record { from = l.from; kind = l.kind; boat = record { class = l.class; sail = l.sail }; to = l.to; time = some time }

-- a line as it is written, timed or not
abbrev pub time_shown : Maybe ℕ → Option ℕ
time_shown None = none
time_shown (Some time) = some time

abbrev pub written_shown : Written → Line
written_shown w =
    let l = w.line in
    record { from = l.from; kind = l.kind; boat = record { class = l.class; sail = l.sail }; to = l.to; time = time_shown w.time }

-- what is told of it
abbrev pub line_reply : Result Written Refusal → Reply Line
line_reply r = reply_mapped written_shown (reply r)
