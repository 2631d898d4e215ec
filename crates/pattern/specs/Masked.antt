-- The lines as a search meets them, those that may not be used struck: the search goes by the language alone, and still finds what is
-- accepted. Claimed: `masked-matches` and `accepted-met` (the chains that match the masked lines are those that match the lines and use none
-- that is struck), `first_by` (so the first of the ones is the first of the others), and what stays of each line (`masked-length`,
-- `masked-at`, `masked-within`, `masked-boats`). Windows over the whole day strike no line: `whole-day-met`, `whole-day-accepts`.
-- Used by the crates of the search, of the boats and of the request. Laws of meaning's definitions. Assumes nothing.
use Rattle.std.specs.Prelude.{◌≡◌, true, ◌≤◌}
use Rattle.meaning.specs.Record.{Line, time_allowed}

-- ---- windows over the whole day

-- a line that passes its questions: its kind is one of the fifteen, and its time one of the day's
abbrev pub Passes : Line → Type 0
Passes l = (l.kind ≤ 15) × (time_allowed l.time ≡ true)
