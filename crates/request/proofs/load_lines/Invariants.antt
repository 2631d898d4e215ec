-- `request::load_lines`: after i turns the first i words are those of the first i lines as the search meets them, and the next line
-- is the one that begins at `at`.
use Rattle.std.proofs.Common.{◌≡◌, map, length}
use Rattle.lists.specs.Filled.{filled}
use Rattle.record.specs.Cursor.{start_of}
use Rattle.record.specs.Whole.{lines_of}
use Rattle.windows.specs.Promise.{options_shown}
use Rattle.request.specs.Layout.{line_word, met_by}
use Rattle.request.proofs.load_lines.Given as goal

abbrev pub invariant-loop-i : goal.invariant-loop-i
invariant-loop-i l = (length l.part ≡ length l.initial.part) × (l.part ≡ filled (map line_word (met_by (options_shown l.options).windows (lines_of l.day))) l.i l.initial.part) × (length l.initial.part ≡ length (lines_of l.day)) × (l.at ≡ start_of (lines_of l.day) l.i)
