-- `record::read_line`: the record's questions by what reading it ensures, 18 by its test.
use Rattle.std.proofs.Common.{◌≡◌, length, ap, ◌∙◌, arith, le-ltb, lt-ltb}
use Rattle.meaning.specs.Outcome.{value}
use Rattle.meaning.specs.Record.{read_record}
use Rattle.meaning.specs.Writing.{line_at}
use Rattle.refusals.specs.Refusal.{reply_mapped}
use Rattle.refusals.proofs.Handed.{reply-handed}
use Rattle.record.specs.Reading.{written_shown}
use Rattle.record.specs.Whole.{lines_in, lines_of, reading-refused, reading-passed}
use Rattle.record.proofs.Back.{read-refused, read-passed}
use Rattle.record.proofs.read_line.Goals as goal

pub returns-in_err-counts : goal.returns-in_err-counts
returns-in_err-counts c =
    let s = c.args.day.now in
    let e = reading-refused (read_record s) _ c.in_err-counts.ensures in
    rw (read-refused s _ _ e) (ap (reply_mapped written_shown) (reply-handed _ _ c.from_residual.ensures.1))

pub returns-then-counts-n : goal.returns-then-counts-n
returns-then-counts-n c =
    let s = c.args.day.now in
    let (day, e, p, n) = reading-passed (read_record s) _ c.in_ok-counts.ensures in
    rw (read-passed s _ day e, le-ltb _ _ (rw (n, c.from-n.ensures) at c.if-counts-n.true))

pub line_at-requires : goal.line_at-requires
line_at-requires c =
    let s = c.args.day.now in
    let (day, e, p, n) = reading-passed (read_record s) _ c.in_ok-counts.ensures in
    let here : length (lines_of s) ≡ length day.lines = ap (λ o. length (lines_in o)) e in
    omega (arith, here, n, c.if-counts-n.false)

pub returns : goal.returns
returns c =
    let s = c.args.day.now in
    let (day, e, p, n) = reading-passed (read_record s) _ c.in_ok-counts.ensures in
    rw (read-passed s _ day e, lt-ltb _ _ (rw (n, c.from-n.ensures) at c.if-counts-n.false))
    (ap value (c.line_at.ensures ∙ (ap (λ o. line_at (lines_in o) c.from-n.result) e ∙ ap (line_at day.lines) c.from-n.ensures)))
