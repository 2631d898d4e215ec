-- `record::line_entry`: a refusal of the line is handed on.
use Rattle.std.proofs.Common.{◌≡◌, true, ap, ◌∙◌, arith, lt-ltb, le-leb, leb, length}
use Rattle.meaning.specs.Record.{width, line_of, ask_line}
use Rattle.meaning.specs.Outcome.{refused, passed}
use Rattle.refusals.specs.Refusal.{number}
use Rattle.refusals.proofs.Handed.{handed}
use Rattle.record.proofs.Tests.{line-refused}
use Rattle.record.proofs.Timed.{width_read}
use Rattle.record.proofs.line_entry.Goals as goal

pub returns-in_err-width : goal.returns-in_err-width
returns-in_err-width c =
    let s = c.args.s.now in
    let long : leb (width (line_of s)) (length s) ≡ true = le-leb _ _ (omega (arith, c.if-s-width_of.false, c.width_of.ensures, width_read c.args.timed s c.requires)) in
    let asked : refused (number c.in_err-width.field-0.0) ≡ ask_line c.args.places (line_of s) (passed (width (line_of s))) =
    c.in_err-width.ensures ∙ ap (λ l. ask_line c.args.places l (passed (width l))) c.written_of.ensures.0 in
    handed _ _ c.from_residual.ensures.1 ∙ simp (lt-ltb c.args.lines 4096 (omega arith), long) (line-refused c.args.places (line_of s) _ asked)
