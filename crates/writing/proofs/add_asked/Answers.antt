-- `writing::add_asked`: question 20 by its test, the record's by what reading it ensures, the new line's by what `new_asked` ensures.
use Rattle.std.proofs.Common.{sym, ◌∙◌, take}
use Rattle.std.proofs.lemmas.Bool.{lt-leb}
use Rattle.meaning.specs.Record.{read_record}
use Rattle.meaning.specs.Writing.{add_of}
use Rattle.record.specs.Reading.{written_shown}
use Rattle.record.specs.Whole.{reading-refused}
use Rattle.refusals.proofs.Handed.{handed}
use Rattle.writing.proofs.Writes.{add-refused, add-asked}
use Rattle.writing.proofs.add_asked.Goals as goal

pub returns-then-buf-len : goal.returns-then-buf-len
unfolding add_of
returns-then-buf-len c = simp (lt-leb _ _ c.if-buf-len.true)

pub returns-in_err-day : goal.returns-in_err-day
returns-in_err-day c =
    let e = reading-refused (read_record (take c.args.len c.args.buf.now)) _ c.in_err-day.ensures in
    handed _ _ c.from_residual.ensures.1 ∙ sym (add-refused c.args.buf.now c.args.len (written_shown c.args.w) c.if-buf-len.false _ e)

pub returns : goal.returns
returns c = add-asked c.args.buf.now c.args.len (written_shown c.args.w) c.if-buf-len.false _ _ c.in_ok-day.ensures c.new_asked.ensures
