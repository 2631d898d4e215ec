-- `writing::add_line`: what is refused is refused by `add_asked`; the bytes are written only where that gives a length, and then they fit.
use Rattle.std.proofs.Common.{ap, ◌∙◌, arith}
use Rattle.meaning.specs.Outcome.{told}
use Rattle.record.specs.Reading.{written_shown}
use Rattle.refusals.proofs.Handed.{reply-handed}
use Rattle.writing.proofs.Writes.{add-fits, add_done, add_kept}
use Rattle.writing.proofs.add_line.Goals as goal

pub returns-in_err-longer-clause-reply : goal.returns-in_err-longer-clause-reply
returns-in_err-longer-clause-reply c = reply-handed _ _ c.from_residual.ensures.1 ∙ ap told c.in_err-longer.ensures

pub returns-in_err-longer-clause-buffer : goal.returns-in_err-longer-clause-buffer
returns-in_err-longer-clause-buffer c = add_kept c.args.buf.now c.args.len (written_shown c.args.w) _ c.in_err-longer.ensures

pub overflow_sub-len : goal.overflow_sub-len
overflow_sub-len c =
    let f = add-fits c.args.buf.now c.args.len (written_shown c.args.w) _ c.in_ok-longer.ensures in
    omega (arith, f.2)

pub write_line-requires : goal.write_line-requires
write_line-requires c =
    let f = add-fits c.args.buf.now c.args.len (written_shown c.args.w) _ c.in_ok-longer.ensures in
    (f.0, omega (arith, f.1, f.2))

pub returns-clause-reply : goal.returns-clause-reply
returns-clause-reply c = ap told c.in_ok-longer.ensures

pub returns-clause-buffer : goal.returns-clause-buffer
returns-clause-buffer c = add_done c.args.buf.now c.args.len (written_shown c.args.w) _ c.in_ok-longer.ensures _ c.write_line.ensures
