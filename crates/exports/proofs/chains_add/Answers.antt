-- `exports::chains_add` meets its contract: the reply of the record's function, as a number. Assumes nothing.
use mathlib.Core.Path.{◌≡◌, ap, ◌∙◌}
use mathlib.Core.Option.{none}
use Rattle.meaning.specs.Record.{Line}
use Rattle.meaning.specs.Outcome.{told}
use Rattle.meaning.specs.Writing.{add_of, add_after}
use Rattle.record.specs.Promise.{line_shown}
use Rattle.exports.specs.Promise.{number_of}
use Rattle.exports.proofs.chains_add.Goals as goal

pub returns : goal.returns
returns c =
    let made : line_shown c.line_with-line.result ≡ (let x = c.args in record { from = x.from; kind = x.kind; boat = record { class = x.class; sail = x.sail }; to = x.to; time = none }) = let x = c.args in
    let (from, kind, class, sail, to) = c.line_with-line.ensures in
    λ i. record { from = from i; kind = kind i; boat = record { class = class i; sail = sail i }; to = to i; time = none } in
    let x = c.args in
    record { reply = c.write_number.ensures ∙ ap number_of (c.add_line.ensures.reply ∙ ap (λ (l : Line). told (add_of x.buf.now x.len l)) made); buffer = c.add_line.ensures.buffer ∙ ap (λ (l : Line). add_after x.buf.now x.len l) made }
