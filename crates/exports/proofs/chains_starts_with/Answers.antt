-- `exports::chains_starts_with` meets its contract: the reply of `all_starts_with`, as a number, and demand 3 of it (`starts-number`). Assumes nothing.
use Rattle.std.proofs.Common.{List, ℕ}
use mathlib.Core.Path.{ap, ◌∙◌, subst}
use lib.ListN.{length}
use Rattle.meaning.specs.Windows.{Options}
use Rattle.meaning.specs.Request.{ask_starts, work_after}
use Rattle.windows.specs.Promise.{options_of}
use Rattle.starts.specs.Promise as OfStarts
use Rattle.starts.specs.Promise.{starts_reply, Starting, starts_of, lengths_after, Shortest}
use Rattle.exports.specs.Promise.{starts_number}
use Rattle.exports.proofs.Demands.{starts-number}
use Rattle.exports.proofs.chains_starts_with.Goals as goal

-- what the definition says of the request with these options
abbrev starting : (rec pat listed : List ℕ) (to words room : ℕ) → Options → Starting
starting rec pat listed to words room o = starts_of rec pat listed to o words room

pub returns : goal.returns
returns c =
    let x = c.args in
    let reply = c.all_starts_with.ensures.reply in
    let area = c.all_starts_with.ensures.workspace in
    let lengths = c.all_starts_with.ensures.lengths in
    let shortest = c.all_starts_with.ensures.shortest in
    let replied = reply ∙ ap (λ (o : Options). OfStarts.told (starting c.args.rec.now c.args.pat.now c.args.listed.now c.args.to (length c.args.work.now) (length c.args.lengths.now) o)) c.options_of.ensures in
    let n = c.starts_number.ensures ∙ ap starts_number replied in
    let met = subst (λ (o : Options). Shortest x.rec.now x.pat.now x.listed.now x.to o (starts_reply c.all_starts_with.result) c.all_starts_with.new.lengths) c.options_of.ensures shortest in record { reply = n; workspace = area ∙ ap (λ (o : Options). work_after (ask_starts x.rec.now x.pat.now x.listed.now x.to o (length x.work.now)) x.work.now) c.options_of.ensures; words = lengths ∙ ap (λ (o : Options). lengths_after (starting c.args.rec.now c.args.pat.now c.args.listed.now c.args.to (length c.args.work.now) (length c.args.lengths.now) o) x.lengths.now) c.options_of.ensures; shortest = starts-number x.rec.now x.pat.now x.listed.now x.to (options_of x.options.now) (length x.work.now) (length x.lengths.now) c.all_starts_with.new.lengths _ replied met _ n }
