-- `exports::chains_starts` meets its contract: the reply of `all_starts`, as a number, and demand 3 of it (`starts-number`). Assumes nothing.
use mathlib.Core.Path.{ap, ◌∙◌}
use lib.ListN.{length}
use Rattle.meaning.specs.Windows.{plain}
use Rattle.exports.specs.Promise.{starts_number}
use Rattle.exports.proofs.Demands.{starts-number}
use Rattle.exports.proofs.chains_starts.Goals as goal

pub returns : goal.returns
returns c =
    let x = c.args in
    let n = c.starts_number.ensures ∙ ap starts_number c.all_starts.ensures.reply in
    record { reply = n; workspace = c.all_starts.ensures.workspace; words = c.all_starts.ensures.lengths; shortest = starts-number x.rec.now x.pat.now x.listed.now x.to plain (length x.work.now) (length x.lengths.now) _ _ c.all_starts.ensures.reply c.all_starts.ensures.shortest _ n }
