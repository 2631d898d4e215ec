-- `exports::chains_check` meets its contract: the reply of `check_chain`, as a number, and demand 2 of it (`check-number`). Assumes nothing.
use mathlib.Core.Path.{ap, ◌∙◌}
use lib.ListN.{length}
use Rattle.meaning.specs.Windows.{plain}
use Rattle.exports.specs.Promise.{check_number}
use Rattle.exports.proofs.Demands.{check-number}
use Rattle.exports.proofs.chains_check.Goals as goal

pub returns : goal.returns
returns c =
    let x = c.args in
    let n = c.check_number.ensures ∙ ap check_number c.check_chain.ensures.reply in
    record { reply = n; workspace = c.check_chain.ensures.workspace; membership = check-number x.rec.now x.pat.now x.from x.to x.chain.now plain (length x.work.now) _ c.check_chain.ensures.reply c.check_chain.ensures.membership _ n }
