-- `exports::chains_find` meets its contract: the reply of `find`, as a number, and demand 3 of it (`find-number`). Assumes nothing.
use mathlib.Core.Path.{sym, ap, ◌∙◌, subst}
use native.Mathlib.Omega.{arith}
use lib.ListN.{length}
use Rattle.meaning.specs.Windows.{plain}
use Rattle.finder.specs.Promise.{find_of, said}
use Rattle.finder.proofs.Demand.{find-bounds}
use Rattle.exports.specs.Promise.{find_number}
use Rattle.exports.specs.Fits.{SaidFits}
use Rattle.exports.proofs.Demands.{bounds-fit, find-number}
use Rattle.exports.proofs.chains_find.Goals as goal

pub find_number-requires : goal.find_number-requires
find_number-requires c =
    let x = c.args in
    let said_of = said (find_of x.rec.now x.pat.now x.from x.to plain (length x.work.now) (length x.out.now)) in
    let small = find-bounds x.rec.now x.pat.now x.from x.to plain (length x.work.now) (length x.out.now) (λ i. omega (arith, c.type_inv.rec i)) in
    subst SaidFits (sym c.find.ensures.reply) (bounds-fit (length x.out.now) said_of small)

pub returns : goal.returns
returns c =
    let x = c.args in
    let n = c.find_number.ensures ∙ ap find_number c.find.ensures.reply in
    record { reply = n; workspace = c.find.ensures.workspace; output = c.find.ensures.output; first_shortest = find-number x.rec.now x.pat.now x.from x.to plain (length x.work.now) (length x.out.now) _ (λ i. omega (arith, c.type_inv.rec i)) _ c.find.ensures.reply c.find.ensures.first_shortest _ n }
