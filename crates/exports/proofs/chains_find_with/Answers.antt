-- `exports::chains_find_with` meets its contract: the reply of `find_with`, as a number, and demand 3 of it (`find-number`). Assumes nothing.
use Rattle.std.proofs.Common.{List, ℕ}
use mathlib.Core.Path.{◌≡◌, sym, ap, ◌∙◌, subst}
use native.Mathlib.Omega.{arith}
use lib.ListN.{length}
use Rattle.meaning.specs.Windows.{Options}
use Rattle.meaning.specs.Request.{ask_request, work_after}
use Rattle.windows.specs.Promise.{options_of}
use Rattle.finder.specs.Promise.{find_reply, Finding, find_of, said, out_after, Demand3}
use Rattle.finder.proofs.Demand.{find-bounds}
use Rattle.exports.specs.Promise.{find_number}
use Rattle.exports.specs.Fits.{SaidFits}
use Rattle.exports.proofs.Demands.{bounds-fit, find-number}
use Rattle.exports.proofs.chains_find_with.Goals as goal

-- what the definition says of the request with these options
abbrev finding : (rec pat : List ℕ) (from to words room : ℕ) → Options → Finding
finding rec pat from to words room o = find_of rec pat from to o words room

pub find_number-requires : goal.find_number-requires
find_number-requires c =
    let replied : find_reply c.find_with.result ≡ said (finding c.args.rec.now c.args.pat.now c.args.from c.args.to (length c.args.work.now) (length c.args.out.now) (options_of c.args.options.now)) = c.find_with.ensures.reply ∙ ap (λ (o : Options). said (finding c.args.rec.now c.args.pat.now c.args.from c.args.to (length c.args.work.now) (length c.args.out.now) o)) c.options_of.ensures in
    let x = c.args in
    let small = find-bounds x.rec.now x.pat.now x.from x.to ((options_of c.args.options.now)) (length x.work.now) (length x.out.now) (λ i. omega (arith, c.type_inv.rec i)) in
    subst SaidFits (sym replied) (bounds-fit (length x.out.now) (said (finding c.args.rec.now c.args.pat.now c.args.from c.args.to (length c.args.work.now) (length c.args.out.now) (options_of c.args.options.now))) small)

pub returns : goal.returns
returns c =
    let replied : find_reply c.find_with.result ≡ said (finding c.args.rec.now c.args.pat.now c.args.from c.args.to (length c.args.work.now) (length c.args.out.now) (options_of c.args.options.now)) = c.find_with.ensures.reply ∙ ap (λ (o : Options). said (finding c.args.rec.now c.args.pat.now c.args.from c.args.to (length c.args.work.now) (length c.args.out.now) o)) c.options_of.ensures in
    let x = c.args in
    let area = c.find_with.ensures.workspace in
    let out = c.find_with.ensures.output in
    let demand = c.find_with.ensures.first_shortest in
    let n = c.find_number.ensures ∙ ap find_number replied in
    let met = subst (λ (o : Options). Demand3 x.rec.now x.pat.now x.from x.to o (length x.out.now) (find_reply c.find_with.result) c.find_with.new.out) c.options_of.ensures demand in record { reply = n; workspace = area ∙ ap (λ (o : Options). work_after (ask_request x.rec.now x.pat.now x.from x.to o (length x.work.now)) x.work.now) c.options_of.ensures; output = out ∙ ap (λ (o : Options). out_after (finding c.args.rec.now c.args.pat.now c.args.from c.args.to (length c.args.work.now) (length c.args.out.now) o) x.out.now) c.options_of.ensures; first_shortest = find-number x.rec.now x.pat.now x.from x.to ((options_of c.args.options.now)) (length x.work.now) (length x.out.now) c.find_with.new.out (λ i. omega (arith, c.type_inv.rec i)) _ replied met _ n }
