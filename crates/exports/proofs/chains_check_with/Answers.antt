-- `exports::chains_check_with` meets its contract: the reply of `check_chain_with`, as a number, and demand 2 of it (`check-number`). Assumes nothing.
use mathlib.Core.Path.{◌≡◌, ap, ◌∙◌, subst}
use Prim.Native.Nat.{ℕ}
use lib.ListN.{length}
use Rattle.meaning.specs.Outcome.{told}
use Rattle.meaning.specs.Windows.{Options}
use Rattle.meaning.specs.Request.{ask_request, work_after}
use Rattle.windows.specs.Promise.{options_of}
use Rattle.checker.specs.Promise.{check_reply, check_of, Demand2}
use Rattle.exports.specs.Promise.{check_number, Membership}
use Rattle.exports.proofs.Demands.{check-number}
use Rattle.exports.proofs.chains_check_with.Goals as goal

pub returns : goal.returns
returns c =
    let replied : let x = c.args in
    check_reply c.check_chain_with.result ≡ told (check_of x.rec.now x.pat.now x.from x.to x.chain.now ((options_of c.args.options.now)) (length x.work.now)) = let x = c.args in
    c.check_chain_with.ensures.reply ∙ ap (λ (o : Options). told (check_of x.rec.now x.pat.now x.from x.to x.chain.now o (length x.work.now))) c.options_of.ensures in
    let area : let x = c.args in
    c.check_chain_with.new.work ≡ work_after (ask_request x.rec.now x.pat.now x.from x.to ((options_of c.args.options.now)) (length x.work.now)) x.work.now = let x = c.args in
    c.check_chain_with.ensures.workspace ∙ ap (λ (o : Options). work_after (ask_request x.rec.now x.pat.now x.from x.to o (length x.work.now)) x.work.now) c.options_of.ensures in
    let member : let x = c.args in
    (r : ℕ) → r ≡ check_number (told (check_of x.rec.now x.pat.now x.from x.to x.chain.now ((options_of c.args.options.now)) (length x.work.now)))
    → Membership x.rec.now x.pat.now x.from x.to x.chain.now ((options_of c.args.options.now)) r = λ r n. let x = c.args in
    let met = subst (λ (o : Options). Demand2 x.rec.now x.pat.now x.from x.to x.chain.now o (check_reply c.check_chain_with.result)) c.options_of.ensures c.check_chain_with.ensures.membership in
    check-number x.rec.now x.pat.now x.from x.to x.chain.now ((options_of c.args.options.now)) (length x.work.now) _ replied met r n in
    let n = c.check_number.ensures ∙ ap check_number replied in
    record { reply = n; workspace = area; membership = member _ n }
