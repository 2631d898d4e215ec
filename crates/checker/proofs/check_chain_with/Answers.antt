-- `checker::check_chain_with`: all questions up to 17 by what asking them ensures, 18 by its test, and yes or no by what `accepted` ensures of the
-- loaded area; demand 2 holds of the definition, and so of the reply.
use Rattle.std.proofs.Common.{◌≡◌, sym, ap, ◌∙◌, subst, Bool, true, false, List, ◌++◌, ℕ, ◌<◌, length, get_or, take, drop, Ok, Err, arith}
use Rattle.meaning.specs.Outcome.{refusal, value, told}
use Rattle.meaning.specs.Windows.{Options}
use Rattle.meaning.specs.Request.{ask_request}
use Rattle.meaning.specs.Chain.{exist}
use Rattle.record.specs.Whole.{lines_of}
use Rattle.refusals.proofs.Handed.{reply-handed}
use Rattle.windows.specs.Promise.{options_shown}
use Rattle.refusals.specs.Refusal.{number}
use Rattle.refusals.specs.declared.Refusal.{Refusal}
use Rattle.request.specs.Asking.{Answers}
use Rattle.request.specs.Layout.{loaded_of, met_by}
use Rattle.request.specs.Told.{Parts, asked-parts, answers-refused, Told, answers-asked, told-loading, told-radix}
use Rattle.request.specs.declared.Plan.{Plan}
use Rattle.search.specs.Asked.{met_asked}
use Rattle.forward.proofs.Posing.{posed-from}
use Rattle.forward.specs.Posed.{SomePosed}
use Rattle.checker.specs.Walk.{RightFor}
use Rattle.checker.specs.Promise.{check_of, Demand2}
use Rattle.checker.specs.Demand.{check-demand}
use Rattle.checker.proofs.Replies.{check-refused, check-missing, check-said}
use Rattle.checker.proofs.check_chain_with.Goals as goal

module _ (rec pat : List ℕ) (from to : ℕ) (chain : List ℕ) (options : Options) (old : List ℕ) where
  refused-is : (e : Refusal) → Answers (ask_request rec pat from to options (length old)) (length old) (Err e) → refusal (number e) 0 ≡ told (check_of rec pat from to chain options (length old))
  refused-is e answer =
      sym (ap told (check-refused rec pat from to chain options (length old) _ (answers-refused (ask_request rec pat from to options (length old)) (length old) _ answer)))

  -- where questions 1 to 17 are passed, the numbers are those of lines of what passed
  module _ (plan : Plan) (answer : Answers (ask_request rec pat from to options (length old)) (length old) (Ok plan)) where
    abbrev passed_on : Told (ask_request rec pat from to options (length old)) (length old) plan
    passed_on = answers-asked (ask_request rec pat from to options (length old)) (length old) plan answer

    parts : Parts rec pat from to options passed_on.asked
    parts = asked-parts rec pat from to options (length old) passed_on.asked passed_on.is

    exist-as : exist (length passed_on.asked.day.lines) chain ≡ exist plan.lines chain
    exist-as = ap (λ m. exist m chain) (sym passed_on.planned.lines_are)

    missing-is : exist plan.lines chain ≡ false → refusal 18 0 ≡ told (check_of rec pat from to chain options (length old))
    missing-is none = sym (ap told (check-missing rec pat from to chain options (length old) passed_on.asked passed_on.is (exist-as ∙ none)))

    -- the answer of the loaded area is the definition's, and meets demand 2
    module _ (low : (i : ℕ) → get_or rec i 0 < 256) {w : List ℕ} (loaded : w ≡ take plan.boats old ++ (loaded_of plan.keeps (met_by options.windows (lines_of rec)) ++ drop plan.base old)) where
      abbrev posed : SomePosed pat plan from to w
      posed = (met_asked passed_on.asked, posed-from old passed_on parts low w loaded)

      module _ (all : exist plan.lines chain ≡ true) (b : Bool) (right : RightFor pat plan from to chain w b) where
        said-is : value b ≡ told (check_of rec pat from to chain options (length old))
        said-is = sym (ap told (check-said rec pat from to chain options (length old) passed_on.asked passed_on.is (exist-as ∙ all) b (right posed.0 posed.1)))

        demanded : Demand2 rec pat from to chain options (value b)
        demanded = subst (Demand2 rec pat from to chain options) (sym said-is) (check-demand rec pat from to chain options low (length old))

pub returns-in_err-plan-clause-reply : goal.returns-in_err-plan-clause-reply
returns-in_err-plan-clause-reply c =
    let x = c.args in
    reply-handed _ _ c.from_residual.ensures.1 ∙ refused-is x.day.now x.pattern.now x.from x.to x.chain.now (options_shown x.options) x.work.now _ c.in_err-plan.ensures.answer

pub returns-then-not-lines_exist-clause-reply : goal.returns-then-not-lines_exist-clause-reply
returns-then-not-lines_exist-clause-reply c =
    let x = c.args in
    missing-is x.day.now x.pattern.now x.from x.to x.chain.now (options_shown x.options) x.work.now _ c.in_ok-plan.ensures.answer (sym c.lines_exist.ensures ∙ c.if-not-lines_exist.true)

pub load-requires-clause-laid : goal.load-requires-clause-laid
load-requires-clause-laid c =
    let x = c.args in
    let answer = c.in_ok-plan.ensures.answer in
    let options = options_shown x.options in
    told-loading (passed_on x.day.now x.pattern.now x.from x.to x.chain.now options x.work.now _ answer) (parts x.day.now x.pattern.now x.from x.to x.chain.now options x.work.now _ answer)

pub load-requires-clause-radix_value : goal.load-requires-clause-radix_value
load-requires-clause-radix_value c =
    let x = c.args in
    let answer = c.in_ok-plan.ensures.answer in
    let options = options_shown x.options in
    told-radix (passed_on x.day.now x.pattern.now x.from x.to x.chain.now options x.work.now _ answer) (parts x.day.now x.pattern.now x.from x.to x.chain.now options x.work.now _ answer)

pub accepted-yes-requires-clause-some_posed : goal.accepted-yes-requires-clause-some_posed
accepted-yes-requires-clause-some_posed c =
    let x = c.args in
    let low : (i : ℕ) → get_or x.day.now i 0 < 256 = λ i. omega (arith, c.type_inv.day i) in
    rw (c.from.ensures, c.from-2.ensures) (posed x.day.now x.pattern.now x.from x.to x.chain.now (options_shown x.options) x.work.now _ c.in_ok-plan.ensures.answer low c.load.ensures)

pub returns-clause-reply : goal.returns-clause-reply
returns-clause-reply c =
    let x = c.args in
    let low : (i : ℕ) → get_or x.day.now i 0 < 256 = λ i. omega (arith, c.type_inv.day i) in
    let right = rw (c.from.ensures, c.from-2.ensures) at c.accepted-yes.ensures in
    said-is x.day.now x.pattern.now x.from x.to x.chain.now (options_shown x.options) x.work.now _ c.in_ok-plan.ensures.answer low c.load.ensures (sym c.lines_exist.ensures ∙ c.if-not-lines_exist.false) _ right

pub returns-clause-membership : goal.returns-clause-membership
returns-clause-membership c =
    let x = c.args in
    let low : (i : ℕ) → get_or x.day.now i 0 < 256 = λ i. omega (arith, c.type_inv.day i) in
    let right = rw (c.from.ensures, c.from-2.ensures) at c.accepted-yes.ensures in
    demanded x.day.now x.pattern.now x.from x.to x.chain.now (options_shown x.options) x.work.now _ c.in_ok-plan.ensures.answer low c.load.ensures (sym c.lines_exist.ensures ∙ c.if-not-lines_exist.false) _ right
