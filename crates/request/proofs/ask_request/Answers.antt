-- `request::ask_request`: all questions up to 16 by what asking them ensures, 17 by its test; the plan is laid out in the area.
use Rattle.std.proofs.Common.{refl, arith}
use Rattle.meaning.specs.Request.{size_of, need}
use Rattle.refusals.proofs.Handed.{handed}
use Rattle.windows.specs.Promise.{options_shown}
use Rattle.request.specs.Asking.{ask_sized}
use Rattle.request.specs.Told.{request-sized}
use Rattle.request.proofs.Asking.{counts-refused, counts-passed, room-refused, room-short, room-all, few-boats, counts-fit, counts-planned}
use Rattle.request.proofs.ask_request.Goals as goal

pub returns-in_err-counts-clause-answer : goal.returns-in_err-counts-clause-answer
returns-in_err-counts-clause-answer c =
    let a = c.args in
    let o = ask_sized a.day.now a.pattern.now a.from a.to (options_shown a.options) in
    let e = counts-refused o _ c.in_err-counts.ensures.counts in
    rw (request-sized a.day.now a.pattern.now a.from a.to (options_shown a.options) a.area, room-refused o (λ q. need (size_of q)) a.area _ e) (handed _ _ c.from_residual.ensures.1)

pub returns-then-area-words_for-clause-answer : goal.returns-then-area-words_for-clause-answer
returns-then-area-words_for-clause-answer c =
    let a = c.args in
    let o = ask_sized a.day.now a.pattern.now a.from a.to (options_shown a.options) in
    let s = counts-passed o c.in_ok-counts.counts c.in_ok-counts.ensures.counts in
    rw (request-sized a.day.now a.pattern.now a.from a.to (options_shown a.options) a.area, room-short o (λ q. need (size_of q)) a.area s.asked s.is (omega (arith, s.counts.size_is))) refl

pub plan_at-requires : goal.plan_at-requires
plan_at-requires c =
    let a = c.args in
    let s = (counts-passed (ask_sized a.day.now a.pattern.now a.from a.to (options_shown a.options)) c.in_ok-counts.counts c.in_ok-counts.ensures.counts).counts in
    counts-fit s _ _ (omega arith) (omega (arith, (few-boats s).0, s.few-lines))

pub returns-clause-answer : goal.returns-clause-answer
returns-clause-answer c =
    let a = c.args in
    let o = ask_sized a.day.now a.pattern.now a.from a.to (options_shown a.options) in
    let s = counts-passed o c.in_ok-counts.counts c.in_ok-counts.ensures.counts in
    let plan = c.plan_at.ensures in
    rw (request-sized a.day.now a.pattern.now a.from a.to (options_shown a.options) a.area, room-all o (λ q. need (size_of q)) a.area s.asked s.is (omega (arith, s.counts.size_is)))
    (c.plan_at.result, refl, counts-planned s.counts plan.numbers, plan.laid)
