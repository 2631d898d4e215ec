-- `request::ask_search`: all questions up to 16 by what asking them ensures, 17 by its test; the plan is laid out in the area, after the words
-- that the search keeps of itself, with room for the lines by place.
use Rattle.std.proofs.Common.{refl, arith}
use Rattle.meaning.specs.Request.{search_need}
use Rattle.refusals.proofs.Handed.{handed}
use Rattle.windows.specs.Promise.{options_shown}
use Rattle.request.specs.Asking.{ask_sized}
use Rattle.request.specs.Told.{search-sized}
use Rattle.request.proofs.Asking.{counts-refused, counts-passed, room-refused, room-short, room-all, few-boats, counts-fit, counts-planned, counts-room}
use Rattle.request.proofs.ask_search.Goals as goal

pub returns-in_err-counts-clause-answer : goal.returns-in_err-counts-clause-answer
returns-in_err-counts-clause-answer c =
    let a = c.args in
    let o = ask_sized a.day.now a.pattern.now a.from a.to (options_shown a.options) in
    let e = counts-refused o _ c.in_err-counts.ensures.counts in
    rw (search-sized a.day.now a.pattern.now a.from a.to (options_shown a.options) a.area, room-refused o search_need a.area _ e) (handed _ _ c.from_residual.ensures.1)

pub returns-then-area-search_words_for-clause-answer : goal.returns-then-area-search_words_for-clause-answer
returns-then-area-search_words_for-clause-answer c =
    let a = c.args in
    let o = ask_sized a.day.now a.pattern.now a.from a.to (options_shown a.options) in
    let s = counts-passed o c.in_ok-counts.counts c.in_ok-counts.ensures.counts in
    rw (search-sized a.day.now a.pattern.now a.from a.to (options_shown a.options) a.area, room-short o search_need a.area s.asked s.is (omega (arith, s.counts.size_is, s.counts.lines_are))) refl

pub plan_at-requires : goal.plan_at-requires
plan_at-requires c =
    let a = c.args in
    let s = (counts-passed (ask_sized a.day.now a.pattern.now a.from a.to (options_shown a.options)) c.in_ok-counts.counts c.in_ok-counts.ensures.counts).counts in
    counts-fit s _ _ (omega arith) (omega (arith, (few-boats s).1))

pub returns-clause-answer : goal.returns-clause-answer
returns-clause-answer c =
    let a = c.args in
    let o = ask_sized a.day.now a.pattern.now a.from a.to (options_shown a.options) in
    let s = counts-passed o c.in_ok-counts.counts c.in_ok-counts.ensures.counts in
    let plan = c.plan_at.ensures in
    rw (search-sized a.day.now a.pattern.now a.from a.to (options_shown a.options) a.area, room-all o search_need a.area s.asked s.is (omega (arith, s.counts.size_is, s.counts.lines_are)))
    (c.plan_at.result, refl, counts-planned s.counts plan.numbers, plan.laid, plan.numbers.5, counts-room s.counts plan.numbers plan.laid (omega arith) (omega arith))
