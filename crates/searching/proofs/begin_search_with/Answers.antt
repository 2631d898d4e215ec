-- `searching::begin_search_with` meets its contract: a request that is refused alters nothing; one that passes is cleared and loaded, and its search begun.
-- Assumes nothing.
use mathlib.Core.Path.{sym, ap, ◌∙◌}
use Prim.Native.Nat.{ℕ}
use Rattle.std.proofs.Common.{List, Ok}
use native.Mathlib.Omega.{arith}
use lib.ListN.{length}
use Rattle.meaning.specs.Request.{ask_search}
use Rattle.windows.specs.Promise.{options_shown}
use Rattle.search.specs.Asked.{met_asked}
use Rattle.request.specs.Asking.{AnswersSearch}
use Rattle.request.specs.declared.Plan.{Plan}
use Rattle.meaning.specs.Windows.{Options}
use Rattle.request.specs.Told.{Parts, search-parts, ToldSearch, search-asked, planned-lines, planned-radix}
use Rattle.searching.specs.Promise.{begun_after, held_in}
use Rattle.searching.proofs.Loading.{cleared-laid, cleared-posed, cleared-ready, loaded-long}
use Rattle.searching.proofs.begin_search_with.Goals as goal

-- where questions 1 to 17 are passed
module _ (rec pat : List ℕ) (from to : ℕ) (options : Options) (words : ℕ) (plan : Plan) (answer : AnswersSearch (ask_search rec pat from to options words) words (Ok plan)) where
  abbrev passed_on : ToldSearch (ask_search rec pat from to options words) words plan
  passed_on = search-asked (ask_search rec pat from to options words) words plan answer

  abbrev parts : Parts rec pat from to options passed_on.asked
  parts = (search-parts rec pat from to options words passed_on.asked passed_on.is).0

pub load-requires-clause-laid : goal.load-requires-clause-laid
load-requires-clause-laid c =
    let x = c.args in
    let t = passed_on x.day.now x.pattern.now x.from x.to (options_shown x.options) (length x.work.now) _ c.in_ok-plan.ensures.answer in
    (cleared-laid c.clear.ensures t, planned-lines t.planned (parts x.day.now x.pattern.now x.from x.to (options_shown x.options) (length x.work.now) _ c.in_ok-plan.ensures.answer))

pub load-requires-clause-radix_value : goal.load-requires-clause-radix_value
load-requires-clause-radix_value c =
    let x = c.args in
    let t = passed_on x.day.now x.pattern.now x.from x.to (options_shown x.options) (length x.work.now) _ c.in_ok-plan.ensures.answer in
    planned-radix t.planned (parts x.day.now x.pattern.now x.from x.to (options_shown x.options) (length x.work.now) _ c.in_ok-plan.ensures.answer)

pub begin_loaded-requires : goal.begin_loaded-requires
begin_loaded-requires c =
    let x = c.args in
    let t = passed_on x.day.now x.pattern.now x.from x.to (options_shown x.options) (length x.work.now) _ c.in_ok-plan.ensures.answer in
    let p = parts x.day.now x.pattern.now x.from x.to (options_shown x.options) (length x.work.now) _ c.in_ok-plan.ensures.answer in
    rw (c.from.ensures, c.from-2.ensures) (cleared-ready c.clear.ensures t p (λ i. omega (arith, c.type_inv.day i)) c.load.ensures)

pub returns-clause-workspace : goal.returns-clause-workspace
returns-clause-workspace c =
    let x = c.args in
    let t = passed_on x.day.now x.pattern.now x.from x.to (options_shown x.options) (length x.work.now) _ c.in_ok-plan.ensures.answer in
    let p = parts x.day.now x.pattern.now x.from x.to (options_shown x.options) (length x.work.now) _ c.in_ok-plan.ensures.answer in
    let begun = rw (c.from.ensures, c.from-2.ensures) at c.begin_loaded.ensures in
    let held = begun (met_asked t.asked) (cleared-posed c.clear.ensures t p (λ i. omega (arith, c.type_inv.day i)) c.load.ensures) in
    held
    ∙ (ap (λ n. held_in (met_asked t.asked) x.pattern.now x.from x.to n 0) (loaded-long c.clear.ensures t p (λ i. omega (arith, c.type_inv.day i)) c.load.ensures)
    ∙ sym (ap (λ o. begun_after o x.pattern.now x.from x.to x.work.now) t.is))
