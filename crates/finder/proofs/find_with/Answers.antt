-- `finder::find_with` meets its contract: a request that is refused alters nothing; one that passes is loaded, searched and cleared.
-- Assumes nothing.
use mathlib.Core.Path.{◌≡◌, sym, ap, ◌∙◌, subst}
use mathlib.Core.List.{List}
use Prim.Native.Nat.{ℕ, ◌<◌}
use native.Mathlib.Omega.{arith}
use lib.ListN.{length, get_or}
use Rattle.meaning.specs.Request.{ask_request, work_after}
use Rattle.windows.specs.Promise.{options_shown}
use Rattle.request.specs.Told.{Parts, asked-parts, answers-refused, Told, answers-asked, told-loading, told-radix, all-zero}
use Rattle.search.specs.Asked.{answer, met_asked}
use Rattle.forward.proofs.Posing.{posed-from}
use Rattle.finder.specs.Promise.{Finding, find_of, find_reply, Said, said, out_after}
use Rattle.finder.specs.Promise.{Demand3}
use Rattle.finder.proofs.Demand.{finds}
use Rattle.finder.specs.Searching.{told-by, told_by}
use Rattle.finder.proofs.Answering.{find-refused, find-searched}
use Rattle.finder.proofs.Handed.{output-handed}
use Rattle.finder.proofs.find_with.Goals as goal

pub returns-in_err-plan : goal.returns-in_err-plan
returns-in_err-plan c =
    let demanded : ((i : ℕ) → get_or c.args.day.now i 0 < 256) → (r : Said) → r ≡ said ((find_of c.args.day.now c.args.pattern.now c.args.from c.args.to (options_shown c.args.options) (length c.args.work.now) (length c.args.out.now))) → (out : List ℕ) → out ≡ out_after ((find_of c.args.day.now c.args.pattern.now c.args.from c.args.to (options_shown c.args.options) (length c.args.work.now) (length c.args.out.now))) c.args.out.now
    → Demand3 c.args.day.now c.args.pattern.now c.args.from c.args.to (options_shown c.args.options) (length c.args.out.now) r out = λ low r is out written. let x = c.args in
    subst (λ o. Demand3 x.day.now x.pattern.now x.from x.to (options_shown x.options) (length x.out.now) r o) (sym written)
    (subst (λ s. Demand3 x.day.now x.pattern.now x.from x.to (options_shown x.options) (length x.out.now) s (out_after ((find_of c.args.day.now c.args.pattern.now c.args.from c.args.to (options_shown c.args.options) (length c.args.work.now) (length c.args.out.now))) x.out.now)) (sym is)
    (finds x.day.now x.pattern.now x.from x.to (options_shown x.options) (length x.work.now) (length x.out.now) x.out.now low)) in
    let x = c.args in
    let e = answers-refused (ask_request x.day.now x.pattern.now x.from x.to (options_shown x.options) (length x.work.now)) (length x.work.now) _ c.in_err-plan.ensures.answer in
    let f = find-refused x.day.now x.pattern.now x.from x.to (options_shown x.options) (length x.work.now) (length x.out.now) _ e in
    let is : find_reply c.from_residual.result ≡ said ((find_of c.args.day.now c.args.pattern.now c.args.from c.args.to (options_shown c.args.options) (length c.args.work.now) (length c.args.out.now))) = ap find_reply (output-handed _ _ c.from_residual.ensures.1) ∙ sym (ap said f) in
    let kept = sym (ap (λ (f : Finding). out_after f x.out.now) f) in
    record { reply = is; workspace = sym (ap (λ o. work_after o x.work.now) e); output = kept; first_shortest = demanded (λ i. omega (arith, c.type_inv.day i)) _ is _ kept }

pub load-requires : goal.load-requires
load-requires c =
    let passed_on : Told (ask_request c.args.day.now c.args.pattern.now c.args.from c.args.to (options_shown c.args.options) (length c.args.work.now)) (length c.args.work.now) (c.in_ok-plan.plan) = let x = c.args in
    answers-asked (ask_request x.day.now x.pattern.now x.from x.to (options_shown x.options) (length x.work.now)) (length x.work.now) _ c.in_ok-plan.ensures.answer in
    let parts : Parts c.args.day.now c.args.pattern.now c.args.from c.args.to (options_shown c.args.options) passed_on.asked = let x = c.args in
    asked-parts x.day.now x.pattern.now x.from x.to (options_shown x.options) (length x.work.now) passed_on.asked passed_on.is in
    let numbers = c.in_ok-plan.ensures.numbered in
    record { laid = told-loading passed_on parts; numbers_value = numbers; radix_value = told-radix passed_on parts }

pub search_loaded-length-requires : goal.search_loaded-length-requires
search_loaded-length-requires c =
    let passed_on : Told (ask_request c.args.day.now c.args.pattern.now c.args.from c.args.to (options_shown c.args.options) (length c.args.work.now)) (length c.args.work.now) (c.in_ok-plan.plan) = let x = c.args in
    answers-asked (ask_request x.day.now x.pattern.now x.from x.to (options_shown x.options) (length x.work.now)) (length x.work.now) _ c.in_ok-plan.ensures.answer in
    let parts : Parts c.args.day.now c.args.pattern.now c.args.from c.args.to (options_shown c.args.options) passed_on.asked = let x = c.args in
    asked-parts x.day.now x.pattern.now x.from x.to (options_shown x.options) (length x.work.now) passed_on.asked passed_on.is in
    (met_asked passed_on.asked, posed-from c.args.work.now passed_on parts (λ i. omega (arith, c.type_inv.day i)) _ c.load.ensures)

pub returns : goal.returns
returns c =
    let demanded : ((i : ℕ) → get_or c.args.day.now i 0 < 256) → (r : Said) → r ≡ said ((find_of c.args.day.now c.args.pattern.now c.args.from c.args.to (options_shown c.args.options) (length c.args.work.now) (length c.args.out.now))) → (out : List ℕ) → out ≡ out_after ((find_of c.args.day.now c.args.pattern.now c.args.from c.args.to (options_shown c.args.options) (length c.args.work.now) (length c.args.out.now))) c.args.out.now
    → Demand3 c.args.day.now c.args.pattern.now c.args.from c.args.to (options_shown c.args.options) (length c.args.out.now) r out = λ low r is out written. let x = c.args in
    subst (λ o. Demand3 x.day.now x.pattern.now x.from x.to (options_shown x.options) (length x.out.now) r o) (sym written)
    (subst (λ s. Demand3 x.day.now x.pattern.now x.from x.to (options_shown x.options) (length x.out.now) s (out_after ((find_of c.args.day.now c.args.pattern.now c.args.from c.args.to (options_shown c.args.options) (length c.args.work.now) (length c.args.out.now))) x.out.now)) (sym is)
    (finds x.day.now x.pattern.now x.from x.to (options_shown x.options) (length x.work.now) (length x.out.now) x.out.now low)) in
    let passed_on : Told (ask_request c.args.day.now c.args.pattern.now c.args.from c.args.to (options_shown c.args.options) (length c.args.work.now)) (length c.args.work.now) (c.in_ok-plan.plan) = let x = c.args in
    answers-asked (ask_request x.day.now x.pattern.now x.from x.to (options_shown x.options) (length x.work.now)) (length x.work.now) _ c.in_ok-plan.ensures.answer in
    let parts : Parts c.args.day.now c.args.pattern.now c.args.from c.args.to (options_shown c.args.options) passed_on.asked = let x = c.args in
    asked-parts x.day.now x.pattern.now x.from x.to (options_shown x.options) (length x.work.now) passed_on.asked passed_on.is in
    let x = c.args in
    let t = passed_on in
    let found = c.search_loaded-length.ensures (met_asked t.asked) (posed-from x.work.now t parts (λ i. omega (arith, c.type_inv.day i)) _ c.load.ensures) in
    let f = find-searched x.day.now x.pattern.now x.from x.to (options_shown x.options) (length x.work.now) (length x.out.now) t.asked t.is in
    let written = found.after_is ∙ sym (ap (λ (f : Finding). out_after f x.out.now) f) in
    let o = answer t.asked x.from x.to in
    let long : length c.search_loaded-length.new.out ≡ length c.args.out.now = omega arith in
    let is = c.answered.ensures ∙ ((λ i. told_by (found.length-is i) (long i)) ∙ sym (ap said f ∙ told-by o (length x.out.now))) in
    let cleared = all-zero (length c.search_loaded-length.new.work) _ _ c.clear.ensures (omega arith) in
    record { reply = is; workspace = cleared ∙ sym (ap (λ o. work_after o x.work.now) t.is); output = written; first_shortest = demanded (λ i. omega (arith, c.type_inv.day i)) _ is _ written }
