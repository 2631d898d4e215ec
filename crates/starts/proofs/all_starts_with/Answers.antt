-- `starts::all_starts_with` meets its contract: a request that is refused alters nothing; where the lengths do not fit, the area is cleared; else the
-- record is loaded, searched and the area cleared. Assumes nothing.
use mathlib.Core.Path.{◌≡◌, sym, ap, ◌∙◌, subst}
use mathlib.Core.Bool.{true}
use mathlib.Core.List.{List}
use Prim.Native.Nat.{ℕ, ◌<◌}
use native.Mathlib.Omega.{arith}
use lib.ListN.{length, get_or, length-map}
use Rattle.meaning.specs.Outcome.{passed, Reply, value, refusal}
use Rattle.meaning.specs.Request.{Asked, all_below, ask_request, ask_starts, work_after}
use Rattle.windows.specs.Promise.{options_shown}
use Rattle.request.specs.Told.{Parts, asked-parts, answers-refused, Told, answers-asked, told-loading, told-radix, all-zero}
use Rattle.request.specs.declared.Plan.{Plan}
use Rattle.search.specs.Asked.{met_asked}
use Rattle.forward.specs.Posed.{Posed}
use Rattle.forward.proofs.Posing.{posed-from}
use Rattle.starts.specs.Promise.{length_from, Starting, starts_of, starts_reply, told, lengths_after, Shortest}
use Rattle.finder.proofs.Handed.{output-handed}
use Rattle.starts.specs.Highest.{starts-asked, asked-below}
use Rattle.starts.proofs.Demand.{starts-refused, starts-short, starts-lengths, starts-shortest}
use Rattle.starts.proofs.all_starts_with.Goals as goal

-- the area after loading is posed from every place below the count, and so from the finishing place
posed-to : {q : Asked} {pat : List ℕ} {p : Plan} {from to : ℕ} {w : List ℕ} → Posed q pat p from to w → Posed q pat p to to w
posed-to x = record { reads = x.reads; planned = x.planned; laid = x.laid; fit = x.fit; from_low = x.to_low; to_low = x.to_low; loaded = x.loaded }

pub returns-in_err-plan : goal.returns-in_err-plan
returns-in_err-plan c =
    let demanded : ((i : ℕ) → get_or c.args.day.now i 0 < 256) → (r : Reply ℕ) → r ≡ told ((starts_of c.args.day.now c.args.pattern.now c.args.starts.now c.args.to (options_shown c.args.options) (length c.args.work.now) (length c.args.lengths.now))) → (after : List ℕ) → after ≡ lengths_after ((starts_of c.args.day.now c.args.pattern.now c.args.starts.now c.args.to (options_shown c.args.options) (length c.args.work.now) (length c.args.lengths.now))) c.args.lengths.now
    → Shortest c.args.day.now c.args.pattern.now c.args.starts.now c.args.to (options_shown c.args.options) r after = λ low r is after written. let x = c.args in
    subst (λ l. Shortest x.day.now x.pattern.now x.starts.now x.to (options_shown x.options) r l) (sym written)
    (subst (λ s. Shortest x.day.now x.pattern.now x.starts.now x.to (options_shown x.options) s (lengths_after ((starts_of c.args.day.now c.args.pattern.now c.args.starts.now c.args.to (options_shown c.args.options) (length c.args.work.now) (length c.args.lengths.now))) x.lengths.now)) (sym is)
    (starts-shortest x.day.now x.pattern.now x.starts.now x.to (options_shown x.options) (length x.work.now) (length x.lengths.now) x.lengths.now low)) in
    let asked-same : (ask_starts c.args.day.now c.args.pattern.now c.args.starts.now c.args.to (options_shown c.args.options) (length c.args.work.now)) ≡ (let x = c.args in ask_request x.day.now x.pattern.now c.highest-most.result x.to (options_shown x.options) (length x.work.now)) = let x = c.args in
    starts-asked x.day.now x.pattern.now x.starts.now x.to (options_shown x.options) (length x.work.now)
    ∙ ap (λ m. ask_request x.day.now x.pattern.now m x.to (options_shown x.options) (length x.work.now)) (sym c.highest-most.ensures) in
    let x = c.args in
    let e = asked-same ∙ answers-refused ((let x = c.args in ask_request x.day.now x.pattern.now c.highest-most.result x.to (options_shown x.options) (length x.work.now))) (length x.work.now) _ c.in_err-plan.ensures.answer in
    let f = starts-refused x.day.now x.pattern.now x.starts.now x.to (options_shown x.options) (length x.work.now) (length x.lengths.now) _ e in
    let is : starts_reply c.from_residual.result ≡ told ((starts_of c.args.day.now c.args.pattern.now c.args.starts.now c.args.to (options_shown c.args.options) (length c.args.work.now) (length c.args.lengths.now))) = ap starts_reply (output-handed _ _ c.from_residual.ensures.1) ∙ sym (ap told f) in
    let kept = sym (ap (λ (s : Starting). lengths_after s x.lengths.now) f) in
    record { reply = is; workspace = sym (ap (λ o. work_after o x.work.now) e); lengths = kept; shortest = demanded (λ i. omega (arith, c.type_inv.day i)) _ is _ kept }

pub returns-then-lengths-starts : goal.returns-then-lengths-starts
returns-then-lengths-starts c =
    let demanded : ((i : ℕ) → get_or c.args.day.now i 0 < 256) → (r : Reply ℕ) → r ≡ told ((starts_of c.args.day.now c.args.pattern.now c.args.starts.now c.args.to (options_shown c.args.options) (length c.args.work.now) (length c.args.lengths.now))) → (after : List ℕ) → after ≡ lengths_after ((starts_of c.args.day.now c.args.pattern.now c.args.starts.now c.args.to (options_shown c.args.options) (length c.args.work.now) (length c.args.lengths.now))) c.args.lengths.now
    → Shortest c.args.day.now c.args.pattern.now c.args.starts.now c.args.to (options_shown c.args.options) r after = λ low r is after written. let x = c.args in
    subst (λ l. Shortest x.day.now x.pattern.now x.starts.now x.to (options_shown x.options) r l) (sym written)
    (subst (λ s. Shortest x.day.now x.pattern.now x.starts.now x.to (options_shown x.options) s (lengths_after ((starts_of c.args.day.now c.args.pattern.now c.args.starts.now c.args.to (options_shown c.args.options) (length c.args.work.now) (length c.args.lengths.now))) x.lengths.now)) (sym is)
    (starts-shortest x.day.now x.pattern.now x.starts.now x.to (options_shown x.options) (length x.work.now) (length x.lengths.now) x.lengths.now low)) in
    let passed_on : Told ((let x = c.args in ask_request x.day.now x.pattern.now c.highest-most.result x.to (options_shown x.options) (length x.work.now))) (length c.args.work.now) (c.in_ok-plan.plan) = answers-asked ((let x = c.args in ask_request x.day.now x.pattern.now c.highest-most.result x.to (options_shown x.options) (length x.work.now))) (length c.args.work.now) _ c.in_ok-plan.ensures.answer in
    let asked-same : (ask_starts c.args.day.now c.args.pattern.now c.args.starts.now c.args.to (options_shown c.args.options) (length c.args.work.now)) ≡ (let x = c.args in ask_request x.day.now x.pattern.now c.highest-most.result x.to (options_shown x.options) (length x.work.now)) = let x = c.args in
    starts-asked x.day.now x.pattern.now x.starts.now x.to (options_shown x.options) (length x.work.now)
    ∙ ap (λ m. ask_request x.day.now x.pattern.now m x.to (options_shown x.options) (length x.work.now)) (sym c.highest-most.ensures) in
    let is-passed : ask_starts c.args.day.now c.args.pattern.now c.args.starts.now c.args.to (options_shown c.args.options) (length c.args.work.now) ≡ passed passed_on.asked = asked-same ∙ passed_on.is in
    let x = c.args in
    let f = starts-short x.day.now x.pattern.now x.starts.now x.to (options_shown x.options) (length x.work.now) (length x.lengths.now) passed_on.asked is-passed c.if-lengths-starts.true in
    let is : refusal 19 (length x.starts.now) ≡ told ((starts_of c.args.day.now c.args.pattern.now c.args.starts.now c.args.to (options_shown c.args.options) (length c.args.work.now) (length c.args.lengths.now))) = sym (ap told f) in
    let kept = sym (ap (λ (s : Starting). lengths_after s x.lengths.now) f) in
    record { reply = is; workspace = c.clear.ensures ∙ sym (ap (λ o. work_after o x.work.now) is-passed); lengths = kept; shortest = demanded (λ i. omega (arith, c.type_inv.day i)) _ is _ kept }

pub load-requires : goal.load-requires
load-requires c =
    let passed_on : Told ((let x = c.args in ask_request x.day.now x.pattern.now c.highest-most.result x.to (options_shown x.options) (length x.work.now))) (length c.args.work.now) (c.in_ok-plan.plan) = answers-asked ((let x = c.args in ask_request x.day.now x.pattern.now c.highest-most.result x.to (options_shown x.options) (length x.work.now))) (length c.args.work.now) _ c.in_ok-plan.ensures.answer in
    let parts : Parts c.args.day.now c.args.pattern.now c.highest-most.result c.args.to (options_shown c.args.options) passed_on.asked = let x = c.args in asked-parts x.day.now x.pattern.now c.highest-most.result x.to (options_shown x.options) (length x.work.now) passed_on.asked passed_on.is in
    let numbers = c.in_ok-plan.ensures.numbered in
    record { laid = told-loading passed_on parts; numbers_value = numbers; radix_value = told-radix passed_on parts }

pub search_loaded-requires : goal.search_loaded-requires
search_loaded-requires c =
    let passed_on : Told ((let x = c.args in ask_request x.day.now x.pattern.now c.highest-most.result x.to (options_shown x.options) (length x.work.now))) (length c.args.work.now) (c.in_ok-plan.plan) = answers-asked ((let x = c.args in ask_request x.day.now x.pattern.now c.highest-most.result x.to (options_shown x.options) (length x.work.now))) (length c.args.work.now) _ c.in_ok-plan.ensures.answer in
    let parts : Parts c.args.day.now c.args.pattern.now c.highest-most.result c.args.to (options_shown c.args.options) passed_on.asked = let x = c.args in asked-parts x.day.now x.pattern.now c.highest-most.result x.to (options_shown x.options) (length x.work.now) passed_on.asked passed_on.is in
    let asked-same : (ask_starts c.args.day.now c.args.pattern.now c.args.starts.now c.args.to (options_shown c.args.options) (length c.args.work.now)) ≡ (let x = c.args in ask_request x.day.now x.pattern.now c.highest-most.result x.to (options_shown x.options) (length x.work.now)) = let x = c.args in
    starts-asked x.day.now x.pattern.now x.starts.now x.to (options_shown x.options) (length x.work.now)
    ∙ ap (λ m. ask_request x.day.now x.pattern.now m x.to (options_shown x.options) (length x.work.now)) (sym c.highest-most.ensures) in
    let is-passed : ask_starts c.args.day.now c.args.pattern.now c.args.starts.now c.args.to (options_shown c.args.options) (length c.args.work.now) ≡ passed passed_on.asked = asked-same ∙ passed_on.is in
    let places-below : all_below c.in_ok-plan.plan.places c.args.starts.now ≡ true = let x = c.args in
    ap (λ n. all_below n x.starts.now) passed_on.planned.places-are
    ∙ asked-below x.day.now x.pattern.now x.starts.now x.to (options_shown x.options) (length x.work.now) passed_on.asked is-passed in
    let posed = posed-from c.args.work.now passed_on parts (λ i. omega (arith, c.type_inv.day i)) _ c.load.ensures in
    record { some_posed = (met_asked passed_on.asked, posed-to posed); starts_value = places-below; starts_in_bounds = omega (arith, c.if-lengths-starts.false) }

pub returns : goal.returns
returns c =
    let demanded : ((i : ℕ) → get_or c.args.day.now i 0 < 256) → (r : Reply ℕ) → r ≡ told ((starts_of c.args.day.now c.args.pattern.now c.args.starts.now c.args.to (options_shown c.args.options) (length c.args.work.now) (length c.args.lengths.now))) → (after : List ℕ) → after ≡ lengths_after ((starts_of c.args.day.now c.args.pattern.now c.args.starts.now c.args.to (options_shown c.args.options) (length c.args.work.now) (length c.args.lengths.now))) c.args.lengths.now
    → Shortest c.args.day.now c.args.pattern.now c.args.starts.now c.args.to (options_shown c.args.options) r after = λ low r is after written. let x = c.args in
    subst (λ l. Shortest x.day.now x.pattern.now x.starts.now x.to (options_shown x.options) r l) (sym written)
    (subst (λ s. Shortest x.day.now x.pattern.now x.starts.now x.to (options_shown x.options) s (lengths_after ((starts_of c.args.day.now c.args.pattern.now c.args.starts.now c.args.to (options_shown c.args.options) (length c.args.work.now) (length c.args.lengths.now))) x.lengths.now)) (sym is)
    (starts-shortest x.day.now x.pattern.now x.starts.now x.to (options_shown x.options) (length x.work.now) (length x.lengths.now) x.lengths.now low)) in
    let passed_on : Told ((let x = c.args in ask_request x.day.now x.pattern.now c.highest-most.result x.to (options_shown x.options) (length x.work.now))) (length c.args.work.now) (c.in_ok-plan.plan) = answers-asked ((let x = c.args in ask_request x.day.now x.pattern.now c.highest-most.result x.to (options_shown x.options) (length x.work.now))) (length c.args.work.now) _ c.in_ok-plan.ensures.answer in
    let asked-same : (ask_starts c.args.day.now c.args.pattern.now c.args.starts.now c.args.to (options_shown c.args.options) (length c.args.work.now)) ≡ (let x = c.args in ask_request x.day.now x.pattern.now c.highest-most.result x.to (options_shown x.options) (length x.work.now)) = let x = c.args in
    starts-asked x.day.now x.pattern.now x.starts.now x.to (options_shown x.options) (length x.work.now)
    ∙ ap (λ m. ask_request x.day.now x.pattern.now m x.to (options_shown x.options) (length x.work.now)) (sym c.highest-most.ensures) in
    let is-passed : ask_starts c.args.day.now c.args.pattern.now c.args.starts.now c.args.to (options_shown c.args.options) (length c.args.work.now) ≡ passed passed_on.asked = asked-same ∙ passed_on.is in
    let parts : Parts c.args.day.now c.args.pattern.now c.highest-most.result c.args.to (options_shown c.args.options) passed_on.asked = let x = c.args in asked-parts x.day.now x.pattern.now c.highest-most.result x.to (options_shown x.options) (length x.work.now) passed_on.asked passed_on.is in
    let x = c.args in
    let t = passed_on in
    let posed = posed-to (posed-from x.work.now t parts (λ i. omega (arith, c.type_inv.day i)) _ c.load.ensures) in
    let found = c.search_loaded.ensures (met_asked t.asked) posed in
    let f = starts-lengths x.day.now x.pattern.now x.starts.now x.to (options_shown x.options) (length x.work.now) (length x.lengths.now) t.asked is-passed (omega (arith, c.if-lengths-starts.false)) in
    let written = found ∙ sym (ap (λ (s : Starting). lengths_after s x.lengths.now) f) in
    let is = ap value (sym (length-map x.starts.now (length_from t.asked x.to))) ∙ sym (ap told f) in
    let cleared = all-zero (length c.search_loaded.new.work) _ _ c.clear-2.ensures (omega arith) in
    record { reply = is; workspace = cleared ∙ sym (ap (λ o. work_after o x.work.now) is-passed); lengths = written; shortest = demanded (λ i. omega (arith, c.type_inv.day i)) _ is _ written }
