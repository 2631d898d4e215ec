-- `checker::leads`: in the cleared pair the mask's positions are the first set, the chain moves it, and the end's mark says whether it came there.
use Rattle.std.proofs.Common.{◌≡◌, sym, ap, ◌∙◌, Bool, true, false, not, nat_eq, List, ℕ, ◌<◌, length, get_or, refl, arith}
use Rattle.std.proofs.Math.Dec.{eqb-suc-zero}
use Prim.Native.Nat.{zero, suc}
use Rattle.meaning.specs.Chain.{exist}
use Rattle.request.specs.declared.Plan.{Plan}
use Rattle.area.specs.Area.{found}
use Rattle.search.specs.Product.{succs}
use Rattle.search.specs.Front.{state_in}
use Rattle.search.proofs.Front.{goal-in}
use Rattle.search.specs.Loaded.{setting_at}
use Rattle.states.specs.Spots.{front, Fit}
use Rattle.states.proofs.Bounds.{fit_same, stacks-pos}
use Rattle.area.proofs.Changes.{cleared-under}
use Rattle.forward.specs.Firsts.{first_states}
use Rattle.checker.specs.Walk.{seeded, walked, Advanced, Within, ends}
use Rattle.checker.proofs.Moving.{begun, verdict}
use Rattle.checker.proofs.leads.Goals as goal

-- a word that is not 0
nonzero : (n : ℕ) (b : Bool) → (n ≡ 0 → b ≡ false) → ((n ≡ 0 → ⊥) → b ≡ true) → not (nat_eq n 0) ≡ b
nonzero zero b at-none at-more = sym (at-none refl)
nonzero (suc n) b at-none at-more = rw eqb-suc-zero (sym (at-more (λ e. omega arith)))

-- from the first set at words u, the chain moves the set to what the words v hold: the word n of the end s says whether the chain leads there
end-word : {plan : Plan} {program w : List ℕ} (fit : Fit plan program w) (begin a b : ℕ) (ha : a < plan.places) (hb : b < plan.places) (within : Within plan begin)
    → (chain : List ℕ) → exist plan.lines chain ≡ true
    → {t r : ℕ} {u v : List ℕ} → Advanced plan (λ _. seeded plan.size (first_states plan begin a)) 0 w t u
    → Advanced plan (walked (succs (setting_at program plan u)) plan.size chain) t u r v
    → (s n : ℕ) → s ≡ state_in plan b plan.done 0 → n ≡ get_or (found plan.marks plan.size r v).dist s 0
    → not (nat_eq n 0) ≡ ends (setting_at program plan w) begin a b chain
end-word {plan = plan} {program = program} {w = w} fit begin a b ha hb within chain e first run s n end is =
    let run = rw first.front at run in
    let at-goal = end ∙ goal-in program plan (length w) fit.laid (front plan w) b in
    let v = verdict plan program w fit begin a ha within chain e b hb _ (run.now-found ∙ ap (walked _ plan.size chain) first.now-found) in
    let word = rw at-goal at is in
    nonzero n _ (λ z. v.0 (sym word ∙ z)) (λ k. v.1 (λ z. k (word ∙ z)))

pub over_next-starts-requires-clause-ready_forth : goal.over_next-starts-requires-clause-ready_forth
over_next-starts-requires-clause-ready_forth c =
    let laid = c.requires.fit.laid in
    rw c.clear_stretch.ensures (cleared-under c.args.plan.marks c.args.plan.size c.args.work.now (omega (arith, laid.room, laid.marks-at)) (omega (arith, laid.small))).ready

pub run_chain-tail-requires : goal.run_chain-tail-requires
run_chain-tail-requires c =
    let x = c.args in
    let p = c.requires in
    let b = begun x.plan x.program.now x.work.now p.fit x.begin x.from p.from_lt_places.0 p.within _ _ (rw c.clear_stretch.ensures at c.over_next-starts.ensures) in
    record { fit = fit_same b.long b.front p.fit; alive = b.alive; chain_value = p.from_lt_places.2 }

pub state_at-end-requires-clause-place_lt_places : goal.state_at-end-requires-clause-place_lt_places
state_at-end-requires-clause-place_lt_places c = (c.requires.from_lt_places.1, omega arith, stacks-pos c.requires.fit.laid)

pub returns : goal.returns
returns c =
    let x = c.args in
    let p = c.requires in
    let b = begun x.plan x.program.now x.work.now p.fit x.begin x.from p.from_lt_places.0 p.within _ _ (rw c.clear_stretch.ensures at c.over_next-starts.ensures) in
    end-word p.fit x.begin x.from x.to p.from_lt_places.0 p.from_lt_places.1 p.within x.chain.now p.from_lt_places.2 b c.run_chain-tail.ensures _ _ c.state_at-end.ensures.0 c.dist_at.ensures.0
