-- Phase one by the count of expanded states: where it begins (`seeded-stopped`), one state expanded, and both ends (`going_end`, `going-met`).
use mathlib.Core.Path.{◌≡◌, refl, sym, ap, ◌∙◌, subst}
use mathlib.Core.Bool.{true, false, false≢true}
use mathlib.Core.List.{List, [], ◌∷◌}
use mathlib.Core.Logic.{inl, inr}
use Prim.Native.Nat.{ℕ, suc, ◌+◌, ◌<◌, ◌≤◌}
use native.Mathlib.Omega.{arith}
use native.Mathlib.Decide.{ℕ_discrete}
use lib.Dec.{leb}
use lib.ListN.{length, get_or, drop, drop_of_length-le}
use lib.Seq.{drop-cons}
use borrow.Author.Tests.{eq-eqb, ne_eqb, leb-true}
use Rattle.search.specs.Along.{goal}
use Rattle.graph.specs.Early.{Ended, met_by}
use Rattle.graph.specs.Loops.{loop}
use Rattle.graph.specs.PhaseOne.{Progress, waiting, begun, advance_by}
use Rattle.graph.proofs.PhaseOne.{advance-next, advance-add}
use Rattle.graph.specs.PhaseTwo.{nearest_word}
use Rattle.search.specs.Product.{Setting}
use Rattle.graph.specs.Table.{Search, blank, push}
use Rattle.area.specs.Area.{stretch, found, Ready, Step}
use Rattle.request.specs.Layout.{Laid}
use Rattle.request.specs.declared.Plan.{Plan}
use Rattle.search.proofs.Front.{goal-in}
use Rattle.search.specs.Loaded.{setting_in, setting_at}
use Rattle.states.specs.Pairs.{StepBack}
use Rattle.states.specs.Spots.{front}
use Rattle.area.proofs.Changes.{step-as, step-none, step_then, ready-long, step-under, under-front}
use Rattle.backward.specs.Stopped.{opened, from_goals, seeded, table_after, Stopped, StoppedAt, StoppedFrom}

-- ---- the test

module _ (near d last : ℕ) where
  pub met-before : d ≡ last → false ≡ met_by near d last
  unfolding met_by
  met-before h = rw (eq-eqb d last h)

  pub met-none : (d ≡ last → ⊥) → near ≡ 0 → false ≡ met_by near d last
  unfolding met_by
  met-none n h = rw (ne_eqb d last n, eq-eqb near 0 h)

  pub met-asked : (d ≡ last → ⊥) → (near ≡ 0 → ⊥) → leb near d ≡ met_by near d last
  unfolding met_by
  met-asked n m = rw (ne_eqb d last n, ne_eqb near 0 m)

  pub met-near : met_by near d last ≡ true → (0 < near) × (near ≤ d)
  met-near h = elim (ℕ_discrete d last) [
    | yes e ↦ absurd (false≢true (met-before e ∙ h))
    | no n ↦ elim (ℕ_discrete near 0) [ yes e ↦ absurd (false≢true (met-none n e ∙ h)) | no m ↦ (omega arith, leb-true near d (met-asked n m ∙ h)) ]
  ]

-- ---- a search under way

-- from words w₀ with t₀ in the queue to words w with t in the queue h states are expanded
pub record Going (base size : ℕ) (E : ℕ → ℕ → Search → Search) (h : ℕ) (t₀ : ℕ) (w₀ : List ℕ) (t : ℕ) (w : List ℕ) : Type 0 where
  pub step : Step base size (table_after E h opened) t₀ w₀ t w
  pub counted : (advance_by E h (opened (found base size t₀ w₀))).expanded ≡ h

module _ {base size : ℕ} {E : ℕ → ℕ → Search → Search} where
  pub going_start : {t : ℕ} {w : List ℕ} → Ready base size t w → Going base size E 0 t w t w
  unfolding table_after advance_by
  going_start r = record { step = step-none (table_after E 0 opened) r refl; counted = refl }

  module _ {h t₀ : ℕ} {w₀ : List ℕ} {t : ℕ} {w : List ℕ} (g : Going base size E h t₀ w₀ t w) where
    abbrev reached : Progress
    reached = advance_by E h (opened (found base size t₀ w₀))

    -- the table is what is found now
    reached-is : reached ≡ record { expanded = h; table = found base size t w }
    unfolding table_after
    reached-is = λ i. record { expanded = g.counted i; table = sym g.step.now-found i }

    -- nothing waits
    pub going_end : (S : List ℕ) → t ≤ h → Stopped base size E S opened t₀ w₀ t w
    going_end S past =
        let none : drop h (found base size t w).queue ≡ [] = drop_of_length-le (found base size t w).queue {i = h} (omega (arith, past, ready-long g.step.ready)) in
        record { count = h; step = g.step; ended = inl (ap waiting reached-is ∙ none) }

    -- the state s waits first, with the word d
    module _ (s d : ℕ) (less : h < t) (is : s ≡ get_or (found base size t w).queue h 0) (word : d ≡ get_or (found base size t w).dist s 0) where
      waits : waiting reached ≡ s ∷ drop (suc h) (found base size t w).queue
      waits =
          let q = (found base size t w).queue in
          ap waiting reached-is ∙ (drop-cons q h 0 (omega (arith, less, ready-long g.step.ready)) ∙ ap (◌∷ drop (suc h) q) (sym is))

      pub going-met : (S : List ℕ) → 0 < nearest_word (stretch base size w) S → nearest_word (stretch base size w) S ≤ d → Stopped base size E S opened t₀ w₀ t w
      unfolding found
      going-met S any near =
          record {
            count = h;
            step = g.step;
            ended = inr (record {
              next = s;
              rest = drop (suc h) (found base size t w).queue;
              waits = waits;
              some_near = subst (λ (u : Progress). 0 < nearest_word u.table.dist S) (sym reached-is) any;
              as-near = subst (λ (u : Progress). nearest_word u.table.dist S ≤ get_or u.table.dist s 0) (sym reached-is) (omega (arith, near, word));
            });
          }

      -- it is expanded
      pub going_next : {t' : ℕ} {w' : List ℕ} → Step base size (E (d + 1) s) t w t' w' → Going base size E (h + 1) t₀ w₀ t' w'
      unfolding advance_by table_after
      going_next next =
          let more : suc (get_or (found base size t w).dist s 0) ≡ d + 1 = omega (arith, word) in
          let on : Progress → Progress = λ u. record { expanded = suc u.expanded; table = E (suc (get_or u.table.dist s 0)) s u.table } in
          let done : Progress = record { expanded = suc h; table = E (d + 1) s (found base size t w) } in
          let one : advance_by E (h + 1) (opened (found base size t₀ w₀)) ≡ done =
          advance-add E h 1 (opened (found base size t₀ w₀)) ∙ (advance-next E reached s (drop (suc h) (found base size t w).queue) waits ∙ (ap on reached-is ∙ (λ i. record { expanded = suc h; table = E (more i) s (found base size t w) }))) in
          record {
            step = step-as (table_after E (h + 1) opened) (step_then g.step next) (ap (λ (u : Progress). u.table) one ∙ ap (E (d + 1) s) g.step.now-found);
            counted = ap (λ (u : Progress). u.expanded) one ∙ omega arith;
          }

  -- after a step that makes the table to begin with
  pub stopped-after : {f : Search → Search} {S : List ℕ} (start : Search → Progress) → ((st : Search) → start st ≡ opened (f st)) → {t : ℕ} {w : List ℕ} {u : ℕ} {v : List ℕ} {r : ℕ} {z : List ℕ}
      → Step base size f t w u v → Stopped base size E S opened u v r z → Stopped base size E S start t w r z
  unfolding table_after
  stopped-after {S = S} start is {t} {w} {u} {v} step x =
      let same : start (found base size t w) ≡ opened (found base size u v) = is (found base size t w) ∙ ap opened (sym step.now-found) in
      record {
        count = x.count;
        step = step-as (table_after E x.count start) (step_then step x.step) (ap (λ u. (advance_by E x.count u).table) (is (found base size t w)));
        ended = subst (λ u. Ended S (advance_by E x.count u)) (sym same) x.ended;
      }

-- the goal s pushed into nothing found
pub goal-begun : (S : Setting) (N b s : ℕ) → s ≡ goal S b → (st : Search) → from_goals S N (b ∷ []) st ≡ opened (push 1 s (blank N))
unfolding begun loop
goal-begun S N b s e st = rw e

-- the search from the goal at the place b, after nothing but it is found: the loaded tables are as they were
pub seeded-stopped : (program : List ℕ) {plan : Plan} {w : List ℕ} → Laid plan (length w)
    → (b : ℕ) {u : ℕ} {v : List ℕ} → StepBack plan (seeded plan b) 0 w u v
    → {firsts : List ℕ} {r : ℕ} {z : List ℕ} → StoppedAt opened (setting_at program plan v) plan firsts u v r z
    → StoppedFrom (b ∷ []) (setting_at program plan w) plan firsts 0 w r z
seeded-stopped program {plan} {w} laid b {u} {v} step {firsts} {r} {z} x =
    let S = setting_at program plan w in
    let same = under-front (step-under step) plan.base (omega arith) in
    let rest = subst (λ g. StoppedAt opened (setting_in program plan g) plan firsts u v r z) same x in
    stopped-after (from_goals S plan.size (b ∷ [])) (goal-begun S plan.size b _ (goal-in program plan (length w) laid (front plan w) b)) step rest
