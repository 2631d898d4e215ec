-- A search under way moved on by one state of phase one, in the area: the word of the state expanded last (`last_none`, `last_some`), whether phase
-- one goes on (`on_none`, `on_some`), its three ends (`settle-on`, `settle-up`, `settle-turned`), a state expanded (`expand-none`, `expand-one`),
-- and both in one turn (`back-held`).
use mathlib.Core.Path.{◌≡◌, refl, sym, ap, ◌∙◌, subst}
use mathlib.Core.Bool.{Bool, true, false, cond, not, ◌&&◌}
use mathlib.Core.List.{List, [], ◌∷◌}
use Prim.Native.Nat.{ℕ, zero, suc, ◌+◌, ◌*◌, ◌-◌, ◌≤◌, ◌<◌}
use native.Mathlib.Omega.{arith}
use lib.Dec.{eqb, ltb}
use lib.ListN.{get_or, drop, drop_of_length-le}
use lib.Seq.{drop-cons}
use borrow.Author.Tests.{eq-eqb, ne_eqb}
use Rattle.request.specs.Layout.{Laid}
use Rattle.request.specs.declared.Plan.{Plan}
use Rattle.graph.specs.Early.{met_by}
use Rattle.graph.specs.Plain.{filt}
use Rattle.graph.specs.PhaseTwo.{nearest_word}
use Rattle.graph.specs.Sweep.{marked}
use Rattle.graph.specs.Underway.{Underway, waiting_in, last_word, given_up, near_in, goes_on, turned, settled, expanded_next, swept_next, taken}
use Rattle.graph.proofs.Taking.{expanded-end, expanded-one}
use Rattle.search.specs.Loaded.{setting_at}
use Rattle.search.specs.Product.{Setting, succs}
use Rattle.search.specs.Traced.{trace}
use Rattle.area.specs.Area.{stretch, found, Good}
use Rattle.area.proofs.Anyhow.{room-long}
use Rattle.states.specs.Pairs.{distances, RoomBack}
use Rattle.sorted.specs.Runs.{same-stretch}
use Rattle.forward.specs.Firsts.{first_states}
use Rattle.holding.specs.declared.SearchState.{SearchState}
use Rattle.tracing.specs.Tracing.{how_at, reached_in, StepTraced}
use Rattle.tracing.proofs.Traces.{back-later}
use Rattle.sweeping.specs.Sweeping.{marks_at, index_at, marks_in, FirstsMarked}
use Rattle.sweeping.proofs.Marks.{only-front, only-stretch, only-laid}
use Rattle.stepping.proofs.Moving.{held_none, held-idle, held_then}
use Rattle.stepping.specs.Stepping.{underway_in, queued_word, firsts, expanded_by, taken_in, Standing, Searched, Held, StepHeld}

-- ---- the word of the state expanded last

-- the queue, and the distances, of a search in the area
abbrev queue_in : SearchState → List ℕ → List ℕ
queue_in s w = (found s.plan.base s.plan.size s.at.found w).queue

abbrev words_in : SearchState → List ℕ → List ℕ
words_in s w = (found s.plan.base s.plan.size s.at.found w).dist

module _ (s : SearchState) (w : List ℕ) where
  last-by : (e : ℕ) → s.at.expanded ≡ e → last_word (underway_in s w) ≡ elim e [ zero ↦ 0 | suc k ↦ queued_word s w k ]
  unfolding last_word underway_in reached_in
  last-by e h i = elim (h i) [ zero ↦ 0 | suc k ↦ queued_word s w k ]

  pub last_none : s.at.expanded ≡ 0 → 0 ≡ last_word (underway_in s w)
  last_none h = sym (last-by 0 h)

  pub last_some : (k : ℕ) → s.at.expanded ≡ suc k → queued_word s w k ≡ last_word (underway_in s w)
  last_some k e = sym (last-by (suc k) e)

  -- ---- what waits

  module _ (h : Standing s w) where
    none-waits : s.at.found ≤ s.at.expanded → waiting_in (underway_in s w) ≡ []
    unfolding underway_in reached_in
    none-waits past = drop_of_length-le (queue_in s w) {i = s.at.expanded} (omega (arith, past, room-long h.ready))

    some-waits : s.at.expanded < s.at.found → (t : ℕ) → t ≡ get_or (queue_in s w) s.at.expanded 0
        → waiting_in (underway_in s w) ≡ t ∷ drop (suc s.at.expanded) (queue_in s w)
    unfolding underway_in reached_in
    some-waits less t is =
        drop-cons (queue_in s w) s.at.expanded 0 (omega (arith, less, room-long h.ready))
        ∙ ap (◌∷ drop (suc s.at.expanded) (queue_in s w)) (sym is)

    -- ---- does phase one go on?

    module _ (begin : ℕ) where
      on-by : (q : List ℕ) → waiting_in (underway_in s w) ≡ q → goes_on (firsts s begin) s.plan.lines (underway_in s w)
          ≡ elim q [ [] ↦ false | t ∷ r ↦ not (met_by (nearest_word (distances s.plan w) (firsts s begin)) (get_or (words_in s w) t 0) (last_word (underway_in s w))) ]
      unfolding goes_on underway_in reached_in found
      on-by q e i =
          elim (e i) [
            | [] ↦ false
            | t ∷ r ↦ not (met_by (nearest_word (distances s.plan w) (firsts s begin)) (get_or (words_in s w) t 0) (last_word (underway_in s w)))
          ]

      pub on_none : s.at.found ≤ s.at.expanded → false ≡ goes_on (firsts s begin) s.plan.lines (underway_in s w)
      on_none past = sym (on-by [] (none-waits past))

      pub on_some : s.at.expanded < s.at.found → (d last : ℕ) (met : Bool)
          → d ≡ queued_word s w s.at.expanded → last ≡ last_word (underway_in s w)
          → met ≡ met_by (nearest_word (distances s.plan w) (firsts s begin)) d last
          → not met ≡ goes_on (firsts s begin) s.plan.lines (underway_in s w)
      on_some less d last met word before says =
          ap not (says ∙ (λ i. met_by (nearest_word (distances s.plan w) (firsts s begin)) (word i) (before i)))
          ∙ sym (on-by (get_or (queue_in s w) s.at.expanded 0 ∷ drop (suc s.at.expanded) (queue_in s w)) (some-waits less _ refl))

-- ---- the search as it is then

module _ (s : SearchState) where
  -- there is no chain
  abbrev pub state_up : SearchState
  state_up =
      record {
        plan = s.plan;
        from = s.from;
        at =
            record {
              phase = 2;
              expanded = s.at.expanded;
              found = s.at.found;
              far = s.at.far;
              rest = s.at.rest;
              chosen = s.at.chosen;
              noted = s.at.noted;
            };
      }

  -- the sweep is to begin
  abbrev pub state_turned : ℕ → SearchState
  state_turned near =
      record {
        plan = s.plan;
        from = s.from;
        at =
            record {
              phase = 1;
              expanded = s.at.expanded;
              found = s.at.found;
              far = near;
              rest = s.at.found;
              chosen = s.plan.lines;
              noted = s.plan.lines;
            };
      }

  -- a state more is expanded, and u states are found
  abbrev pub state_next : ℕ → SearchState
  state_next u =
      record {
        plan = s.plan;
        from = s.from;
        at =
            record {
              phase = s.at.phase;
              expanded = s.at.expanded + 1;
              found = u;
              far = s.at.far;
              rest = s.at.rest;
              chosen = s.at.chosen;
              noted = s.at.noted;
            };
      }

-- ---- phase one goes on, or ends

module _ (S : List ℕ) (m : ℕ) (u : Underway) where
  settled_on : goes_on S m u ≡ true → settled S m u ≡ u
  unfolding settled
  settled_on e = ap (λ b. cond b u (cond (eqb (near_in S m u) 0) (given_up u) (turned S m u))) e

  settled_up : goes_on S m u ≡ false → near_in S m u ≡ 0 → settled S m u ≡ given_up u
  unfolding settled
  settled_up e z = λ i. cond (e i) u (cond (eq-eqb (near_in S m u) 0 z i) (given_up u) (turned S m u))

  settled-turned : goes_on S m u ≡ false → (near_in S m u ≡ 0 → ⊥) → settled S m u ≡ turned S m u
  unfolding settled
  settled-turned e n = λ i. cond (e i) u (cond (ne_eqb (near_in S m u) 0 n i) (given_up u) (turned S m u))

module _ (s : SearchState) (w : List ℕ) (h : Standing s w) (begin : ℕ) where
  abbrev going : Bool
  going = goes_on (firsts s begin) s.plan.lines (underway_in s w)

  pub settle-on : (Searched s w → true ≡ going) → StepHeld (settled (firsts s begin) s.plan.lines) s w s w
  settle-on e = held-idle _ _ h (λ g. settled_on (firsts s begin) s.plan.lines (underway_in s w) (sym (e g)))

  module _ (near : ℕ) (is : near ≡ nearest_word (distances s.plan w) (firsts s begin)) (ends : Searched s w → false ≡ going) where
    near-is : near ≡ near_in (firsts s begin) s.plan.lines (underway_in s w)
    unfolding underway_in reached_in found
    near-is = is

    pub settle-up : near ≡ 0 → StepHeld (settled (firsts s begin) s.plan.lines) s w (state_up s) w
    unfolding underway_in given_up
    settle-up z =
        record {
          now-held = λ g. sym (settled_up (firsts s begin) s.plan.lines (underway_in s w) (sym (ends g)) (sym near-is ∙ z));
          searched = λ g. g;
          plan-same = refl;
          from-same = refl;
          front = refl;
          queue-gap = refl;
          how-gap = refl;
          after = refl;
          long = refl;
          grows = omega arith;
          standing = record {
            laid = h.laid;
            from_low = h.from_low;
            room = h.room;
            order = record { expanded-low = h.order.expanded-low; rest-low = h.order.rest-low; phases = omega arith };
            fits = record { found-low = h.fits.found-low; chosen-low = h.fits.chosen-low; noted-low = h.fits.noted-low };
            ready = h.ready;
          };
        }

    module _ (v : List ℕ) (marks : FirstsMarked s.plan begin s.from near w v) where
      -- what stands before the marks is as it was
      early : (b n : ℕ) → b + n ≤ marks_at s.plan → stretch b n v ≡ stretch b n w
      early b n = only-stretch marks.only h.laid b n

      table_same : found s.plan.base s.plan.size s.at.found v ≡ found s.plan.base s.plan.size s.at.found w
      unfolding found
      table_same =
          let low = h.fits.found-low in
          let base = s.plan.base in
          let size = s.plan.size in
          λ i. record { dist = early base size (omega arith) i; queue = early (base + size) s.at.found (omega (arith, low)) i }

      reached-same : reached_in s.plan s.at.found v ≡ reached_in s.plan s.at.found w
      unfolding reached_in
      reached-same =
          let low = h.fits.found-low in
          λ i. record { table = table_same i; how = early (how_at s.plan) s.at.found (omega (arith, low)) i }

      turned-is : underway_in (state_turned s near) v ≡ turned (firsts s begin) s.plan.lines (underway_in s w)
      unfolding underway_in turned reached_in found
      turned-is =
          let lines = s.plan.lines in
          let D = distances s.plan w in
          let marked-now = marks.now-marked ∙ ap (λ (n : ℕ). marked (suc lines) (filt (λ t. eqb (get_or D t 0) n) (firsts s begin)) (marks_in s.plan w)) is in
          λ i.
          record {
            found = reached-same i;
            expanded = s.at.expanded;
            phase = 1;
            far = is i;
            sweep = record { rest = sym (room-long h.ready) i; chosen = lines; noted = record { line = lines; marks = marked-now i } };
          }

      ready-still : RoomBack s.plan s.at.found v
      ready-still =
          record {
            room = omega (arith, h.ready.room, marks.only.long);
            small = h.ready.small;
            fits = h.ready.fits;
          }

      searched-still : Searched s w → Searched (state_turned s near) v
      searched-still = subst (Good s.plan.size) (sym table_same)

      pub settle-turned : (near ≡ 0 → ⊥) → StepHeld (settled (firsts s begin) s.plan.lines) s w (state_turned s near) v
      settle-turned n =
          let low = h.fits.found-low in
          let base = s.plan.base in
          let size = s.plan.size in
          let tail = s.at.found in
          record {
            now-held = λ g. turned-is ∙ sym (settled-turned (firsts s begin) s.plan.lines (underway_in s w) (sym (ends g)) (λ z. n (near-is ∙ z)));
            searched = searched-still;
            plan-same = refl;
            from-same = refl;
            front = only-front marks.only;
            queue-gap = early (base + size + tail) (size - tail) (omega (arith, low));
            how-gap = early (base + 2 * size + tail) (size - tail) (omega (arith, low));
            after = marks.only.after;
            long = marks.only.long;
            grows = omega arith;
            standing = record {
              laid = only-laid marks.only h.laid;
              from_low = h.from_low;
              room = omega (arith, h.room, marks.only.long);
              order = record { expanded-low = h.order.expanded-low; rest-low = omega arith; phases = omega arith };
              fits = record { found-low = low; chosen-low = omega arith; noted-low = omega arith };
              ready = ready-still;
            };
          }

-- ---- a state expanded

module _ (s : SearchState) (program w : List ℕ) (h : Standing s w) where
  abbrev setting : Setting
  setting = setting_at program s.plan w

  pub expand-none : s.at.found ≤ s.at.expanded → StepHeld (expanded_by s program w) s w s w
  expand-none past = held_none _ _ h (expanded-end [] 0 (trace setting) (succs setting) (underway_in s w) (none-waits s w h past))

  module _ (less : s.at.expanded < s.at.found) (t d u : ℕ) (v : List ℕ)
      (is : Searched s w → t ≡ get_or (queue_in s w) s.at.expanded 0) (word : Searched s w → d ≡ suc (get_or (words_in s w) t 0)) (step : StepTraced s.plan (trace setting d t) s.at.found w u v) where
    -- what stands after the tags is as it was
    late : (b n : ℕ) → how_at s.plan + u ≤ b → stretch b n v ≡ stretch b n w
    late b n = same-stretch (how_at s.plan + u) w v step.back b n

    expanded-is : Searched s w → underway_in (state_next s u) v ≡ expanded_by s program w (underway_in s w)
    unfolding underway_in
    expanded-is g =
        let one = expanded-one [] 0 (trace setting) (succs setting) (underway_in s w) t _ (some-waits s w h less t (is g)) in
        let next : s.at.expanded + 1 ≡ suc s.at.expanded = omega arith in
        let reached = step.now-reached g ∙ ap (λ (n : ℕ). trace setting n t (reached_in s.plan s.at.found w)) (word g) in
        let marks = late (marks_at s.plan) s.plan.size (omega (arith, step.ready.fits)) in
        (λ i.
        record {
          found = reached i;
          expanded = next i;
          phase = s.at.phase;
          far = s.at.far;
          sweep = record { rest = s.at.rest; chosen = s.at.chosen; noted = record { line = s.at.noted; marks = marks i } };
        })
        ∙ (unfold reached_in in sym one)

    pub expand-one : StepHeld (expanded_by s program w) s w (state_next s u) v
    expand-one =
        let fits = step.ready.fits in
        let size = s.plan.size in
        record {
          now-held = expanded-is;
          searched = step.good;
          plan-same = refl;
          from-same = refl;
          front = step.front;
          queue-gap = step.gap;
          how-gap = late (how_at s.plan + u) (size - u) (omega arith);
          after = back-later (how_at s.plan + u) (index_at s.plan) v w (omega (arith, fits)) step.back;
          long = step.long;
          grows = step.grows;
          standing = record {
            laid = subst (Laid s.plan) (sym step.long) h.laid;
            from_low = h.from_low;
            room = omega (arith, h.room, step.long);
            order = record { expanded-low = omega (arith, less, step.grows); rest-low = omega (arith, h.order.rest-low, step.grows); phases = h.order.phases };
            fits = record { found-low = fits; chosen-low = h.fits.chosen-low; noted-low = h.fits.noted-low };
            ready = step.ready;
          };
        }

-- ---- one turn

module _ (s : SearchState) (program : List ℕ) (begin : ℕ) (w : List ℕ) where
  -- in phase 0 the next state is expanded, and then it is settled
  taken_back : s.at.phase ≡ 0 → taken_in s program begin w (underway_in s w) ≡ settled (firsts s begin) s.plan.lines (expanded_by s program w (underway_in s w))
  unfolding taken expanded_next underway_in
  taken_back z i =
      let S = setting_at program s.plan w in
      let u = underway_in s w in
      elim (z i) [
        | zero ↦ settled (firsts s begin) s.plan.lines (expanded_next (firsts s begin) s.plan.lines (trace S) (succs S) u)
        | suc p ↦ cond (eqb p 0 && ltb 1 u.sweep.rest) (swept_next (firsts s begin) s.plan.lines (trace S) (succs S) u) u
      ]

  pub back-held : {r : SearchState} {v : List ℕ} {q : SearchState} {x : List ℕ} → s.at.phase ≡ 0
      → StepHeld (expanded_by s program w) s w r v → StepHeld (settled (firsts r begin) r.plan.lines) r v q x → StepHeld (taken_in s program begin w) s w q x
  back-held {r = r} {v = v} {q = q} {x = x} z h k =
      let settled-by : Plan → ℕ → Underway → Underway = λ p f. settled (first_states p begin f) p.lines in
      let own : Held (settled (firsts s begin) s.plan.lines) (index_at s.plan) r v q x =
      subst (λ (f : ℕ). Held (settled-by s.plan f) (index_at s.plan) r v q x) h.from-same
      (subst (λ (p : Plan). Held (settled-by p r.from) (index_at p) r v q x) h.plan-same k) in
      held_then h own _ _ (omega arith) (omega arith) (taken_back z)
