-- The search state by state comes to the plain search's answer, from every count: where nothing is left to take up, the outcome is what `solve`
-- says (`finish-is`), however the states taken up are divided (`finish-any`). `Stands` is what holds of the search at every count. There is one goal.
use Rattle.std.specs.Prelude.{◌≡◌, Bool, not, ◌&&◌, ◌↔◌, ◌⊎◌, leb, get_or, drop, replicate}
use Rattle.std.proofs.Math.Path.{refl, sym, ap, subst}
use Rattle.std.proofs.Common.{◌∙◌, inl, inr}
use Rattle.std.proofs.Math.Bool.{true, false, cond}
use Rattle.std.proofs.lemmas.Bool.{false≢true}
use mathlib.Core.List.Memᴰ
use mathlib.Core.List.{List, [], ◌∷◌, ◌++◌}
use Rattle.std.proofs.Math.Logic.{⊎_elim}
use Rattle.std.proofs.Math.Option.{Option, none, some}
use Prim.Native.Nat.{ℕ, zero, suc, ◌+◌, ◌-◌, ◌<◌, ◌≤◌}
use native.Mathlib.Omega.{arith}
use Rattle.std.proofs.Math.Decide.{ℕ_discrete}
use Rattle.std.proofs.Math.Dec.{eqb, ltb}
use Rattle.std.proofs.Math.ListN.{length}
use Rattle.std.proofs.lemmas.List.{length-map}
use borrow.Author.Tests.{eqb-true, eqb-false, eq-eqb, ne_eqb, ltb-true, lt-ltb, leb-true}
use Rattle.lists.specs.Listed.{◌∈◌, none_in}
use Rattle.graph.specs.Plain.{Entry, state_of, look, news, filt, steps, solve}
use Rattle.graph.proofs.Sets.{filt-in}
use Rattle.graph.specs.Loops.{loop}
use Rattle.graph.specs.Table.{Search, push}
use Rattle.graph.proofs.Table.{Holds}
use Rattle.graph.specs.PhaseOne.{Progress, begun, advance, advance_by}
use Rattle.graph.proofs.PhaseOne.{advance-end, advance-next, advance-add, at_count}
use Rattle.graph.specs.PhaseTwo.{put, forward, forward_by, nearest_word}
use Rattle.graph.specs.Early.{met_by, Ended}
use Rattle.graph.proofs.Early.{ended_is, news-at, steps-keep}
use Rattle.graph.specs.Trace.{Reached}
use Rattle.graph.specs.Sweep.{Noted, Sweep, marked, take_up, back, back_by, chain_in}
use Rattle.graph.proofs.Sweep.{marked-out, back-add}
use Rattle.graph.proofs.Swept.{lined, lows, entry_at, no-lows, lows-at, lows-few, at-in-list, states-at, word_of, levels}
use Rattle.graph.proofs.SweepAnswer.{zero-at, all_levels, sweep-answer}
use Rattle.graph.specs.Underway.{Underway, dist_of, queue_of, waiting_in, last_word, given_up, near_in, goes_on, turned, settled, begun_from, expanded_next, swept_next, taken, taken_by, at_end, outcome}

-- ---- states that are not marked

module _ (D : List ℕ) (succs : ℕ → ℕ → List ℕ) (m : ℕ) (q M : List ℕ) where
  -- r states are left, the marks are M, and nothing is chosen or noted
  abbrev resting : ℕ → Sweep
  resting r = record { rest = r; chosen = m; noted = record { line = m; marks = M } }

  -- the last that is left is not marked
  back-idle : (r : ℕ) → get_or M (get_or q r 0) 0 ≡ 0 → back D succs m q (resting (suc r)) ≡ resting r
  unfolding back take_up
  back-idle r z =
      let less : suc r - 1 ≡ r = omega arith in
      let other : eqb (get_or M (get_or q r 0) 0) (suc m) ≡ false = ne_eqb (get_or M (get_or q r 0) 0) (suc m) (λ e. omega (arith, e, z)) in
      rw (less, other) (same (eqb (get_or D (get_or q (r - 1) 0) 0) (get_or D (get_or q r 0) 0)))
    where
      same : (b : Bool) → cond b (resting r) (resting r) ≡ resting r
      same true = refl
      same false = refl

  -- the n last are not marked: nothing changes but how many are left
  backs-idle : (n r : ℕ) → ((j : ℕ) → r ≤ j → j < r + n → get_or M (get_or q j 0) 0 ≡ 0) → back_by D succs m q n (resting (r + n)) ≡ resting r
  unfolding back_by
  backs-idle zero r z = let None-more : r + 0 ≡ r = omega arith in ap resting None-more
  backs-idle (suc n) r z =
      let more : r + suc n ≡ suc (r + n) = omega arith in
      ap (λ i. back_by D succs m q n (back D succs m q (resting i))) more
      ∙ (ap (back_by D succs m q n) (back-idle (r + n) (z (r + n) (omega arith) (omega arith)))
      ∙ backs-idle n r (λ j le lt. z j le (omega arith)))

-- one less is left
back-rest : (D : List ℕ) (succs : ℕ → ℕ → List ℕ) (m : ℕ) (q : List ℕ) (y : Sweep) → (back D succs m q y).rest ≡ y.rest - 1
unfolding back
back-rest D succs m q y =
    let r = y.rest - 1 in
    let w : ℕ → ℕ = λ j. get_or D (get_or q j 0) 0 in
    go (eqb (w (r - 1)) (w r)) r y.chosen (take_up D succs m (w r - 1) y.chosen (get_or q r 0) y.noted)
  where
    ends : ℕ → Noted → Sweep
    ends r n = record { rest = r; chosen = n.line; noted = record { line = m; marks = n.marks } }

    go : (b : Bool) (r c : ℕ) (n : Noted) → (cond {A = Sweep} b (record { rest = r; chosen = c; noted = n }) (ends r n)).rest ≡ r
    go true r c n = refl
    go false r c n = refl

-- ---- phase one goes on, or ends

-- where the test says that a first state is met, there is one, no further than d
met-near : (near d last : ℕ) → met_by near d last ≡ true → (0 < near) × (near ≤ d)
unfolding met_by
met-near near d last h = go (eqb d last) (eqb near 0) refl h
  where
    go : (b c : Bool) → eqb near 0 ≡ c → cond b false (cond c false (leb near d)) ≡ true → (0 < near) × (near ≤ d)
    go true c e x = absurd (false≢true x)
    go false true e x = absurd (false≢true x)
    go false false e x = (let n = eqb-false near 0 e in elim (ℕ_discrete near 0) [ yes z ↦ absurd (n z) | no z ↦ omega arith ], leb-true near d x)

-- what phase one has of a search under way
abbrev progress_in : Underway → Progress
progress_in v = record { expanded = v.expanded; table = v.found.table }

module _ (S : List ℕ) (m : ℕ) where
  asked : (v : Underway) (t : ℕ) (q : List ℕ) → waiting_in v ≡ t ∷ q → goes_on S m v ≡ not (met_by (near_in S m v) (get_or (dist_of v) t 0) (last_word v))
  unfolding goes_on
  asked v t q e = rw (e, goes_on)

  stops : (v : Underway) → goes_on S m v ≡ false → Ended S (progress_in v)
  stops v off = go (waiting_in v) refl
    where
      met : (b : Bool) → not b ≡ false → b ≡ true
      met true e = refl
      met false e = sym e

      go : (q : List ℕ) → waiting_in v ≡ q → Ended S (progress_in v)
      go [] w = inl w
      go (t ∷ q) w =
          let (some_near, as-near) = met-near (near_in S m v) (get_or (dist_of v) t 0) (last_word v) (met _ (sym (asked v t q w) ∙ off)) in
          inr (record { next = t; rest = q; waits = w; some_near = some_near; as-near = as-near })

  settled_on : (v : Underway) → goes_on S m v ≡ true → settled S m v ≡ v
  unfolding settled
  settled_on v e = rw e

  settled-none : (v : Underway) → goes_on S m v ≡ false → eqb (near_in S m v) 0 ≡ true → settled S m v ≡ given_up v
  unfolding settled
  settled-none v e f = rw (e, f)

  settled-turned : (v : Underway) → goes_on S m v ≡ false → eqb (near_in S m v) 0 ≡ false → settled S m v ≡ turned S m v
  unfolding settled
  settled-turned v e f = rw (e, f)

-- a state is expanded as phase one does it
module _ (S : List ℕ) (m : ℕ) (trace : ℕ → ℕ → Reached → Reached) (succs : ℕ → ℕ → List ℕ) where
  expanded-end : (v : Underway) → waiting_in v ≡ [] → expanded_next S m trace succs v ≡ v
  unfolding expanded_next
  expanded-end v e = rw (e, expanded_next)

  expanded-next : (v : Underway) (t : ℕ) (q : List ℕ) → waiting_in v ≡ t ∷ q → expanded_next S m trace succs v
      ≡ record { found = trace (suc (get_or (dist_of v) t 0)) t v.found; expanded = suc v.expanded; phase = v.phase; far = v.far; sweep = v.sweep }
  unfolding expanded_next
  expanded-next v t q e = rw (e, expanded_next)

  -- the phase and the sweep stay
  expanded-phase : (v : Underway) → (expanded_next S m trace succs v).phase ≡ v.phase
  expanded-phase v = go (waiting_in v) refl
    where
      go : (q : List ℕ) → waiting_in v ≡ q → (expanded_next S m trace succs v).phase ≡ v.phase
      go [] e = ap (λ (x : Underway). x.phase) (expanded-end v e)
      go (t ∷ q) e = ap (λ (x : Underway). x.phase) (expanded-next v t q e)

  expanded-sweep : (v : Underway) → (expanded_next S m trace succs v).sweep ≡ v.sweep
  expanded-sweep v = go (waiting_in v) refl
    where
      go : (q : List ℕ) → waiting_in v ≡ q → (expanded_next S m trace succs v).sweep ≡ v.sweep
      go [] e = ap (λ (x : Underway). x.sweep) (expanded-end v e)
      go (t ∷ q) e = ap (λ (x : Underway). x.sweep) (expanded-next v t q e)

  module _ (expand : ℕ → ℕ → Search → Search) (trace-table : (w t : ℕ) (x : Reached) → (trace w t x).table ≡ expand w t x.table) where
    expanded-progress : (v : Underway) → progress_in (expanded_next S m trace succs v) ≡ advance expand (progress_in v)
    expanded-progress v = go (waiting_in v) refl
      where
        go : (q : List ℕ) → waiting_in v ≡ q → progress_in (expanded_next S m trace succs v) ≡ advance expand (progress_in v)
        go [] e = ap progress_in (expanded-end v e) ∙ sym (advance-end expand (progress_in v) e)
        go (t ∷ q) e =
            let table = trace-table (suc (get_or (dist_of v) t 0)) t v.found in
            ap progress_in (expanded-next v t q e)
            ∙ ((λ i. record { expanded = suc v.expanded; table = table i })
            ∙ sym (advance-next expand (progress_in v) t q e))

-- ---- the goal stands first, and every other state found is further

module _ (preds : ℕ → List ℕ) (g : ℕ) where
  abbrev Led : List Entry → List Entry → Type 0
  Led f q = (r : List Entry) × (f ≡ (g, 0) ∷ r) × ((x : Entry) → x ∈ r → 0 < x.1)

  led : (k : ℕ) → let x = steps preds k (news 0 [] (g ∷ []), 0) in Led x.0 (drop x.1 x.0)
  unfolding news look
  led k = steps-keep preds Led next k (news 0 [] (g ∷ [])) 0 ([], refl, λ x i. none_in i)
    where
      next : (f : List Entry) (e : Entry) (q : List Entry) → Led f (e ∷ q) → let new = news (suc e.1) f (preds e.0) in Led (f ++ new) (q ++ new)
      next f e q (r, is, far) =
          let new = news (suc e.1) f (preds e.0) in
          (r ++ new, ap (◌++ new) is, λ x i. ⊎_elim (λ j. far x j) (λ j. omega (arith, news-at (suc e.1) (preds e.0) f x j)) (Memᴰ.append_cases r i))

lows-led : (d g : ℕ) (r : List Entry) → lows (suc d) ((g, 0) ∷ r) ≡ suc (lows (suc d) r)
unfolding lows
lows-led d g r = rw (lt-ltb 0 (suc d) (omega arith))

-- ---- the search at every count

module _ (N g : ℕ) (preds : ℕ → List ℕ) (succs : ℕ → ℕ → List ℕ) (m : ℕ)
    (expand : ℕ → ℕ → Search → Search) (expand-law : (w t : ℕ) (st : Search) → loop (push w) (preds t) st ≡ expand w t st)
    (from_state : List ℕ → ℕ → ℕ → ℕ → Search → Search) (from-law : (D : List ℕ) (w l s : ℕ) (st : Search) → loop (put D w) (succs s l) st ≡ from_state D w l s st)
    (Ok : ℕ → Type 0) (low : (s : ℕ) → Ok s → s < N) (goals-ok : (s : ℕ) → s ∈ (g ∷ []) → Ok s)
    (next-ok : (s l t : ℕ) → Ok s → l < m → t ∈ succs s l → Ok t) (preds-ok : (s t : ℕ) → Ok t → s ∈ preds t → Ok s)
    (edges : (s t : ℕ) → Ok s → Ok t → (s ∈ preds t) ↔ ((l : ℕ) × (l < m) × (t ∈ succs s l)))
    (S : List ℕ) (starts-ok : (s : ℕ) → s ∈ S → Ok s)
    (trace : ℕ → ℕ → Reached → Reached) (trace-table : (w t : ℕ) (x : Reached) → (trace w t x).table ≡ expand w t x.table) where
  -- phase one after k expansions, and the entries that the plain search has then
  abbrev reached : ℕ → Progress
  reached k = advance_by expand k (begun N (g ∷ []))

  abbrev entries : ℕ → List Entry
  entries k = (steps preds k (news 0 [] (g ∷ []), 0)).0

  abbrev answer : Option (List ℕ)
  answer = solve N (g ∷ []) preds succs m S

  -- the first states with the word w, marked
  abbrev firsts : Search → ℕ → List ℕ
  firsts st w = marked (suc m) (filt (λ t. eqb (get_or st.dist t 0) w) S) (replicate N 0)

  -- the sweep to begin with
  abbrev opening : Search → ℕ → Sweep
  opening st w = record { rest = length st.queue; chosen = m; noted = record { line = m; marks = firsts st w } }

  -- phase one: nothing is marked
  record Backward (v : Underway) : Type 0 where
    count : ℕ
    phase-is : v.phase ≡ 0
    is : progress_in v ≡ reached count
    blank : v.sweep.noted.marks ≡ replicate N 0

  -- there is no chain
  record Hopeless (v : Underway) : Type 0 where
    count : ℕ
    phase-is : v.phase ≡ 2
    ended : Ended S (reached count)
    near : nearest_word (reached count).table.dist S ≡ 0

  -- phase two: `swept` states are swept, and one is left at least
  record Onward (v : Underway) : Type 0 where
    count : ℕ
    n : ℕ
    swept : ℕ
    phase-is : v.phase ≡ 1
    table : v.found.table ≡ (reached count).table
    ended : Ended S (reached count)
    near : nearest_word (reached count).table.dist S ≡ suc n
    far-is : v.far ≡ suc n
    is : v.sweep ≡ back_by (reached count).table.dist succs m (reached count).table.queue swept (opening (reached count).table (suc n))
    left : v.sweep.rest ≡ length (reached count).table.queue - swept
    some_left : 0 < v.sweep.rest

  abbrev Stands : Underway → Type 0
  Stands v = Backward v ⊎ (Hopeless v ⊎ Onward v)

  -- ---- the queue at a count

  holds_at : (k : ℕ) → Holds N Ok (entries k) (reached k).table
  holds_at k = (at_count preds expand expand-law N Ok low preds-ok (g ∷ []) goals-ok k).table

  queue_long : (k : ℕ) → length (reached k).table.queue ≡ length (entries k)
  queue_long k = ap length (holds_at k).order ∙ length-map (entries k) state_of

  some-found : (k : ℕ) → 0 < length (reached k).table.queue
  some-found k = let (r, is, _) = led preds g k in omega (arith, queue_long k, ap length is)

  -- ---- the end of phase one

  module _ (v : Underway) (b : Backward v) where
    ended_here : goes_on S m v ≡ false → Ended S (reached b.count)
    ended_here off = subst (Ended S) b.is (stops S m v off)

    near-here : near_in S m v ≡ nearest_word (reached b.count).table.dist S
    near-here = ap (λ (u : Progress). nearest_word u.table.dist S) b.is

    given-stands : goes_on S m v ≡ false → near_in S m v ≡ 0 → Hopeless (given_up v)
    unfolding given_up
    given-stands off none-near = record { count = b.count; phase-is = refl; ended = ended_here off; near = sym near-here ∙ none-near }

    turned-stands : goes_on S m v ≡ false → (n : ℕ) → near_in S m v ≡ suc n → Onward (turned S m v)
    unfolding turned back_by
    turned-stands off n is =
        let e : v.found.table ≡ (reached b.count).table = ap (λ (u : Progress). u.table) b.is in
        record {
          count = b.count;
          n = n;
          swept = 0;
          phase-is = refl;
          table = e;
          ended = ended_here off;
          near = sym near-here ∙ is;
          far-is = is;
          is = λ i. record {
            rest = length (e i).queue;
            chosen = m;
            noted = record { line = m; marks = marked (suc m) (filt (λ t. eqb (get_or (e i).dist t 0) (is i)) S) (b.blank i) };
          };
          left = omega (arith, ap (λ (st : Search). length st.queue) e);
          some_left = omega (arith, ap (λ (st : Search). length st.queue) e, some-found b.count);
        }

    settled-stands : Stands (settled S m v)
    settled-stands = go (goes_on S m v) (near_in S m v) refl refl
      where
        go : (on : Bool) (near : ℕ) → goes_on S m v ≡ on → near_in S m v ≡ near → Stands (settled S m v)
        go true near e f = inl (subst Backward (sym (settled_on S m v e)) b)
        go false zero e f = inr (inl (subst Hopeless (sym (settled-none S m v e (eq-eqb (near_in S m v) 0 f))) (given-stands e f)))
        go false (suc n) e f = inr (inr (subst Onward (sym (settled-turned S m v e (ne_eqb (near_in S m v) 0 (λ z. omega (arith, f, z))))) (turned-stands e n f)))

  begun-stands : Stands (begun_from S m N (g ∷ []))
  unfolding begun_from begun advance_by
  begun-stands = settled-stands _ (record { count = 0; phase-is = refl; is = refl; blank = refl })

  -- ---- a state is taken up

  taken_back : (v : Underway) → v.phase ≡ 0 → taken S m trace succs v ≡ settled S m (expanded_next S m trace succs v)
  unfolding taken
  taken_back v e = λ i. elim (e i) [
    | zero ↦ settled S m (expanded_next S m trace succs v)
    | suc p ↦ cond (eqb p 0 && ltb 1 v.sweep.rest) (swept_next S m trace succs v) v
  ]

  taken-on : (v : Underway) (p : ℕ) → v.phase ≡ suc p → taken S m trace succs v ≡ cond (eqb p 0 && ltb 1 v.sweep.rest) (swept_next S m trace succs v) v
  unfolding taken
  taken-on v p e = λ i. elim (e i) [
    | zero ↦ settled S m (expanded_next S m trace succs v)
    | suc p ↦ cond (eqb p 0 && ltb 1 v.sweep.rest) (swept_next S m trace succs v) v
  ]

  backward-taken : (v : Underway) → Backward v → Stands (taken S m trace succs v)
  unfolding advance_by
  backward-taken v b =
      let x = expanded_next S m trace succs v in
      let next : Backward x = record {
        count = b.count + 1;
        phase-is = expanded-phase S m trace succs v ∙ b.phase-is;
        is = expanded-progress S m trace succs expand trace-table v ∙ (ap (advance expand) b.is ∙ sym (advance-add expand b.count 1 (begun N (g ∷ []))));
        blank = ap (λ (y : Sweep). y.noted.marks) (expanded-sweep S m trace succs v) ∙ b.blank;
      } in
      subst Stands (sym (taken_back v b.phase-is)) (settled-stands x next)

  swept-stands : (v : Underway) → Onward v → 1 < v.sweep.rest → Onward (swept_next S m trace succs v)
  unfolding swept_next back_by
  swept-stands v o more =
      let D = (reached o.count).table.dist in
      let q = (reached o.count).table.queue in
      let on : Search → Sweep = λ st. back st.dist succs m st.queue v.sweep in
      let less : (back (dist_of v) succs m (queue_of v) v.sweep).rest ≡ v.sweep.rest - 1 = back-rest (dist_of v) succs m (queue_of v) v.sweep in
      record {
        count = o.count;
        n = o.n;
        swept = o.swept + 1;
        phase-is = o.phase-is;
        table = o.table;
        ended = o.ended;
        near = o.near;
        far-is = o.far-is;
        is = ap on o.table ∙ (ap (back D succs m q) o.is ∙ sym (back-add D succs m q o.swept 1 (opening (reached o.count).table (suc o.n))));
        left = omega (arith, less, o.left);
        some_left = omega (arith, less, more);
      }

  onward-taken : (v : Underway) → Onward v → Stands (taken S m trace succs v)
  onward-taken v o = inr (inr (subst Onward (sym (taken-on v 0 o.phase-is)) (go (ltb 1 v.sweep.rest) refl)))
    where
      go : (b : Bool) → ltb 1 v.sweep.rest ≡ b → Onward (cond (eqb 0 0 && b) (swept_next S m trace succs v) v)
      go true e = swept-stands v o (ltb-true 1 v.sweep.rest e)
      go false e = o

  hopeless-taken : (v : Underway) → Hopeless v → Stands (taken S m trace succs v)
  hopeless-taken v h = inr (inl (subst Hopeless (sym (taken-on v 1 h.phase-is)) h))

  taken-stands : (v : Underway) → Stands v → Stands (taken S m trace succs v)
  taken-stands v x = ⊎_elim (λ b. backward-taken v b) (λ y. ⊎_elim (λ h. hopeless-taken v h) (λ o. onward-taken v o) y) x

  all-stand : (k : ℕ) (v : Underway) → Stands v → Stands (taken_by S m trace succs k v)
  unfolding taken_by
  all-stand zero v x = x
  all-stand (suc k) v x = all-stand k (taken S m trace succs v) (taken-stands v x)

  -- ---- the whole sweep

  module _ (k n : ℕ) (ended : Ended S (reached k)) (near : nearest_word (reached k).table.dist S ≡ suc n) where
    abbrev dists : List ℕ
    dists = (reached k).table.dist

    abbrev queue : List ℕ
    queue = (reached k).table.queue

    -- where the states with the word w begin
    abbrev lo : ℕ → ℕ
    lo w = (all_levels N (g ∷ []) preds succs m expand expand-law from_state from-law Ok low goals-ok next-ok preds-ok edges S starts-ok k n ended near).lo w

    lo-is : (w : ℕ) → lo w ≡ lows (w - 1) (entries k)
    unfolding all_levels levels
    lo-is w = refl

    lo-top : lo (suc (suc n)) ≡ lows (suc n) (entries k)
    lo-top = let e : suc (suc n) - 1 ≡ suc n = omega arith in lo-is (suc (suc n)) ∙ ap (λ i. lows i (entries k)) e

    -- the goal alone has the word 1
    lo-two : lo 2 ≡ 1
    lo-two =
        let (r, is, far) = led preds g k in
        lo-is 2 ∙ (ap (lows 1) is ∙ (lows-led 0 g r ∙ ap suc (no-lows 1 r (λ x i. far x i))))

    lo-some : 0 < lo (suc (suc n))
    lo-some = let (r, is, _) = led preds g k in omega (arith, lo-top, ap (lows (suc n)) is, lows-led n g r)

    lo-few : lo (suc (suc n)) ≤ length queue
    lo-few = omega (arith, lo-top, lows-few (suc n) (entries k), queue_long k)

    -- the states behind those with the word of the nearest first state are further
    past : (j : ℕ) → lo (suc (suc n)) ≤ j → j < length queue → suc n < get_or dists (get_or queue j 0) 0
    past j le lt =
        let f = entries k in
        let (d, (q, l)) = lined preds (g ∷ []) k in
        let short : j < length f = omega (arith, lt, queue_long k) in
        let (_, above) = lows-at (suc n) f l.sorted j short in
        let high : suc n ≤ (entry_at f j).1 = above (omega (arith, le, lo-top)) in
        let state : get_or queue j 0 ≡ (entry_at f j).0 = ap (λ z. get_or z j 0) (holds_at k).order ∙ states-at f j short in
        let word = word_of preds succs m N Ok low edges f d q l (reached k).table (holds_at k) (entry_at f j) (at-in-list f j short) in
        omega (arith, high, ap (λ s. get_or dists s 0) state, word)

    -- so they are not marked
    unmarked : (j : ℕ) → lo (suc (suc n)) ≤ j → j < length queue → get_or (firsts (reached k).table (suc n)) (get_or queue j 0) 0 ≡ 0
    unmarked j le lt =
        let s = get_or queue j 0 in
        marked-out (suc m) (filt (λ t. eqb (get_or dists t 0) (suc n)) S) (replicate N 0) s
        (λ i. omega (arith, past j le lt, eqb-true (get_or dists s 0) (suc n) ((filt-in (λ t. eqb (get_or dists t 0) (suc n)) S s).0 i).1))
        ∙ zero-at N s

    -- the sweep down to the states with the word of the nearest first state changes nothing
    beyond : back_by dists succs m queue (length queue - lo (suc (suc n))) (opening (reached k).table (suc n))
        ≡ record { rest = lo (suc (suc n)); chosen = m; noted = record { line = m; marks = firsts (reached k).table (suc n) } }
    beyond =
        let M = firsts (reached k).table (suc n) in
        let more = length queue - lo (suc (suc n)) in
        let top : length queue ≡ lo (suc (suc n)) + more = omega (arith, lo-few) in
        ap (λ r. back_by dists succs m queue more (resting dists succs m queue M r)) top
        ∙ backs-idle dists succs m queue M more (lo (suc (suc n))) (λ j le lt. unmarked j le (omega (arith, lt, top)))

    -- down to the goal, its marks say the chain
    swept-chain : some (chain_in dists succs m queue (back_by dists succs m queue (length queue - 1) (opening (reached k).table (suc n))).noted.marks n) ≡ answer
    swept-chain =
        let a = sweep-answer N (g ∷ []) preds succs m expand expand-law from_state from-law Ok low goals-ok next-ok preds-ok edges S starts-ok k n ended near in
        let first = opening (reached k).table (suc n) in
        let i = length queue - lo (suc (suc n)) in
        let j = lo (suc (suc n)) - lo 2 in
        let split : length queue - 1 ≡ i + j = omega (arith, lo-two, lo-some, lo-few) in
        let parts = ap (λ z. back_by dists succs m queue z first) split ∙ back-add dists succs m queue i j first in
        let whole = parts ∙ (ap (back_by dists succs m queue j) beyond ∙ a.is-swept) in
        ap (λ (y : Sweep). some (chain_in dists succs m queue y.noted.marks n)) whole ∙ a.chain

  -- ---- what stands at the end

  end-phase : (v : Underway) → v.phase ≡ 0 → at_end v ≡ false
  unfolding at_end
  end-phase v e = rw (e, at_end)

  end_rest : (v : Underway) → v.phase ≡ 1 → at_end v ≡ leb v.sweep.rest 1
  unfolding at_end
  end_rest v e = rw (e, at_end)

  outcome-none : (v : Underway) → v.phase ≡ 2 → outcome succs m v ≡ none
  unfolding outcome
  outcome-none v e = rw e

  outcome-chain : (v : Underway) → v.phase ≡ 1 → outcome succs m v ≡ some (chain_in (dist_of v) succs m (queue_of v) v.sweep.noted.marks (v.far - 1))
  unfolding outcome
  outcome-chain v e = rw e

  hopeless-end : (v : Underway) → Hopeless v → outcome succs m v ≡ answer
  unfolding forward forward_by
  hopeless-end v h =
      let D = (reached h.count).table.dist in
      outcome-none v h.phase-is
      ∙ (ap (forward_by from_state N m S D) (sym h.near)
      ∙ ended_is N (g ∷ []) preds succs m expand expand-law from_state from-law Ok low goals-ok next-ok preds-ok S starts-ok h.count h.ended)

  onward-end : (v : Underway) → Onward v → at_end v ≡ true → outcome succs m v ≡ answer
  onward-end v o end =
      let st = (reached o.count).table in
      let few = leb-true v.sweep.rest 1 (sym (end_rest v o.phase-is) ∙ end) in
      let all : o.swept ≡ length st.queue - 1 = omega (arith, o.left, o.some_left, few) in
      let sweep = o.is ∙ ap (λ j. back_by st.dist succs m st.queue j (opening st (suc o.n))) all in
      let levels : v.far - 1 ≡ o.n = omega (arith, o.far-is) in
      outcome-chain v o.phase-is
      ∙ ((λ i. some (chain_in (o.table i).dist succs m (o.table i).queue (sweep i).noted.marks (levels i)))
      ∙ swept-chain o.count o.n o.ended o.near)

  stands-end : (v : Underway) → Stands v → at_end v ≡ true → outcome succs m v ≡ answer
  stands-end v x end = ⊎_elim (λ b. absurd (false≢true (sym (end-phase v b.phase-is) ∙ end))) (λ y. ⊎_elim (λ h. hopeless-end v h) (λ o. onward-end v o end) y) x

  -- whatever is taken up, the outcome is the plain search's answer
  pub finish-is : (k : ℕ) → let v = taken_by S m trace succs k (begun_from S m N (g ∷ [])) in
      at_end v ≡ true → outcome succs m v ≡ solve N (g ∷ []) preds succs m S
  finish-is k end = stands-end _ (all-stand k (begun_from S m N (g ∷ [])) begun-stands) end

  -- and so however the states taken up are divided
  pub finish-any : (k j : ℕ) → let v = taken_by S m trace succs (k + j) (begun_from S m N (g ∷ [])) in
      at_end v ≡ true → outcome succs m v ≡ solve N (g ∷ []) preds succs m S
  finish-any k j end = finish-is (k + j) end
