-- How each state was reached is right at every count: beside every state of the queue but the goal stands a line that leads from it to a state found
-- earlier, the one that the tag names, and one nearer (`reached-right`); the goal stands first, with the tag 0 (`reached-first`), and there is a tag
-- for each state (`reached-long`). `Traces` is what holds at every count.
use Rattle.std.specs.Prelude.{◌≡◌, Bool, cond, ◌&&◌, eqb, ltb, get_or, drop, replicate}
use Rattle.std.proofs.Math.Path.{refl, ap}
use Rattle.std.proofs.Common.{sym, ◌∙◌, subst, arith, length-append, get_or-append-add}
use Rattle.std.proofs.Math.Bool.{true, false}
use mathlib.Core.List.{List, [], ◌∷◌, ◌++◌, nil≢cons, head-eq_of_cons-eq}
use Prim.Native.Nat.{ℕ, zero, suc, ◌+◌, ◌-◌, ◌<◌}
use Rattle.std.proofs.Math.Decide.{dec_lt}
use Rattle.std.proofs.Math.ListN.{length, length-replicate, get_or-append}
use Rattle.std.proofs.lemmas.List.{length-map}
use Rattle.lists.specs.Listed.{◌∈◌}
use Rattle.graph.specs.Plain.{Entry, state_of, states, look, news, steps}
use Rattle.graph.proofs.Entries.{once-look}
use Rattle.graph.specs.Loops.{loop}
use Rattle.graph.proofs.Queue.{waits_in, waits-below, drop-map}
use Rattle.graph.proofs.Counted.{step-next}
use Rattle.graph.specs.Table.{Search, push, mark}
use Rattle.graph.specs.PhaseOne.{Progress, begun, advance_by}
use Rattle.graph.proofs.PhaseOne.{advance-next, At, advances-at, at_count}
use Rattle.graph.proofs.Early.{news-at}
use Rattle.graph.specs.Trace.{Reached, tag_of}
use Rattle.graph.proofs.Trace.{Long, Tagged}
use Rattle.graph.proofs.Swept.{entry_at, at-in-list, states-at}
use Rattle.graph.proofs.SweepAnswer.{zero-at}
use Rattle.graph.specs.Underway.{Underway, dist_of, queue_of, waiting_in, near_in, given_up, turned, goes_on, settled, begun_from, expanded_next, swept_next, taken, taken_by}

-- ---- what is found changes only where a state is expanded

module _ (S : List ℕ) (m : ℕ) (P : Reached → ℕ → Type 0) where
  abbrev Kept : Underway → Type 0
  Kept v = P v.found v.expanded

  kept-settled : (v : Underway) → Kept v → Kept (settled S m v)
  unfolding settled given_up turned
  kept-settled v h = go (goes_on S m v) (eqb (near_in S m v) 0)
    where
      go : (a b : Bool) → Kept (cond a v (cond b (given_up v) (turned S m v)))
      go true b = h
      go false true = h
      go false false = h

  module _ (trace : ℕ → ℕ → Reached → Reached) (succs : ℕ → ℕ → List ℕ)
      (next : (x : Reached) (n t : ℕ) (q : List ℕ) → drop n x.table.queue ≡ t ∷ q → P x n → P (trace (suc (get_or x.table.dist t 0)) t x) (suc n)) where
    kept-expanded : (v : Underway) → Kept v → Kept (expanded_next S m trace succs v)
    unfolding expanded_next
    kept-expanded v h = go (waiting_in v) refl
      where
        go : (q : List ℕ) → waiting_in v ≡ q → Kept (expanded_next S m trace succs v)
        go [] e = rw (e, expanded_next) h
        go (t ∷ q) e = rw (e, expanded_next) (next v.found v.expanded t q e h)

    kept-taken : (v : Underway) → Kept v → Kept (taken S m trace succs v)
    unfolding taken swept_next
    kept-taken v h = go v.phase
      where
        swept : (b : Bool) → Kept (cond b (swept_next S m trace succs v) v)
        swept true = h
        swept false = h

        go : (p : ℕ) → Kept (elim p [
          | zero ↦ settled S m (expanded_next S m trace succs v)
          | suc p ↦ cond (eqb p 0 && ltb 1 v.sweep.rest) (swept_next S m trace succs v) v
        ])
        go zero = kept-settled (expanded_next S m trace succs v) (kept-expanded v h)
        go (suc p) = swept (eqb p 0 && ltb 1 v.sweep.rest)

    kept-all : (k : ℕ) (v : Underway) → Kept v → Kept (taken_by S m trace succs k v)
    unfolding taken_by
    kept-all zero v h = h
    kept-all (suc k) v h = kept-all k (taken S m trace succs v) (kept-taken v h)

-- ---- the entry that waits first stands at the count

waits-at : {A : Type 0} (n : ℕ) (l : List A) (x d : A) (q : List A) → drop n l ≡ x ∷ q → get_or l n d ≡ x
waits-at zero [] x d q h = absurd (nil≢cons h)
waits-at zero (y ∷ l) x d q h = head-eq_of_cons-eq h
waits-at (suc n) [] x d q h = absurd (nil≢cons h)
waits-at (suc n) (y ∷ l) x d q h = waits-at n l x d q h

module _ (N g : ℕ) (preds : ℕ → List ℕ) (succs : ℕ → ℕ → List ℕ) (m : ℕ)
    (expand : ℕ → ℕ → Search → Search) (expand-law : (w t : ℕ) (st : Search) → loop (push w) (preds t) st ≡ expand w t st)
    (Ok : ℕ → Type 0) (low : (s : ℕ) → Ok s → s < N) (goals-ok : (s : ℕ) → s ∈ (g ∷ []) → Ok s) (preds-ok : (s t : ℕ) → Ok t → s ∈ preds t → Ok s)
    (S : List ℕ)
    (trace : ℕ → ℕ → Reached → Reached) (trace-table : (w t : ℕ) (x : Reached) → (trace w t x).table ≡ expand w t x.table)
    (trace-tagged : (w t : ℕ) (x : Reached) → Ok t → Tagged succs m t x (trace w t x)) where
  -- ---- what holds at every count

  -- the entry j of f was found from an earlier one, by a line that leads from it there, and its tag says so
  record From (f : List Entry) (how : List ℕ) (j : ℕ) : Type 0 where
    i : ℕ
    l : ℕ
    earlier : i < j
    line_low : l < m
    tag_is : get_or how j 0 ≡ tag_of l (entry_at f i).0
    leads : (entry_at f i).0 ∈ succs (entry_at f j).0 l
    further : (entry_at f j).1 ≡ suc (entry_at f i).1

  abbrev at : Reached → ℕ → Progress
  at x n = record { expanded = n; table = x.table }

  -- n states are expanded, and x is found: the entries f
  record Traces (x : Reached) (n : ℕ) : Type 0 where
    f : List Entry
    plain : At preds expand expand-law N Ok low preds-ok (f, n) (at x n)
    some-found : 0 < length f
    first : (entry_at f 0).0 ≡ g
    long : length x.how ≡ length f
    first-tag : get_or x.how 0 0 ≡ 0
    right : (j : ℕ) → 0 < j → j < length f → From f x.how j

  begun-traces : let table = (begun N (g ∷ [])).table in Traces (record { table = table; how = replicate (length table.queue) 0 }) 0
  unfolding begun advance_by steps news look
  begun-traces =
      let a = at_count preds expand expand-law N Ok low preds-ok (g ∷ []) goals-ok 0 in
      let n = length (begun N (g ∷ [])).table.queue in
      record {
        f = (g, 0) ∷ [];
        plain = a;
        some-found = omega arith;
        first = refl;
        long = length-replicate {A = ℕ} n 0 ∙ ap length a.table.order;
        first-tag = zero-at n 0;
        right = λ j some few. absurd (omega arith);
      }

  -- ---- a state is expanded

  module _ (x : Reached) (n t : ℕ) (q : List ℕ) (waits : drop n x.table.queue ≡ t ∷ q) (h : Traces x n)
      (e : Entry) (r : List Entry) (here : drop n h.f ≡ e ∷ r) where
    abbrev w : ℕ
    w = suc (get_or x.table.dist t 0)

    abbrev y : Reached
    y = trace w t x

    abbrev new : List Entry
    new = news (suc e.1) h.f (preds e.0)

    is-next : e.0 ≡ t
    is-next = head-eq_of_cons-eq (sym (ap states here) ∙ (sym (drop-map state_of n h.f) ∙ (ap (drop n) (sym h.plain.table.order) ∙ waits)))

    next-at : At preds expand expand-law N Ok low preds-ok (h.f ++ new, suc n) (at y (suc n))
    unfolding steps advance_by
    next-at =
        let a = advances-at preds expand expand-law N Ok low preds-ok 1 (h.f, n) (at x n) h.plain in
        rw (step-next preds h.f n e r here, advance-next expand (at x n) t q waits, ← trace-table w t x) at a

    found_from : Tagged succs m t x y
    found_from = trace-tagged w t x (subst Ok is-next (h.plain.table.okay e (waits_in n h.f e r here)))

    queue_long : length x.table.queue ≡ length h.f
    queue_long = ap length h.plain.table.order ∙ length-map h.f state_of

    as_many : length found_from.new ≡ length new
    as_many =
        omega (
          arith,
          queue_long,
          ap length found_from.queue-is,
          length-append x.table.queue found_from.new,
          ap length next-at.table.order,
          length-map (h.f ++ new) state_of,
          length-append h.f new,
        )

    old-entry : (j : ℕ) → j < length h.f → entry_at (h.f ++ new) j ≡ entry_at h.f j
    old-entry j lt = get_or-append h.f new (0, 0) j lt

    old-tag : (j : ℕ) → j < length h.f → get_or y.how j 0 ≡ get_or x.how j 0
    old-tag j lt = ap (λ l. get_or l j 0) found_from.how-is ∙ get_or-append x.how found_from.tags 0 j (omega (arith, h.long))

    -- those found before
    old-right : (j : ℕ) → 0 < j → j < length h.f → From (h.f ++ new) y.how j
    old-right j some lt =
        let o = h.right j some lt in
        let there = old-entry o.i (omega (arith, o.earlier)) in
        let own = old-entry j lt in
        record {
          i = o.i;
          l = o.l;
          earlier = o.earlier;
          line_low = o.line_low;
          tag_is = rw (old-tag j lt, there) o.tag_is;
          leads = rw (there, own) o.leads;
          further = rw (there, own) o.further;
        }

    -- the new ones: the entry behind k of them, its state and its tag
    new-entry : (j k : ℕ) → j ≡ length h.f + k → entry_at (h.f ++ new) j ≡ entry_at new k
    new-entry j k is = ap (entry_at (h.f ++ new)) is ∙ get_or-append-add h.f new k (0, 0)

    new-state : (j k : ℕ) → j ≡ length h.f + k → k < length new → (entry_at (h.f ++ new) j).0 ≡ get_or found_from.new k 0
    new-state j k is lt =
        let place : j ≡ length x.table.queue + k = omega (arith, is, queue_long) in
        let queue : states (h.f ++ new) ≡ x.table.queue ++ found_from.new = sym next-at.table.order ∙ found_from.queue-is in
        sym (states-at (h.f ++ new) j (omega (arith, length-append h.f new)))
        ∙ ((λ i. get_or (queue i) (place i) 0)
        ∙ get_or-append-add x.table.queue found_from.new k 0)

    new-tag : (j k : ℕ) → j ≡ length h.f + k → get_or y.how j 0 ≡ get_or found_from.tags k 0
    new-tag j k is =
        let place : j ≡ length x.how + k = omega (arith, is, h.long) in
        (λ i. get_or (found_from.how-is i) (place i) 0) ∙ get_or-append-add x.how found_from.tags k 0

    new-right : (j k : ℕ) → j ≡ length h.f + k → k < length new → From (h.f ++ new) y.how j
    new-right j k is lt =
        let (l, l-low, tag, leads) = found_from.right k (omega (arith, as_many)) in
        let before : n < length h.f = waits-below n h.f e r here in
        let parent : entry_at (h.f ++ new) n ≡ e = old-entry n before ∙ waits-at n h.f e (0, 0) r here in
        let parent_is : (entry_at (h.f ++ new) n).0 ≡ t = ap state_of parent ∙ is-next in
        let even : (entry_at new k).1 ≡ suc e.1 = news-at (suc e.1) (preds e.0) h.f (entry_at new k) (at-in-list new k lt) in
        record {
          i = n;
          l = l;
          earlier = omega arith;
          line_low = l-low;
          tag_is = rw (new-tag j k is, parent_is) tag;
          leads = rw (parent_is, new-state j k is lt) leads;
          further = ap (λ (z : Entry). z.1) (new-entry j k is) ∙ (even ∙ ap (λ (z : Entry). suc z.1) (sym parent));
        }

    next_here : Traces y (suc n)
    next_here = record {
      f = h.f ++ new;
      plain = next-at;
      some-found = omega (arith, h.some-found, length-append h.f new);
      first = ap state_of (old-entry 0 h.some-found) ∙ h.first;
      long = omega (arith, ap length found_from.how-is, length-append x.how found_from.tags, found_from.as_many, as_many, h.long, length-append h.f new);
      first-tag = old-tag 0 h.some-found ∙ h.first-tag;
      right = λ j some lt. elim (dec_lt j (length h.f)) [
        | yes old ↦ old-right j some old
        | no l ↦ new-right j (j - length h.f) (omega arith) (omega (arith, lt, length-append h.f new))
      ];
    }

  next-traces : (x : Reached) (n t : ℕ) (q : List ℕ) → drop n x.table.queue ≡ t ∷ q → Traces x n → Traces (trace (suc (get_or x.table.dist t 0)) t x) (suc n)
  next-traces x n t q waits h = go (drop n h.f) refl
    where
      go : (r : List Entry) → drop n h.f ≡ r → Traces (trace (suc (get_or x.table.dist t 0)) t x) (suc n)
      go [] e = absurd (nil≢cons (sym (ap states e) ∙ (sym (drop-map state_of n h.f) ∙ (ap (drop n) (sym h.plain.table.order) ∙ waits))))
      go (x₀ ∷ r) e = next_here x n t q waits h x₀ r e

  -- ---- at every count

  abbrev underway : ℕ → Underway
  underway k = taken_by S m trace succs k (begun_from S m N (g ∷ []))

  traces : (k : ℕ) → Traces (underway k).found (underway k).expanded
  unfolding begun_from
  traces k = kept-all S m Traces trace succs next-traces k (begun_from S m N (g ∷ [])) (kept-settled S m Traces _ begun-traces)

  -- ---- read off the queue and the words

  module _ (x : Reached) (n : ℕ) (h : Traces x n) where
    state-at : (j : ℕ) → j < length h.f → get_or x.table.queue j 0 ≡ (entry_at h.f j).0
    state-at j lt = ap (λ l. get_or l j 0) h.plain.table.order ∙ states-at h.f j lt

    word-at : (j : ℕ) → j < length h.f → get_or x.table.dist (get_or x.table.queue j 0) 0 ≡ suc (entry_at h.f j).1
    word-at j lt =
        let z = entry_at h.f j in
        let i = at-in-list h.f j lt in
        let holds = h.plain.table in
        ap (λ s. get_or x.table.dist s 0) (state-at j lt)
        ∙ (holds.marks z.0 (low z.0 (holds.okay z i))
        ∙ ap mark (once-look h.f holds.once z.0 z.1 i))

    found-long : length x.table.queue ≡ length h.f
    found-long = ap length h.plain.table.order ∙ length-map h.f state_of

    read_right : (j : ℕ) → 0 < j → j < length x.table.queue
        → (i : ℕ) × (l : ℕ) × (i < j) × (l < m)
        × (get_or x.how j 0 ≡ tag_of l (get_or x.table.queue i 0))
        × (get_or x.table.queue i 0 ∈ succs (get_or x.table.queue j 0) l)
        × (get_or x.table.dist (get_or x.table.queue j 0) 0 ≡ suc (get_or x.table.dist (get_or x.table.queue i 0) 0))
    read_right j some few =
        let lt : j < length h.f = omega (arith, found-long) in
        let o = h.right j some lt in
        let lt' : o.i < length h.f = omega (arith, o.earlier) in (
          o.i,
          o.l,
          o.earlier,
          o.line_low,
          rw (state-at o.i lt') o.tag_is,
          rw (state-at o.i lt', state-at j lt) o.leads,
          word-at j lt ∙ (ap suc o.further ∙ ap suc (sym (word-at o.i lt'))),
        )

  pub reached-right : (k j : ℕ) → let v = taken_by S m trace succs k (begun_from S m N (g ∷ [])) in 0 < j → j < length (queue_of v)
      → (i : ℕ) × (l : ℕ) × (i < j) × (l < m)
      × (get_or v.found.how j 0 ≡ tag_of l (get_or (queue_of v) i 0))
      × (get_or (queue_of v) i 0 ∈ succs (get_or (queue_of v) j 0) l)
      × (get_or (dist_of v) (get_or (queue_of v) j 0) 0 ≡ suc (get_or (dist_of v) (get_or (queue_of v) i 0) 0))
  reached-right k j some few = read_right (underway k).found (underway k).expanded (traces k) j some few

  -- the goal
  pub reached-first : (k : ℕ) → let v = taken_by S m trace succs k (begun_from S m N (g ∷ [])) in (get_or (queue_of v) 0 0 ≡ g) × (get_or v.found.how 0 0 ≡ 0)
  reached-first k = let h = traces k in (state-at (underway k).found (underway k).expanded h 0 h.some-found ∙ h.first, h.first-tag)

  pub reached-long : (k : ℕ) → Long (taken_by S m trace succs k (begun_from S m N (g ∷ []))).found
  reached-long k = let h = traces k in h.long ∙ sym (found-long (underway k).found (underway k).expanded h)
