-- Phase one as counting loops (`PhaseOne` in specs/) does what the plain search does.
-- Claimed, at every count of expanded states: the table is that of the plain search at that count (`at_count`), and going on comes to the same end (`any-count`);
-- no state is expanded twice (`expanded-once`), N expansions are all (`all-expanded`), and the distances at the end are the plain ones (`table-distances`).
use Rattle.std.specs.Prelude.{◌≡◌, ◌⊎◌, length, get_or}
use Rattle.std.proofs.Math.Path.{refl, ap}
use Rattle.std.proofs.Common.{sym, ◌∙◌, zero-add, suc-add, arith, length-append}
use mathlib.Core.List.{List, [], ◌∷◌, ◌++◌}
use Rattle.std.proofs.Math.Logic.{inl, inr, ⊎_elim}
use Rattle.std.proofs.Math.Option.{Option, none, some}
use Prim.Native.Nat.{ℕ, zero, suc, ◌+◌, ◌-◌, ◌<◌, ◌≤◌}
use Rattle.std.proofs.Math.Decide.{dec_lt}
use Rattle.std.proofs.Math.ListN.{drop, drop_of_length-le, get_or-eq_default}
use Rattle.lists.specs.Listed.{◌∈◌}
use Rattle.graph.specs.Plain.{Entry, state_of, states, look, news, bfs, step, steps, found}
use Rattle.graph.proofs.Entries.{look-some, once-look}
use Rattle.graph.specs.Loops.{loop}
use Rattle.graph.proofs.Queue.{waits_in, waits-below, waits-more, Distinct, distinct-waits, drop-map}
use Rattle.graph.proofs.Counted.{step_end, step-next, steps-bfs}
use Rattle.graph.specs.Table.{Search, push, mark, unmark, distance_in, blank}
use Rattle.graph.proofs.Table.{unmark-mark, Holds, blank-holds, holds-distinct, holds-room, loop-holds}
use Rattle.graph.proofs.Grows.{Grows, grows_none, grows_then, push-grows, loop-grows}
use Rattle.graph.specs.PhaseOne.{Progress, waiting, begun}
use Rattle.graph.specs.PhaseOne

-- ---- a search under way

module _ (expand : ℕ → ℕ → Search → Search) where
  abbrev advance : Progress → Progress
  advance = PhaseOne.advance expand

  abbrev advance_by : ℕ → Progress → Progress
  advance_by = PhaseOne.advance_by expand

  -- ---- laws of the count

  pub advance-end : (u : Progress) → waiting u ≡ [] → advance u ≡ u
  unfolding PhaseOne.advance
  advance-end u e = rw (e, PhaseOne.advance)

  pub advance-next : (u : Progress) (t : ℕ) (q : List ℕ)
      → waiting u ≡ t ∷ q
      → advance u ≡ record { expanded = suc u.expanded; table = expand (suc (get_or u.table.dist t 0)) t u.table }
  unfolding PhaseOne.advance
  advance-next u t q e = rw (e, PhaseOne.advance)

  pub advance-add : (j k : ℕ) (u : Progress) → advance_by (j + k) u ≡ advance_by k (advance_by j u)
  unfolding PhaseOne.advance_by
  advance-add zero k u = ap (λ n. advance_by n u) (zero-add k)
  advance-add (suc j) k u = ap (λ n. advance_by n u) (suc-add j k) ∙ advance-add j k (advance u)

  pub advance-stays : (k : ℕ) (u : Progress) → waiting u ≡ [] → advance_by k u ≡ u
  unfolding PhaseOne.advance_by
  advance-stays zero u e = refl
  advance-stays (suc k) u e = rw (advance-end u e) (advance-stays k u e)

  -- k states are expanded, or the queue is used up
  pub advance-counts : (k : ℕ) (u : Progress) → (waiting (advance_by k u) ≡ []) ⊎ ((advance_by k u).expanded ≡ u.expanded + k)
  unfolding PhaseOne.advance_by
  advance-counts zero u = inr (omega arith)
  advance-counts (suc k) u = go (waiting u) refl (advance-counts k (advance u))
    where
      go : (q : List ℕ)
          → waiting u ≡ q → (waiting (advance_by k (advance u)) ≡ []) ⊎ ((advance_by k (advance u)).expanded ≡ (advance u).expanded + k)
          → (waiting (advance_by k (advance u)) ≡ []) ⊎ ((advance_by k (advance u)).expanded ≡ u.expanded + suc k)
      go [] e r = inl (rw (advance-end u e, advance-stays k u e) e)
      go (t ∷ q) e (inl r) = inl r
      go (t ∷ q) e (inr r) = inr (omega (arith, r, ap (λ (v : Progress). v.expanded) (advance-next u t q e)))

-- ---- an expansion that pushes the predecessors

module _ (preds : ℕ → List ℕ) (expand : ℕ → ℕ → Search → Search) (law : (w t : ℕ) (st : Search) → loop (push w) (preds t) st ≡ expand w t st) where
  -- later: as many expanded or more, and the queue is the same with more at its end
  record Later (u v : Progress) : Type 0 where
    counted : u.expanded ≤ v.expanded
    grown : Grows u.table v.table

  advance-later : (u : Progress) → Later u (advance expand u)
  advance-later u = go (waiting u) refl
    where
      go : (q : List ℕ) → waiting u ≡ q → Later u (advance expand u)
      go [] e = rw (advance-end expand u e) record { counted = omega arith; grown = grows_none u.table }
      go (t ∷ q) e =
          let w = suc (get_or u.table.dist t 0) in
          let g : Grows u.table (expand w t u.table) = rw (← law w t u.table) (loop-grows (push w) (push-grows w) (preds t) u.table) in
          rw (advance-next expand u t q e) record { counted = omega arith; grown = g }

  advances-later : (k : ℕ) (u : Progress) → Later u (advance_by expand k u)
  unfolding PhaseOne.advance_by
  advances-later zero u = record { counted = omega arith; grown = grows_none u.table }
  advances-later (suc k) u =
      let a = advance-later u in
      let b = advances-later k (advance expand u) in
      record {
        counted = omega (arith, a.counted, b.counted);
        grown = grows_then u.table (advance expand u).table (advance_by expand k (advance expand u)).table a.grown b.grown;
      }

  -- no more states are expanded than are in the queue
  abbrev Within : Progress → Type 0
  Within u = u.expanded ≤ length u.table.queue

  advance-within : (u : Progress) → Within u → Within (advance expand u)
  advance-within u h = go (waiting u) refl
    where
      go : (q : List ℕ) → waiting u ≡ q → Within (advance expand u)
      go [] e = rw (advance-end expand u e) h
      go (t ∷ q) e =
          let g = (advance-later u).grown in
          let one : (advance expand u).expanded ≡ suc u.expanded = ap (λ (v : Progress). v.expanded) (advance-next expand u t q e) in
          omega (arith, one, waits-below u.expanded u.table.queue t q e, ap length g.more, length-append u.table.queue g.new)

  pub advances-within : (k : ℕ) (u : Progress) → Within u → Within (advance_by expand k u)
  unfolding PhaseOne.advance_by
  advances-within zero u h = h
  advances-within (suc k) u h = advances-within k (advance expand u) (advance-within u h)

  -- ---- the plain search at that count

  module _ (N : ℕ) (Ok : ℕ → Type 0) (low : (s : ℕ) → Ok s → s < N) (preds-ok : (s t : ℕ) → Ok t → s ∈ preds t → Ok s) where
    -- as many are expanded, and the table holds the entries found
    pub record At (x : List Entry × ℕ) (u : Progress) : Type 0 where
      pub count : u.expanded ≡ x.1
      pub table : Holds N Ok x.0 u.table

    advance-at : (f : List Entry) (n : ℕ) (u : Progress) → At (f, n) u → At (step preds (f, n)) (advance expand u)
    advance-at f n u a = go (drop n f) refl
      where
        waits : (x : List Entry) → drop n f ≡ x → waiting u ≡ states x
        waits x e = (λ i. drop (a.count i) (a.table.order i)) ∙ (drop-map state_of n f ∙ ap states e)

        go : (x : List Entry) → drop n f ≡ x → At (step preds (f, n)) (advance expand u)
        go [] e = rw (step_end preds f n e, advance-end expand u (waits [] e)) a
        go (x ∷ q) e =
            let m = waits_in n f x q e in
            let o = a.table.okay x m in
            let w : get_or u.table.dist x.0 0 ≡ suc x.1 = a.table.marks x.0 (low x.0 o) ∙ ap mark (once-look f a.table.once x.0 x.1 m) in
            rw (step-next preds f n x q e, advance-next expand u x.0 (states q) (waits (x ∷ q) e), w, ← law (suc (suc x.1)) x.0 u.table)
            record { count = ap suc a.count; table = loop-holds N Ok low (preds x.0) (suc x.1) f u.table (λ p j. preds-ok p x.0 o j) a.table }

    pub advances-at : (k : ℕ) (x : List Entry × ℕ) (u : Progress) → At x u → At (steps preds k x) (advance_by expand k u)
    unfolding steps PhaseOne.advance_by
    advances-at zero x u a = a
    advances-at (suc k) x u a = advances-at k (step preds x) (advance expand u) (advance-at x.0 x.1 u a)

    -- ---- the search from the goals

    module _ (goals : List ℕ) (goals-ok : (s : ℕ) → s ∈ goals → Ok s) where
      -- the search begun, and advanced by k
      abbrev reached : ℕ → Progress
      reached k = advance_by expand k (begun N goals)

      -- the entries that the plain search has then
      abbrev plain : ℕ → List Entry × ℕ
      plain k = steps preds k (news 0 [] goals, 0)

      pub at_count : (k : ℕ) → At (plain k) (reached k)
      unfolding begun
      at_count k =
          let start = loop-holds N Ok low goals 0 [] (blank N) goals-ok (blank-holds N Ok) in
          advances-at k (news 0 [] goals, 0) (begun N goals) (record { count = refl; table = start })

      -- the queue has no state twice, and N words are room enough for it
      pub queue-distinct : (k : ℕ) → Distinct (reached k).table.queue
      queue-distinct k = holds-distinct N Ok (plain k).0 (reached k).table (at_count k).table

      pub queue-room : (k : ℕ) → length (reached k).table.queue ≤ N
      queue-room k = holds-room N Ok low (plain k).0 (reached k).table (at_count k).table

      -- a state that is expanded is not expanded again
      pub expanded-once : (j k t : ℕ) (q q' : List ℕ) → j < k → waiting (reached j) ≡ t ∷ q → waiting (reached k) ≡ t ∷ q' → ⊥
      expanded-once j k t q q' lt h h' =
          let u = reached j in
          let v = advance expand u in
          let n = k - suc j in
          let sum : k ≡ j + suc n = omega arith in
          let split : reached k ≡ advance_by expand n v = ap (λ (i : ℕ). reached i) sum ∙ (advance-add expand j (suc n) (begun N goals) ∙ unfold PhaseOne.advance_by in refl) in
          let one : v.expanded ≡ suc u.expanded = ap (λ (p : Progress). p.expanded) (advance-next expand u t q h) in
          let a = advance-later u in
          let b : Later v (reached k) = rw split (advances-later n v) in
          let g : Grows u.table (reached k).table = grows_then u.table v.table (reached k).table a.grown b.grown in
          let still = waits-more u.expanded u.table.queue g.new t q h in
          let again : drop u.expanded (reached k).table.queue ≡ t ∷ (q ++ g.new) = ap (drop u.expanded) g.more ∙ still in
          distinct-waits u.expanded (reached k).expanded (reached k).table.queue t (q ++ g.new) q' (queue-distinct k) (omega (arith, one, b.counted)) again h'

      -- so at most N are ever expanded
      pub expanded-few : (k : ℕ) → (reached k).expanded ≤ N
      unfolding begun
      expanded-few k = omega (arith, advances-within k (begun N goals) (omega arith), queue-room k)

      -- after N expansions the queue is used up
      pub all-expanded : waiting (reached N) ≡ []
      unfolding begun
      all-expanded =
          ⊎_elim
          (λ e. e)
          (λ e. drop_of_length-le (reached N).table.queue {i = (reached N).expanded} (omega (arith, e, queue-room N)))
          (advance-counts expand N (begun N goals))

      -- however the expansions are divided, N more come to the same end
      pub any-count : (k : ℕ) → advance_by expand N (reached k) ≡ reached N
      any-count k =
          let swap : k + N ≡ N + k = omega arith in
          sym (advance-add expand k N (begun N goals))
          ∙ (ap (λ (i : ℕ). reached i) swap
          ∙ (advance-add expand N k (begun N goals)
          ∙ advance-stays expand k (reached N) all-expanded))

      -- the distances in the table at the end
      pub table-distances : (s : ℕ) → distance_in (reached N).table.dist s ≡ look s (found N goals preds)
      unfolding found
      table-distances s = elim (dec_lt s N) [
        | yes l ↦ (ap unmark (a.marks s l) ∙ (unmark-mark _ ∙ ap (look s) whole))
        | no l ↦ (ap unmark (get_or-eq_default (reached N).table.dist 0 {n = s} (omega (arith, a.sized))) ∙ (sym (out l (look s f) refl) ∙ ap (look s) whole))
      ]
        where
          f : List Entry
          f = (plain N).0

          a : Holds N Ok f (reached N).table
          a = (at_count N).table

          whole : f ≡ bfs preds N (news 0 [] goals) (news 0 [] goals)
          whole = steps-bfs preds N (news 0 [] goals) 0

          out : ¬ (s < N) → (x : Option ℕ) → look s f ≡ x → look s f ≡ none
          out l none e = e
          out l (some d) e = absurd (let h = low s (a.okay (s, d) (look-some s f d e)) in omega arith)
