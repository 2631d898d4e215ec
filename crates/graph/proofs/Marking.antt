-- The words of the search state by state at every count: no mark is above the count of lines and 1 (`marks-low`), and as many distances are given
-- as states are in the queue (`dist-counted`, of every table that holds entries `holds-counted`). `words-found` has all that is said of the table's words.
use Rattle.std.specs.Prelude.{◌≡◌, refl, Bool, ◌&&◌, ltb, length, set, replicate}
use Rattle.std.proofs.Common.{sym, ap, ◌∙◌, ⊎_elim, arith, get_or-set_other}
use Rattle.std.proofs.Math.Path.{subst}
use Rattle.std.proofs.Math.Bool.{true, false, cond}
use mathlib.Core.List.Memᴰ
use mathlib.Core.List.{List, [], ◌∷◌}
use Rattle.std.proofs.Math.Option.{Option, none, some}
use Prim.Native.Nat.{ℕ, zero, suc, ◌-◌, ◌<◌, ◌≤◌}
use Rattle.std.proofs.Math.Decide.{ℕ_discrete, dec_lt}
use Rattle.std.proofs.Math.Dec.{eqb, leb}
use Rattle.std.proofs.Math.ListN.{get_or, get_or-eq_default}
use Rattle.lists.specs.Listed.{◌∈◌, none_in, get_or-in}
use Rattle.graph.specs.Plain.{Entry, state_of, look, filt}
use Rattle.graph.proofs.Entries.{look-some, once-look}
use Rattle.graph.specs.Loops.{loop}
use Rattle.graph.proofs.Queue.{Distinct}
use Rattle.graph.specs.Table.{Search, push, mark}
use Rattle.graph.proofs.Table.{Holds, holds-distinct}
use Rattle.graph.specs.Trace.{Reached}
use Rattle.graph.proofs.Trace.{Long}
use Rattle.graph.specs.Sweep.{Noted, Sweep, marked, least, ahead, lead, take_up, back}
use Rattle.graph.proofs.Sweep.{least-spec}
use Rattle.graph.specs.Underway.{Underway, dist_of, queue_of, waiting_in, near_in, given_up, turned, settled, begun_from, expanded_next, swept_next, taken, taken_by}
use Rattle.graph.proofs.Taking.{Took, backward, forward, ended, took, expanded-end, expanded-one, settled-keeps, reached_by, reached-keeps, plain-at-count, standing}

-- ---- marks stay low

module _ (m : ℕ) where
  record Low (M : List ℕ) : Type 0 where
    each : (t : ℕ) → get_or M t 0 ≤ suc m

  none-low : (n : ℕ) → Low (replicate n 0)
  none-low n = record { each = go n }
    where
      go : (n t : ℕ) → get_or (replicate n 0) t 0 ≤ suc m
      go zero t = omega arith
      go (suc n) zero = omega arith
      go (suc n) (suc t) = go n t

  set-low : (v : ℕ) → v ≤ suc m → (M : List ℕ) (s : ℕ) → Low M → Low (set M s v)
  set-low v h M s low = record { each = go M s low.each }
    where
      go : (M : List ℕ) (s : ℕ) → ((t : ℕ) → get_or M t 0 ≤ suc m) → (t : ℕ) → get_or (set M s v) t 0 ≤ suc m
      go [] s f t = omega arith
      go (x ∷ M) zero f zero = h
      go (x ∷ M) zero f (suc t) = f (suc t)
      go (x ∷ M) (suc s) f zero = f 0
      go (x ∷ M) (suc s) f (suc t) = go M s (λ u. f (suc u)) t

  marked-low : (v : ℕ) → v ≤ suc m → (ts M : List ℕ) → Low M → Low (marked v ts M)
  unfolding loop
  marked-low v h [] M low = low
  marked-low v h (t ∷ ts) M low = marked-low v h ts (set M t v) (set-low v h M t low)

  module _ (D : List ℕ) (succs : ℕ → ℕ → List ℕ) where
    -- a line that leads on is written as itself and 1
    lead_low : (w s : ℕ) (x : Noted) → Low x.marks → Low (lead D succs m w s x).marks
    unfolding lead
    lead_low w s x h = go (ltb (least D succs m w s m 0) m && leb (least D succs m w s m 0) x.line)
      where
        l : ℕ
        l = least D succs m w s m 0

        go : (b : Bool) → let y : Noted = cond b (record { line = l; marks = marked (suc l) (ahead D succs m w s l) x.marks }) x in Low y.marks
        go true = marked-low (suc l) (omega (arith, (least-spec D succs m w s m 0).to)) (ahead D succs m w s l) x.marks h
        go false = h

    take-low : (w c s : ℕ) (x : Noted) → Low x.marks → Low (take_up D succs m w c s x).marks
    unfolding take_up
    take-low w c s x h = go (eqb (get_or x.marks s 0) (suc c))
      where
        go : (b : Bool) → let y : Noted = cond b (lead D succs m w s x) x in Low y.marks
        go true = lead_low w s x h
        go false = h

    back_low : (q : List ℕ) (y : Sweep) → Low y.noted.marks → Low (back D succs m q y).noted.marks
    unfolding back
    back_low q y h =
        let s = get_or q (y.rest - 1) 0 in
        go
        (eqb (get_or D (get_or q (y.rest - 1 - 1) 0) 0) (get_or D s 0))
        (take_up D succs m (get_or D s 0 - 1) y.chosen s y.noted)
        (take-low (get_or D s 0 - 1) y.chosen s y.noted h)
      where
        go : (b : Bool) (x : Noted) → Low x.marks
            → let z : Sweep = cond b
            (record { rest = y.rest - 1; chosen = y.chosen; noted = x })
            (record { rest = y.rest - 1; chosen = x.line; noted = record { line = m; marks = x.marks } }) in
            Low z.noted.marks
        go true x k = k
        go false x k = k

  abbrev LowIn : Underway → Type 0
  LowIn v = Low v.sweep.noted.marks

  module _ (S : List ℕ) where
    -- the nearest first states are marked with the count of lines and 1
    settled-low : (v : Underway) → LowIn v → LowIn (settled S m v)
    unfolding given_up turned
    settled-low v h = settled-keeps S m LowIn v
        (λ _. h)
        (λ _ _. h)
        (λ _ _. marked-low (suc m) (omega arith) (filt (λ t. eqb (get_or (dist_of v) t 0) (near_in S m v)) S) v.sweep.noted.marks h)

    module _ (trace : ℕ → ℕ → Reached → Reached) (succs : ℕ → ℕ → List ℕ) where
      expanded-low : (v : Underway) → LowIn v → LowIn (expanded_next S m trace succs v)
      expanded-low v h = go (waiting_in v) refl
        where
          go : (q : List ℕ) → waiting_in v ≡ q → LowIn (expanded_next S m trace succs v)
          go [] e = subst LowIn (sym (expanded-end S m trace succs v e)) h
          go (t ∷ q) e = subst LowIn (sym (expanded-one S m trace succs v t q e)) h

      taken-low : (v : Underway) → LowIn v → LowIn (taken S m trace succs v)
      unfolding swept_next
      taken-low v h = go (took S m trace succs v)
        where
          go : Took S m trace succs v → LowIn (taken S m trace succs v)
          go (backward z t n) = subst LowIn (sym t) (settled-low (expanded_next S m trace succs v) (expanded-low v h))
          go (forward o l t n) = subst LowIn (sym t) (back_low (dist_of v) succs (queue_of v) v.sweep h)
          go (ended t n) = subst LowIn (sym t) h

-- ---- how many words are not 0

unfoldable pub count_marked : List ℕ → ℕ
count_marked [] = zero
count_marked (zero ∷ l) = count_marked l
count_marked (suc n ∷ l) = suc (count_marked l)

count_none : (D : List ℕ) → ((s : ℕ) → get_or D s 0 ≡ 0) → count_marked D ≡ 0
unfolding count_marked
count_none [] h = refl
count_none (zero ∷ D) h = count_none D (λ s. h (suc s))
count_none (suc n ∷ D) h = absurd (omega (arith, h 0))

-- a word that is cleared was one of them
count-clear : (D : List ℕ) (s : ℕ) → 0 < get_or D s 0 → count_marked D ≡ suc (count_marked (set D s 0))
unfolding count_marked
count-clear [] s h = absurd (omega arith)
count-clear (zero ∷ D) zero h = absurd (omega arith)
count-clear (suc n ∷ D) zero h = refl
count-clear (zero ∷ D) (suc s) h = count-clear D s h
count-clear (suc n ∷ D) (suc s) h = ap suc (count-clear D s h)

cleared : (D : List ℕ) (s : ℕ) → get_or (set D s 0) s 0 ≤ 0
cleared [] s = omega arith
cleared (x ∷ D) zero = omega arith
cleared (x ∷ D) (suc s) = cleared D s

-- where the words that are not 0 are those of the states of a list, each once there, they are as many
counted-by : (q D : List ℕ) → Distinct q → ((s : ℕ) → s ∈ q → 0 < get_or D s 0) → ((s : ℕ) → 0 < get_or D s 0 → s ∈ q) → count_marked D ≡ length q
counted-by [] D o has only = count_none D (λ s. elim (dec_lt 0 (get_or D s 0)) [ yes l ↦ none_in (only s l) | no l ↦ omega arith ])
counted-by (x ∷ q) D o has only =
    count-clear D x (has x (Memᴰ.head refl))
    ∙ ap suc (counted-by q (set D x 0) o.1
    (λ s i. omega (arith, get_or-set_other D x s 0 0 (λ e. o.0 (subst (◌∈ q) e i)), has s (Memᴰ.tail i)))
    (λ s l. elim (ℕ_discrete s x) [
      | yes e ↦ absurd (omega (arith, cleared D x, subst (λ z. 0 < get_or (set D x 0) z 0) e l))
      | no n ↦ ⊎_elim (λ e. absurd (n e)) (λ i. i) (Memᴰ.cases_cons (only s (omega (arith, l, get_or-set_other D x s 0 0 n))))
    ]))

-- a table has as many words as states in its queue
pub holds-counted : (N : ℕ) (Ok : ℕ → Type 0) (low : (s : ℕ) → Ok s → s < N) (f : List Entry) (st : Search) → Holds N Ok f st → count_marked st.dist ≡ length st.queue
holds-counted N Ok low f st h = counted-by st.queue st.dist (holds-distinct N Ok f st h) has only
  where
    has : (s : ℕ) → s ∈ st.queue → 0 < get_or st.dist s 0
    has s i =
        let (x, j, p) = Memᴰ.of_map state_of f (rw h.order at i) in
        let word : get_or st.dist x.0 0 ≡ suc x.1 = h.marks x.0 (low x.0 (h.okay x j)) ∙ ap mark (once-look f h.once x.0 x.1 j) in
        subst (λ z. 0 < get_or st.dist z 0) p (omega (arith, word))

    only : (s : ℕ) → 0 < get_or st.dist s 0 → s ∈ st.queue
    only s l = elim (dec_lt s N) [
      | yes b ↦ go (look s f) refl b
      | no b ↦ absurd (omega (arith, l, get_or-eq_default st.dist 0 {n = s} (omega (arith, h.sized))))
    ]
      where
        go : (o : Option ℕ) → look s f ≡ o → s < N → s ∈ st.queue
        go none e b = absurd (omega (arith, l, h.marks s b ∙ ap mark e))
        go (some d) e b = rw h.order (Memᴰ.map state_of (look-some s f d e))

-- what a table of N states keeps: as many words are not 0 as states are in the queue, those are states, and no word is above their count
pub record WordsFound (N : ℕ) (st : Search) : Type 0 where
  pub sized : length st.dist ≡ N
  pub counted : length st.queue ≡ count_marked st.dist
  pub within : (i : ℕ) → i < length st.queue → get_or st.queue i 0 < N
  pub near : (t : ℕ) → get_or st.dist t 0 ≤ count_marked st.dist

-- ---- at every count

module _ (N : ℕ) (goals : List ℕ) (preds : ℕ → List ℕ) (succs : ℕ → ℕ → List ℕ) (m : ℕ)
    (expand : ℕ → ℕ → Search → Search) (expand-law : (w t : ℕ) (st : Search) → loop (push w) (preds t) st ≡ expand w t st)
    (Ok : ℕ → Type 0) (low : (s : ℕ) → Ok s → s < N) (goals-ok : (s : ℕ) → s ∈ goals → Ok s) (preds-ok : (s t : ℕ) → Ok t → s ∈ preds t → Ok s)
    (S : List ℕ) (trace : ℕ → ℕ → Reached → Reached) (trace-table : (w t : ℕ) (x : Reached) → (trace w t x).table ≡ expand w t x.table) where
  -- the search begun, and taken up by k
  abbrev reached : ℕ → Underway
  reached k = reached_by N goals preds succs m expand expand-law Ok low goals-ok preds-ok S trace trace-table k

  pub marks-low : (k t : ℕ) → get_or (reached k).sweep.noted.marks t 0 ≤ suc m
  unfolding taken_by begun_from
  marks-low k t =
      (reached-keeps N goals preds succs m expand expand-law Ok low goals-ok preds-ok S trace trace-table (LowIn m)
      (settled-low m S _ (none-low m N))
      (taken-low m S trace succs)
      k).each t

  pub dist-counted : (k : ℕ) → count_marked (dist_of (reached k)) ≡ length (queue_of (reached k))
  dist-counted k =
      holds-counted N Ok low _ (reached k).found.table (plain-at-count N goals preds succs m expand expand-law Ok low goals-ok preds-ok S trace trace-table k)

  pub words-found : ((w t : ℕ) (x : Reached) → Long x → Long (trace w t x)) → (k : ℕ) → WordsFound N (reached k).found.table
  words-found trace-long k =
      let s = standing N goals preds succs m expand expand-law Ok low goals-ok preds-ok S trace trace-table trace-long k in
      record {
        sized = s.sized;
        counted = sym (dist-counted k);
        within = λ i l. s.states (get_or (queue_of (reached k)) i 0) (get_or-in (queue_of (reached k)) i 0 l);
        near = λ t. omega (arith, s.words t, dist-counted k);
      }
