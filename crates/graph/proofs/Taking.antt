-- The laws of the count of the search state by state (`Underway`).
-- Claimed: amounts add up (`taken-add`, `moves-any`); an amount is taken up whole or the search is at its end (`takes-amount`, `takes-no-more`, `takes_one`);
-- the end comes by 2 · N + 2 states (`moves-end`) and is one, at whatever count (`end_stays`, `end_same`). At every count the table is that of
-- phase one, so of the plain search, by the count of expanded states (`found-at-count`, `plain-at-count`), which in phase 0 is the count itself
-- (`count-back`); and what the numbers keep at every count is one record (`standing`).
use Rattle.std.specs.Prelude.{◌≡◌, Bool, ◌&&◌, ◌⊎◌, drop, replicate}
use Rattle.std.proofs.Math.Path.{refl, sym, ap, subst}
use Rattle.std.proofs.Common.{◌∙◌, zero-add, suc-add, length-append}
use Rattle.std.proofs.Math.Bool.{true, false, cond, not}
use Rattle.std.proofs.lemmas.Bool.{false≢true}
use mathlib.Core.List.Memᴰ
use mathlib.Core.List.{List, [], ◌∷◌, ◌++◌}
use Rattle.std.proofs.Math.Logic.{inl, inr, ⊎_elim}
use Rattle.std.proofs.Math.Option.{Option, none, some}
use Prim.Native.Nat.{ℕ, zero, suc, ◌+◌, ◌-◌, ◌*◌, ◌<◌, ◌≤◌}
use native.Mathlib.Omega.{arith}
use Rattle.std.proofs.Math.Decide.{ℕ_discrete, dec_lt}
use Rattle.std.proofs.Math.Dec.{eqb, ltb, leb, eqb-suc-zero}
use Rattle.std.proofs.Math.ListN.{length, get_or, length-replicate, get_or-eq_default}
use Rattle.std.proofs.lemmas.List.{length-map}
use borrow.Author.Tests.{eqb-true, eqb-false, ltb-true, ltb-false, lt-leb, le-leb}
use Rattle.lists.specs.Listed.{◌∈◌, none_in}
use Rattle.graph.specs.Plain.{Entry, state_of, look, news, steps, filt}
use Rattle.graph.proofs.Entries.{look-some}
use Rattle.graph.specs.Loops.{loop}
use Rattle.graph.specs.Table.{Search, push, mark}
use Rattle.graph.proofs.Table.{Holds, holds-room, holds-ok}
use Rattle.graph.specs.PhaseOne.{Progress, waiting, begun, advance, advance_by}
use Rattle.graph.proofs.PhaseOne.{advance-next, advance-add, at_count, advances-within}
use Rattle.graph.specs.PhaseTwo.{nearest_word}
use Rattle.graph.proofs.PhaseTwo.{nearest-of}
use Rattle.graph.specs.Early.{met_by}
use Rattle.graph.proofs.Early.{news-at, steps-keep}
use Rattle.graph.specs.Trace.{Reached}
use Rattle.graph.proofs.Trace.{Long}
use Rattle.graph.specs.Sweep.{Noted, Sweep, marked, least, ahead, lead, take_up, back}
use Rattle.graph.proofs.Sweep.{marked-long, least-spec}
use Rattle.graph.specs.Underway.{Underway, dist_of, queue_of, waiting_in, last_word, given_up, near_in, goes_on, turned, settled, begun_from, expanded_next, swept_next, taken, taken_by, taken_up, at_end}
use Rattle.graph.specs.Taking

-- ---- one state, and many

-- the sum of the amounts
unfoldable pub sum_of : List ℕ → ℕ
sum_of [] = 0
sum_of (a ∷ rest) = a + sum_of rest

module _ (S : List ℕ) (m : ℕ) (trace : ℕ → ℕ → Reached → Reached) (succs : ℕ → ℕ → List ℕ) where
  -- what taking up one state does: back, forth, or nothing, at the end
  pub data Took (u : Underway) : Type 0 where
    backward : u.phase ≡ 0 → taken S m trace succs u ≡ settled S m (expanded_next S m trace succs u) → at_end u ≡ false → Took u
    forward : u.phase ≡ 1 → 1 < u.sweep.rest → taken S m trace succs u ≡ swept_next S m trace succs u → at_end u ≡ false → Took u
    ended : taken S m trace succs u ≡ u → at_end u ≡ true → Took u

  pub took : (u : Underway) → Took u
  unfolding taken at_end
  took u = go u.phase refl
    where
      -- by the phase, and by whether more than one state is left
      phased : (p : ℕ) → u.phase ≡ p → taken S m trace succs u ≡ elim p [
        | zero ↦ settled S m (expanded_next S m trace succs u)
        | suc n ↦ cond (eqb n 0 && ltb 1 u.sweep.rest) (swept_next S m trace succs u) u
      ]
      phased p e i = elim (e i) [
        | zero ↦ settled S m (expanded_next S m trace succs u)
        | suc n ↦ cond (eqb n 0 && ltb 1 u.sweep.rest) (swept_next S m trace succs u) u
      ]

      swept : (b : Bool) → ltb 1 u.sweep.rest ≡ b → u.phase ≡ 1 → Took u
      swept true h e =
          let l = ltb-true 1 u.sweep.rest h in
          forward e l (phased 1 e ∙ ap (λ b. cond b (swept_next S m trace succs u) u) h) (rw (e, at_end) (lt-leb u.sweep.rest 1 l))
      swept false h e =
          ended (phased 1 e ∙ ap (λ b. cond b (swept_next S m trace succs u) u) h) (rw (e, at_end) (le-leb u.sweep.rest 1 (ltb-false 1 u.sweep.rest h)))

      go : (p : ℕ) → u.phase ≡ p → Took u
      go zero e = backward e (phased 0 e) (rw (e, at_end))
      go (suc zero) e = swept (ltb 1 u.sweep.rest) refl e
      go (suc (suc p)) e =
          ended (phased (suc (suc p)) e ∙ ap (λ b. cond (b && ltb 1 u.sweep.rest) (swept_next S m trace succs u) u) (eqb-suc-zero p)) (rw (e, at_end, eqb-suc-zero p))

  -- at the end a step changes nothing
  pub end_stays : (u : Underway) → at_end u ≡ true → taken S m trace succs u ≡ u
  end_stays u h = go (took u)
    where
      go : Took u → taken S m trace succs u ≡ u
      go (backward e t n) = absurd (false≢true (sym n ∙ h))
      go (forward e l t n) = absurd (false≢true (sym n ∙ h))
      go (ended t n) = t

  pub end-stays-by : (k : ℕ) (u : Underway) → at_end u ≡ true → taken_by S m trace succs k u ≡ u
  unfolding taken_by
  end-stays-by zero u h = refl
  end-stays-by (suc k) u h = rw (end_stays u h) (end-stays-by k u h)

  -- amounts add up
  pub taken-add : (j k : ℕ) (u : Underway) → taken_by S m trace succs (j + k) u ≡ taken_by S m trace succs k (taken_by S m trace succs j u)
  unfolding taken_by
  taken-add zero k u = ap (λ n. taken_by S m trace succs n u) (zero-add k)
  taken-add (suc j) k u = ap (λ n. taken_by S m trace succs n u) (suc-add j k) ∙ taken-add j k (taken S m trace succs u)

  -- the last of the states
  pub taken-last : (k : ℕ) (u : Underway) → taken_by S m trace succs (suc k) u ≡ taken S m trace succs (taken_by S m trace succs k u)
  unfolding taken_by
  taken-last zero u = refl
  taken-last (suc k) u = taken-last k (taken S m trace succs u)

  -- ---- one expansion

  pub expanded-end : (v : Underway) → waiting_in v ≡ [] → expanded_next S m trace succs v ≡ v
  unfolding expanded_next
  expanded-end v e i = elim (e i) [
    | [] ↦ v
    | t ∷ q ↦ record { found = trace (suc (get_or (dist_of v) t 0)) t v.found; expanded = suc v.expanded; phase = v.phase; far = v.far; sweep = v.sweep }
  ]

  pub expanded-one : (v : Underway) (t : ℕ) (q : List ℕ) → waiting_in v ≡ t ∷ q
      → expanded_next S m trace succs v ≡ record { found = trace (suc (get_or (dist_of v) t 0)) t v.found; expanded = suc v.expanded; phase = v.phase; far = v.far; sweep = v.sweep }
  unfolding expanded_next
  expanded-one v t q e i = elim (e i) [
    | [] ↦ v
    | t ∷ q ↦ record { found = trace (suc (get_or (dist_of v) t 0)) t v.found; expanded = suc v.expanded; phase = v.phase; far = v.far; sweep = v.sweep }
  ]

  -- ---- amounts one after the other

  abbrev taken_each : List ℕ → Underway → Underway
  taken_each = Taking.taken_each S m trace succs

  pub taken-each : (amounts : List ℕ) (u : Underway) → taken_each amounts u ≡ taken_by S m trace succs (sum_of amounts) u
  unfolding sum_of Taking.taken_each taken_by
  taken-each [] u = refl
  taken-each (a ∷ rest) u = taken-each rest (taken_by S m trace succs a u) ∙ sym (taken-add a (sum_of rest) u)

-- ---- phase one goes on, or ends

module _ (S : List ℕ) (m : ℕ) where
  -- what holds in each of the three cases holds of the search settled
  pub settled-keeps : (P : Underway → Type 0) (v : Underway)
      → (goes_on S m v ≡ true → P v)
      → (goes_on S m v ≡ false → near_in S m v ≡ 0 → P (given_up v))
      → (goes_on S m v ≡ false → 0 < near_in S m v → P (turned S m v))
      → P (settled S m v)
  unfolding settled
  settled-keeps P v on up round = go (goes_on S m v) (eqb (near_in S m v) 0) refl refl
    where
      go : (a b : Bool) → goes_on S m v ≡ a → eqb (near_in S m v) 0 ≡ b → P (cond a v (cond b (given_up v) (turned S m v)))
      go true b h e = on h
      go false true h e = up h (eqb-true (near_in S m v) 0 e)
      go false false h e = round h (let ne = eqb-false (near_in S m v) 0 e in omega arith)

  -- it goes on only where a state waits
  pub going-waits : (v : Underway) → goes_on S m v ≡ true → (t : ℕ) × ((q : List ℕ) × (waiting_in v ≡ t ∷ q))
  unfolding goes_on
  going-waits v h = go (waiting_in v) refl
    where
      go : (q : List ℕ) → waiting_in v ≡ q → (t : ℕ) × ((r : List ℕ) × (waiting_in v ≡ t ∷ r))
      go [] e = absurd (false≢true (sym (λ i. elim (e i) [ [] ↦ false | t ∷ q ↦ not (met_by (near_in S m v) (get_or (dist_of v) t 0) (last_word v)) ]) ∙ h))
      go (t ∷ q) e = (t, (q, e))

  -- where phase one ends, nothing of the sweep is taken up yet
  settled_up : (w : Underway) → w.phase ≡ 0 → taken_up (settled S m w) ≡ w.expanded
  unfolding taken_up given_up turned
  settled_up w z = settled-keeps (λ u. taken_up u ≡ w.expanded) w
      (λ _. up w z)
      (λ _ _. omega arith)
      (λ _ _. omega arith)
    where
      up : (u : Underway) → u.phase ≡ 0 → taken_up u ≡ u.expanded
      up u e = (λ i. u.expanded + cond (eqb (e i) 1) (length (queue_of u) - u.sweep.rest) 0) ∙ omega arith

-- no more than are expanded and found
up-low : (v : Underway) → taken_up v ≤ v.expanded + length (queue_of v)
unfolding taken_up
up-low v = go (eqb v.phase 1)
  where
    go : (b : Bool) → v.expanded + cond b (length (queue_of v) - v.sweep.rest) 0 ≤ v.expanded + length (queue_of v)
    go true = omega arith
    go false = omega arith

-- ---- what the sweep keeps

-- the line noted is none above the count of lines, and there are n marks
record Noting (m n : ℕ) (x : Noted) : Type 0 where
  line_low : x.line ≤ m
  long : length x.marks ≡ n

-- of the sweep, where at most r states are left
record Sweeping (m n r : ℕ) (y : Sweep) : Type 0 where
  rest-low : y.rest ≤ r
  chosen-low : y.chosen ≤ m
  noting : Noting m n y.noted

module _ (D : List ℕ) (succs : ℕ → ℕ → List ℕ) (m n : ℕ) where
  lead-keeps : (w s : ℕ) (x : Noted) → Noting m n x → Noting m n (lead D succs m w s x)
  unfolding lead
  lead-keeps w s x h = go (ltb (least D succs m w s m 0) m && leb (least D succs m w s m 0) x.line)
    where
      go : (b : Bool) → Noting m n (cond b (record {
        line = least D succs m w s m 0;
        marks = marked (suc (least D succs m w s m 0)) (ahead D succs m w s (least D succs m w s m 0)) x.marks;
      }) x)
      go true = record {
        line_low = omega (arith, (least-spec D succs m w s m 0).to);
        long = marked-long (suc (least D succs m w s m 0)) (ahead D succs m w s (least D succs m w s m 0)) x.marks ∙ h.long;
      }
      go false = h

  take-keeps : (w c s : ℕ) (x : Noted) → Noting m n x → Noting m n (take_up D succs m w c s x)
  unfolding take_up
  take-keeps w c s x h = go (eqb (get_or x.marks s 0) (suc c))
    where
      go : (b : Bool) → Noting m n (cond b (lead D succs m w s x) x)
      go true = lead-keeps w s x h
      go false = h

  -- one state fewer is left, and the rest holds as before
  back-keeps : (r : ℕ) (q : List ℕ) (y : Sweep) → Sweeping m n r y → ((back D succs m q y).rest ≡ y.rest - 1) × Sweeping m n r (back D succs m q y)
  unfolding back
  back-keeps r q y h =
      let s = get_or q (y.rest - 1) 0 in
      go
      (eqb (get_or D (get_or q (y.rest - 1 - 1) 0) 0) (get_or D s 0))
      (take_up D succs m (get_or D s 0 - 1) y.chosen s y.noted)
      (take-keeps (get_or D s 0 - 1) y.chosen s y.noted h.noting)
    where
      go : (b : Bool) (x : Noted) → Noting m n x
          → let z : Sweep = cond b
          (record { rest = y.rest - 1; chosen = y.chosen; noted = x })
          (record { rest = y.rest - 1; chosen = x.line; noted = record { line = m; marks = x.marks } }) in
          (z.rest ≡ y.rest - 1) × Sweeping m n r z
      go true x k = (refl, record { rest-low = omega (arith, h.rest-low); chosen-low = h.chosen-low; noting = k })
      go false x k = (refl, record { rest-low = omega (arith, h.rest-low); chosen-low = k.line_low; noting = record { line_low = omega arith; long = k.long } })

-- ---- what the numbers keep

module _ (N : ℕ) where
  -- the goals are found, of N states, before it is asked whether phase one goes on
  abbrev bare : List ℕ → Underway
  bare goals = record {
    found = record { table = (begun N goals).table; how = replicate (length (begun N goals).table.queue) 0 };
    expanded = 0;
    phase = 0;
    far = 0;
    sweep = record { rest = 0; chosen = 0; noted = record { line = 0; marks = replicate N 0 } };
  }

  -- nothing of the sweep is begun
  pub record Idle (v : Underway) : Type 0 where
    pub no-far : v.far ≡ 0
    pub no-rest : v.sweep.rest ≡ 0
    pub no-chosen : v.sweep.chosen ≡ 0
    pub no_line : v.sweep.noted.line ≡ 0
    pub no-marks : v.sweep.noted.marks ≡ replicate N 0

-- N states, first states S, m lines
module _ (N : ℕ) (S : List ℕ) (m : ℕ) where
  record Counting (v : Underway) : Type 0 where
    phases : v.phase ≤ 2
    sweeping : Sweeping m N (length (queue_of v)) v.sweep
    going : v.phase ≡ 0 → goes_on S m v ≡ true
    idle : (v.phase ≡ 1 → ⊥) → Idle N v
    forth : v.phase ≡ 1 → (0 < v.far) × (v.far ≡ near_in S m v)

  -- what every count keeps, in the words of those who use it
  pub record Standing (v : Underway) : Type 0 where
    pub sized : length (dist_of v) ≡ N
    pub room : length (queue_of v) ≤ N
    pub states : (t : ℕ) → t ∈ queue_of v → t < N
    -- a word is a distance and 1, and each lesser distance is that of another state found
    pub words : (t : ℕ) → get_or (dist_of v) t 0 ≤ length (queue_of v)
    pub within : v.expanded ≤ length (queue_of v)
    pub long : Long v.found
    pub phases : v.phase ≤ 2
    pub rest-low : v.sweep.rest ≤ length (queue_of v)
    pub chosen-low : v.sweep.chosen ≤ m
    pub line_low : v.sweep.noted.line ≤ m
    pub marks-long : length v.sweep.noted.marks ≡ N
    pub far-low : v.far ≤ N
    -- in phase 0 a state waits
    pub going : v.phase ≡ 0 → goes_on S m v ≡ true
    -- in the phases 0 and 2
    pub idle : (v.phase ≡ 1 → ⊥) → Idle N v
    pub forth : v.phase ≡ 1 → (0 < v.far) × (v.far ≡ nearest_word (dist_of v) S)

  idle-sweeps : (v : Underway) → Idle N v → Sweeping m N (length (queue_of v)) v.sweep
  idle-sweeps v h = record {
    rest-low = omega (arith, h.no-rest);
    chosen-low = omega (arith, h.no-chosen);
    noting = record { line_low = omega (arith, h.no_line); long = ap length h.no-marks ∙ length-replicate {A = ℕ} N 0 };
  }

  settled-counts : (v : Underway) → v.phase ≡ 0 → Idle N v → Counting (settled S m v)
  unfolding given_up turned
  settled-counts v z h = settled-keeps S m Counting v
      (λ on. record {
        phases = omega (arith, z);
        sweeping = idle-sweeps v h;
        going = λ _. on;
        idle = λ _. h;
        forth = λ e. absurd (omega (arith, z, e));
      })
      (λ _ none-near. record {
        phases = omega arith;
        sweeping = idle-sweeps v h;
        going = λ e. absurd (omega (arith, e));
        idle = λ _. record { no-far = h.no-far; no-rest = h.no-rest; no-chosen = h.no-chosen; no_line = h.no_line; no-marks = h.no-marks };
        forth = λ e. absurd (omega (arith, e));
      })
      (λ _ some_near. record {
        phases = omega arith;
        sweeping = record {
          rest-low = omega arith;
          chosen-low = omega arith;
          noting = record {
            line_low = omega arith;
            long = marked-long (suc m) (filt (λ t. eqb (get_or (dist_of v) t 0) (near_in S m v)) S) v.sweep.noted.marks ∙ (idle-sweeps v h).noting.long;
          };
        };
        going = λ e. absurd (omega (arith, e));
        idle = λ n. absurd (n refl);
        forth = λ _. (some_near, refl);
      })

  module _ (trace : ℕ → ℕ → Reached → Reached) (succs : ℕ → ℕ → List ℕ) where
    -- an expansion changes neither the phase nor the sweep
    expanded-idle : (v : Underway) → v.phase ≡ 0 → Idle N v → ((expanded_next S m trace succs v).phase ≡ 0) × Idle N (expanded_next S m trace succs v)
    expanded-idle v z h = go (waiting_in v) refl
      where
        go : (q : List ℕ) → waiting_in v ≡ q → ((expanded_next S m trace succs v).phase ≡ 0) × Idle N (expanded_next S m trace succs v)
        go [] e = subst (λ (w : Underway). (w.phase ≡ 0) × Idle N w) (sym (expanded-end S m trace succs v e)) (z, h)
        go (t ∷ q) e = subst (λ (w : Underway). (w.phase ≡ 0) × Idle N w) (sym (expanded-one S m trace succs v t q e))
            (z, record { no-far = h.no-far; no-rest = h.no-rest; no-chosen = h.no-chosen; no_line = h.no_line; no-marks = h.no-marks })

    taken-counts : (v : Underway) → Counting v → Counting (taken S m trace succs v)
    unfolding swept_next
    taken-counts v c = go (took S m trace succs v)
      where
        go : Took S m trace succs v → Counting (taken S m trace succs v)
        go (backward z t n) =
            let (z', h) = expanded-idle v z (c.idle (λ e. omega (arith, z, e))) in
            subst Counting (sym t) (settled-counts (expanded_next S m trace succs v) z' h)
        go (forward o l t n) = subst Counting (sym t) (record {
          phases = c.phases;
          sweeping = (back-keeps (dist_of v) succs m N (length (queue_of v)) (queue_of v) v.sweep c.sweeping).1;
          going = λ e. absurd (omega (arith, o, e));
          idle = λ n. absurd (n o);
          forth = c.forth;
        })
        go (ended t n) = subst Counting (sym t) c

    -- ---- one state more is taken up

    taken-one : (v : Underway) → Counting v → at_end v ≡ false → taken_up (taken S m trace succs v) ≡ suc (taken_up v)
    unfolding taken_up swept_next
    taken-one v c un = go (took S m trace succs v)
      where
        go : Took S m trace succs v → taken_up (taken S m trace succs v) ≡ suc (taken_up v)
        go (backward z t n) =
            let (s, (q, e)) = going-waits S m v (c.going z) in
            let next = expanded_next S m trace succs v in
            let one : next.expanded ≡ suc v.expanded = ap (λ (w : Underway). w.expanded) (expanded-one S m trace succs v s q e) in
            let z' : next.phase ≡ 0 = ap (λ (w : Underway). w.phase) (expanded-one S m trace succs v s q e) ∙ z in
            let before : taken_up v ≡ v.expanded = (λ i. v.expanded + cond (eqb (z i) 1) (length (queue_of v) - v.sweep.rest) 0) ∙ omega arith in
            ap taken_up t ∙ (settled_up S m next z' ∙ omega (arith, one, before))
        go (forward o l t n) =
            let less = (back-keeps (dist_of v) succs m N (length (queue_of v)) (queue_of v) v.sweep c.sweeping).0 in
            let after : taken_up (swept_next S m trace succs v) ≡ v.expanded + (length (queue_of v) - (back (dist_of v) succs m (queue_of v) v.sweep).rest) =
            (λ i. v.expanded + cond (eqb (o i) 1) (length (queue_of v) - (back (dist_of v) succs m (queue_of v) v.sweep).rest) 0) in
            let before : taken_up v ≡ v.expanded + (length (queue_of v) - v.sweep.rest) = (λ i. v.expanded + cond (eqb (o i) 1) (length (queue_of v) - v.sweep.rest) 0) in
            ap taken_up t ∙ omega (arith, after, before, less, l, c.sweeping.rest-low)
        go (ended t n) = absurd (false≢true (sym un ∙ n))

    -- so many states, or all that remain
    takes : (a : ℕ) (v : Underway) → Counting v → (taken_up (taken_by S m trace succs a v) ≡ taken_up v + a) ⊎ (at_end (taken_by S m trace succs a v) ≡ true)
    unfolding taken_by
    takes zero v c = inl (omega arith)
    takes (suc a) v c = go (at_end v) refl (takes a (taken S m trace succs v) (taken-counts v c))
      where
        go : (b : Bool) → at_end v ≡ b → let w = taken_by S m trace succs a (taken S m trace succs v) in
            (taken_up w ≡ taken_up (taken S m trace succs v) + a) ⊎ (at_end w ≡ true) → (taken_up w ≡ taken_up v + suc a) ⊎ (at_end w ≡ true)
        go true h ih = inr (ap at_end (end-stays-by S m trace succs (suc a) v h) ∙ h)
        go false h (inl e) = inl (omega (arith, e, taken-one v c h))
        go false h (inr e) = inr e

    -- a step takes up one state at most, and takes none back
    taken-few : (v : Underway) → Counting v → (taken_up v ≤ taken_up (taken S m trace succs v)) × (taken_up (taken S m trace succs v) ≤ suc (taken_up v))
    taken-few v c = go (at_end v) refl
      where
        go : (b : Bool) → at_end v ≡ b → (taken_up v ≤ taken_up (taken S m trace succs v)) × (taken_up (taken S m trace succs v) ≤ suc (taken_up v))
        go true h = let same = ap taken_up (end_stays S m trace succs v h) in (omega (arith, same), omega (arith, same))
        go false h = let one = taken-one v c h in (omega (arith, one), omega (arith, one))

    takes-few : (a : ℕ) (v : Underway) → Counting v → (taken_up v ≤ taken_up (taken_by S m trace succs a v)) × (taken_up (taken_by S m trace succs a v) ≤ taken_up v + a)
    unfolding taken_by
    takes-few zero v c = (omega arith, omega arith)
    takes-few (suc a) v c =
        let here = taken-few v c in
        let later = takes-few a (taken S m trace succs v) (taken-counts v c) in
        (omega (arith, here.0, later.0), omega (arith, here.1, later.1))

-- ---- distances are below the count of states found

module _ (preds : ℕ → List ℕ) where
  -- each state found is nearer than so many, and those that wait are found
  record Near (f q : List Entry) : Type 0 where
    short : (x : Entry) → x ∈ f → x.1 < length f
    inside : (x : Entry) → x ∈ q → x ∈ f

  near_next : (f : List Entry) (e : Entry) (q : List Entry) → Near f (e ∷ q) → let g = news (suc e.1) f (preds e.0) in Near (f ++ g) (q ++ g)
  near_next f e q h =
      let g = news (suc e.1) f (preds e.0) in
      let long = length-append f g in
      let own = h.short e (h.inside e (Memᴰ.head refl)) in
      record {
        short = λ x i. ⊎_elim
            (λ j. omega (arith, long, h.short x j))
            (λ j. omega (arith, long, own, news-at (suc e.1) (preds e.0) f x j, some_in g x j))
            (Memᴰ.append_cases f i);
        inside = λ x i. ⊎_elim (λ j. Memᴰ.append_left g (h.inside x (Memᴰ.tail j))) (λ j. Memᴰ.append_right f j) (Memᴰ.append_cases q i);
      }
    where
      some_in : (g : List Entry) (x : Entry) → x ∈ g → 0 < length g
      some_in [] x i = none_in i
      some_in (y ∷ g) x i = omega arith

  steps-near : (goals : List ℕ) (k : ℕ) (x : Entry) → let f = (steps preds k (news 0 [] goals, 0)).0 in x ∈ f → x.1 < length f
  steps-near goals k =
      let first : Near (news 0 [] goals) (news 0 [] goals) = record { short = λ x i. start (news 0 [] goals) x i (news-at 0 goals [] x i); inside = λ x i. i } in
      (steps-keep preds Near near_next k (news 0 [] goals) 0 first).short
    where
      start : (f : List Entry) (x : Entry) → x ∈ f → x.1 ≡ 0 → x.1 < length f
      start [] x i e = none_in i
      start (y ∷ f) x i e = omega (arith, e)

-- ---- the search from the goals

module _ (N : ℕ) (goals : List ℕ) (preds : ℕ → List ℕ) (succs : ℕ → ℕ → List ℕ) (m : ℕ)
    (expand : ℕ → ℕ → Search → Search) (expand-law : (w t : ℕ) (st : Search) → loop (push w) (preds t) st ≡ expand w t st)
    (Ok : ℕ → Type 0) (low : (s : ℕ) → Ok s → s < N) (goals-ok : (s : ℕ) → s ∈ goals → Ok s) (preds-ok : (s t : ℕ) → Ok t → s ∈ preds t → Ok s)
    (S : List ℕ) (trace : ℕ → ℕ → Reached → Reached) (trace-table : (w t : ℕ) (x : Reached) → (trace w t x).table ≡ expand w t x.table) where
  -- the search begun, and taken up by k
  abbrev pub reached_by : ℕ → Underway
  reached_by k = taken_by S m trace succs k (begun_from S m N goals)

  -- what every step keeps holds at every count
  pub reached-keeps : (P : Underway → Type 0) → P (reached_by 0) → ((v : Underway) → P v → P (taken S m trace succs v)) → (k : ℕ) → P (reached_by k)
  reached-keeps P start next zero = start
  reached-keeps P start next (suc k) = subst P (sym (taken-last S m trace succs k (begun_from S m N goals))) (next (reached_by k) (reached-keeps P start next k))

  -- ---- what is found at a count

  -- phase one by itself
  abbrev phase_one : ℕ → Progress
  phase_one n = advance_by expand n (begun N goals)

  -- the table is that of phase one at the count of expanded states
  record Matched (v : Underway) : Type 0 where
    table : v.found.table ≡ (phase_one v.expanded).table
    count : (phase_one v.expanded).expanded ≡ v.expanded

  settled-matched : (v : Underway) → Matched v → Matched (settled S m v)
  unfolding given_up turned
  settled-matched v h = settled-keeps S m Matched v (λ _. h) (λ _ _. record { table = h.table; count = h.count }) (λ _ _. record { table = h.table; count = h.count })

  expanded-matched : (v : Underway) → Matched v → Matched (expanded_next S m trace succs v)
  expanded-matched v h = go (waiting_in v) refl
    where
      go : (q : List ℕ) → waiting_in v ≡ q → Matched (expanded_next S m trace succs v)
      go [] e = subst Matched (sym (expanded-end S m trace succs v e)) h
      go (t ∷ q) e =
          let p = phase_one v.expanded in
          let waits : waiting p ≡ t ∷ q = (λ i. drop (h.count i) (sym h.table i).queue) ∙ e in
          let next : suc v.expanded ≡ v.expanded + 1 = omega arith in
          let one : phase_one (suc v.expanded) ≡ advance expand p =
          ap phase_one next ∙ (advance-add expand v.expanded 1 (begun N goals) ∙ unfold advance_by in refl) in
          let then = one ∙ advance-next expand p t q waits in
          subst Matched (sym (expanded-one S m trace succs v t q e)) (record {
            table = trace-table (suc (get_or (dist_of v) t 0)) t v.found
                ∙ ((λ i. expand (suc (get_or (h.table i).dist t 0)) t (h.table i)) ∙ sym (ap (λ (x : Progress). x.table) then));
            count = ap (λ (x : Progress). x.expanded) then ∙ ap suc h.count;
          })

  taken-matched : (v : Underway) → Matched v → Matched (taken S m trace succs v)
  unfolding swept_next
  taken-matched v h = go (took S m trace succs v)
    where
      go : Took S m trace succs v → Matched (taken S m trace succs v)
      go (backward z t n) = subst Matched (sym t) (settled-matched (expanded_next S m trace succs v) (expanded-matched v h))
      go (forward o l t n) = subst Matched (sym t) (record { table = h.table; count = h.count })
      go (ended t n) = subst Matched (sym t) h

  matched : (k : ℕ) → Matched (reached_by k)
  unfolding taken_by begun_from advance_by begun
  matched k = reached-keeps Matched (settled-matched (bare N goals) (record { table = refl; count = refl })) taken-matched k

  -- the table is that of phase one at the count of expanded states, and that many are expanded
  pub found-at-count : (k : ℕ) → let u = reached_by k in
      (u.found.table ≡ (advance_by expand u.expanded (begun N goals)).table) × ((advance_by expand u.expanded (begun N goals)).expanded ≡ u.expanded)
  found-at-count k = ((matched k).table, (matched k).count)

  -- so it holds the entries of the plain search at that count
  pub plain-at-count : (k : ℕ) → let u = reached_by k in Holds N Ok (steps preds u.expanded (news 0 [] goals, 0)).0 u.found.table
  plain-at-count k =
      subst (Holds N Ok _) (sym (matched k).table) (at_count preds expand expand-law N Ok low preds-ok goals goals-ok (reached_by k).expanded).table

  pub plain-counted : (k : ℕ) → let u = reached_by k in (steps preds u.expanded (news 0 [] goals, 0)).1 ≡ u.expanded
  plain-counted k = sym (at_count preds expand expand-law N Ok low preds-ok goals goals-ok (reached_by k).expanded).count ∙ (matched k).count

  -- ---- the count

  counting : (k : ℕ) → Counting N S m (reached_by k)
  unfolding taken_by begun_from
  counting k =
      reached-keeps (Counting N S m)
      (settled-counts N S m (bare N goals) refl (record { no-far = refl; no-rest = refl; no-chosen = refl; no_line = refl; no-marks = refl }))
      (taken-counts N S m trace succs)
      k

  -- nothing is taken up when the search is begun
  pub begun-none : taken_up (reached_by 0) ≡ 0
  unfolding taken_by begun_from
  begun-none = settled_up S m (bare N goals) refl

  -- from there on every step takes one up, until the end
  pub takes_count : (k : ℕ) → (taken_up (reached_by k) ≡ k) ⊎ (at_end (reached_by k) ≡ true)
  unfolding taken_by
  takes_count k = ⊎_elim (λ e. inl (omega (arith, e, begun-none))) (λ e. inr e) (takes N S m trace succs k (begun_from S m N goals) (counting 0))

  -- in phase 0 the count is that of the expanded states
  pub count-back : (k : ℕ) → (reached_by k).phase ≡ 0 → (reached_by k).expanded ≡ k
  unfolding taken_up at_end
  count-back k z =
      let u = reached_by k in
      let up : taken_up u ≡ u.expanded = (λ i. u.expanded + cond (eqb (z i) 1) (length (queue_of u) - u.sweep.rest) 0) ∙ omega arith in
      ⊎_elim
      (λ e. omega (arith, e, up))
      (λ e. absurd (false≢true ((λ i. elim (sym z i) [ zero ↦ false | suc p ↦ cond (eqb p 0) (leb u.sweep.rest 1) true ]) ∙ e)))
      (takes_count k)

  more : (k a : ℕ) → reached_by (k + a) ≡ taken_by S m trace succs a (reached_by k)
  more k a = taken-add S m trace succs k a (begun_from S m N goals)

  -- before the end every step takes up one state
  pub takes_one : (k : ℕ) → at_end (reached_by k) ≡ false → taken_up (reached_by (suc k)) ≡ suc (taken_up (reached_by k))
  takes_one k more_left = ap taken_up (taken-last S m trace succs k (begun_from S m N goals)) ∙ taken-one N S m trace succs (reached_by k) (counting k) more_left

  -- an amount is taken up whole, or the search is at its end
  pub takes-amount : (k a : ℕ) → (taken_up (reached_by (k + a)) ≡ taken_up (reached_by k) + a) ⊎ (at_end (reached_by (k + a)) ≡ true)
  takes-amount k a =
      subst (λ u. (taken_up u ≡ taken_up (reached_by k) + a) ⊎ (at_end u ≡ true)) (sym (more k a)) (takes N S m trace succs a (reached_by k) (counting k))

  -- never more, and nothing is taken back
  pub takes-no-more : (k a : ℕ) → (taken_up (reached_by k) ≤ taken_up (reached_by (k + a))) × (taken_up (reached_by (k + a)) ≤ taken_up (reached_by k) + a)
  takes-no-more k a =
      subst
      (λ u. (taken_up (reached_by k) ≤ taken_up u) × (taken_up u ≤ taken_up (reached_by k) + a))
      (sym (more k a))
      (takes-few N S m trace succs a (reached_by k) (counting k))

  -- ---- the tables

  queue-few : (k : ℕ) → length (queue_of (reached_by k)) ≤ N
  queue-few k = holds-room N Ok low _ _ (plain-at-count k)

  expanded-within : (k : ℕ) → (reached_by k).expanded ≤ length (queue_of (reached_by k))
  unfolding begun
  expanded-within k =
      let h = advances-within preds expand expand-law (reached_by k).expanded (begun N goals) (omega arith) in
      omega (arith, h, (matched k).count, ap (λ (st : Search). length st.queue) (matched k).table)

  words-low : (k t : ℕ) → get_or (dist_of (reached_by k)) t 0 ≤ length (queue_of (reached_by k))
  words-low k t = elim (dec_lt t N) [
    | yes l ↦ go (look t f) refl l
    | no l ↦ omega (arith, get_or-eq_default (dist_of (reached_by k)) 0 {n = t} (omega (arith, h.sized)))
  ]
    where
      f : List Entry
      f = (steps preds (reached_by k).expanded (news 0 [] goals, 0)).0

      h : Holds N Ok f (reached_by k).found.table
      h = plain-at-count k

      go : (o : Option ℕ) → look t f ≡ o → t < N → get_or (dist_of (reached_by k)) t 0 ≤ length (queue_of (reached_by k))
      go none e l = omega (arith, h.marks t l ∙ ap mark e)
      go (some d) e l =
          omega (arith, h.marks t l ∙ ap mark e, steps-near preds goals (reached_by k).expanded (t, d) (look-some t f d e), ap length h.order ∙ length-map f state_of)

  far_within : (k : ℕ) → (reached_by k).far ≤ N
  far_within k = elim (dec_lt 0 (reached_by k).far) [
    | yes l ↦ go (reached_by k).phase refl l
    | no l ↦ omega arith
  ]
    where
      go : (p : ℕ) → (reached_by k).phase ≡ p → 0 < (reached_by k).far → (reached_by k).far ≤ N
      go p e l = elim (ℕ_discrete p 1) [
        | yes q ↦ (
            let is = ((counting k).forth (e ∙ q)).1 in
            let (s, i, w) = nearest-of (dist_of (reached_by k)) S (omega (arith, l, is)) in
            omega (arith, is, w, words-low k s, queue-few k))
        | no q ↦ absurd (omega (arith, l, ((counting k).idle (λ o. q (sym e ∙ o))).no-far))
      ]

  -- ---- the end

  -- 2 · N + 2 states are more than there are
  pub moves-end : (k : ℕ) → 2 * N + 2 ≤ k → at_end (reached_by k) ≡ true
  moves-end k many =
      ⊎_elim
      (λ e. absurd (omega (arith, e, many, up-low (reached_by k), expanded-within k, queue-few k)))
      (λ e. e)
      (takes_count k)

  -- all counts at the end are one search
  pub end_same : (j k : ℕ) → at_end (reached_by j) ≡ true → at_end (reached_by k) ≡ true → reached_by j ≡ reached_by k
  end_same j k h h' = elim (dec_lt j k) [ yes l ↦ sym (later j k h (omega arith)) | no l ↦ later k j h' (omega arith) ]
    where
      later : (j k : ℕ) → at_end (reached_by j) ≡ true → j ≤ k → reached_by k ≡ reached_by j
      later j k h le =
          let sum : k ≡ j + (k - j) = omega arith in
          ap reached_by sum ∙ (more j (k - j) ∙ end-stays-by S m trace succs (k - j) (reached_by j) h)

  -- however the amounts are chosen, their sum counts
  pub moves-any : (amounts : List ℕ) → taken_each S m trace succs amounts (begun_from S m N goals) ≡ reached_by (sum_of amounts)
  moves-any amounts = taken-each S m trace succs amounts (begun_from S m N goals)

  -- ---- what every count keeps

  module _ (trace-long : (w t : ℕ) (x : Reached) → Long x → Long (trace w t x)) where
    -- a tag for each state found
    taken-long : (v : Underway) → Long v.found → Long (taken S m trace succs v).found
    unfolding swept_next given_up turned
    taken-long v h = go (took S m trace succs v)
      where
        next : (q : List ℕ) → waiting_in v ≡ q → Long (expanded_next S m trace succs v).found
        next [] e = subst (λ (u : Underway). Long u.found) (sym (expanded-end S m trace succs v e)) h
        next (t ∷ q) e = subst (λ (u : Underway). Long u.found) (sym (expanded-one S m trace succs v t q e)) (trace-long (suc (get_or (dist_of v) t 0)) t v.found h)

        go : Took S m trace succs v → Long (taken S m trace succs v).found
        go (backward z t n) =
            let l = next (waiting_in v) refl in
            subst (λ (u : Underway). Long u.found) (sym t) (settled-keeps S m (λ u. Long u.found) (expanded_next S m trace succs v) (λ _. l) (λ _ _. l) (λ _ _. l))
        go (forward o l t n) = subst (λ (u : Underway). Long u.found) (sym t) h
        go (ended t n) = subst (λ (u : Underway). Long u.found) (sym t) h

    reached-long : (k : ℕ) → Long (reached_by k).found
    unfolding taken_by begun_from given_up turned
    reached-long k =
        let l : Long (bare N goals).found = length-replicate {A = ℕ} (length (begun N goals).table.queue) 0 in
        reached-keeps (λ u. Long u.found) (settled-keeps S m (λ u. Long u.found) (bare N goals) (λ _. l) (λ _ _. l) (λ _ _. l)) taken-long k

    pub standing : (k : ℕ) → Standing N S m (reached_by k)
    standing k =
        let c = counting k in
        let h = plain-at-count k in
        record {
          sized = h.sized;
          room = queue-few k;
          states = λ t i. low t (holds-ok N Ok _ _ h t i);
          words = words-low k;
          within = expanded-within k;
          long = reached-long k;
          phases = c.phases;
          rest-low = c.sweeping.rest-low;
          chosen-low = c.sweeping.chosen-low;
          line_low = c.sweeping.noting.line_low;
          marks-long = c.sweeping.noting.long;
          far-low = far_within k;
          going = c.going;
          idle = c.idle;
          forth = c.forth;
        }
