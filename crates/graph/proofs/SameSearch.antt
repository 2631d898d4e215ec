-- Two searches state by state, by lists of steps that agree on the lines below m and by expansions that do the same: they take up alike (`same_taken`),
-- and say the same at the end (`same_outcome`).
use Rattle.std.specs.Prelude.{◌≡◌, Bool, true, false, ◌&&◌}
use Rattle.std.proofs.Math.Path.{refl, ap}
use Rattle.std.proofs.Common.{◌∙◌, arith, ltb-true}
use Rattle.std.proofs.Math.Bool.{cond}
use mathlib.Core.List.{List, [], ◌∷◌}
use Rattle.std.proofs.Math.Option.{none, some}
use Prim.Native.Nat.{ℕ, zero, suc, ◌+◌, ◌-◌, ◌<◌, ◌≤◌}
use Rattle.std.proofs.Math.Dec.{eqb, ltb, leb}
use Rattle.std.proofs.Math.ListN.{get_or}
use Rattle.graph.specs.Plain.{filt}
use Rattle.graph.specs.Trace.{Reached}
use Rattle.graph.specs.Sweep.{Noted, Sweep, marked, ahead, least, lead, take_up, back, line_into, chain_in}
use Rattle.graph.specs.Underway.{Underway, dist_of, queue_of, waiting_in, settled, expanded_next, swept_next, taken, taken_by, outcome}

module _ (succs₁ succs₂ : ℕ → ℕ → List ℕ) (m : ℕ) where
  -- ---- what is said at the end: the steps are not asked

  chain_same : (D q M : List ℕ) (k : ℕ) → chain_in D succs₁ m q M k ≡ chain_in D succs₂ m q M k
  unfolding chain_in line_into
  chain_same D q M zero = refl
  chain_same D q M (suc k) = ap (line_into D succs₁ m q M (suc k) ∷◌) (chain_same D q M k)

  pub same_outcome : (u : Underway) → outcome succs₁ m u ≡ outcome succs₂ m u
  unfolding outcome
  same_outcome u = λ i. cond (eqb u.phase 1) (some (chain_same (dist_of u) (queue_of u) u.sweep.noted.marks (u.far - 1) i)) none

  -- ---- the sweep: only lines below m are asked

  module _ (e : (s l : ℕ) → l < m → succs₁ s l ≡ succs₂ s l) where
    module _ (D : List ℕ) where
      ahead-same : (w s l : ℕ) → l < m → ahead D succs₁ m w s l ≡ ahead D succs₂ m w s l
      unfolding ahead
      ahead-same w s l low = ap (filt (λ t. eqb (get_or D t 0) w)) (e s l low)

      least-same : (w s n l : ℕ) → l + n ≤ m → least D succs₁ m w s n l ≡ least D succs₂ m w s n l
      unfolding least
      least-same w s zero l few = refl
      least-same w s (suc n) l few =
          let here = ahead-same w s l (omega arith) in
          let later = least-same w s n (suc l) (omega arith) in
          λ i. elim (here i) [ [] ↦ later i | t ∷ ts ↦ l ]

      lead-same : (w s : ℕ) (x : Noted) → lead D succs₁ m w s x ≡ lead D succs₂ m w s x
      unfolding lead
      lead-same w s x = ap (noting succs₁) (least-same w s m 0 (omega arith)) ∙ go (least D succs₂ m w s m 0)
        where
          noting : (ℕ → ℕ → List ℕ) → ℕ → Noted
          noting succs l = cond (ltb l m && leb l x.line) (record { line = l; marks = marked (suc l) (ahead D succs m w s l) x.marks }) x

          below : (l : ℕ) (b : Bool) → ltb l m ≡ b
              → cond (b && leb l x.line) (record { line = l; marks = marked (suc l) (ahead D succs₁ m w s l) x.marks }) x
              ≡ cond (b && leb l x.line) (record { line = l; marks = marked (suc l) (ahead D succs₂ m w s l) x.marks }) x
          below l true low = λ i. cond (leb l x.line) (record { line = l; marks = marked (suc l) (ahead-same w s l (ltb-true l m low) i) x.marks }) x
          below l false low = refl

          go : (l : ℕ) → noting succs₁ l ≡ noting succs₂ l
          go l = below l (ltb l m) refl

      take_same : (w c s : ℕ) (x : Noted) → take_up D succs₁ m w c s x ≡ take_up D succs₂ m w c s x
      unfolding take_up
      take_same w c s x = λ i. cond (eqb (get_or x.marks s 0) (suc c)) (lead-same w s x i) x

      back-same : (q : List ℕ) (y : Sweep) → back D succs₁ m q y ≡ back D succs₂ m q y
      unfolding back
      back-same q y =
          let r = y.rest - 1 in
          let w : ℕ → ℕ = λ j. get_or D (get_or q j 0) 0 in
          let noted = take_same (w r - 1) y.chosen (get_or q r 0) y.noted in
          λ i. cond (eqb (w (r - 1)) (w r))
          (record { rest = r; chosen = y.chosen; noted = noted i })
          (record { rest = r; chosen = (noted i).line; noted = record { line = m; marks = (noted i).marks } })

    -- ---- states taken up

    module _ (S : List ℕ) (trace₁ trace₂ : ℕ → ℕ → Reached → Reached) (alike : (w t : ℕ) (x : Reached) → trace₁ w t x ≡ trace₂ w t x) where
      expanded-same : (u : Underway) → expanded_next S m trace₁ succs₁ u ≡ expanded_next S m trace₂ succs₂ u
      unfolding expanded_next
      expanded-same u = λ i. elim (waiting_in u) [
        | [] ↦ u
        | t ∷ q ↦ record { found = alike (suc (get_or (dist_of u) t 0)) t u.found i; expanded = suc u.expanded; phase = u.phase; far = u.far; sweep = u.sweep }
      ]

      swept_same : (u : Underway) → swept_next S m trace₁ succs₁ u ≡ swept_next S m trace₂ succs₂ u
      unfolding swept_next
      swept_same u = λ i. record { found = u.found; expanded = u.expanded; phase = u.phase; far = u.far; sweep = back-same (dist_of u) (queue_of u) u.sweep i }

      one_same : (u : Underway) → taken S m trace₁ succs₁ u ≡ taken S m trace₂ succs₂ u
      unfolding taken
      one_same u = λ i. elim u.phase [
        | zero ↦ settled S m (expanded-same u i)
        | suc p ↦ cond (eqb p 0 && ltb 1 u.sweep.rest) (swept_same u i) u
      ]

      pub same_taken : (k : ℕ) (u : Underway) → taken_by S m trace₁ succs₁ k u ≡ taken_by S m trace₂ succs₂ k u
      unfolding taken_by
      same_taken zero u = refl
      same_taken (suc k) u = same_taken k (taken S m trace₁ succs₁ u) ∙ ap (taken_by S m trace₂ succs₂ k) (one_same u)
