-- Case by case: what undoing a stack, a line and a position does; and that what the loops go by stays.
use mathlib.Core.Path.{◌≡◌, refl, sym, ap, ◌∙◌}
use mathlib.Core.Bool.{Bool, true, false, cond, ◌&&◌}
use mathlib.Core.List.{List}
use Prim.Native.Nat.{ℕ, ◌+◌, ◌-◌, ◌^◌, ◌≤◌}
use native.Mathlib.Omega.{arith}
use lib.Dec.{eqb}
use lib.ListN.{get_or, drop}
use borrow.Author.Tests.{eq-eqb, ne_eqb}
use Rattle.positions.specs.Program.{bit_of, follow_at, leaves_at}
use Rattle.request.specs.declared.Plan.{Plan}
use Rattle.graph.specs.Loops.{turns}
use Rattle.graph.specs.Table.{Search, push}
use Rattle.graph.proofs.Table.{push-met}
use Rattle.area.specs.Area.{Under}
use Rattle.sorted.specs.Runs.{sorted-same}
use Rattle.sorted.specs.declared.Order.{Order}
use Rattle.thinned.specs.Runs.{stamps-are, thin-same}
use Rattle.thinned.specs.Thinning.{thin_at, Thinned}
use Rattle.thinned.proofs.Sieves.{at-past}
use Rattle.states.specs.declared.Sieve.{Sieve}
use Rattle.ways.specs.Filed.{Said}
use Rattle.ways.proofs.Lanes.{under-word}
use Rattle.search.specs.Loaded.{boat_at}
use Rattle.ways.specs.Ways.{lane_turn, run_turn, Told, Runs}
use Rattle.ways.specs.declared.Lane.{Lane}
use Rattle.ways.proofs.Right.{turns-alike}
use Rattle.expanding.specs.Backing.{Backing}
use Rattle.states.specs.Spots.{front, Fit, spot_in, off, on, okay, stack_at, line_turn, spot_turn}
use Rattle.states.specs.declared.Spot.{Spot}
use Rattle.states.specs.declared.Target.{Target}
use Rattle.area.proofs.Changes.{under-front, under_back}
use Rattle.states.proofs.Bounds.{fit_same}

-- ---- a stack undone, to u

module _ (B : ℕ → ℕ) (R : ℕ) (s : Spot) (d home x v : ℕ) (st : Search) (u : ℕ) (eu : u ≡ off s v) where
  pub stack-taken : on s u x ≡ v → okay B R s x u ≡ true → stack_at B R s d home x v st ≡ push d (home + u) st
  unfolding stack_at
  stack-taken h k = rw (← eu, eq-eqb _ _ h, k)

  pub stack-refused : on s u x ≡ v → okay B R s x u ≡ false → stack_at B R s d home x v st ≡ st
  unfolding stack_at
  stack-refused h k = rw (← eu, eq-eqb _ _ h, k)

  pub stack-other : (on s u x ≡ v → ⊥) → stack_at B R s d home x v st ≡ st
  unfolding stack_at
  stack-other h = rw (← eu, ne_eqb _ _ h)

  -- a state that has been met is not pushed, whether the boat passes or not
  pub stack-met : (get_or st.dist (home + u) 0 ≡ 0 → ⊥) → stack_at B R s d home x v st ≡ st
  unfolding stack_at
  stack-met met = go (eqb (on s (off s v) x) v && okay B R s x (off s v))
    where
      go : (b : Bool) → cond b (push d (home + off s v) st) st ≡ st
      go true = ap (λ n. push d (home + n) st) (sym eu) ∙ push-met d (home + u) st met
      go false = refl

-- ---- a position

module _ (a : List ℕ) (plan : Plan) (g : List ℕ) (t : Target) (d c : ℕ) (st : Search) where
  pub spot_passed : (bit_of (follow_at a c) t.position ≡ 1 → ⊥) → spot_turn a plan g t d c st ≡ st
  unfolding spot_turn
  spot_passed h = rw (ne_eqb _ _ h)

  pub spot-taken : bit_of (follow_at a c) t.position ≡ 1
      → (sp : Spot) (count : ℕ) → sp ≡ spot_in a plan.radix c → count ≡ plan.radix ^ (leaves_at a c - t.depth)
      → spot_turn a plan g t d c st ≡ turns (line_turn plan g sp t d c count) 0 plan.lines st
  unfolding spot_turn
  spot-taken h sp count es ec = rw (eq-eqb _ _ h, es, ec)

-- ---- what the loops go by

-- what a way is chosen by
pub told_fit : {plan : Plan} {a : List ℕ} {w : List ℕ} → Fit plan a w → Told plan (front plan w)
told_fit f = record { codes-low = f.codes-low; starts = f.starts; ends = f.ends }

-- a run that is right does what all lines do
pub run-lines : {o : Order} {plan : Plan} {g : List ℕ} {s : Spot} {t : Target} {c count k : ℕ} {lane : Lane} → Runs o plan g s t c count k lane → (d : ℕ) (st : Search)
    → turns (line_turn plan g s t d c count) 0 plan.lines st ≡ turns (run_turn o plan g k (lane_turn (boat_at plan g) d lane)) 0 plan.lines st
run-lines {o} {plan} {g} {s} {t} {c} {count} {k} {lane} r d st =
    turns-alike (line_turn plan g s t d c count) (run_turn o plan g k (lane_turn (boat_at plan g) d lane)) 0 plan.lines plan.lines (omega arith) (λ i less b. r.same d i less b) st

-- in a loop of phase one both the loaded tables and the sorted lines stay
pub backing-under : {plan : Plan} {a : List ℕ} {F : Search → Search} {t₀ : ℕ} {w₀ : List ℕ} {G : Search → Search} {t : ℕ} {w : List ℕ}
    → Under plan.base plan.size F t₀ w₀ G t w → Backing plan a w₀ → Backing plan a w
backing-under {plan} {w₀ = w₀} {w = w} u b =
    let l = b.fit.laid in
    let f = under-front u plan.base (omega arith) in
    let behind : (at : ℕ) → plan.bykind ≤ at → drop at w ≡ drop at w₀ = λ at le. under_back u at (omega (arith, u.ready.fits, l.kinds-at)) in
    record {
      fit = fit_same u.long f b.fit;
      tables = λ e.
          let t = b.tables e in
          let o = t.basic in
          let under : plan.bykind ≤ plan.thin = omega (arith, l.boats-at, l.thin_at) in
          -- the thin table of a sieve, and its first word
          let thin : (sieve : Sieve) → Thinned sieve plan plan.bykind (thin_at sieve plan) w₀ → Thinned sieve plan plan.bykind (thin_at sieve plan) w =
          λ sieve made. thin-same sieve plan plan.bykind (thin_at sieve plan) w₀ w o.kinds made (behind plan.bykind (omega arith)) f (omega (arith, under, at-past plan (stamps-are l) sieve)) in
          let said : (sieve : Sieve) → Said sieve plan w → Said sieve plan w₀ =
          λ sieve h. record { room = omega (arith, h.room, u.long); some = λ z. h.some (under-word u (thin_at sieve plan) (omega (arith, u.ready.fits, l.kinds-at, under, at-past plan (stamps-are l) sieve)) ∙ z) } in
          record {
            basic =
                record {
                  room = omega (arith, o.room, u.long);
                  kinds = sorted-same Order.Kind plan plan.bykind w₀ w o.kinds f (behind plan.bykind (omega arith));
                  boats = λ kept. sorted-same Order.Boat plan plan.byboat w₀ w (o.boats kept) f (behind plan.byboat (omega (arith, l.boats-at)));
                  thin = thin Sieve.Boats o.thin;
                };
            classes = λ h. thin Sieve.Classes (t.classes (said Sieve.Classes h));
            sisters = λ h. thin Sieve.Sisters (t.sisters (said Sieve.Sisters h));
          };
    }
