-- A search that is moved on (`Held`, `Turned`): nothing done (`held_none`, `turned_none`), one after another (`held_then`, `turned_then`), one turn
-- (`turned-one`). What it goes by stays (`held-fit`, `held-indexed`, `held-ordered`), and so does what taking up states is (`taken-by-same`).
-- Lines put in order after the four stretches change nothing of it (`end-held`, `start-held`), and one turn of the sweep is one state taken up
-- (`swept-held`).
use mathlib.Core.Path.{◌≡◌, refl, sym, ap, ◌∙◌, subst}
use mathlib.Core.Bool.{true, false, cond, false≢true}
use mathlib.Core.List.{List, []}
use Prim.Native.Nat.{ℕ, zero, suc, ◌+◌, ◌*◌, ◌-◌, ◌≤◌, ◌<◌}
use native.Mathlib.Decide.{dec_lt}
use native.Mathlib.Omega.{arith}
use lib.Dec.{eqb, leb}
use lib.ListN.{length, take, drop}
use lib.Seq.{take-take}
use borrow.Author.Tests.{lt-leb, le-leb}
use Rattle.graph.specs.Trace.{Reached}
use Rattle.graph.specs.Underway.{Underway, swept_next, taken, taken_by, at_end}
use Rattle.graph.proofs.Taking.{Took, backward, forward, ended, took, taken-add}
use Rattle.request.specs.Layout.{Laid}
use Rattle.request.specs.declared.Plan.{Plan}
use Rattle.search.specs.Loaded.{setting_at, setting_in}
use Rattle.search.specs.Product.{succs}
use Rattle.search.specs.Traced.{trace}
use Rattle.area.specs.Area.{stretch, found}
use Rattle.states.specs.Pairs.{RoomBack}
use Rattle.states.specs.Spots.{Fit}
use Rattle.states.proofs.Bounds.{fit_same}
use Rattle.sorted.specs.Passes.{Ground}
use Rattle.sorted.specs.Sorting.{keys, key_in, pack_in, sorted_end, Sorted, Keyed, Kept}
use Rattle.sorted.specs.Runs.{sorted-same}
use Rattle.sorted.specs.declared.Order.{Order}
use Rattle.sorted.proofs.Turns.{kept-take}
use Rattle.forward.specs.Firsts.{first_states}
use Rattle.holding.specs.declared.SearchState.{SearchState}
use Rattle.tracing.specs.Tracing.{reached_in, Indexed}
use Rattle.tracing.proofs.Traces.{before_same, stretch-end, back-later}
use Rattle.sweeping.specs.Sweeping.{index_at, marks_at, marks_in, Ordered, SweptTo}
use Rattle.sweeping.specs.declared.Sweeping.{Sweeping}
use Rattle.stepping.specs.Stepping.{underway_in, firsts, index_end, taken_in, taken_by_in, Standing, Searched, Held, StepHeld, Turned}
use Rattle.stepping.specs.declared.Going.{Going}

-- ---- words that are not used yet

-- where more are used, fewer are left
gap-later : (b n t u : ℕ) (w v : List ℕ) → t ≤ u → u ≤ n → b + n ≤ length w → length w ≡ length v
    → stretch (b + t) (n - t) w ≡ stretch (b + t) (n - t) v
    → stretch (b + u) (n - u) w ≡ stretch (b + u) (n - u) v
gap-later b n t u w v h low room long e =
    let start : b + t + (u - t) ≡ b + u = omega arith in
    let left : n - t - (u - t) ≡ n - u = omega arith in
    let later : (l : List ℕ) → b + n ≤ length l → stretch (b + u) (n - u) l ≡ drop (u - t) (stretch (b + t) (n - t) l) =
    λ l fits. (λ i. stretch (sym start i) (sym left i) l) ∙ stretch-end (b + t) (n - t) (u - t) l (omega arith) (omega arith) in
    later w room ∙ (ap (drop (u - t)) e ∙ sym (later v (omega (arith, room, long))))

-- ---- held

-- nothing is done: as is to be, or as is to be where a search stands there
pub held-idle : (F : Underway → Underway) (end : ℕ) {s : SearchState} {w : List ℕ} → Standing s w → (Searched s w → F (underway_in s w) ≡ underway_in s w) → Held F end s w s w
held-idle F end h e =
    record { now-held = λ g. sym (e g); searched = λ g. g; plan-same = refl; from-same = refl; front = refl; queue-gap = refl; how-gap = refl; after = refl; long = refl; grows = omega arith; standing = h }

pub held_none : (F : Underway → Underway) (end : ℕ) {s : SearchState} {w : List ℕ} → Standing s w → F (underway_in s w) ≡ underway_in s w → Held F end s w s w
held_none F end h e = held-idle F end h (λ _. e)

module _ {F : Underway → Underway} {end : ℕ} {s : SearchState} {w : List ℕ} {r : SearchState} {v : List ℕ} (a : Held F end s w r v) where
  -- what is done, said in another way, and fewer words that stay
  pub held-as : (H : Underway → Underway) (later : ℕ) → end ≤ later → H (underway_in s w) ≡ F (underway_in s w) → Held H later s w r v
  held-as H later h e = record {
    now-held = λ g. a.now-held g ∙ sym e;
    searched = a.searched;
    plan-same = a.plan-same;
    from-same = a.from-same;
    front = a.front;
    queue-gap = a.queue-gap;
    how-gap = a.how-gap;
    after = back-later end later v w h a.after;
    long = a.long;
    grows = a.grows;
    standing = a.standing;
  }

  -- one after another
  module _ {G : Underway → Underway} {end' : ℕ} {q : SearchState} {u : List ℕ} (b : Held G end' r v q u) where
    base_same : r.plan.base ≡ s.plan.base
    base_same = ap (λ (p : Plan). p.base) a.plan-same

    size_same : r.plan.size ≡ s.plan.size
    size_same = ap (λ (p : Plan). p.size) a.plan-same

    low : q.at.found ≤ s.plan.size
    low = omega (arith, b.standing.fits.found-low, ap (λ (p : Plan). p.size) b.plan-same, size_same)

    pub held_then : (H : Underway → Underway) (later : ℕ) → end ≤ later → end' ≤ later → H (underway_in s w) ≡ G (F (underway_in s w)) → Held H later s w q u
    held_then H later h k e =
        let p = s.plan in
        let room = a.standing.laid.room in
        record {
          now-held = λ g. b.now-held (a.searched g) ∙ (ap G (a.now-held g) ∙ sym e);
          searched = λ g. b.searched (a.searched g);
          plan-same = b.plan-same ∙ a.plan-same;
          from-same = b.from-same ∙ a.from-same;
          front = subst (λ (x : Plan). take x.base u ≡ take x.base v) a.plan-same b.front ∙ a.front;
          queue-gap =
              subst (λ (x : Plan). stretch (x.base + x.size + q.at.found) (x.size - q.at.found) u ≡ stretch (x.base + x.size + q.at.found) (x.size - q.at.found) v) a.plan-same b.queue-gap
              ∙ gap-later (p.base + p.size) p.size r.at.found q.at.found v w b.grows low (omega (arith, room, base_same, size_same)) a.long a.queue-gap;
          how-gap =
              subst (λ (x : Plan). stretch (x.base + 2 * x.size + q.at.found) (x.size - q.at.found) u ≡ stretch (x.base + 2 * x.size + q.at.found) (x.size - q.at.found) v) a.plan-same b.how-gap
              ∙ gap-later (p.base + 2 * p.size) p.size r.at.found q.at.found v w b.grows low (omega (arith, room, base_same, size_same)) a.long a.how-gap;
          after = back-later end' later u v k b.after ∙ back-later end later v w h a.after;
          long = b.long ∙ a.long;
          grows = omega (arith, a.grows, b.grows);
          standing = b.standing;
        }

  -- ---- what it goes by stays

  pub held-fit : {program : List ℕ} → Fit s.plan program w → Fit r.plan program v
  held-fit {program} f = subst (λ (p : Plan). Fit p program v) (sym a.plan-same) (fit_same a.long a.front f)

  -- what is done by a state taken up, and by so many
  pub taken-by-same : (program : List ℕ) (begin : ℕ) → taken_by_in r program begin v ≡ taken_by_in s program begin w
  taken-by-same program begin =
      (λ i. let p = a.plan-same i in let S = setting_at program p v in taken_by (first_states p begin (a.from-same i)) p.lines (trace S) (succs S))
      ∙ (λ i. let p = s.plan in let S = setting_in program p (a.front i) in taken_by (first_states p begin s.from) p.lines (trace S) (succs S))

-- the lines in order of a place, where no word after the four stretches changes
module _ {F : Underway → Underway} {s : SearchState} {w : List ℕ} {r : SearchState} {v : List ℕ} (a : StepHeld F s w r v) where
  pub held-indexed : Indexed s.plan w → Indexed r.plan v
  held-indexed h =
      subst (λ (p : Plan). Indexed p v) (sym a.plan-same)
      (record { sorted = sorted-same Order.End s.plan (index_at s.plan) w v h.sorted a.front a.after; room = omega (arith, h.room, a.long) })

  pub held-ordered : Ordered s.plan w → Ordered r.plan v
  held-ordered h =
      subst (λ (p : Plan). Ordered p v) (sym a.plan-same)
      (record { sorted = sorted-same Order.Start s.plan (index_at s.plan) w v h.sorted a.front a.after; room = omega (arith, h.room, a.long) })

-- ---- turns

-- no turn, by which the words may change
pub turned_none : {Done : Underway → Type 0} {end : ℕ} {s : SearchState} {program : List ℕ} {begin amount : ℕ} {w v : List ℕ}
    → Held (λ u. u) end s w s v → (0 < amount → Done (underway_in s v))
    → Turned Done end s program begin amount w (record { state = s; left = amount }) v
unfolding taken_by
turned_none {s = s} {program = program} {begin = begin} {amount = amount} {w = w} a d =
    let none : amount - amount ≡ 0 = omega arith in
    record {
      few = omega arith;
      held = held-as a (taken_by_in s program begin w (amount - amount)) _ (omega arith) (ap (λ n. taken_by_in s program begin w n (underway_in s w)) none);
      done = d;
      going = λ _ j h. absurd (omega (arith, h));
    }

-- what is left, said in another way
pub turned-left : {Done : Underway → Type 0} {end : ℕ} {s : SearchState} {program : List ℕ} {begin amount : ℕ} {w : List ℕ} {r : SearchState} {m n : ℕ} {v : List ℕ}
    → m ≡ n → Turned Done end s program begin amount w (record { state = r; left = m }) v → Turned Done end s program begin amount w (record { state = r; left = n }) v
turned-left {Done} {end} {s} {program} {begin} {amount} {w} {r} {v = v} e t = subst (λ k. Turned Done end s program begin amount w (record { state = r; left = k }) v) e t

-- and what holds where some is left
pub turned-as : {First Done : Underway → Type 0} {end : ℕ} {s : SearchState} {program : List ℕ} {begin amount : ℕ} {w : List ℕ} {h : Going} {v : List ℕ}
    → Turned First end s program begin amount w h v → (0 < h.left → Done (underway_in h.state v)) → Turned Done end s program begin amount w h v
turned-as t d = record { few = t.few; held = t.held; done = d; going = t.going }

-- one turn
pub turned-one : {end : ℕ} {s : SearchState} {program : List ℕ} {begin amount : ℕ} {w : List ℕ} {r : SearchState} {v : List ℕ}
    → 0 < amount → at_end (underway_in s w) ≡ false → Held (taken_in s program begin w) end s w r v
    → Turned (λ _. Unit {0}) end s program begin amount w (record { state = r; left = amount - 1 }) v
unfolding taken_by
turned-one {s = s} {program = program} {begin = begin} {amount = amount} {w = w} some on a =
    let one : amount - (amount - 1) ≡ 1 = omega arith in
    let first : (j : ℕ) → j < amount - (amount - 1) → j ≡ 0 = λ j h. omega (arith, h) in
    record {
      few = omega arith;
      held = held-as a (taken_by_in s program begin w (amount - (amount - 1))) _ (omega arith) (ap (λ n. taken_by_in s program begin w n (underway_in s w)) one);
      done = λ _. tt;
      going = λ _ j h. ap (λ n. at_end (taken_by_in s program begin w n (underway_in s w))) (first j h) ∙ on;
    }

module _ {First Second : Underway → Type 0} {end end' : ℕ} {s : SearchState} {program : List ℕ} {begin amount : ℕ} {w : List ℕ} {mid : Going} {v : List ℕ} {h : Going} {u : List ℕ}
    (a : Turned First end s program begin amount w mid v) (b : Turned Second end' mid.state program begin mid.left v h u) where
  abbrev start : Underway
  start = underway_in s w

  abbrev by : ℕ → Underway → Underway
  by = taken_by_in s program begin w

  -- so many more after the turns of the first
  more : (k : ℕ) → by (amount - mid.left + k) start ≡ taken_by_in mid.state program begin v k (by (amount - mid.left) start)
  more k =
      let S = setting_at program s.plan w in
      taken-add (first_states s.plan begin s.from) s.plan.lines (trace S) (succs S) (amount - mid.left) k start
      ∙ ap (λ (f : ℕ → Underway → Underway). f k (by (amount - mid.left) start)) (sym (taken-by-same a.held program begin))

  -- one after another
  pub turned_then : {Done : Underway → Type 0} (later : ℕ) → end ≤ later → end' ≤ later → (0 < h.left → Done (underway_in h.state u)) → Turned Done later s program begin amount w h u
  turned_then later l l' d =
      let sum : amount - h.left ≡ amount - mid.left + (mid.left - h.left) = omega (arith, a.few, b.few) in
      record {
        few = omega (arith, a.few, b.few);
        held = held_then a.held b.held (by (amount - h.left)) later l l' (ap (λ n. by n start) sum ∙ more (mid.left - h.left));
        done = d;
        going = λ g j low. elim (dec_lt j (amount - mid.left)) [
          | yes e ↦ a.going g j e
          | no n ↦
              let k = j - (amount - mid.left) in
              let split : j ≡ amount - mid.left + k = omega arith in
              ap (λ m. at_end (by m start)) split
              ∙ (ap at_end (more k ∙ ap (taken_by_in mid.state program begin v k) (sym (a.held.now-held g))) ∙ b.going (a.held.searched g) k (omega (arith, low, n, a.few, b.few)))
        ];
      }

-- ---- the phases

-- phase one has not ended
pub back-goes : (u : Underway) → u.phase ≡ 0 → at_end u ≡ false
unfolding at_end
back-goes u e = λ i. elim (e i) [ zero ↦ false | suc p ↦ cond (eqb p 0) (leb u.sweep.rest 1) true ]

-- phase two has ended where one state is left
forth-end : (u : Underway) → u.phase ≡ 1 → at_end u ≡ leb u.sweep.rest 1
unfolding at_end
forth-end u e = λ i. elim (e i) [ zero ↦ false | suc p ↦ cond (eqb p 0) (leb u.sweep.rest 1) true ]

pub forth-goes : (u : Underway) → u.phase ≡ 1 → 1 < u.sweep.rest → at_end u ≡ false
forth-goes u e l = forth-end u e ∙ lt-leb u.sweep.rest 1 l

pub forth-over : (u : Underway) → u.phase ≡ 1 → u.sweep.rest ≤ 1 → at_end u ≡ true
forth-over u e l = forth-end u e ∙ le-leb u.sweep.rest 1 l

-- and every other phase is an end
pub other-over : (u : Underway) → (u.phase ≡ 0 → ⊥) → (u.phase ≡ 1 → ⊥) → at_end u ≡ true
other-over u n m = go (took [] 0 (λ _ _ x. x) (λ _ _. []) u)
  where
    go : Took [] 0 (λ _ _ x. x) (λ _ _. []) u → at_end u ≡ true
    go (backward e t o) = absurd (n e)
    go (forward e l t o) = absurd (m e)
    go (ended t o) = o

module _ (S : List ℕ) (m : ℕ) (trace : ℕ → ℕ → Reached → Reached) (succs : ℕ → ℕ → List ℕ) where
  -- a state taken up in phase two, more than one being left
  pub taken-forth : (u : Underway) → u.phase ≡ 1 → 1 < u.sweep.rest → taken S m trace succs u ≡ swept_next S m trace succs u
  taken-forth u one l = go (took S m trace succs u)
    where
      go : Took S m trace succs u → taken S m trace succs u ≡ swept_next S m trace succs u
      go (backward e t o) = absurd (omega (arith, e, one))
      go (forward e k t o) = t
      go (ended t o) = absurd (false≢true (sym (forth-goes u one l) ∙ o))

-- ---- words after the tags change

module _ {s : SearchState} {w : List ℕ} (h : Standing s w) (v : List ℕ) (same : take (marks_at s.plan) v ≡ take (marks_at s.plan) w) (long : length v ≡ length w) where
  early : (b n : ℕ) → b + n ≤ marks_at s.plan → stretch b n v ≡ stretch b n w
  early b n l = before_same (marks_at s.plan) b n w v l h.laid.room (omega (arith, h.laid.room, long)) same

  front_same : take s.plan.base v ≡ take s.plan.base w
  front_same =
      let p = s.plan in
      sym (take-take p.base (marks_at p) v (omega arith)) ∙ (ap (take p.base) same ∙ take-take p.base (marks_at p) w (omega arith))

  found-same : found s.plan.base s.plan.size s.at.found v ≡ found s.plan.base s.plan.size s.at.found w
  unfolding found
  found-same =
      let p = s.plan in
      let low = h.fits.found-low in
      λ i. record { dist = early p.base p.size (omega arith) i; queue = early (p.base + p.size) s.at.found (omega (arith, low)) i }

  reached-same : reached_in s.plan s.at.found v ≡ reached_in s.plan s.at.found w
  unfolding reached_in
  reached-same = λ i. record { table = found-same i; how = early (s.plan.base + 2 * s.plan.size) s.at.found (omega (arith, h.fits.found-low)) i }

  ready-same : RoomBack s.plan s.at.found v
  ready-same = record { room = omega (arith, h.ready.room, long); small = h.ready.small; fits = h.ready.fits }

  searched-same : Searched s w → Searched s v
  searched-same g = rw found-same g

  -- the gaps of the queue and of the tags
  queue-same : stretch (s.plan.base + s.plan.size + s.at.found) (s.plan.size - s.at.found) v ≡ stretch (s.plan.base + s.plan.size + s.at.found) (s.plan.size - s.at.found) w
  queue-same = early _ _ (omega (arith, h.fits.found-low))

  how-same : stretch (s.plan.base + 2 * s.plan.size + s.at.found) (s.plan.size - s.at.found) v ≡ stretch (s.plan.base + 2 * s.plan.size + s.at.found) (s.plan.size - s.at.found) w
  how-same = early _ _ (omega (arith, h.fits.found-low))

-- ---- the lines put in order after the four stretches

-- in an order by one place
module _ (o : Order) (plan : Plan) (is : keys o plan ≡ plan.places) where
  end_is : sorted_end o plan (index_at plan) ≡ index_end plan
  end_is = omega (arith, is)

  kept-index : {w v : List ℕ} → Kept (index_at plan) (sorted_end o plan (index_at plan)) w v → Kept (index_at plan) (index_end plan) w v
  kept-index {w} {v} k = subst (λ n. Kept (index_at plan) n w v) end_is k

  ground-index : (w : List ℕ) → Laid plan (length w) → index_end plan ≤ length w → Keyed o plan w → Ground o plan (index_at plan) w
  ground-index w l room keyed = record {
    laid = l;
    keyed = keyed;
    past = omega arith;
    room = omega (arith, end_is, room);
    small = omega (arith, end_is, l.few_words, l.small, l.few-places, l.few-lines);
  }

kept-held : {s : SearchState} {w v : List ℕ} → Standing s w → Kept (index_at s.plan) (index_end s.plan) w v → Held (λ u. u) (index_end s.plan) s w s v
unfolding underway_in
kept-held {s = s} {w = w} {v = v} h k =
    let p = s.plan in
    let same = kept-take k (marks_at p) (omega arith) in
    let marks : marks_in p v ≡ marks_in p w = before_same (index_at p) (marks_at p) p.size w v (omega arith) (omega (arith, h.room)) (omega (arith, h.room, k.long)) k.before in
    record {
      now-held = λ _ i. record {
        found = reached-same h v same k.long i;
        expanded = s.at.expanded;
        phase = s.at.phase;
        far = s.at.far;
        sweep = record { rest = s.at.rest; chosen = s.at.chosen; noted = record { line = s.at.noted; marks = marks i } };
      };
      searched = searched-same h v same k.long;
      plan-same = refl;
      from-same = refl;
      front = front_same h v same k.long;
      queue-gap = queue-same h v same k.long;
      how-gap = how-same h v same k.long;
      after = k.after;
      long = k.long;
      grows = omega arith;
      standing = record { laid = subst (Laid p) (sym k.long) h.laid; from_low = h.from_low; room = omega (arith, h.room, k.long); order = h.order; fits = h.fits; ready = ready-same h v same k.long };
    }

module _ {s : SearchState} {w : List ℕ} (h : Standing s w) where
  -- by the place that they lead to
  pub end-ground : {program : List ℕ} → Fit s.plan program w → Ground Order.End s.plan (index_at s.plan) w
  unfolding keys key_in pack_in
  end-ground f = ground-index Order.End s.plan refl w h.laid h.room (λ i l. (f.ends i l, omega (arith, l, h.laid.few-lines)))

  pub end-held : {v : List ℕ} → Kept (index_at s.plan) (sorted_end Order.End s.plan (index_at s.plan)) w v → Held (λ u. u) (index_end s.plan) s w s v
  unfolding keys
  end-held k = kept-held h (kept-index Order.End s.plan refl k)

  pub end-indexed : Sorted Order.End s.plan (index_at s.plan) w → Indexed s.plan w
  unfolding keys
  end-indexed o = record { sorted = o; room = omega (arith, h.room, end_is Order.End s.plan refl) }

  -- by the place that they come from
  pub start-ground : {program : List ℕ} → Fit s.plan program w → Ground Order.Start s.plan (index_at s.plan) w
  unfolding keys key_in pack_in
  start-ground f = ground-index Order.Start s.plan refl w h.laid h.room (λ i l. (f.starts i l, omega (arith, l, h.laid.few-lines)))

  pub start-held : {v : List ℕ} → Kept (index_at s.plan) (sorted_end Order.Start s.plan (index_at s.plan)) w v → Held (λ u. u) (index_end s.plan) s w s v
  unfolding keys
  start-held k = kept-held h (kept-index Order.Start s.plan refl k)

  pub start-ordered : Sorted Order.Start s.plan (index_at s.plan) w → Ordered s.plan w
  unfolding keys
  start-ordered o = record { sorted = o; room = omega (arith, h.room, end_is Order.Start s.plan refl) }

-- ---- one turn of the sweep

-- the search with other numbers of the sweep
abbrev pub swept_to : SearchState → Sweeping → SearchState
swept_to s y = record {
  plan = s.plan;
  from = s.from;
  at = record { phase = s.at.phase; expanded = s.at.expanded; found = s.at.found; far = s.at.far; rest = y.rest; chosen = y.chosen; noted = y.noted };
}

pub swept-held : {s : SearchState} (program : List ℕ) (begin : ℕ) {w : List ℕ} {y : Sweeping} {v : List ℕ}
    → Standing s w → s.at.phase ≡ 1 → 1 < s.at.rest
    → SweptTo s.plan (setting_at program s.plan w) s.at.found (record { rest = s.at.rest; chosen = s.at.chosen; noted = s.at.noted }) w y v
    → StepHeld (taken_in s program begin w) s w (swept_to s y) v
unfolding underway_in swept_next reached_in found
swept-held {s = s} program begin {w = w} {y = y} {v = v} h one some z =
    let p = s.plan in
    let o = z.only in
    let same = o.before in
    let S = setting_at program p w in
    record {
      now-held = λ g. (λ i. record { found = reached-same h v same o.long i; expanded = s.at.expanded; phase = s.at.phase; far = s.at.far; sweep = z.now-swept g i }) ∙ sym (taken-forth (firsts s begin) p.lines (trace S) (succs S) (underway_in s w) one some);
      searched = searched-same h v same o.long;
      plan-same = refl;
      from-same = refl;
      front = front_same h v same o.long;
      queue-gap = queue-same h v same o.long;
      how-gap = how-same h v same o.long;
      after = o.after;
      long = o.long;
      grows = omega arith;
      standing = record {
        laid = subst (Laid p) (sym o.long) h.laid;
        from_low = h.from_low;
        room = omega (arith, h.room, o.long);
        order = record { expanded-low = h.order.expanded-low; rest-low = omega (arith, h.order.rest-low, z.rest-is); phases = h.order.phases };
        fits = record { found-low = h.fits.found-low; chosen-low = z.chosen-low; noted-low = z.noted-low };
        ready = ready-same h v same o.long;
      };
    }
