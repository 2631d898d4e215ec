-- Only marks are other words: everything that the sweep goes by stays (`only-fit`, `only-dist`, `only-queue`, `only-ordered`), and where the marks
-- are the same so is every word (`only-whole`). One mark written (`mark-one`), and a loop that writes marks, by what is left of it (`Amid`).
use mathlib.Core.Path.{◌≡◌, refl, sym, ap, ◌∙◌, subst}
use mathlib.Core.Bool.{Bool, true}
use mathlib.Core.List.{List, ◌++◌}
use Prim.Native.Nat.{ℕ, ◌+◌, ◌-◌, ◌≤◌, ◌<◌}
use native.Mathlib.Nat.{sub-zero}
use native.Mathlib.Omega.{arith}
use lib.ListN.{length, get_or, set, take, drop, length-set, take-append-drop}
use lib.Seq.{take-set-le, drop-set-lt, drop-drop, take-take}
use borrow.Author.Tests.{eq-eqb, ne_eqb}
use Rattle.request.specs.Layout.{Laid}
use Rattle.request.specs.declared.Plan.{Plan}
use Rattle.graph.specs.Loops.{turns}
use Rattle.area.specs.Area.{stretch}
use Rattle.area.proofs.Stretches.{stretch-get, stretch-set, stretch-take}
use Rattle.area.proofs.Changes.{turns-none, turns_next}
use Rattle.states.specs.Pairs.{distances}
use Rattle.states.specs.Spots.{front, Fit}
use Rattle.states.proofs.Bounds.{fit_same}
use Rattle.sorted.specs.Runs.{sorted-same}
use Rattle.sorted.specs.declared.Order.TheVariants as Order
use Rattle.sweeping.specs.Sweeping.{marks_at, index_at, marks_in, Ordered, OnlyMarks, Led, led_in, mark_turn, Marked}

-- ---- only marks are other words

pub only_none : {plan : Plan} {w : List ℕ} → OnlyMarks plan w w
only_none = record { before = refl; after = refl; long = refl }

pub only_then : {plan : Plan} {w v u : List ℕ} → OnlyMarks plan w v → OnlyMarks plan v u → OnlyMarks plan w u
only_then o p = record { before = p.before ∙ o.before; after = p.after ∙ o.after; long = p.long ∙ o.long }

-- the words before the marks, the marks and the words after them are all
whole : (plan : Plan) (x : List ℕ) → x ≡ take (marks_at plan) x ++ (marks_in plan x ++ drop (index_at plan) x)
unfolding stretch
whole plan x =
    let sum : marks_at plan + plan.size ≡ index_at plan = omega arith in
    let rest : drop plan.size (drop (marks_at plan) x) ≡ drop (index_at plan) x = drop-drop plan.size (marks_at plan) x ∙ ap (λ n. drop n x) sum in
    sym (rw (← rest, take-append-drop plan.size (drop (marks_at plan) x), take-append-drop (marks_at plan) x))

module _ {plan : Plan} {w v : List ℕ} (o : OnlyMarks plan w v) where
  pub only-front : front plan v ≡ front plan w
  only-front =
      sym (take-take plan.base (marks_at plan) v (omega arith)) ∙ (ap (take plan.base) o.before ∙ take-take plan.base (marks_at plan) w (omega arith))

  pub only-stretch : Laid plan (length w) → (b n : ℕ) → b + n ≤ marks_at plan → stretch b n v ≡ stretch b n w
  only-stretch l b n h =
      sym (stretch-take (marks_at plan) b n v h (omega (arith, l.room, o.long)))
      ∙ (ap (stretch b n) o.before ∙ stretch-take (marks_at plan) b n w h l.room)

  pub only-dist : Laid plan (length w) → distances plan v ≡ distances plan w
  only-dist l = only-stretch l plan.base plan.size (omega arith)

  pub only-fit : {a : List ℕ} → Fit plan a w → Fit plan a v
  only-fit f = fit_same o.long only-front f

  pub only-laid : Laid plan (length w) → Laid plan (length v)
  only-laid l = subst (Laid plan) (sym o.long) l

  pub only-room : index_at plan ≤ length w → index_at plan ≤ length v
  only-room h = omega (arith, h, o.long)

  pub only-ordered : Ordered plan w → Ordered plan v
  only-ordered s = record { sorted = sorted-same Order.Start plan (index_at plan) w v s.sorted only-front o.after; room = omega (arith, s.room, o.long) }

  -- where the marks are the same, every word is
  pub only-whole : marks_in plan v ≡ marks_in plan w → v ≡ w
  only-whole e = whole plan v ∙ ((λ t. o.before t ++ (e t ++ o.after t)) ∙ sym (whole plan w))

-- ---- one mark

module _ (plan : Plan) (w : List ℕ) (t : ℕ) (low : t < plan.size) where
  -- the word that is asked for is the state's
  pub word_of : get_or w (plan.base + t) 0 ≡ get_or (distances plan w) t 0
  word_of = sym (stretch-get plan.base plan.size w t low)

  pub mark_of : get_or w (marks_at plan + t) 0 ≡ get_or (marks_in plan w) t 0
  mark_of = sym (stretch-get (marks_at plan) plan.size w t low)

  only_one : (x : ℕ) → OnlyMarks plan w (set w (marks_at plan + t) x)
  only_one x =
      record {
        before = take-set-le (marks_at plan) w (marks_at plan + t) x (omega arith);
        after = drop-set-lt (index_at plan) w (marks_at plan + t) x (omega arith);
        long = length-set w (marks_at plan + t) x;
      }

  -- it is the one that is wanted
  pub mark-one : (want with : ℕ) (b : Bool) (v : List ℕ) → get_or w (plan.base + t) 0 ≡ want → v ≡ set w (marks_at plan + t) with
      → Marked plan (mark_turn (distances plan w) want with t) b w true v
  unfolding mark_turn
  mark-one want with b v e is =
      subst (λ x. Marked plan (mark_turn (distances plan w) want with t) b w true x) (sym is)
      (record {
        now-marked = rw (stretch-set (marks_at plan) plan.size w t with low, eq-eqb (get_or (distances plan w) t 0) want (sym word_of ∙ e));
        only = only_one with;
      })

  -- it is another
  pub mark-none : (want with : ℕ) (b : Bool) → (get_or w (plan.base + t) 0 ≡ want → ⊥) → Marked plan (mark_turn (distances plan w) want with t) b w b w
  unfolding mark_turn
  mark-none want with b n = record { now-marked = rw (ne_eqb (get_or (distances plan w) t 0) want (λ e. n (word_of ∙ e))); only = only_none }

-- a state by two names
pub mark-same : (D : List ℕ) (want with t u : ℕ) (x : Led) → t ≡ u → mark_turn D want with u x ≡ mark_turn D want with t x
mark-same D want with t u x e = ap (λ s. mark_turn D want with s x) (sym e)

-- ---- marks written one after the other

module _ {plan : Plan} (F : Led → Led) {b : Bool} {w : List ℕ} where
  -- what is done, said in another way
  pub marked-as : {G : Led → Led} {r : Bool} {v : List ℕ} → Marked plan G b w r v → F (led_in plan b w) ≡ G (led_in plan b w) → Marked plan F b w r v
  marked-as m e = record { now-marked = m.now-marked ∙ sym e; only = m.only }

  -- nothing is done
  pub marked-nothing : F (led_in plan b w) ≡ led_in plan b w → Marked plan F b w b w
  marked-nothing e = record { now-marked = sym e; only = only_none }

-- a loop under way: from words w₀ F is to be done; at w G of it is left
pub record Amid (plan : Plan) (F : Led → Led) (b₀ : Bool) (w₀ : List ℕ) (G : Led → Led) (b : Bool) (w : List ℕ) : Type 0 where
  pub rest : G (led_in plan b w) ≡ F (led_in plan b₀ w₀)
  pub only : OnlyMarks plan w₀ w

module _ {plan : Plan} {F : Led → Led} {b₀ : Bool} {w₀ : List ℕ} {G : Led → Led} {b : Bool} {w : List ℕ} (u : Amid plan F b₀ w₀ G b w) where
  -- f is done, of which G' is left
  pub amid-step : {f : Led → Led} {r : Bool} {v : List ℕ} (G' : Led → Led)
      → Marked plan f b w r v → G' (f (led_in plan b w)) ≡ G (led_in plan b w)
      → Amid plan F b₀ w₀ G' r v
  amid-step G' m e = record { rest = ap G' m.now-marked ∙ (e ∙ u.rest); only = only_then u.only m.only }

  -- nothing is left
  pub amid-end : G (led_in plan b w) ≡ led_in plan b w → Marked plan F b₀ w₀ b w
  amid-end e = record { now-marked = sym e ∙ u.rest; only = u.only }

-- a loop over numbers from 0 to n: where it starts, a turn, and where it ends
module _ {plan : Plan} (f : ℕ → Led → Led) where
  pub amid-start : (n : ℕ) {b : Bool} {w : List ℕ} → Amid plan (turns f 0 n) b w (turns f 0 (n - 0)) b w
  amid-start n = record { rest = rw sub-zero; only = only_none }

  module _ {F : Led → Led} {b₀ : Bool} {w₀ : List ℕ} (i n : ℕ) {b : Bool} {w : List ℕ} (u : Amid plan F b₀ w₀ (turns f i (n - i)) b w) where
    pub amid-turn : {r : Bool} {v : List ℕ} → i < n → Marked plan (f i) b w r v → Amid plan F b₀ w₀ (turns f (i + 1) (n - (i + 1))) r v
    amid-turn h m = amid-step u (turns f (i + 1) (n - (i + 1))) m (turns_next f i n _ h)

    pub amid-over : n ≤ i → Marked plan F b₀ w₀ b w
    amid-over h = amid-end u (turns-none f i n _ h)
