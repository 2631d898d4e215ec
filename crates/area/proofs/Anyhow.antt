-- Laws of steps in a pair in which any words may stand: one push (`push-new`, `push-old`, `push-full`), and a loop of steps by what is left of it.
-- Most have the names of the laws in Changes, by which they go where a search stands in the pair.
use mathlib.Core.Path.{◌≡◌, refl, ◌∙◌}
use mathlib.Core.List.{List}
use Prim.Native.Nat.{ℕ, suc, ◌+◌, ◌-◌, ◌≤◌, ◌<◌}
use native.Mathlib.Nat.{sub-zero}
use native.Mathlib.Omega.{arith}
use lib.ListN.{length, get_or, set, take, drop, length-set}
use Rattle.graph.specs.Loops.{turns}
use Rattle.graph.specs.Table.{Search, push}
use Rattle.area.specs.Area.{Good, found, Ready, Room, StepAny, UnderAny}
use Rattle.area.proofs.Stretches.{stretch-length}
use Rattle.area.proofs.Changes.{outside-front, outside-back, outside-later, new-outside, room-left, step-new, step-old}
use Rattle.area.proofs.Changes as strong

module _ {base size : ℕ} where
  -- a search in the pair makes it ready, and a pair that is ready has room
  pub ready_of : {t : ℕ} {w : List ℕ} → Room base size t w → Good size (found base size t w) → Ready base size t w
  ready_of r g = record { room = r.room; small = r.small; fits = r.fits; good = g }

  pub room_of : {t : ℕ} {w : List ℕ} → Ready base size t w → Room base size t w
  room_of r = record { room = r.room; small = r.small; fits = r.fits }

  pub room-long : {t : ℕ} {w : List ℕ} → Room base size t w → length (found base size t w).queue ≡ t
  unfolding found
  room-long {w = w} r = stretch-length _ _ w (omega arith)

  -- ---- one push

  module _ {t : ℕ} {w : List ℕ} (r : Room base size t w) (d s : ℕ) (sl : s < size) (dz : 0 < d) (dl : d ≤ suc t) where
    pub push-new : get_or w (base + s) 0 ≡ 0 → t < size → StepAny base size (push d s) t w (t + 1) (set (set w (base + s) d) (base + size + t) s)
    push-new e free =
        let v = set w (base + s) d in
        record {
          same = new-outside base size t w d s sl;
          long = length-set v (base + size + t) s ∙ length-set w (base + s) d;
          grows = omega arith;
          ready = record { room = simp length-set r.room; small = r.small; fits = omega arith };
          sound = λ g. step-new (ready_of r g) d s sl dz dl e;
        }

    pub push-old : (get_or w (base + s) 0 ≡ 0 → ⊥) → StepAny base size (push d s) t w t w
    push-old has = record { same = refl; long = refl; grows = omega arith; ready = r; sound = λ g. step-old (ready_of r g) d s sl dz dl has }

    -- a queue that is full is none of a search in which a state has no word
    pub push-full : get_or w (base + s) 0 ≡ 0 → size ≤ t → StepAny base size (push d s) t w t w
    push-full e full =
        record { same = refl; long = refl; grows = omega arith; ready = r; sound = λ g. absurd (let free = room-left (ready_of r g) d s sl dz dl e in omega arith) }

  -- ---- steps

  module _ (f : Search → Search) {t : ℕ} {w : List ℕ} where
    pub step-as : {g : Search → Search} {u : ℕ} {v : List ℕ}
        → StepAny base size g t w u v → f (found base size t w) ≡ g (found base size t w)
        → StepAny base size f t w u v
    step-as s e = record { same = s.same; long = s.long; grows = s.grows; ready = s.ready; sound = λ g. strong.step-as f (s.sound g) e }

    pub step-none : Room base size t w → f (found base size t w) ≡ found base size t w → StepAny base size f t w t w
    step-none r e = record { same = refl; long = refl; grows = omega arith; ready = r; sound = λ g. strong.step-none f (ready_of r g) e }

  -- ---- a loop under way

  pub under-start : (F : Search → Search) {t : ℕ} {w : List ℕ} → Room base size t w → UnderAny base size F t w F t w
  under-start F r = record { same = refl; long = refl; grows = omega arith; ready = r; sound = λ g. strong.under-start F (ready_of r g) }

  module _ {F : Search → Search} {t₀ : ℕ} {w₀ : List ℕ} {G : Search → Search} {t : ℕ} {w : List ℕ} (u : UnderAny base size F t₀ w₀ G t w) where
    -- a step f done, of which G' is left
    pub under-step : {f : Search → Search} {t' : ℕ} {w' : List ℕ} (G' : Search → Search)
        → StepAny base size f t w t' w' → G' (f (found base size t w)) ≡ G (found base size t w)
        → UnderAny base size F t₀ w₀ G' t' w'
    under-step {t' = t'} G' s e =
        record {
          same = s.same ∙ outside-later base size t t' w w₀ s.grows u.same;
          long = s.long ∙ u.long;
          grows = omega (arith, s.grows, u.grows);
          ready = s.ready;
          sound = λ g. let so = u.sound g in strong.under-step so G' (s.sound so.ready.good) e;
        }

    -- nothing left
    pub under-end : G (found base size t w) ≡ found base size t w → StepAny base size F t₀ w₀ t w
    under-end e = record { same = u.same; long = u.long; grows = u.grows; ready = u.ready; sound = λ g. strong.under-end (u.sound g) e }

    pub under-front : (k : ℕ) → k ≤ base → take k w ≡ take k w₀
    under-front = outside-front base size t w w₀ u.same

    pub under_back : (k : ℕ) → base + size + t ≤ k → drop k w ≡ drop k w₀
    under_back = outside-back base size t w w₀ u.same

  -- ---- a loop over numbers

  module _ (f : ℕ → Search → Search) where
    pub loop-start : (n : ℕ) {t : ℕ} {w : List ℕ} → Room base size t w → UnderAny base size (turns f 0 n) t w (turns f 0 (n - 0)) t w
    loop-start n r = rw sub-zero (under-start (turns f 0 n) r)

    module _ {F : Search → Search} {t₀ : ℕ} {w₀ : List ℕ} (i n : ℕ) {t : ℕ} {w : List ℕ} (u : UnderAny base size F t₀ w₀ (turns f i (n - i)) t w) where
      pub loop-turn : {t' : ℕ} {w' : List ℕ}
          → i < n → StepAny base size (f i) t w t' w'
          → UnderAny base size F t₀ w₀ (turns f (i + 1) (n - (i + 1))) t' w'
      loop-turn h s = under-step u (turns f (i + 1) (n - (i + 1))) s (strong.turns_next f i n _ h)

      pub loop-end : n ≤ i → StepAny base size F t₀ w₀ t w
      loop-end h = under-end u (strong.turns-none f i n _ h)
