-- Laws of the search in a pair of stretches: what is read there, one push, steps one after the other, and a loop of steps by what is left of it.
-- `new-outside`, `step-new` and `step-old` are for `push_if_new`; every function above it uses `step-as`, `step-none`, `loop-start`, `loop-turn` and `loop-end`.
use mathlib.Core.Path.{◌≡◌, refl, sym, ap, ◌∙◌, subst}
use mathlib.Core.Bool.{Bool, true, false, cond}
use mathlib.Core.List.{List, [], ◌∷◌, ◌++◌}
use Prim.Native.Nat.{ℕ, zero, suc, ◌+◌, ◌-◌, ◌≤◌, ◌<◌}
use native.Mathlib.Nat.{not-suc-le-zero, le_of_suc-le-suc, sub-zero}
use native.Mathlib.Omega.{arith}
use lib.ListN.{length, get_or, set, take, drop, replicate, length-set, length-append, length-replicate, take-append-drop}
use lib.Seq.{take-set-le, drop-set-lt, drop-drop, take-take}
use borrow.Author.Tests.{eqb-true, eq-eqb, ne_eqb}
use Rattle.std.specs.Prelude.{eqb}
use Rattle.graph.specs.Loops.{turns}
use Rattle.graph.specs.Table.{Search, blank, push}
use Rattle.area.specs.Area.{stretch, patch, marked, Good, Outside, found, outside, Ready, Step, Under}
use Rattle.area.proofs.Stretches.{stretch-length, stretch-none, stretch-get, stretch-take, stretch-set, stretch-below, stretch-above, stretch-push, patch-length, patch-same, patch-take, patch-drop}

-- ---- how many words are marked

marked-le : (l : List ℕ) → marked l ≤ length l
unfolding marked
marked-le [] = omega arith
marked-le (zero ∷ l) = let h = marked-le l in omega arith
marked-le (suc n ∷ l) = let h = marked-le l in omega arith

marked-set : (l : List ℕ) (i d : ℕ) → i < length l → get_or l i 0 ≡ 0 → marked (set l i (suc d)) ≡ suc (marked l)
unfolding marked
marked-set [] i d h e = absurd (not-suc-le-zero h)
marked-set (zero ∷ l) zero d h e = refl
marked-set (suc n ∷ l) zero d h e = omega arith
marked-set (zero ∷ l) (suc i) d h e = marked-set l i d (le_of_suc-le-suc h) e
marked-set (suc n ∷ l) (suc i) d h e = ap suc (marked-set l i d (le_of_suc-le-suc h) e)

marked-lt : (l : List ℕ) (i : ℕ) → i < length l → get_or l i 0 ≡ 0 → marked l < length l
marked-lt l i h e = omega (arith, marked-set l i 0 h e, marked-le (set l i 1), length-set l i 1)

marked-none : (n : ℕ) → marked (replicate n 0) ≡ 0
unfolding marked
marked-none zero = refl
marked-none (suc n) = marked-none n

-- ---- what a search under way keeps

none-near : (n i : ℕ) → get_or (replicate n 0) i 0 ≤ 0
none-near zero i = omega arith
none-near (suc n) zero = omega arith
none-near (suc n) (suc i) = none-near n i

pub blank-good : (n : ℕ) → Good n (blank n)
unfolding blank
blank-good n =
    record { sized = length-replicate n 0; counted = sym (marked-none n); within = λ i h. absurd (not-suc-le-zero h); near = λ i. omega (arith, none-near n i) }

cond-good : (n : ℕ) (b : Bool) (x y : Search) → (b ≡ true → Good n x) → (b ≡ false → Good n y) → Good n (cond b x y)
cond-good n true x y f g = f refl
cond-good n false x y f g = g refl

end-within : (n : ℕ) (l : List ℕ) (s : ℕ)
    → s < n → ((i : ℕ) → i < length l → get_or l i 0 < n)
    → (i : ℕ) → i < length (l ++ (s ∷ [])) → get_or (l ++ (s ∷ [])) i 0 < n
end-within n [] s h f zero k = h
end-within n [] s h f (suc i) k = omega arith
end-within n (x ∷ l) s h f zero k = f 0 (omega arith)
end-within n (x ∷ l) s h f (suc i) k = end-within n l s h (λ j m. f (suc j) (omega arith)) i (le_of_suc-le-suc k)

set-near : (n : ℕ) (l : List ℕ) (s v : ℕ) → v ≤ n → ((i : ℕ) → get_or l i 0 ≤ n) → (i : ℕ) → get_or (set l s v) i 0 ≤ n
set-near n [] s v h f i = omega arith
set-near n (x ∷ l) zero v h f zero = h
set-near n (x ∷ l) zero v h f (suc i) = f (suc i)
set-near n (x ∷ l) (suc s) v h f zero = f 0
set-near n (x ∷ l) (suc s) v h f (suc i) = set-near n l s v h (λ j. f (suc j)) i

push-good : (n d s : ℕ) (st : Search) → s < n → 0 < d → d ≤ suc (length st.queue) → Good n st → Good n (push d s st)
unfolding push
push-good n d s st sl dz dl g =
    cond-good n (eqb (get_or st.dist s 0) 0) (record { dist = set st.dist s d; queue = st.queue ++ (s ∷ []) }) st
    (λ e.
    let p : suc (d - 1) ≡ d = omega arith in
    let one = marked-set st.dist s (d - 1) (omega (arith, g.sized)) (eqb-true _ _ e) in
    let m : marked (set st.dist s d) ≡ suc (marked st.dist) = ap (λ (z : ℕ). marked (set st.dist s z)) (sym p) ∙ one in
    record {
      sized = length-set st.dist s d ∙ g.sized;
      counted = simp length-append (omega (arith, g.counted));
      within = end-within n st.queue s sl g.within;
      near = set-near _ st.dist s d (omega (arith, g.counted)) (λ i. omega (arith, g.near i));
    })
    (λ _. g)

module _ (base size : ℕ) where
  -- ---- what is read in a pair

  pub found-dist : (t : ℕ) (w : List ℕ) (s : ℕ) → s < size → get_or (found base size t w).dist s 0 ≡ get_or w (base + s) 0
  unfolding found
  found-dist t w s h = stretch-get _ _ w s h

  pub found-queue : (t : ℕ) (w : List ℕ) (i : ℕ) → i < t → get_or (found base size t w).queue i 0 ≡ get_or w (base + size + i) 0
  unfolding found
  found-queue t w i h = stretch-get _ _ w i h

  -- where more waits, fewer words are outside
  pub outside-later : (t u : ℕ) (w v : List ℕ) → t ≤ u → outside base size t w ≡ outside base size t v → outside base size u w ≡ outside base size u v
  unfolding outside
  outside-later t u w v h e =
      let sum : base + size + t + (u - t) ≡ base + size + u = omega arith in
      let f : (x : List ℕ) → drop (base + size + u) x ≡ drop (u - t) (drop (base + size + t) x) = λ x. rw (drop-drop, sum) in
      rw (f w, f v) (ap shorter e)
    where
      shorter : Outside → Outside
      shorter o = record { front = o.front; back = drop (u - t) o.back }

  module _ (t : ℕ) (w v : List ℕ) (e : outside base size t w ≡ outside base size t v) where
    -- the words before the pair are as they were
    pub outside-front : (k : ℕ) → k ≤ base → take k w ≡ take k v
    unfolding outside
    outside-front k h = sym (take-take k base w h) ∙ ap (λ (o : Outside). take k o.front) e ∙ take-take k base v h

    -- and so are those after it
    pub outside-back : (k : ℕ) → base + size + t ≤ k → drop k w ≡ drop k v
    unfolding outside
    outside-back k h =
        let sum : base + size + t + (k - (base + size + t)) ≡ k = omega arith in
        let f : (x : List ℕ) → drop k x ≡ drop (k - (base + size + t)) (drop (base + size + t) x) = λ x. rw (drop-drop, sum) in
        rw (f w, f v) (ap (λ (o : Outside). drop (k - (base + size + t)) o.back) e)

  -- a state that comes in changes no word outside
  pub new-outside : (t : ℕ) (w : List ℕ) (d s : ℕ) → s < size → outside base size (t + 1) (set (set w (base + s) d) (base + size + t) s) ≡ outside base size (t + 1) w
  unfolding outside
  new-outside t w d s sl =
      let v = set w (base + s) d in
      rw (
        take-set-le base v (base + size + t) s (omega arith),
        take-set-le base w (base + s) d (omega arith),
        drop-set-lt (base + size + (t + 1)) v (base + size + t) s (omega arith),
        drop-set-lt (base + size + (t + 1)) w (base + s) d (omega arith),
      )

  -- what is found and what is outside make up the area
  whole : (t : ℕ) (w : List ℕ)
      → w ≡ (outside base size t w).front ++ ((found base size t w).dist ++ ((found base size t w).queue ++ (outside base size t w).back))
  unfolding outside found stretch
  whole t w =
      sym
      (rw (← drop-drop t (base + size) w, take-append-drop t (drop (base + size) w), ← drop-drop size base w, take-append-drop size (drop base w), take-append-drop base w))

-- ---- a loop over numbers: nothing is left, or a turn and what is left then

module _ {A : Type 0} (f : ℕ → A → A) where
  pub turns-none : (i n : ℕ) (st : A) → n ≤ i → turns f i (n - i) st ≡ st
  unfolding turns
  turns-none i n st h = let e : n - i ≡ 0 = omega arith in rw e

  pub turns_next : (i n : ℕ) (st : A) → i < n → turns f (i + 1) (n - (i + 1)) (f i st) ≡ turns f i (n - i) st
  unfolding turns
  turns_next i n st h = let e : n - i ≡ suc (n - (i + 1)) = omega arith in let g : i + 1 ≡ suc i = omega arith in rw (e, g)

module _ {base size : ℕ} where
  module _ {t : ℕ} {w : List ℕ} (r : Ready base size t w) where
    -- the queue is as long as t says, its states are states, and no distance is above t
    pub ready-long : length (found base size t w).queue ≡ t
    unfolding found
    ready-long = stretch-length _ _ w (omega arith)

    pub ready-state : (i : ℕ) → i < t → get_or w (base + size + i) 0 < size
    ready-state i h = rw (← found-queue base size t w i h) (r.good.within i (omega (arith, ready-long)))

    pub ready-near : (s : ℕ) → s < size → get_or w (base + s) 0 ≤ t
    ready-near s h = rw (← found-dist base size t w s h) (omega (arith, r.good.near s, r.good.counted, ready-long))

  -- ---- one push

  module _ {t : ℕ} {w : List ℕ} (r : Ready base size t w) (d s : ℕ) (sl : s < size) (dz : 0 < d) (dl : d ≤ suc t) where
    pub room-left : get_or w (base + s) 0 ≡ 0 → t < size
    room-left e =
        omega (arith, ready-long r, r.good.counted, marked-lt (found base size t w).dist s (omega (arith, r.good.sized)) (found-dist base size t w s sl ∙ e))

    pushed : Good size (push d s (found base size t w))
    pushed = push-good size d s (found base size t w) sl dz (omega (arith, ready-long r)) r.good

    new-found : get_or w (base + s) 0 ≡ 0 → found base size (t + 1) (set (set w (base + s) d) (base + size + t) s) ≡ push d s (found base size t w)
    unfolding found push
    new-found e =
        let v = set w (base + s) d in
        let free : t < size = room-left e in
        let fits : base + size + t < length v = simp length-set (omega arith) in
        rw (
          eq-eqb _ _ (stretch-get base size w s sl ∙ e),
          stretch-above base size v (base + size + t) s (omega arith),
          stretch-set base size w s d sl,
          stretch-push (base + size) t v s fits,
          stretch-below (base + size) t w (base + s) d (omega arith),
        )

    pub step-new : get_or w (base + s) 0 ≡ 0 → Step base size (push d s) t w (t + 1) (set (set w (base + s) d) (base + size + t) s)
    step-new e =
        let v = set w (base + s) d in
        let free : t < size = room-left e in
        record {
          now-found = new-found e;
          same = new-outside base size t w d s sl;
          long = length-set v (base + size + t) s ∙ length-set w (base + s) d;
          grows = omega arith;
          ready = record { room = simp length-set r.room; small = r.small; fits = omega arith; good = rw (new-found e) pushed };
        }

    pub step-old : (get_or w (base + s) 0 ≡ 0 → ⊥) → Step base size (push d s) t w t w
    unfolding push
    step-old has =
        record { now-found = rw (ne_eqb _ _ (λ e. has (sym (found-dist base size t w s sl) ∙ e))); same = refl; long = refl; grows = omega arith; ready = r }

  -- ---- steps

  module _ (f : Search → Search) {t : ℕ} {w : List ℕ} where
    -- a step by g is one by f, where the two do the same here
    pub step-as : {g : Search → Search} {u : ℕ} {v : List ℕ}
        → Step base size g t w u v → f (found base size t w) ≡ g (found base size t w)
        → Step base size f t w u v
    step-as s e = record { now-found = s.now-found ∙ sym e; same = s.same; long = s.long; grows = s.grows; ready = s.ready }

    -- no step is one by f, where f does nothing here
    pub step-none : Ready base size t w → f (found base size t w) ≡ found base size t w → Step base size f t w t w
    step-none r e = record { now-found = sym e; same = refl; long = refl; grows = omega arith; ready = r }

  -- with the count of the queue said in another way
  pub step_count : {f : Search → Search} {t : ℕ} {w : List ℕ} {u u' : ℕ} {v : List ℕ} → u ≡ u' → Step base size f t w u v → Step base size f t w u' v
  step_count {f} {t} {w} {v = v} e s = subst (λ (n : ℕ). Step base size f t w n v) e s

  pub step_then : {f g : Search → Search} {t : ℕ} {w : List ℕ} {u : ℕ} {v : List ℕ} {t' : ℕ} {w' : List ℕ}
      → Step base size f t w u v → Step base size g u v t' w'
      → Step base size (λ st. g (f st)) t w t' w'
  step_then {g = g} {w = w} {u = u} {v = v} {t' = t'} s r =
      record {
        now-found = r.now-found ∙ ap g s.now-found;
        same = r.same ∙ outside-later base size u t' v w r.grows s.same;
        long = r.long ∙ s.long;
        grows = omega (arith, s.grows, r.grows);
        ready = r.ready;
      }

  -- a step fixes every word
  pub step-fixes : (f : Search → Search) (t : ℕ) (w : List ℕ) (u : ℕ) (v v' : List ℕ) → Step base size f t w u v → Step base size f t w u v' → v ≡ v'
  step-fixes f t w u v v' s s' =
      let e : found base size u v ≡ found base size u v' = s.now-found ∙ sym s'.now-found in
      let o : outside base size u v ≡ outside base size u v' = s.same ∙ sym s'.same in
      whole base size u v ∙ rw (e, o) (sym (whole base size u v'))

  -- ---- a loop under way

  pub under-start : (F : Search → Search) {t : ℕ} {w : List ℕ} → Ready base size t w → Under base size F t w F t w
  under-start F r = record { rest = refl; same = refl; long = refl; grows = omega arith; ready = r }

  -- with what is to be done said in another way
  pub under-as : (F G : Search → Search) {t : ℕ} {w : List ℕ} → Ready base size t w → G (found base size t w) ≡ F (found base size t w) → Under base size F t w G t w
  under-as F G r e = record { rest = e; same = refl; long = refl; grows = omega arith; ready = r }

  module _ {F : Search → Search} {t₀ : ℕ} {w₀ : List ℕ} {G : Search → Search} {t : ℕ} {w : List ℕ} (u : Under base size F t₀ w₀ G t w) where
    -- a step f done, of which G' is left
    pub under-step : {f : Search → Search} {t' : ℕ} {w' : List ℕ} (G' : Search → Search)
        → Step base size f t w t' w' → G' (f (found base size t w)) ≡ G (found base size t w)
        → Under base size F t₀ w₀ G' t' w'
    under-step {t' = t'} G' s e =
        record {
          rest = ap G' s.now-found ∙ e ∙ u.rest;
          same = s.same ∙ outside-later base size t t' w w₀ s.grows u.same;
          long = s.long ∙ u.long;
          grows = omega (arith, s.grows, u.grows);
          ready = s.ready;
        }

    -- nothing left
    pub under-end : G (found base size t w) ≡ found base size t w → Step base size F t₀ w₀ t w
    under-end e = record { now-found = sym e ∙ u.rest; same = u.same; long = u.long; grows = u.grows; ready = u.ready }

    -- the words before the pair are as they were
    pub under-front : (k : ℕ) → k ≤ base → take k w ≡ take k w₀
    under-front = outside-front base size t w w₀ u.same

    -- and so are those after it
    pub under_back : (k : ℕ) → base + size + t ≤ k → drop k w ≡ drop k w₀
    under_back = outside-back base size t w w₀ u.same

    pub under-stretch : (b n : ℕ) → b + n ≤ base → stretch b n w ≡ stretch b n w₀
    under-stretch b n h =
        sym (stretch-take base b n w h (omega (arith, u.ready.room)))
        ∙ ap (stretch b n) (under-front base (omega arith))
        ∙ stretch-take base b n w₀ h (omega (arith, u.ready.room, u.long))

  -- a step done is a loop of which nothing is left
  pub step-under : {f : Search → Search} {t : ℕ} {w : List ℕ} {u : ℕ} {v : List ℕ} → Step base size f t w u v → Under base size f t w (λ st. st) u v
  step-under s = record { rest = s.now-found; same = s.same; long = s.long; grows = s.grows; ready = s.ready }

  -- ---- a loop over numbers

  module _ (f : ℕ → Search → Search) where
    -- from 0 to n: where it starts, a turn, and where it ends
    pub loop-start : (n : ℕ) {t : ℕ} {w : List ℕ} → Ready base size t w → Under base size (turns f 0 n) t w (turns f 0 (n - 0)) t w
    loop-start n r = rw sub-zero (under-start (turns f 0 n) r)

    module _ {F : Search → Search} {t₀ : ℕ} {w₀ : List ℕ} (i n : ℕ) {t : ℕ} {w : List ℕ} (u : Under base size F t₀ w₀ (turns f i (n - i)) t w) where
      pub loop-turn : {t' : ℕ} {w' : List ℕ}
          → i < n → Step base size (f i) t w t' w'
          → Under base size F t₀ w₀ (turns f (i + 1) (n - (i + 1))) t' w'
      loop-turn h s = under-step u (turns f (i + 1) (n - (i + 1))) s (turns_next f i n _ h)

      pub loop-end : n ≤ i → Step base size F t₀ w₀ t w
      loop-end h = under-end u (turns-none f i n _ h)

-- ---- the pair cleared

module _ (base size : ℕ) (w : List ℕ) (room : base + size + size ≤ length w) where
  -- the area with all distances 0
  abbrev pub cleared : List ℕ
  cleared = patch base size (replicate size 0) w

  pub cleared-found : found base size 0 cleared ≡ blank size
  unfolding found blank
  cleared-found = rw (patch-same base size (replicate size 0) w (length-replicate _ _) (omega arith), stretch-none)

  pub cleared-outside : (t : ℕ) → outside base size t cleared ≡ outside base size t w
  unfolding outside
  cleared-outside t =
      rw (
        patch-take base size (replicate size 0) w (length-replicate _ _) (omega arith),
        ← drop-drop t (base + size) (patch base size (replicate size 0) w),
        patch-drop base size (replicate size 0) w (length-replicate _ _) (omega arith),
        drop-drop t (base + size) w,
      )

  pub cleared-ready : size < 4294967296 → Ready base size 0 cleared
  cleared-ready s =
      record {
        room = omega (arith, patch-length base size (replicate size 0) w (length-replicate _ _) (omega arith));
        small = s;
        fits = omega arith;
        good = rw cleared-found (blank-good size);
      }

  -- a step from the cleared pair, as a step from the area before it was cleared
  pub step-cleared : (f : Search → Search) (r : ℕ) (v : List ℕ) → Step base size f 0 cleared r v → Step base size (λ _. f (blank size)) 0 w r v
  step-cleared f r v s =
      record {
        now-found = s.now-found ∙ ap f cleared-found;
        same = s.same ∙ cleared-outside r;
        long = s.long ∙ patch-length base size (replicate size 0) w (length-replicate _ _) (omega arith);
        grows = omega arith;
        ready = s.ready;
      }

  -- clearing changes no other word
  pub cleared-under : size < 4294967296 → Under base size (λ _. blank size) 0 w (λ st. st) 0 cleared
  cleared-under s = step-under (step-cleared (λ st. st) 0 cleared (step-none (λ st. st) (cleared-ready s) refl))
