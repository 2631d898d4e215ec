-- A search with how each state was reached, while it goes on: a step and the tags written after it are a step with tags (`traced`); steps with
-- tags one after the other, by what is left of a loop (`loop-start`, `loop-turn`, `loop-end`); and what such a loop goes by stays.
use mathlib.Core.Path.{◌≡◌, refl, sym, ap, ◌∙◌, subst}
use mathlib.Core.List.{List, ◌++◌, append-nil}
use Prim.Native.Nat.{ℕ, ◌+◌, ◌*◌, ◌-◌, ◌≤◌, ◌<◌}
use native.Mathlib.Omega.{arith}
use lib.ListN.{length, take, drop, replicate, length-replicate}
use lib.Seq.{take-take, take-add, drop-drop, drop_at}
use Rattle.request.specs.Layout.{Laid}
use Rattle.request.specs.declared.Plan.{Plan}
use Rattle.graph.specs.Loops.{turns}
use Rattle.graph.specs.Table.{Search}
use Rattle.graph.specs.Trace.{Reached, tagged}
use Rattle.area.specs.Area.{stretch, patch, found, outside, Outside}
use Rattle.area.proofs.Stretches.{stretch-length, stretch-take, patch-length, patch-same, patch-take, patch-drop}
use Rattle.area.proofs.Changes.{turns-none, turns_next, ready-long}
use Rattle.area.proofs.Anyhow.{ready_of}
use Rattle.states.specs.Pairs.{RoomBack, StepBackAny, GoodBack}
use Rattle.sorted.specs.Runs.{same-stretch, sorted-same}
use Rattle.sorted.specs.declared.Order.TheVariants as Order
use Rattle.expanding.specs.Undoing.{Undoing}
use Rattle.expanding.specs.declared.Undo.{Undo}
use Rattle.tracing.specs.Tracing.{how_at, index_at, Indexed, reached_in, StepTraced}

-- ---- tags

-- what finds the same gives the same tags
pub tagged-as : (tag : ℕ) (f g : Search → Search) (x : Reached) → f x.table ≡ g x.table → tagged tag f x ≡ tagged tag g x
unfolding tagged
tagged-as tag f g x e = λ i. record { table = e i; how = x.how ++ replicate (length (e i).queue - length x.table.queue) tag }

-- and what finds nothing gives none
pub tagged-idle : (tag : ℕ) (f : Search → Search) (x : Reached) → f x.table ≡ x.table → tagged tag f x ≡ x
unfolding tagged
tagged-idle tag f x e =
    let none : length (f x.table).queue - length x.table.queue ≡ 0 = omega (arith, ap (λ (st : Search). length st.queue) e) in
    λ i. record { table = e i; how = (ap (λ n. x.how ++ replicate n tag) none ∙ append-nil x.how) i }

-- ---- stretches

-- one that stands before a word is the same where the words before that word are
pub before_same : (k b n : ℕ) (w v : List ℕ) → b + n ≤ k → k ≤ length w → k ≤ length v → take k v ≡ take k w → stretch b n v ≡ stretch b n w
before_same k b n w v h lw lv e = sym (stretch-take k b n v h lv) ∙ (ap (stretch b n) e ∙ stretch-take k b n w h lw)

-- two of them end to end, and the second of the two
pub stretch-join : (b n k : ℕ) (w : List ℕ) → stretch b (n + k) w ≡ stretch b n w ++ stretch (b + n) k w
unfolding stretch
stretch-join b n k w = rw (← drop-drop n b w) (take-add n k (drop b w))

pub stretch-end : (b n k : ℕ) (w : List ℕ) → k ≤ n → b + n ≤ length w → stretch (b + k) (n - k) w ≡ drop k (stretch b n w)
stretch-end b n k w h room =
    let sum : n ≡ k + (n - k) = omega arith in
    sym (ap (λ m. drop k (stretch b m w)) sum ∙ (ap (drop k) (stretch-join b k (n - k) w) ∙ drop_at (stretch b k w) _ k (stretch-length b k w (omega arith))))

-- ---- a step, and the tags after it

module _ (plan : Plan) (tag : ℕ) (f : Search → Search) (t u : ℕ) (w v : List ℕ) (s : StepBackAny plan f t w u v) (was : RoomBack plan t w) (room : plan.base + 3 * plan.size ≤ length w) where
  -- the first tag, and the area with the tags written
  abbrev at : ℕ
  at = how_at plan + t

  abbrev z : List ℕ
  z = patch at (u - t) (replicate (u - t) tag) v

  many : length (replicate {A = ℕ} (u - t) tag) ≡ u - t
  many = length-replicate (u - t) tag

  fits : at + (u - t) ≤ length v
  fits = omega (arith, s.grows, s.ready.fits, s.long, room)

  long-z : length z ≡ length v
  long-z = patch-length at (u - t) (replicate (u - t) tag) v many fits

  head-same : take at z ≡ take at v
  head-same = patch-take at (u - t) (replicate (u - t) tag) v many fits

  -- words before the new tags
  early : (b n : ℕ) → b + n ≤ at → stretch b n z ≡ stretch b n v
  early b n h = before_same at b n v z h (omega (arith, fits)) (omega (arith, fits, long-z)) head-same

  same-found : found plan.base plan.size u z ≡ found plan.base plan.size u v
  unfolding found
  same-found =
      let g = s.ready.fits in
      λ i. record { dist = early plan.base plan.size (omega arith) i; queue = early (plan.base + plan.size) u (omega arith) i }

  -- the step leaves what comes after the queue's last
  behind : drop (plan.base + plan.size + u) v ≡ drop (plan.base + plan.size + u) w
  unfolding outside
  behind = ap (λ (o : Outside). o.back) s.same

  how-is : stretch (how_at plan) u z ≡ stretch (how_at plan) t w ++ replicate (u - t) tag
  how-is =
      let sum : u ≡ t + (u - t) = omega (arith, s.grows) in
      let old = early (how_at plan) t (omega arith) ∙ same-stretch (plan.base + plan.size + u) w v behind (how_at plan) t (omega (arith, s.ready.fits)) in
      let new = patch-same at (u - t) (replicate (u - t) tag) v many fits in
      ap (λ n. stretch (how_at plan) n z) sum ∙ (stretch-join (how_at plan) t (u - t) z ∙ (λ i. old i ++ new i))

  tail-same : drop (how_at plan + u) z ≡ drop (how_at plan + u) w
  tail-same =
      let sum : at + (u - t) ≡ how_at plan + u = omega (arith, s.grows) in
      let join : plan.base + plan.size + u + plan.size ≡ how_at plan + u = omega arith in
      let far : (l : List ℕ) → drop (how_at plan + u) l ≡ drop plan.size (drop (plan.base + plan.size + u) l) = λ l. sym (drop-drop plan.size (plan.base + plan.size + u) l ∙ ap (λ k. drop k l) join) in
      subst (λ k. drop k z ≡ drop k v) sum (patch-drop at (u - t) (replicate (u - t) tag) v many fits)
      ∙ (far v ∙ (ap (drop plan.size) behind ∙ sym (far w)))

  pub traced : StepTraced plan (tagged tag f) t w u z
  unfolding tagged reached_in outside
  traced =
      let now : GoodBack plan t w → found plan.base plan.size u z ≡ f (found plan.base plan.size t w) = λ g. same-found ∙ (s.sound g).now-found in
      let new : GoodBack plan t w → u - t ≡ length (f (found plan.base plan.size t w)).queue - length (found plan.base plan.size t w).queue =
      λ g. omega (arith, ready-long (ready_of was g), sym (ap (λ (x : Search). length x.queue) (s.sound g).now-found) ∙ ready-long (s.sound g).ready) in
      let end = plan.base + plan.size + u in
      let near : plan.base ≤ at = omega arith in
      record {
        now-reached = λ g i. record { table = now g i; how = (how-is ∙ ap (λ n. stretch (how_at plan) t w ++ replicate n tag) (new g)) i };
        good = λ g. rw same-found (s.sound g).ready.good;
        front = sym (take-take plan.base at z near) ∙ (ap (take plan.base) head-same ∙ (take-take plan.base at v near ∙ ap (λ (o : Outside). o.front) s.same));
        gap = early end (plan.size - u) (omega (arith, s.ready.fits)) ∙ same-stretch end w v behind end (plan.size - u) (omega arith);
        back = tail-same;
        long = long-z ∙ s.long;
        grows = s.grows;
        ready = record { room = omega (arith, s.ready.room, long-z); small = s.ready.small; fits = s.ready.fits };
      }

-- ---- a loop under way

-- from words w₀ with t₀ in the queue F is to be done; at w with t in the queue G of it is left
pub record UnderTraced (plan : Plan) (F : Reached → Reached) (t₀ : ℕ) (w₀ : List ℕ) (G : Reached → Reached) (t : ℕ) (w : List ℕ) : Type 0 where
  pub rest : GoodBack plan t₀ w₀ → G (reached_in plan t w) ≡ F (reached_in plan t₀ w₀)
  pub good : GoodBack plan t₀ w₀ → GoodBack plan t w
  pub front : take plan.base w ≡ take plan.base w₀
  pub gap : stretch (plan.base + plan.size + t) (plan.size - t) w ≡ stretch (plan.base + plan.size + t) (plan.size - t) w₀
  pub back : drop (how_at plan + t) w ≡ drop (how_at plan + t) w₀
  pub long : length w ≡ length w₀
  pub grows : t₀ ≤ t
  pub ready : RoomBack plan t w

-- where more waits, fewer words are left
gap-later : (plan : Plan) (t u : ℕ) (w v : List ℕ) → t ≤ u → u ≤ plan.size → plan.base + 2 * plan.size ≤ length w → length w ≡ length v
    → stretch (plan.base + plan.size + t) (plan.size - t) w ≡ stretch (plan.base + plan.size + t) (plan.size - t) v
    → stretch (plan.base + plan.size + u) (plan.size - u) w ≡ stretch (plan.base + plan.size + u) (plan.size - u) v
gap-later plan t u w v h low room long e =
    let start : plan.base + plan.size + t + (u - t) ≡ plan.base + plan.size + u = omega arith in
    let left : plan.size - t - (u - t) ≡ plan.size - u = omega arith in
    let later : (l : List ℕ) → plan.base + 2 * plan.size ≤ length l
    → stretch (plan.base + plan.size + u) (plan.size - u) l ≡ drop (u - t) (stretch (plan.base + plan.size + t) (plan.size - t) l) =
    λ l fits. (λ i. stretch (sym start i) (sym left i) l) ∙ stretch-end (plan.base + plan.size + t) (plan.size - t) (u - t) l (omega arith) (omega arith) in
    later w room ∙ (ap (drop (u - t)) e ∙ sym (later v (omega (arith, room, long))))

pub back-later : (k n : ℕ) (w v : List ℕ) → k ≤ n → drop k w ≡ drop k v → drop n w ≡ drop n v
back-later k n w v h e =
    let sum : k + (n - k) ≡ n = omega arith in
    let far : (l : List ℕ) → drop n l ≡ drop (n - k) (drop k l) = λ l. sym (drop-drop (n - k) k l ∙ ap (λ m. drop m l) sum) in
    far w ∙ (ap (drop (n - k)) e ∙ sym (far v))

module _ {plan : Plan} where
  -- a step by G is one by F, where the two do the same here
  pub traced-as : (F : Reached → Reached) {G : Reached → Reached} {t : ℕ} {w : List ℕ} {u : ℕ} {v : List ℕ}
      → StepTraced plan G t w u v → F (reached_in plan t w) ≡ G (reached_in plan t w) → StepTraced plan F t w u v
  traced-as F s e = record { now-reached = λ g. s.now-reached g ∙ sym e; good = s.good; front = s.front; gap = s.gap; back = s.back; long = s.long; grows = s.grows; ready = s.ready }

  -- no step is one by F, where F does nothing here
  pub traced-none : (F : Reached → Reached) {t : ℕ} {w : List ℕ} → RoomBack plan t w → F (reached_in plan t w) ≡ reached_in plan t w → StepTraced plan F t w t w
  traced-none F r e = record { now-reached = λ _. sym e; good = λ g. g; front = refl; gap = refl; back = refl; long = refl; grows = omega arith; ready = r }

  -- where it starts, with what is to be done said in another way
  pub loop-start : (F G : Reached → Reached) {t : ℕ} {w : List ℕ} → RoomBack plan t w → G (reached_in plan t w) ≡ F (reached_in plan t w) → UnderTraced plan F t w G t w
  loop-start F G r e = record { rest = λ _. e; good = λ g. g; front = refl; gap = refl; back = refl; long = refl; grows = omega arith; ready = r }

  module _ {F : Reached → Reached} {t₀ : ℕ} {w₀ : List ℕ} (f : ℕ → Reached → Reached) (i n : ℕ) {t : ℕ} {w : List ℕ} (l : UnderTraced plan F t₀ w₀ (turns f i (n - i)) t w) where
    -- a turn
    pub loop-turn : {t' : ℕ} {w' : List ℕ} → i < n → StepTraced plan (f i) t w t' w' → UnderTraced plan F t₀ w₀ (turns f (i + 1) (n - (i + 1))) t' w'
    loop-turn {t'} {w'} h s =
        record {
          rest = λ g. ap (turns f (i + 1) (n - (i + 1))) (s.now-reached (l.good g)) ∙ (turns_next f i n _ h ∙ l.rest g);
          good = λ g. s.good (l.good g);
          front = s.front ∙ l.front;
          gap = s.gap ∙ gap-later plan t t' w w₀ s.grows s.ready.fits (omega (arith, l.ready.room)) l.long l.gap;
          back = s.back ∙ back-later (how_at plan + t) (how_at plan + t') w w₀ (omega (arith, s.grows)) l.back;
          long = s.long ∙ l.long;
          grows = omega (arith, s.grows, l.grows);
          ready = s.ready;
        }

    -- where it ends
    pub loop-end : n ≤ i → StepTraced plan F t₀ w₀ t w
    loop-end h =
        record { now-reached = λ g. sym (turns-none f i n _ h) ∙ l.rest g; good = l.good; front = l.front; gap = l.gap; back = l.back; long = l.long; grows = l.grows; ready = l.ready }

  -- ---- what it goes by stays

  module _ {F : Reached → Reached} {t₀ : ℕ} {w₀ : List ℕ} {G : Reached → Reached} {t : ℕ} {w : List ℕ} (l : UnderTraced plan F t₀ w₀ G t w) where
    -- the words after the stretches
    pub index_same : drop (index_at plan) w ≡ drop (index_at plan) w₀
    index_same = back-later (how_at plan + t) (index_at plan) w w₀ (omega (arith, l.ready.fits)) l.back

    pub undoing-traced : {u : Undo} → Undoing plan u t₀ w₀ → Undoing plan u t w
    undoing-traced h = record { ready = l.ready; laid = subst (Laid plan) (sym l.long) h.laid; sane = h.sane; some = h.some; near = omega (arith, h.near, l.grows) }

    pub indexed-traced : Indexed plan w₀ → Indexed plan w
    indexed-traced h = record { sorted = sorted-same Order.End plan (index_at plan) w₀ w h.sorted l.front index_same; room = omega (arith, h.room, l.long) }
