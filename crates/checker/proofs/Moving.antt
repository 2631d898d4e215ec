-- The set moved inside the area: one state of the frontier set aside (`aside-turn`), nothing marked when all are (`aside-blank`), and the
-- next frontier gathered. `advanced` puts one line together, `left-turn` and `left-none` a chain, `begun` and `verdict` are its start and end.
use mathlib.Core.Path.{◌≡◌, refl, sym, ap, ◌∙◌, subst}
use mathlib.Core.Bool.{Bool, true, false, and-eq-true_iff}
use mathlib.Core.List.{List, [], ◌∷◌, ◌++◌}
use mathlib.Core.Logic.{⊎_elim}
use Prim.Native.Nat.{ℕ, suc, ◌+◌, ◌<◌, ◌≤◌}
use native.Mathlib.Numerals.{add-one}
use native.Mathlib.Omega.{arith}
use lib.Dec.{ltb}
use lib.ListN.{length, get_or, set, take, drop, replicate, length-set, length-drop}
use lib.Seq.{take-set-le, drop-set-lt, get_or-drop, get_or-take, take-suc, take-take, drop-cons, drop-length}
use borrow.Author.Tests.{ltb-true}
use Rattle.lists.specs.Listed.{◌∈◌}
use Rattle.positions.specs.Program.{members}
use Rattle.request.specs.declared.Plan.{Plan}
use Rattle.graph.specs.Plain.{flat, memb}
use Rattle.graph.proofs.Sets.{in-memb}
use Rattle.meaning.specs.Chain.{exist}
use Rattle.search.specs.Check.{moved}
use Rattle.search.proofs.Check.{moved-members}
use Rattle.search.specs.Along.{goal, starting}
use Rattle.graph.specs.Loops.{loop, turns}
use Rattle.graph.proofs.Loops.{loop-append, loop-flat, loop-same}
use Rattle.graph.specs.Table.{Search, blank, push}
use Rattle.area.specs.Area.{stretch, found, outside, Outside, Ready, Step, Under}
use Rattle.search.specs.Product.{Setting, succs}
use Rattle.search.specs.Loaded.{setting_in}
use Rattle.search.specs.Moves.{visit, onward}
use Rattle.search.proofs.Moves.{push-law}
use Rattle.forward.specs.Firsts.{first_states}
use Rattle.states.specs.Spots.{front, Fit, next_turn}
use Rattle.area.proofs.Stretches.{stretch-none, stretch-get, stretch-set, stretch-below, stretch-above, stretch-push}
use Rattle.area.proofs.Changes.{blank-good, under-front, ready-state, ready-long, cleared, step-cleared}
use Rattle.checker.specs.Walk.{seeded, stepped, walked, marks, Alive, Advanced, frontier_at, frontier, aside_of, wiped, Aside, Listed, list_turn, Within}
use Rattle.checker.proofs.Sets.{seeded-wiped, step-low, walked-marks, memb-not}
use Rattle.checker.proofs.Steps.{succs-low, begin-seeded, begins-are, begins-low, goal-low}

-- ---- the frontier set aside

wiped-end : (q : List ℕ) (x : ℕ) (D : List ℕ) → wiped (q ++ (x ∷ [])) D ≡ set (wiped q D) x 0
unfolding wiped loop
wiped-end q x D = loop-append (λ s D. set D s 0) q (x ∷ []) D

-- a stretch with the word after it
stretch-more : (b n : ℕ) (w : List ℕ) → b + n < length w → stretch b (n + 1) w ≡ stretch b n w ++ (get_or w (b + n) 0 ∷ [])
unfolding stretch
stretch-more b n w h =
    let long : n < length (drop b w) = simp length-drop (omega arith) in
    ap (λ k. take k (drop b w)) (add-one n) ∙ (take-suc (drop b w) n 0 long ∙ ap (λ x. take n (drop b w) ++ (x ∷ [])) (get_or-drop b w n 0))

module _ {plan : Plan} {w : List ℕ} (room : marks plan + plan.size + plan.size ≤ length w) where
  pub aside_none : Aside plan 0 w w
  unfolding wiped loop
  aside_none = record {
    front = refl;
    listed = stretch-none plan.base w ∙ sym (stretch-none (marks plan + plan.size) w);
    unmarked = ap (λ q. wiped q (stretch (marks plan) plan.size w)) (sym (stretch-none (marks plan + plan.size) w));
    kept = refl;
    long = refl;
  }

  module _ {v : List ℕ} {i : ℕ} (a : Aside plan i w v) (less : i < plan.size) where
    -- the frontier is read as it was
    pub aside-at : frontier_at plan v i ≡ frontier_at plan w i
    aside-at =
        let b = marks plan + plan.size in
        sym (get_or-drop b v i 0) ∙ (ap (λ l. get_or l i 0) a.kept ∙ get_or-drop b w i 0)

    pub aside-turn : plan.marks ≡ plan.base + plan.size → frontier_at plan w i < plan.size → Aside plan (i + 1) w (aside_of plan i v)
    unfolding aside_of
    aside-turn at low =
        let s = frontier_at plan v i in
        let u = set v (plan.base + i) s in
        let m = marks plan in
        let s-low : s < plan.size = omega (arith, low, aside-at) in
        let next : frontier plan (i + 1) w ≡ frontier plan i w ++ (s ∷ []) =
        stretch-more (m + plan.size) i w (omega arith) ∙ ap (λ x. frontier plan i w ++ (x ∷ [])) (sym aside-at) in
        record {
          front = take-set-le plan.base u (m + s) 0 (omega arith) ∙ (take-set-le plan.base v (plan.base + i) s (omega arith) ∙ a.front);
          listed =
              stretch-above plan.base (i + 1) u (m + s) 0 (omega arith)
              ∙ (stretch-push plan.base i v s (omega (arith, a.long)) ∙ (ap (◌++ (s ∷ [])) a.listed ∙ sym next));
          unmarked =
              stretch-set m plan.size u s 0 s-low
              ∙ (ap (λ D. set D s 0) (stretch-below m plan.size v (plan.base + i) s (omega arith) ∙ a.unmarked)
              ∙ (sym (wiped-end (frontier plan i w) s (stretch m plan.size w)) ∙ ap (λ q. wiped q (stretch m plan.size w)) (sym next)));
          kept = drop-set-lt (m + plan.size) u (m + s) 0 (omega arith) ∙ (drop-set-lt (m + plan.size) v (plan.base + i) s (omega arith) ∙ a.kept);
          long = length-set u (m + s) 0 ∙ (length-set v (plan.base + i) s ∙ a.long);
        }

-- the states of a list that the pair held are all in its queue: nothing is marked when they are set aside
module _ {plan : Plan} {t : ℕ} {w v : List ℕ} (alive : Alive plan t w) (a : Aside plan t w v) where
  aside-marks : stretch (marks plan) plan.size v ≡ replicate plan.size 0
  unfolding found
  aside-marks =
      a.unmarked
      ∙ (ap (λ (st : Search). wiped st.queue st.dist) alive.holds ∙ seeded-wiped plan.size alive.states alive.low)

  pub aside-blank : found (marks plan) plan.size 0 v ≡ blank plan.size
  unfolding found blank
  aside-blank = rw (aside-marks, stretch-none (marks plan + plan.size) v)

  pub aside-ready : Ready (marks plan) plan.size 0 v
  aside-ready = record {
    room = omega (arith, a.long, alive.ready.room);
    small = alive.ready.small;
    fits = omega arith;
    good = rw aside-blank (blank-good plan.size);
  }

  -- the list has the states that waited
  aside-list : (j : ℕ) → j < t → get_or v (plan.base + j) 0 ≡ get_or (found (marks plan) plan.size t w).queue j 0
  unfolding found
  aside-list j h = sym (stretch-get plan.base t v j h) ∙ ap (λ l. get_or l j 0) a.listed

  pub aside-listed : Listed plan t v
  unfolding found
  aside-listed j h = subst (◌< plan.size) (sym (aside-list j h ∙ stretch-get (marks plan + plan.size) t w j h)) (ready-state alive.ready j h)

-- ---- the next frontier

-- a step in the pair leaves the words before it
pub step-front : (plan : Plan) → plan.marks ≡ plan.base + plan.size → {f : Search → Search} {t : ℕ} {w : List ℕ} {u : ℕ} {v : List ℕ} → Step (marks plan) plan.size f t w u v → take plan.base v ≡ take plan.base w
unfolding outside
step-front plan at {w = w} {v = v} s =
    sym (take-take plan.base (marks plan) v (omega arith)) ∙ (ap (λ (o : Outside). take plan.base o.front) s.same ∙ take-take plan.base (marks plan) w (omega arith))

-- a loop in the pair leaves the words before it
pub front-word : {base size : ℕ} {F : Search → Search} {t₀ : ℕ} {w₀ : List ℕ} {G : Search → Search} {t : ℕ} (w : List ℕ)
    → Under base size F t₀ w₀ G t w → (n : ℕ) → n < base → get_or w n 0 ≡ get_or w₀ n 0
front-word {base} {w₀ = w₀} w u n h =
    sym (get_or-take base w n 0 h) ∙ (ap (λ l. get_or l n 0) (under-front u base (omega arith)) ∙ get_or-take base w₀ n 0 h)

-- a loop over a list's numbers is a loop over the list
turns-list : (f : ℕ → Search → Search) (g : ℕ → ℕ) (q : List ℕ) (k : ℕ) → ((j : ℕ) → j < length q → g (k + j) ≡ get_or q j 0)
    → (st : Search) → turns (λ j. f (g j)) k (length q) st ≡ loop f q st
unfolding turns loop
turns-list f g [] k e st = refl
turns-list f g (x ∷ q) k e st =
    let here : g k ≡ x = ap g (omega arith) ∙ e 0 (omega arith) in
    turns-list f g q (suc k) (λ j h. ap g (omega arith) ∙ e (suc j) (omega arith)) (f (g k) st) ∙ ap (λ y. loop f q (f y st)) here

module _ {plan : Plan} {program : List ℕ} {w : List ℕ} (fit : Fit plan program w) {t : ℕ} {v : List ℕ} (alive : Alive plan t w) (a : Aside plan t w v) (i : ℕ) where
  abbrev next : ℕ → ℕ → List ℕ
  next = succs (setting_in program plan (front plan w))

  gathered : turns (list_turn (setting_in program plan (front plan v)) plan v i) 0 t (blank plan.size) ≡ stepped next plan.size i (found (marks plan) plan.size t w)
  unfolding stepped seeded list_turn
  gathered =
      let q = (found (marks plan) plan.size t w).queue in
      let S = setting_in program plan (front plan w) in
      let D = stretch plan.base plan.size v in
      let one : Setting → ℕ → Search → Search = λ S s. onward S (visit D 0) i s in
      ap (λ g. turns (λ j. one (setting_in program plan g) (get_or v (plan.base + j) 0)) 0 t (blank plan.size)) a.front
      ∙ (ap (λ n. turns (λ j. one S (get_or v (plan.base + j) 0)) 0 n (blank plan.size)) (sym (ready-long alive.ready))
      ∙ (turns-list (one S) (λ j. get_or v (plan.base + j) 0) q 0 (λ j h. ap (λ k. get_or v (plan.base + k) 0) (omega arith) ∙ aside-list alive a j (subst (j <◌) (ready-long alive.ready) h)) (blank plan.size)
      ∙ (loop-same (one S) (λ s. loop (push 1) (next s i)) (λ s st. push-law S D i s st) q (blank plan.size)
      ∙ sym (loop-flat (push 1) (λ s. next s i) q (blank plan.size)))))

  pub advanced : {r : ℕ} {u : List ℕ} → i < plan.lines → Step (marks plan) plan.size (turns (list_turn (setting_in program plan (front plan v)) plan v i) 0 t) 0 v r u
      → Advanced plan (stepped next plan.size i) t w r u
  unfolding stepped outside
  advanced {r} {u} h s =
      let now : found (marks plan) plan.size r u ≡ stepped next plan.size i (found (marks plan) plan.size t w) =
      s.now-found ∙ (ap (turns (list_turn (setting_in program plan (front plan v)) plan v i) 0 t) (aside-blank alive a) ∙ gathered) in
      record {
        now-found = now;
        front = step-front plan fit.laid.marks-at s ∙ a.front;
        long = s.long ∙ a.long;
        alive = record {
          ready = s.ready;
          states = flat (λ s. next s i) (found (marks plan) plan.size t w).queue;
          low = step-low next plan.size plan.lines (succs-low plan program w fit) i h (found (marks plan) plan.size t w).queue;
          holds = now;
        };
      }

-- ---- a chain, by what is left of it

-- the lines from line i of the chain on are left: to be done from words w with t in the queue
pub record Left (plan : Plan) (next : ℕ → ℕ → List ℕ) (c : List ℕ) (t₀ : ℕ) (w₀ : List ℕ) (i t : ℕ) (w : List ℕ) : Type 0 where
  pub rest : walked next plan.size (drop i c) (found (marks plan) plan.size t w) ≡ walked next plan.size c (found (marks plan) plan.size t₀ w₀)
  pub lines : exist plan.lines (drop i c) ≡ true
  pub front : take plan.base w ≡ take plan.base w₀
  pub long : length w ≡ length w₀
  pub alive : Alive plan t w

module _ {plan : Plan} (next : ℕ → ℕ → List ℕ) (c : List ℕ) {t₀ : ℕ} {w₀ : List ℕ} where
  pub left-all : Alive plan t₀ w₀ → exist plan.lines c ≡ true → Left plan next c t₀ w₀ 0 t₀ w₀
  left-all alive e = record { rest = refl; lines = e; front = refl; long = refl; alive = alive }

  module _ (i : ℕ) {t : ℕ} {w : List ℕ} (l : Left plan next c t₀ w₀ i t w) where
    pub left-none : i ≡ length c → Advanced plan (walked next plan.size c) t₀ w₀ t w
    unfolding walked
    left-none e = record {
      now-found = sym (ap (λ k. walked next plan.size k (found (marks plan) plan.size t w)) (ap (λ n. drop n c) e ∙ drop-length c)) ∙ l.rest;
      front = l.front;
      long = l.long;
      alive = l.alive;
    }

    module _ (less : i < length c) where
      abbrev line : ℕ
      line = get_or c i 0

      ahead : drop i c ≡ line ∷ drop (i + 1) c
      ahead = drop-cons c i 0 less ∙ ap (λ n. line ∷ drop n c) (sym (add-one i))

      both : (ltb line plan.lines ≡ true) × (exist plan.lines (drop (i + 1) c) ≡ true)
      unfolding exist
      both = (and-eq-true_iff (ltb line plan.lines) (exist plan.lines (drop (i + 1) c))).0 (sym (ap (exist plan.lines) ahead) ∙ l.lines)

      pub left-line : line < plan.lines
      left-line = ltb-true line plan.lines both.0

      pub left-turn : {u : ℕ} {v : List ℕ} → Advanced plan (stepped next plan.size line) t w u v → Left plan next c t₀ w₀ (i + 1) u v
      unfolding walked
      left-turn a = record {
        rest =
            ap (walked next plan.size (drop (i + 1) c)) a.now-found
            ∙ (sym (ap (λ k. walked next plan.size k (found (marks plan) plan.size t w)) ahead) ∙ l.rest);
        lines = both.1;
        front = a.front ∙ l.front;
        long = a.long ∙ l.long;
        alive = a.alive;
      }

-- ---- the start and the end

module _ (plan : Plan) (program : List ℕ) (w : List ℕ) (fit : Fit plan program w) (begin a : ℕ) (ha : a < plan.places) (within : Within plan begin) where
  abbrev In : Setting
  In = setting_in program plan (front plan w)

  abbrev starts : List ℕ
  starts = first_states plan begin a

  -- the pair of marks and frontier stands in the area
  pub pair : marks plan + plan.size + plan.size ≤ length w
  pair = omega (arith, fit.laid.room, fit.laid.marks-at)

  -- in a pair that was cleared, the positions of the mask are the first set
  pub begun : (D prog : List ℕ) {r : ℕ} {v : List ℕ} → Step (marks plan) plan.size (turns (next_turn plan prog begin (visit D 0) a 0) 0 (plan.done + 1)) 0 (cleared (marks plan) plan.size w pair) r v
      → Advanced plan (λ _. seeded plan.size starts) 0 w r v
  begun D prog {r} {v} first =
      let s = step-cleared (marks plan) plan.size w pair _ r v first in
      let now : found (marks plan) plan.size r v ≡ seeded plan.size starts = s.now-found ∙ begin-seeded plan program w fit begin a ha within D prog in
      record {
        now-found = now;
        front = step-front plan fit.laid.marks-at s;
        long = s.long;
        alive = record { ready = s.ready; states = starts; low = begins-low plan program w fit begin a ha within; holds = now };
      }

  module _ (c : List ℕ) (e : exist plan.lines c ≡ true) (b : ℕ) (hb : b < plan.places) where
    abbrev says : Bool
    says = memb (goal In b) (moved (succs In) (starting In a (members begin)) c)

    -- the end's word says whether the chain moves there
    pub verdict : (st : Search) → st ≡ walked (succs In) plan.size c (seeded plan.size starts)
        → (get_or st.dist (goal In b) 0 ≡ 0 → says ≡ false) × ((get_or st.dist (goal In b) 0 ≡ 0 → ⊥) → says ≡ true)
    verdict st is =
        let same = begins-are plan program w fit begin a ha within in
        let m = moved-members (succs In) c starts (starting In a (members begin)) (λ s. (subst (s ∈◌) same, subst (s ∈◌) (sym same))) (goal In b) in
        ⊎_elim
        (λ z. (λ _. memb-not (λ k. z.1 (m.1 k)), λ n. absurd (n (ap (λ (st : Search). get_or st.dist (goal In b) 0) is ∙ z.0))))
        (λ z. (λ n. absurd (z.0 (sym (ap (λ (st : Search). get_or st.dist (goal In b) 0) is) ∙ n)), λ _. in-memb (goal In b) _ (m.0 z.1)))
        (walked-marks (succs In) plan.size plan.lines (succs-low plan program w fit) c starts (begins-low plan program w fit begin a ha within) e (goal In b) (goal-low plan program w fit b hb))
