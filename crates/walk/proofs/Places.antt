-- Phase two by place: what phase two goes by stays while it searches (`leading-under`), the next frontier stands at one place (`try-together`),
-- so does the first one (`first-together`), and the lines from the frontier's place, word by word, are tried instead of all lines (`here-all`).
use mathlib.Core.Path.{◌≡◌, refl, sym, ap, ◌∙◌, subst}
use mathlib.Core.Bool.{true, false}
use mathlib.Core.List.Memᴰ
use mathlib.Core.List.{List, ◌∷◌, map, map-id}
use Prim.Native.Nat.{ℕ, suc, ◌+◌, ◌*◌, ◌-◌, ◌/◌, ◌<◌, ◌≤◌}
use native.Mathlib.Numerals.{add-one}
use native.Mathlib.Omega.{arith}
use lib.Arith.{digits_div}
use lib.Dec.{eqb}
use lib.ListN.{length, get_or, take, drop}
use lib.Seq.{drop-cons, get_or-drop, take-take}
use borrow.Author.Tests.{eq-eqb, ne_eqb, leb-true}
use Rattle.meaning.specs.Record.{Line}
use Rattle.lists.specs.Listed.{◌∈◌, get_or-in}
use Rattle.positions.specs.Program.{bit_of, node_in}
use Rattle.request.specs.Layout.{Laid, ordered_end}
use Rattle.request.specs.declared.Plan.{Plan}
use Rattle.graph.specs.Plain.{filt, count}
use Rattle.graph.proofs.Sets.{filt-in, count-in}
use Rattle.search.proofs.Same.{filt-same}
use Rattle.graph.specs.Loops.{loop}
use Rattle.graph.specs.Table.{Search, blank}
use Rattle.graph.specs.PhaseTwo.{Tried, put, gather, try}
use Rattle.search.specs.Product.{Setting, stacks, place_of}
use Rattle.search.specs.Loaded.{setting_in}
use Rattle.search.specs.Moves.{from_state}
use Rattle.search.specs.Front.{state_in}
use Rattle.search.proofs.Front.{line-at}
use Rattle.search.proofs.ByPlace.{try_list, list-next, list-here, Stand, comes_from, try-place, try-stand, put-stand}
use Rattle.area.specs.Area.{stretch, found, Ready, Step, Under}
use Rattle.states.specs.Spots.{front, Starts, Fit}
use Rattle.states.proofs.Bounds.{stacks-pos}
use Rattle.area.proofs.Changes.{under-front, under_back, ready-long}
use Rattle.area.proofs.Stretches.{stretch-get, stretch-length, stretch-take}
use Rattle.sorted.specs.Sorting.{keys, key_in, pack_in, having, table_end, Run, Keyed}
use Rattle.sorted.specs.Runs.{sorted-same}
use Rattle.sorted.specs.declared.Order.TheVariants as Order
use Rattle.forward.specs.Firsts.{first_states}
use Rattle.walk.specs.Chosen.{try_table}
use Rattle.walk.specs.Leading.{Ordered, Leading, place_at, Standing, Together, leads}
use Rattle.states.proofs.Bounds.{fit_same}

-- ---- the tables stay

pub leading-under : {plan : Plan} {a : List ℕ} {F : Search → Search} {t₀ : ℕ} {w₀ : List ℕ} {G : Search → Search} {t : ℕ} {w : List ℕ}
    → Under plan.marks plan.size F t₀ w₀ G t w → Leading plan a w₀ → Leading plan a w
leading-under {plan} {w₀ = w₀} {t = t} {w = w} u h =
    let l = h.fit.laid in
    let f = under-front u plan.base (omega (arith, l.marks-at)) in
    record {
      fit = fit_same u.long f h.fit;
      ordered = λ room. sorted-same Order.Start plan plan.bystart w₀ w (h.ordered room) f (under_back u plan.bystart (omega (arith, u.ready.fits, l.marks-at, l.starts-at)));
    }

-- the lines put in order: no word before them changes
module _ {plan : Plan} {area : ℕ} (laid : Laid plan area) (w v : List ℕ) (before : take plan.bystart v ≡ take plan.bystart w) where
  pub ordered-front : front plan v ≡ front plan w
  ordered-front = let low = laid.starts-at in sym (take-take plan.base plan.bystart v (omega arith)) ∙ (ap (take plan.base) before ∙ take-take plan.base plan.bystart w (omega arith))

  pub ordered-dist : plan.bystart ≤ length w → plan.bystart ≤ length v → stretch plan.base plan.size v ≡ stretch plan.base plan.size w
  ordered-dist hw hv =
      let low = laid.starts-at in
      sym (stretch-take plan.bystart plan.base plan.size v (omega arith) hv)
      ∙ (ap (stretch plan.base plan.size) before ∙ stretch-take plan.bystart plan.base plan.size w (omega arith) hw)

  pub ordered-leading : {a : List ℕ} → length v ≡ length w → Ordered plan v → Fit plan a w → Leading plan a v
  ordered-leading long ordered fit = record { fit = fit_same long ordered-front fit; ordered = ordered }

-- ---- the place of a state, by the plan's numbers and by the setting

place_in : {plan : Plan} {area : ℕ} → Laid plan area → (a : List ℕ) (g : List ℕ) (s : ℕ) → place_at plan s ≡ place_of (setting_in a plan g) s
unfolding setting_in place_of stacks
place_in {plan} l a g s = λ t. s / l.stacks-is t / add-one plan.done t

module _ {plan : Plan} {a : List ℕ} {w : List ℕ} (f : Fit plan a w) (g : List ℕ) where
  abbrev S : Setting
  S = setting_in a plan g

  to-stand : {q lo tail : ℕ} {v : List ℕ} → Ready plan.marks plan.size tail v → Standing plan q lo tail v
      → Stand S q lo (found plan.marks plan.size tail v).queue
  to-stand r stand j le less = sym (place_in f.laid a g _) ∙ stand j le (omega (arith, less, ready-long r))

  of-stand : {q lo tail : ℕ} {v : List ℕ} → Ready plan.marks plan.size tail v
      → Stand S q lo (found plan.marks plan.size tail v).queue → Standing plan q lo tail v
  of-stand r stand j le less = place_in f.laid a g _ ∙ stand j le (omega (arith, less, ready-long r))

  -- the setting's stacks are no deeper than the keeps
  some-radix : 0 < S.radix
  unfolding setting_in
  some-radix = f.laid.some-radix

  shallow : (k : ℕ) → k ≤ S.done → (S.node k).depth ≤ S.deepest
  unfolding setting_in node_in
  shallow = f.depths-low

  -- ---- the frontiers

  -- the line chosen leads to one place
  pub try-together : (D : List ℕ) (want lo n : ℕ) {t u : ℕ} {w₀ v : List ℕ} → Ready plan.marks plan.size t w₀
      → Step plan.marks plan.size (try_table (from_state S D) want lo n 0) t w₀ u v → Together plan t u v
  unfolding try_table
  try-together D want lo n {t} {u} {w₀} {v} r step =
      let (q, stand) = try-stand S some-radix shallow D want lo n 0 (found plan.marks plan.size t w₀) in
      let own = subst (λ (x : ℕ). Stand S q x (found plan.marks plan.size u v).queue) (ready-long r)
      (subst (λ (x : Search). Stand S q (length (found plan.marks plan.size t w₀).queue) x.queue) (sym step.now-found) stand) in
      (q, of-stand step.ready own)

  -- the first states are at one place
  first-place : (mask q t : ℕ) → t ∈ first_states plan mask q → place_of S t ≡ q
  unfolding first_states
  first-place mask q t m =
      let (k, y, is) = Memᴰ.of_map (λ k. state_in plan q k 0) (filt (λ k. eqb (bit_of mask k) 1) (count 0 (plan.done + 1))) m in
      let low = ((count-in 0 (plan.done + 1) k).0 ((filt-in (λ k. eqb (bit_of mask k) 1) (count 0 (plan.done + 1)) k).0 y).0).1 in
      let at : state_in plan q k 0 / plan.stacks ≡ q * (plan.done + 1) + k = digits_div (q * (plan.done + 1) + k) (stacks-pos f.laid) in
      let less : k < plan.done + 1 = omega (arith, low) in
      sym (place_in f.laid a g t) ∙ (ap (place_at plan) (sym is) ∙ (ap (◌/ (plan.done + 1)) at ∙ digits_div q less))

  pub first-together : (D : List ℕ) (want mask q n : ℕ) {u : ℕ} {v : List ℕ} → Ready plan.marks plan.size u v
      → found plan.marks plan.size u v ≡ loop (put D want) (first_states plan mask q) (blank n) → Together plan 0 u v
  unfolding blank
  first-together D want mask q n {u} {v} r is =
      let stand = put-stand S some-radix shallow D want q (first_states plan mask q) (blank n) refl (first-place mask q) in
      (q, of-stand r (subst (λ (x : Search). Stand S q 0 x.queue) (sym is) stand))

  -- ---- the lines from a place

  having-is : (q : ℕ) → having Order.Start plan g q ≡ filt (comes_from S q) (count 0 plan.lines)
  unfolding key_in setting_in
  having-is q = filt-same (λ i. eqb (key_in Order.Start plan g i) q) (comes_from S q) (count 0 plan.lines)
      (λ i m. ap (λ (l : Line). eqb l.from q) (sym (line-at plan g i (omega (arith, ((count-in 0 plan.lines i).0 m).1)))))

packed : (plan : Plan) (g xs : List ℕ) → map (pack_in Order.Start plan g) xs ≡ xs
unfolding pack_in
packed plan g xs = map-id xs

-- a place is a key, and every line has one
pub start-keys : (plan : Plan) {q : ℕ} → q < plan.places → q < keys Order.Start plan
unfolding keys
start-keys plan h = h

pub start-keyed : {plan : Plan} (w : List ℕ) → Laid plan (length w) → Starts plan (front plan w) → Keyed Order.Start plan w
unfolding keys key_in pack_in
start-keyed w laid starts i h = (starts i h, omega (arith, h, laid.few-lines))

-- where the plan has room for them, the table ends in the area
pub start-room : {plan : Plan} {area : ℕ} → Laid plan area → plan.ordered ≡ true → table_end Order.Start plan ≤ area
unfolding keys
start-room {plan} {area} laid room = let fits = leb-true (ordered_end plan) area (sym laid.ordered-is ∙ room) in omega (arith, fits)

-- ---- the words lo up to hi of the area are the lines from the place of the frontier

pub record Here (plan : Plan) (lo hi : ℕ) (w : List ℕ) : Type 0 where
  pub after : plan.bystart ≤ lo
  pub within : hi ≤ length w
  pub lines-low : (k : ℕ) → lo ≤ k → k < hi → get_or w k 0 < plan.lines

module _ {plan : Plan} {q : ℕ} {w : List ℕ} (room : table_end Order.Start plan ≤ length w) (run : Run Order.Start plan plan.bystart w q) (lo hi : ℕ)
    (el : lo ≡ get_or w (plan.bystart + q) 0) (eh : hi ≡ get_or w (plan.bystart + suc q) 0) where
  run-has : stretch lo (hi - lo) w ≡ having Order.Start plan (front plan w) q
  run-has = (λ t. stretch (el t) (eh t - el t) w) ∙ (run.has ∙ packed plan (front plan w) (having Order.Start plan (front plan w) q))

  pub here_of : Here plan lo hi w
  here_of =
      let high : hi ≤ length w = omega (arith, eh, run.high, room) in
      record {
        after = omega (arith, el, run.low);
        within = high;
        lines-low = λ k le less.
            let sum : lo + (k - lo) ≡ k = omega arith in
            let xs = stretch lo (hi - lo) w in
            let long : length xs ≡ hi - lo = stretch-length lo (hi - lo) w (omega (arith, high)) in
            let inside : get_or xs (k - lo) 0 ∈ having Order.Start plan (front plan w) q = subst (get_or xs (k - lo) 0 ∈◌) run-has (get_or-in xs (k - lo) 0 (omega (arith, long))) in
            let is : get_or xs (k - lo) 0 ≡ get_or w k 0 = stretch-get lo (hi - lo) w (k - lo) (omega arith) ∙ ap (λ j. get_or w j 0) sum in
            let low = ((count-in 0 plan.lines (get_or xs (k - lo) 0)).0 ((filt-in (λ i. eqb (key_in Order.Start plan (front plan w) i) q) (count 0 plan.lines) (get_or xs (k - lo) 0)).0 inside).0).1 in
            omega (arith, low, is);
      }

  -- they are tried instead of all lines
  pub here-all : {a : List ℕ} (f : Fit plan a w) (want from tail : ℕ) → Ready plan.marks plan.size tail w → Standing plan q from tail w
      → try_list (leads a plan w) want from plan.lines (stretch lo (hi - lo) w) (found plan.marks plan.size tail w)
      ≡ try (leads a plan w) want from plan.lines 0 (found plan.marks plan.size tail w)
  here-all {a} f want from tail r stand =
      let st = found plan.marks plan.size tail w in
      let D = stretch plan.base plan.size w in
      sym (try-place (setting_in a plan (front plan w)) D want from plan.lines q st (to-stand f (front plan w) r stand)
      ∙ ap (λ ls. try_list (leads a plan w) want from plan.lines ls st) (sym (run-has ∙ having-is f (front plan w) q)))

-- the words of the lines stay
pub here-same : {plan : Plan} {area : ℕ} → Laid plan area → {F : Search → Search} {t₀ : ℕ} {w₀ : List ℕ} {G : Search → Search} {t : ℕ} {w : List ℕ}
    → Under plan.marks plan.size F t₀ w₀ G t w → (k : ℕ) → plan.bystart ≤ k → get_or w k 0 ≡ get_or w₀ k 0
here-same {plan} laid {w₀ = w₀} {w = w} u k le =
    let at = plan.bystart in
    let sum : at + (k - at) ≡ k = omega arith in
    let read : (x : List ℕ) → get_or x k 0 ≡ get_or (drop at x) (k - at) 0 = λ x. ap (λ j. get_or x j 0) (sym sum) ∙ sym (get_or-drop at x (k - at) 0) in
    read w ∙ (ap (λ x. get_or x (k - at) 0) (under_back u at (omega (arith, u.ready.fits, laid.marks-at, laid.starts-at))) ∙ sym (read w₀))

-- ---- the lines of a list, tried one after the other

-- the table after a line of the list is chosen
unfoldable pub list_table : (ℕ → ℕ → ℕ → Search → Search) → ℕ → ℕ → ℕ → List ℕ → Search → Search
list_table E w lo m ls st = (try_list E w lo m ls st).table

pub listed-table : (E : ℕ → ℕ → ℕ → Search → Search) (w lo m : ℕ) (ls : List ℕ) (st : Search) (x : Tried) → try_list E w lo m ls st ≡ x → list_table E w lo m ls st ≡ x.table
unfolding list_table
listed-table E w lo m ls st x e = ap (λ (y : Tried). y.table) e

-- what is tried over a list and over all lines is the same: so are the tables
pub listed_same : (E : ℕ → ℕ → ℕ → Search → Search) (w lo m n : ℕ) (ls : List ℕ) (st : Search) → try_list E w lo m ls st ≡ try E w lo n 0 st
    → list_table E w lo m ls st ≡ try_table E w lo n 0 st
unfolding list_table try_table
listed_same E w lo m n ls st e = ap (λ (y : Tried). y.table) e

-- the words k up to n as lines: none is left, or line i stands at k
pub listed-none : (E : ℕ → ℕ → ℕ → Search → Search) (w lo m k n : ℕ) (words : List ℕ) (st : Search) → n ≤ k
    → try_list E w lo m (stretch k (n - k) words) st ≡ record { line = m; table = st }
unfolding try_list stretch
listed-none E w lo m k n words st h = let e : n - k ≡ 0 = omega arith in rw e

module _ (E : ℕ → ℕ → ℕ → Search → Search) (w lo m k n i : ℕ) (words : List ℕ) (st st' : Search) (less : k < n) (fits : n ≤ length words)
    (at : i ≡ get_or words k 0) (is : st' ≡ gather E w i lo st) where
  abbrev rest : List ℕ
  rest = stretch (k + 1) (n - (k + 1)) words

  list-cons : stretch k (n - k) words ≡ i ∷ rest
  unfolding stretch
  list-cons =
      let left : n - k ≡ suc (n - (k + 1)) = omega arith in
      let more : k + 1 ≡ suc k = omega arith in
      rw (left, drop-cons words k 0 (omega arith), ← at, more)

  -- nothing is gathered: the next line of the list is tried
  pub listed_next : length st'.queue ≡ length st.queue
      → try_list E w lo m (stretch (k + 1) (n - (k + 1)) words) st' ≡ try_list E w lo m (stretch k (n - k) words) st
  listed_next e =
      let same : eqb (length (gather E w i lo st).queue) (length st.queue) ≡ true = eq-eqb _ _ (ap (λ (x : Search). length x.queue) (sym is) ∙ e) in
      rw (list-cons, is) (sym (list-next E w lo m i rest st same))

  pub listed-next-table : length st'.queue ≡ length st.queue
      → list_table E w lo m (stretch (k + 1) (n - (k + 1)) words) (gather E w i lo st) ≡ list_table E w lo m (stretch k (n - k) words) st
  unfolding list_table
  listed-next-table e =
      ap (λ (x : Search). (try_list E w lo m (stretch (k + 1) (n - (k + 1)) words) x).table) (sym is) ∙ ap (λ (y : Tried). y.table) (listed_next e)

  -- something is: this line it is
  pub listed_here : (length st'.queue ≡ length st.queue → ⊥) → try_list E w lo m (stretch k (n - k) words) st ≡ record { line = i; table = st' }
  listed_here ne =
      let other : eqb (length (gather E w i lo st).queue) (length st.queue) ≡ false = ne_eqb _ _ (λ e. ne (ap (λ (x : Search). length x.queue) is ∙ e)) in
      rw (list-cons, is) (list-here E w lo m i rest st other)
