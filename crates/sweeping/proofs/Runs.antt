-- The lines that come from a state's place, as they stand in order after the marks, and how far a state has looked through them for its least line.
-- Claimed: no other line leads from the state (`looking-start`), a line that leads nowhere is passed over (`led-next`), and where one leads, a
-- higher one than the line noted is met or none is left, the state has found what `lead` finds (`led-here`, `led-high`, `led-end`).
use mathlib.Core.Path.{◌≡◌, refl, sym, ap, ◌∙◌, subst}
use mathlib.Core.Bool.{Bool, true, false, cond, ◌&&◌, and-eq-true_iff}
use mathlib.Core.List.Memᴰ
use mathlib.Core.List.{List, [], ◌∷◌, map-id}
use mathlib.Core.Logic.{⊎_elim}
use Prim.Native.Nat.{ℕ, zero, suc, ◌+◌, ◌-◌, ◌/◌, ◌<◌, ◌≤◌}
use native.Mathlib.Numerals.{add-one}
use native.Mathlib.Omega.{arith}
use lib.Dec.{eqb, ltb, leb}
use lib.ListN.{length, get_or}
use borrow.Author.Tests.{eqb-true, eq-eqb, ltb-true, leb-true, lt-ltb, le-leb}
use Rattle.meaning.specs.Record.{Line}
use Rattle.meaning.specs.Writing.{line_at}
use Rattle.lists.specs.Listed.{◌∈◌, none_in, get_or-in, when-sound}
use Rattle.request.specs.Layout.{Laid, from_in}
use Rattle.request.specs.declared.Plan.{Plan}
use Rattle.graph.specs.Plain.{filt, count}
use Rattle.graph.proofs.Sets.{filt-in, count-in}
use Rattle.graph.specs.Sweep.{Noted, marked, ahead, least, lead}
use Rattle.graph.proofs.Sweep.{Leads, ahead_in, least-spec}
use Rattle.search.proofs.Front.{line-at}
use Rattle.search.specs.Loaded.{word_at, setting_in}
use Rattle.search.specs.Moves.{onward}
use Rattle.search.specs.Product.{Setting, stacks, place_of, pos_of, stack_of, takes, succs}
use Rattle.area.specs.Area.{stretch}
use Rattle.area.proofs.Stretches.{stretch-get, stretch-length}
use Rattle.states.specs.Pairs.{distances}
use Rattle.states.specs.Spots.{front}
use Rattle.sorted.specs.Sorting.{keys, key_in, pack_in, having, Run}
use Rattle.sorted.specs.declared.Order.TheVariants as Order
use Rattle.sweeping.specs.Sweeping.{index_at, Ordered, marks_in, mark_turn, Marked, noted_in, LedOn}
use Rattle.sweeping.proofs.Marks.{only_none}
use Rattle.sweeping.proofs.Led.{line-none, line-led}

-- ---- lists of numbers that pass a test, in order

-- every member stands somewhere
member-at : (l : List ℕ) (x : ℕ) → x ∈ l → (i : ℕ) × (i < length l) × (get_or l i 0 ≡ x)
member-at [] x m = none_in m
member-at (y ∷ l) x m = ⊎_elim
    (λ (e : x ≡ y). (0, omega arith, sym e))
    (λ n. let (i, less, is) = member-at l x n in (suc i, omega (arith, less), is))
    (Memᴰ.cases_cons m)

-- no number is below one before it
filt-rising : (p : ℕ → Bool) (a n i j : ℕ) → i ≤ j → j < length (filt p (count a n)) → get_or (filt p (count a n)) i 0 ≤ get_or (filt p (count a n)) j 0
unfolding filt count
filt-rising p a zero i j le less = absurd (omega (arith, less))
filt-rising p a (suc n) i j le less = go (p a) (filt-rising p (suc a) n) i j le less
  where
    rest : List ℕ
    rest = filt p (count (suc a) n)

    above : (j : ℕ) → j < length rest → a ≤ get_or rest j 0
    above j less = let low = ((count-in (suc a) n (get_or rest j 0)).0 ((filt-in p (count (suc a) n) (get_or rest j 0)).0 (get_or-in rest j 0 less)).0).0 in omega (arith, low)

    own : Bool → List ℕ
    own b = elim b [ true ↦ a ∷ rest | false ↦ rest ]

    go : (b : Bool) → ((i j : ℕ) → i ≤ j → j < length rest → get_or rest i 0 ≤ get_or rest j 0) → (i j : ℕ) → i ≤ j → j < length (own b) → get_or (own b) i 0 ≤ get_or (own b) j 0
    go false ih i j le less = ih i j le less
    go true ih zero zero le less = omega arith
    go true ih zero (suc j) le less = above j (omega (arith, less))
    go true ih (suc i) zero le less = absurd (omega arith)
    go true ih (suc i) (suc j) le less = ih i j (omega arith) (omega (arith, less))

-- ---- the words lo up to hi of the area are the lines from the place q

pub record Lined (plan : Plan) (q lo hi : ℕ) (w : List ℕ) : Type 0 where
  pub within : hi ≤ length w
  pub lines-low : (k : ℕ) → lo ≤ k → k < hi → get_or w k 0 < plan.lines
  pub rising : (k p : ℕ) → lo ≤ k → k ≤ p → p < hi → get_or w k 0 ≤ get_or w p 0
  pub all : (j : ℕ) → j < plan.lines → from_in (word_at plan (front plan w) j) ≡ q → (p : ℕ) × (lo ≤ p) × (p < hi) × (get_or w p 0 ≡ j)

-- the word read at k, in words that are still the same, is a line
pub line-read : {plan : Plan} {q lo hi : ℕ} {w v : List ℕ} → Lined plan q lo hi w → (k x : ℕ) → lo ≤ k → k < hi → v ≡ w → x ≡ get_or v k 0 → (x ≡ get_or w k 0) × (x < plan.lines)
line-read {w = w} lined k x le less same e = let is : x ≡ get_or w k 0 = e ∙ ap (λ l. get_or l k 0) same in (is, omega (arith, is, lined.lines-low k le less))

-- a place is a key
pub start-keys : (plan : Plan) {q : ℕ} → q < plan.places → q < keys Order.Start plan
unfolding keys
start-keys plan h = h

module _ {plan : Plan} {q : ℕ} {w : List ℕ} (o : Ordered plan w) (low : q < plan.places) (lo hi : ℕ) (el : lo ≡ get_or w (index_at plan + q) 0) (eh : hi ≡ get_or w (index_at plan + suc q) 0) where
  abbrev g : List ℕ
  g = front plan w

  abbrev xs : List ℕ
  xs = having Order.Start plan g q

  run : Run Order.Start plan (index_at plan) w q
  run = o.sorted q (start-keys plan low)

  run-has : stretch lo (hi - lo) w ≡ xs
  unfolding pack_in
  run-has = (λ t. stretch (el t) (eh t - el t) w) ∙ (run.has ∙ map-id xs)

  high : hi ≤ length w
  high = omega (arith, eh, run.high, o.room)

  rises : lo ≤ hi
  rises = omega (arith, el, eh, run.rising)

  long : length xs ≡ hi - lo
  long = ap length (sym run-has) ∙ stretch-length lo (hi - lo) w (omega (arith, high, rises))

  -- the word at lo + i is the i-th of them
  word-is : (i : ℕ) → i < hi - lo → get_or w (lo + i) 0 ≡ get_or xs i 0
  word-is i less = sym (stretch-get lo (hi - lo) w i less) ∙ ap (λ l. get_or l i 0) run-has

  at-word : (k : ℕ) → lo ≤ k → k < hi → get_or w k 0 ≡ get_or xs (k - lo) 0
  at-word k le less = let sum : lo + (k - lo) ≡ k = omega arith in ap (λ j. get_or w j 0) (sym sum) ∙ word-is (k - lo) (omega arith)

  pub lined-of : Lined plan q lo hi w
  unfolding key_in
  lined-of =
      let test : ℕ → Bool = λ i. eqb (key_in Order.Start plan g i) q in
      record {
        within = high;
        lines-low = λ k le less.
            let inside = ((filt-in test (count 0 plan.lines) (get_or xs (k - lo) 0)).0 (get_or-in xs (k - lo) 0 (omega (arith, long)))).0 in
            omega (arith, ((count-in 0 plan.lines (get_or xs (k - lo) 0)).0 inside).1, at-word k le less);
        rising = λ k p le up less.
            omega (arith, at-word k le (omega arith), at-word p (omega arith) less, filt-rising test 0 plan.lines (k - lo) (p - lo) (omega arith) (omega (arith, long)));
        all = λ j less from.
            let inside : j ∈ xs = (filt-in test (count 0 plan.lines) j).1 ((count-in 0 plan.lines j).1 (omega arith, omega (arith, less)), eq-eqb (from_in (word_at plan g j)) q from) in
            let (i, below, is) = member-at xs j inside in
            (lo + i, omega arith, omega (arith, below, long), word-is i (omega (arith, below, long)) ∙ is);
      }

-- ---- a line that leads from a state comes from its place

module _ {plan : Plan} {area : ℕ} (l : Laid plan area) (a g : List ℕ) (s : ℕ) where
  abbrev S : Setting
  S = setting_in a plan g

  place_in : place_of S s ≡ s / plan.stacks / (plan.done + 1)
  unfolding setting_in place_of stacks
  place_in = sym (λ t. s / l.stacks-is t / add-one plan.done t)

  line-from : (i : ℕ) → i < plan.lines → (line_at S.lines i).from ≡ from_in (word_at plan g i)
  unfolding setting_in
  line-from i less = ap (λ (x : Line). x.from) (line-at plan g i less)

  from_place : (i t : ℕ) → i < plan.lines → t ∈ succs S s i → from_in (word_at plan g i) ≡ s / plan.stacks / (plan.done + 1)
  unfolding succs
  from_place i t less m =
      let b = eqb (line_at S.lines i).from (place_of S s) in
      let both = (when-sound (b && takes S (S.node (pos_of S s)) (stack_of S s) i) m).0 in
      let same = eqb-true (line_at S.lines i).from (place_of S s) ((and-eq-true_iff b (takes S (S.node (pos_of S s)) (stack_of S s) i)).0 both).0 in
      sym (line-from i less) ∙ (same ∙ place_in)

-- ---- what `lead` finds

module _ (D : List ℕ) (next : ℕ → ℕ → List ℕ) (m want s : ℕ) (x : Noted) where
  abbrev first : ℕ
  first = least D next m want s m 0

  -- no line that leads is as low as the one noted
  lead-none : ((j : ℕ) → j < m → Leads D next m want s j → x.line < j) → lead D next m want s x ≡ x
  unfolding lead
  lead-none high = go (ltb first m) (leb first x.line) refl refl
    where
      go : (b c : Bool) → ltb first m ≡ b → leb first x.line ≡ c → cond (ltb first m && leb first x.line) (record { line = first; marks = marked (suc first) (ahead D next m want s first) x.marks }) x ≡ x
      go true true e f =
          let low : first < m = ltb-true first m e in
          absurd (omega (arith, leb-true first x.line f, high first low ((least-spec D next m want s m 0).leads (omega (arith, low)))))
      go true false e f = rw (e, f)
      go false c e f = rw e

  -- line i leads and is as low, and no lower line does
  lead-here : (i : ℕ) → i < m → i ≤ x.line → Leads D next m want s i → ((j : ℕ) → j < m → Leads D next m want s j → i ≤ j)
      → lead D next m want s x ≡ record { line = i; marks = marked (suc i) (ahead D next m want s i) x.marks }
  unfolding lead
  lead-here i less low (t, mt, e) lowest =
      let spec = least-spec D next m want s m 0 in
      let up : first ≤ i = spec.first_of i t (omega arith) mt e in
      let is : first ≡ i = omega (arith, up, lowest first (omega (arith, up, less)) (spec.leads (omega (arith, up, less)))) in
      rw (is, lt-ltb i m less, le-leb i x.line low)

-- ---- how far a state has looked: every line that leads from it stands in the words k up to hi

pub record Looking (plan : Plan) (S : Setting) (want s lo hi : ℕ) (w : List ℕ) (k : ℕ) : Type 0 where
  pub from : lo ≤ k
  pub to : k ≤ hi
  pub left : (j : ℕ) → j < plan.lines → Leads (distances plan w) (succs S) plan.lines want s j → (p : ℕ) × (k ≤ p) × (p < hi) × (get_or w p 0 ≡ j)

-- in the words of its place's lines
pub looking-start : {plan : Plan} {area : ℕ} (l : Laid plan area) (a : List ℕ) {q s lo hi : ℕ} {w : List ℕ} (want : ℕ)
    → Lined plan q lo hi w → q ≡ s / plan.stacks / (plan.done + 1) → lo ≤ hi → Looking plan (setting_in a plan (front plan w)) want s lo hi w lo
looking-start {plan} l a {q} {s} {w = w} want x e rises =
    record { from = omega arith; to = rises; left = λ j less (t, m, f). x.all j less (from_place l a (front plan w) s j t less m ∙ sym e) }

module _ {plan : Plan} {S : Setting} {want s q lo hi : ℕ} {w : List ℕ} {k : ℕ} (x : Lined plan q lo hi w) (v : Looking plan S want s lo hi w k) where
  abbrev D : List ℕ
  D = distances plan w

  -- the line at k leads nowhere
  looking-next : k < hi → (i : ℕ) → i ≡ get_or w k 0 → ahead D (succs S) plan.lines want s i ≡ [] → Looking plan S want s lo hi w (k + 1)
  looking-next less i at none =
      record {
        from = omega (arith, v.from);
        to = omega (arith, less);
        left = λ j low (t, m, e).
            let (p, le, up, is) = v.left j low (t, m, e) in
            let other : p ≡ k → ⊥ = λ same.
            let own : j ≡ i = sym is ∙ (ap (λ n. get_or w n 0) same ∙ sym at) in
            none_in (subst (t ∈◌) none ((ahead_in D (succs S) plan.lines want s i t).1 (subst (λ n. t ∈ succs S s n) own m, e))) in
            (p, omega (arith, other, le), up, is);
      }

  -- no line that leads is below the one at k
  lowest : k < hi → (i : ℕ) → i ≡ get_or w k 0 → (j : ℕ) → j < plan.lines → Leads D (succs S) plan.lines want s j → i ≤ j
  lowest less i at j low leads = let (p, le, up, is) = v.left j low leads in omega (arith, at, is, x.rising k p v.from le up)

  module _ (n : Noted) where
    -- it leads
    looking-here : k < hi → (i : ℕ) → i ≡ get_or w k 0 → i ≤ n.line → (t : ℕ) → t ∈ ahead D (succs S) plan.lines want s i
        → lead D (succs S) plan.lines want s n ≡ record { line = i; marks = marked (suc i) (ahead D (succs S) plan.lines want s i) n.marks }
    looking-here less i at low t m =
        let (to, e) = (ahead_in D (succs S) plan.lines want s i t).0 m in
        let line : i < plan.lines = omega (arith, at, x.lines-low k v.from less) in
        lead-here D (succs S) plan.lines want s n i line low (t, to, e) (lowest less i at)

    -- it is higher than the line noted
    looking-high : k < hi → (i : ℕ) → i ≡ get_or w k 0 → n.line < i → lead D (succs S) plan.lines want s n ≡ n
    looking-high less i at high = lead-none D (succs S) plan.lines want s n (λ j low leads. omega (arith, high, lowest less i at j low leads))

    -- none is left
    looking-end : hi ≤ k → lead D (succs S) plan.lines want s n ≡ n
    looking-end past = lead-none D (succs S) plan.lines want s n (λ j low leads. absurd (let (p, le, up, is) = v.left j low leads in omega arith))

  -- ---- what the line at k marks

  module _ (less : k < hi) (i with : ℕ) (at : i ≡ get_or w k 0) (is : with ≡ suc i) {r : Bool} {u : List ℕ} (m : Marked plan (onward S (mark_turn (distances plan w) want with) i s) false w r u) where
    pub led-next : r ≡ false → (u ≡ w) × Looking plan S want s lo hi w (k + 1)
    led-next f = let (none, same) = line-none want with S i s m f in (same, looking-next less i at none)

    pub led-here : (noted : ℕ) → i ≤ noted → r ≡ true → LedOn plan S s want noted w i u
    led-here noted low f =
        let ((t, inside), marks) = line-led want with S i s m f in
        record {
          now-noted =
              (λ j. record { line = i; marks = (marks ∙ ap (λ n. marked n (ahead D (succs S) plan.lines want s i) (marks_in plan w)) is) j })
              ∙ sym (looking-here (noted_in plan noted w) less i at low t inside);
          low = omega (arith, at, x.lines-low k v.from less);
          only = m.only;
        }

  -- nothing is marked
  pub led-high : (noted : ℕ) → noted ≤ plan.lines → k < hi → (i : ℕ) → i ≡ get_or w k 0 → noted < i → LedOn plan S s want noted w noted w
  led-high noted low less i at high = record { now-noted = sym (looking-high (noted_in plan noted w) less i at high); low = low; only = only_none }

  pub led-end : (noted : ℕ) → noted ≤ plan.lines → hi ≤ k → LedOn plan S s want noted w noted w
  led-end noted low past = record { now-noted = sym (looking-end (noted_in plan noted w) past); low = low; only = only_none }
