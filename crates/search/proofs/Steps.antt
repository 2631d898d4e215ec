-- Backward and forward steps are the same: `edges` (a predecessor listed is a state with a step by some line, for valid states),
-- with `next-ok` and `preds-ok` (steps keep states valid), `ok-low` (valid states are below the size) and `state-inj`.
-- The search theorem is applied to these in `Answer`; `Along` reads runs by `succs-sound` and `succs-complete`.
use Rattle.std.specs.Prelude.{◌≡◌, Bool, false, ◌&&◌, ◌↔◌, eqb, length}
use Rattle.std.proofs.Math.Path.{refl, sym, ap}
use Rattle.std.proofs.Common.{◌∙◌, subst, subst₂, mod-lt, mod-eq_of_lt, div-add-mod', div-lt_iff_lt-mul}
use Rattle.std.proofs.Math.Bool.{true, and-eq-true_iff}
use mathlib.Core.List.Memᴰ
use Prim.Native.Nat.{ℕ, suc, ◌+◌, ◌*◌, ◌-◌, ◌^◌, ◌/◌, ◌%◌, ◌<◌, ◌≤◌}
use Rattle.std.proofs.Math.Nat.{pow-le-pow_right, lt_of_lt_of_le}
use native.Mathlib.Omega.{arith}
use Rattle.std.proofs.Math.Arith.{digits_lt, digits_div, digits_mod}
use borrow.Author.Tests.{eqb-true, eq-eqb}
use Rattle.meaning.specs.Writing.{line_at}
use Rattle.meaning.specs.Language.{compared}
use Rattle.lists.specs.Listed.{◌∈◌, when-sound, when-complete}
use Rattle.automaton.specs.Shape.{deeper, leaves}
use Rattle.automaton.proofs.Shape.{Shape}
use Rattle.graph.specs.Plain.{memb, filt, count}
use Rattle.graph.proofs.Sets.{memb-in, in-memb, filt-in, flat_in, count-in}
use Rattle.search.proofs.Digits.{pow_pos, pow-split, pop-push, push-lt, pop-lt}
use Rattle.search.specs.Product.{Setting, stacks, state, place_of, pos_of, stack_of, cut, passes, pushed, popped, following, succs, uncut, undoes, positions, lines_into, sources, preds}

-- ---- what is asked of a setting

-- its automaton has the shape that `Shape` states, its lines go between the places, their numbers are below the radix,
-- and comparing two lines' numbers tells what comparing their boats tells
pub record Sound (S : Setting) (places : ℕ) : Type 0 where
  pub shape : Shape S.node S.done S.deepest
  pub radix-pos : 0 < S.radix
  pub within : (i : ℕ) → i < length S.lines → ((line_at S.lines i).from < places) × ((line_at S.lines i).to < places)
  pub code-low : (i : ℕ) → i < length S.lines → S.code i < S.radix
  pub agree : (i j : ℕ) → i < length S.lines → j < length S.lines
      → S.tells (S.code i) (S.code j) ≡ compared (line_at S.lines i).boat (line_at S.lines j).boat

-- ---- valid states and moves

-- s is a place, a position and a stack of the position's depth
pub record Ok (S : Setting) (places s : ℕ) : Type 0 where
  pub place : ℕ
  pub pos : ℕ
  pub stack : ℕ
  pub is : s ≡ state S place pos stack
  pub place-low : place < places
  pub pos-low : pos ≤ S.done
  pub stack-low : stack < S.radix ^ (S.node pos).depth

-- line i leads from place q, position c, stack v to place q', position k, stack w
pub record Move (S : Setting) (q c v i q' k w : ℕ) : Type 0 where
  pub from : (line_at S.lines i).from ≡ q
  pub to : (line_at S.lines i).to ≡ q'
  pub kind : (line_at S.lines i).kind ≡ (S.node c).kind
  pub pass : passes S (S.node c).test v (S.code i) ≡ true
  pub goes : k ∈ (S.node c).follow
  pub left : w ≡ cut S (S.node k).depth (pushed S (S.node c) v i)

-- ---- a state's parts

module _ (S : Setting) (q k v : ℕ) (hk : k ≤ S.done) (hv : v < stacks S) where
  pub read-state : (place_of S (state S q k v) ≡ q) × (pos_of S (state S q k v) ≡ k) × (stack_of S (state S q k v) ≡ v)
  unfolding place_of pos_of stack_of state
  read-state =
      let e = digits_div (q * suc S.done + k) hv in
      let k< : k < suc S.done = omega arith in
      (ap (◌/ suc S.done) e ∙ digits_div q k<, ap (◌% suc S.done) e ∙ digits_mod q k<, digits_mod (q * suc S.done + k) hv)

-- a state has one place, one position and one stack
pub state-inj : (S : Setting) (q k v q' k' v' : ℕ) → k ≤ S.done → v < stacks S → k' ≤ S.done → v' < stacks S
    → state S q k v ≡ state S q' k' v' → (q ≡ q') × (k ≡ k') × (v ≡ v')
state-inj S q k v q' k' v' hk hv hk' hv' e =
    let a = read-state S q k v hk hv in
    let b = read-state S q' k' v' hk' hv' in
    (sym a.0 ∙ (ap (place_of S) e ∙ b.0), sym a.1 ∙ (ap (pos_of S) e ∙ b.1), sym a.2 ∙ (ap (stack_of S) e ∙ b.2))

-- how many states there are
abbrev pub size : Setting → ℕ → ℕ
size S places = places * suc S.done * stacks S

module _ (S : Setting) (places : ℕ) (h : Sound S places) where
  -- no position's stack is deeper than the deepest
  pub shallow : (k : ℕ) → (S.node k).depth ≤ S.deepest
  shallow k = go (S.node k).push (h.shape.depth k)
    where
      go : (b : Bool) → deeper b (S.node k).depth ≤ S.deepest → (S.node k).depth ≤ S.deepest
      go true l = omega arith
      go false l = l

  pub fits : (k v : ℕ) → v < S.radix ^ (S.node k).depth → v < stacks S
  unfolding stacks
  fits k v l = lt_of_lt_of_le l (pow-le-pow_right h.radix-pos (shallow k))

  pub ok-low : (s : ℕ) → Ok S places s → s < size S places
  unfolding state
  ok-low s o = rw o.is (digits_lt (digits_lt o.place-low (let l = o.pos-low in omega arith)) (fits o.pos o.stack o.stack-low))

  ok_read : (s : ℕ) (o : Ok S places s) → (place_of S s ≡ o.place) × (pos_of S s ≡ o.pos) × (stack_of S s ≡ o.stack)
  ok_read s o = rw o.is (read-state S o.place o.pos o.stack o.pos-low (fits o.pos o.stack o.stack-low))

  -- ---- members of the lists

  following-in : (c k : ℕ) → (k ∈ following S (S.node c)) ↔ (k ∈ (S.node c).follow)
  following-in c k =
      let r = filt-in (λ j. memb j (S.node c).follow) (count 0 (suc S.done)) k in
      (λ m. memb-in k (S.node c).follow (r.0 m).1, λ m. r.1 ((count-in 0 (suc S.done) k).1 (omega arith, omega (arith, (h.shape.goes c k m).1)), in-memb k (S.node c).follow m))

  positions-in : (k c : ℕ) → (c ∈ positions S k) ↔ (k ∈ (S.node c).follow)
  positions-in k c =
      let r = filt-in (λ j. memb k (S.node j).follow) (count 0 S.done) c in
      (λ m. memb-in k (S.node c).follow (r.0 m).1, λ m. r.1 ((count-in 0 S.done c).1 (omega arith, omega (arith, (h.shape.goes c k m).0)), in-memb k (S.node c).follow m))

  lines_into-in : (q kind i : ℕ) → (i ∈ lines_into S q kind) ↔ ((i < length S.lines) × ((line_at S.lines i).to ≡ q) × ((line_at S.lines i).kind ≡ kind))
  lines_into-in q kind i =
      let l = line_at S.lines i in
      let r = filt-in (λ j. eqb (line_at S.lines j).to q && eqb (line_at S.lines j).kind kind) (count 0 (length S.lines)) i in
      let n = count-in 0 (length S.lines) i in
      let both = and-eq-true_iff (eqb l.to q) (eqb l.kind kind) in (
        λ m. let (x, y) = r.0 m in let (a, b) = both.0 y in (omega (arith, (n.0 x).1), eqb-true l.to q a, eqb-true l.kind kind b),
        λ m. r.1 (n.1 (omega arith, omega (arith, m.0)), both.1 (eq-eqb l.to q m.1, eq-eqb l.kind kind m.2)),
      )

  module _ (c e w v : ℕ) (he : e ≤ leaves (S.node c)) (hw : w < S.radix ^ e) where
    abbrev M : ℕ
    M = S.radix ^ e

    abbrev above : ℕ
    above = S.radix ^ (leaves (S.node c) - e)

    split : above * M ≡ S.radix ^ leaves (S.node c)
    split = pow-split S.radix e (leaves (S.node c)) he

    uncut-in : (v ∈ uncut S (S.node c) e w) ↔ ((v < S.radix ^ leaves (S.node c)) × (cut S e v ≡ w))
    uncut-in = (
      λ m.
          let (x, y, is) = Memᴰ.of_map (λ x. x * M + w) (count 0 above) m in
          rw (← is, ← split) (digits_lt (omega (arith, ((count-in 0 above x).0 y).1)) hw, digits_mod x hw),
      λ m.
          let x< : v / M < above = (div-lt_iff_lt-mul (pow_pos S.radix h.radix-pos e)).1 (rw split m.0) in
          Memᴰ.cast (sym (div-add-mod' v M) ∙ ap (v / M * M +◌) m.1) (Memᴰ.map (λ x. x * M + w) ((count-in 0 above (v / M)).1 (omega arith, omega arith))),
    )

  -- ---- the states before and after a move

  module _ {q c v i q' k w : ℕ} (x : Move S q c v i q' k w) (li : i < length S.lines) where
    abbrev before_ok : v < S.radix ^ (S.node c).depth → Ok S places (state S q c v)
    before_ok lv = record {
      place = q;
      pos = c;
      stack = v;
      is = refl;
      place-low = subst (◌< places) x.from (h.within i li).0;
      pos-low = omega (arith, (h.shape.goes c k x.goes).0);
      stack-low = lv;
    }

    abbrev after_ok : Ok S places (state S q' k w)
    after_ok = record {
      place = q';
      pos = k;
      stack = w;
      is = refl;
      place-low = subst (◌< places) x.to (h.within i li).1;
      pos-low = (h.shape.goes c k x.goes).1;
      stack-low = rw x.left (mod-lt _ (pow_pos S.radix h.radix-pos (S.node k).depth));
    }

  -- ---- forward

  pub succs-sound : (s i t : ℕ) (o : Ok S places s) → t ∈ succs S s i
      → (q' : ℕ) × (k : ℕ) × (w : ℕ) × Move S o.place o.pos o.stack i q' k w × (t ≡ state S q' k w)
  unfolding succs
  succs-sound s i t o m =
      let (a, b, d) = ok_read s o in
      let n = S.node o.pos in
      let (e, x) = when-sound _ (rw (a, b, d) at m) in
      let (k, g, is) = Memᴰ.of_map _ (following S n) x in
      let (from, taken) = (and-eq-true_iff _ _).0 e in
      let (kind, pass) = (and-eq-true_iff _ _).0 taken in (
        (line_at S.lines i).to,
        k,
        cut S (S.node k).depth (pushed S n o.stack i),
        record { from = eqb-true _ _ from; to = refl; kind = eqb-true _ _ kind; pass = pass; goes = (following-in o.pos k).0 g; left = refl },
        sym is,
      )

  pub succs-complete : (s i : ℕ) (o : Ok S places s) (q' k w : ℕ) → Move S o.place o.pos o.stack i q' k w → state S q' k w ∈ succs S s i
  unfolding succs
  succs-complete s i o q' k w x =
      let (a, b, d) = ok_read s o in
      let n = S.node o.pos in
      rw (a, b, d, x.left, ← x.to)
      (when-complete _
      ((and-eq-true_iff _ _).1 (eq-eqb _ _ x.from, (and-eq-true_iff _ _).1 (eq-eqb _ _ x.kind, x.pass)))
      (Memᴰ.map (λ j. state S (line_at S.lines i).to j (cut S (S.node j).depth (pushed S n o.stack i))) ((following-in o.pos k).1 x.goes)))

  pub next-ok : (s i t : ℕ) → Ok S places s → i < length S.lines → t ∈ succs S s i → Ok S places t
  next-ok s i t o li m = let (q', k, w, x, e) = succs-sound s i t o m in subst (Ok S places) (sym e) (after_ok x li)

  -- ---- backward

  -- line i leads to place q', position k, stack w from the state s, with a stack of its position's depth
  record Back (i s q' k w : ℕ) : Type 0 where
    q : ℕ
    c : ℕ
    v : ℕ
    low : i < length S.lines
    move : Move S q c v i q' k w
    stack-low : v < S.radix ^ (S.node c).depth
    is : s ≡ state S q c v

  sources-sound : (s q' k w c i : ℕ) → w < S.radix ^ (S.node k).depth → k ∈ (S.node c).follow → i ∈ lines_into S q' (S.node c).kind
      → s ∈ sources S c i (uncut S (S.node c) (S.node k).depth w) → Back i s q' k w
  sources-sound s q' k w c i w< goes mi m =
      let n = S.node c in
      let vs = uncut S n (S.node k).depth w in
      let (v, mv, is) = Memᴰ.of_map (λ y. state S (line_at S.lines i).from c (popped S n y)) (filt (undoes S n i) vs) m in
      let (li, to, kind) = (lines_into-in q' n.kind i).0 mi in
      let (listed, undone) = (filt-in (undoes S n i) vs v).0 mv in
      let (back, pass) = (and-eq-true_iff (eqb (pushed S n (popped S n v) i) v) _).0 undone in
      let again : pushed S n (popped S n v) i ≡ v = eqb-true _ _ back in
      let (v<, left) = (uncut-in c (S.node k).depth w v (h.shape.goes c k goes).2 w<).0 listed in
      record {
        q = (line_at S.lines i).from;
        c = c;
        v = popped S n v;
        low = li;
        move = record { from = refl; to = to; kind = kind; pass = pass; goes = goes; left = rw again (sym left) };
        stack-low = pop-lt S.radix h.radix-pos n.push n.depth v v<;
        is = sym is;
      }

  -- the stack of a valid state is not cut
  cut-none : (t : ℕ) (o : Ok S places t) → cut S (S.node o.pos).depth o.stack ≡ o.stack
  cut-none t o = mod-eq_of_lt o.stack-low

  preds-sound : (s t : ℕ) (o : Ok S places t) → s ∈ preds S t → (i : ℕ) × Back i s o.place o.pos o.stack
  unfolding preds
  preds-sound s t o m =
      let (a, b, d) = ok_read t o in
      let (c, mc, m₁) = (flat_in _ (positions S o.pos) s).0 (rw (a, b, d, cut-none t o) at m) in
      let vs = uncut S (S.node c) (S.node o.pos).depth o.stack in
      let (i, mi, m₂) = (flat_in (λ i. sources S c i vs) (lines_into S o.place (S.node c).kind) s).0 m₁ in
      (i, sources-sound s o.place o.pos o.stack c i o.stack-low ((positions-in o.pos c).0 mc) mi m₂)

  preds-complete : (t : ℕ) (o : Ok S places t) (i q c v : ℕ) → i < length S.lines → Move S q c v i o.place o.pos o.stack → v < S.radix ^ (S.node c).depth
      → state S q c v ∈ preds S t
  unfolding preds
  preds-complete t o i q c v li x lv =
      let (a, b, d) = ok_read t o in
      let n = S.node c in
      let u = pushed S n v i in
      let e = (S.node o.pos).depth in
      let vs = uncut S n e o.stack in
      let back : popped S n u ≡ v = pop-push S.radix n.push n.depth v (S.code i) lv in
      let undone : undoes S n i u ≡ true = rw back ((and-eq-true_iff _ _).1 (eq-eqb u u refl, x.pass)) in
      let u< = push-lt S.radix n.push n.depth v (S.code i) lv (h.code-low i li) in
      let listed : u ∈ vs = (uncut-in c e o.stack u (h.shape.goes c o.pos x.goes).2 o.stack-low).1 (u<, sym x.left) in
      let mu : u ∈ filt (undoes S n i) vs = (filt-in (undoes S n i) vs u).1 (listed, undone) in
      let ms : state S q c v ∈ sources S c i vs =
      Memᴰ.cast (rw (x.from, back)) (Memᴰ.map (λ y. state S (line_at S.lines i).from c (popped S n y)) mu) in
      let mi = (lines_into-in o.place n.kind i).1 (li, x.to, x.kind) in
      rw (a, b, d, cut-none t o) ((flat_in _ _ _).1 (c, (positions-in o.pos c).1 x.goes, (flat_in _ _ _).1 (i, mi, ms)))

  pub preds-ok : (s t : ℕ) → Ok S places t → s ∈ preds S t → Ok S places s
  preds-ok s t o m = let (i, x) = preds-sound s t o m in subst (Ok S places) (sym x.is) (before_ok x.move x.low x.stack-low)

  -- ---- backward and forward agree

  back-leads : (i s t : ℕ) (o : Ok S places t) → Back i s o.place o.pos o.stack → t ∈ succs S s i
  back-leads i s t o x =
      subst₂ (λ s' t'. t' ∈ succs S s' i) (sym x.is) (sym o.is)
      (succs-complete _ i (before_ok x.move x.low x.stack-low) o.place o.pos o.stack x.move)

  -- from a state that line i is gone back over to, it leads to t
  pub sources-lead : (s t c i : ℕ) → Ok S places t → pos_of S t ∈ (S.node c).follow → i ∈ lines_into S (place_of S t) (S.node c).kind
      → let e = (S.node (pos_of S t)).depth in s ∈ sources S c i (uncut S (S.node c) e (cut S e (stack_of S t))) → t ∈ succs S s i
  sources-lead s t c i o goes mi m =
      let (a, b, d) = ok_read t o in
      back-leads i s t o (sources-sound s o.place o.pos o.stack c i o.stack-low (rw b at goes) (rw a at mi) (rw (b, d, cut-none t o) at m))

  pub edges : (s t : ℕ) → Ok S places s → Ok S places t → (s ∈ preds S t) ↔ ((i : ℕ) × (i < length S.lines) × (t ∈ succs S s i))
  edges s t os ot = (
    λ m.
        let (i, x) = preds-sound s t ot m in
        (i, x.low, back-leads i s t ot x),
    λ m.
        let (i, li, m') = m in
        let (q', k, w, x, e) = succs-sound s i t os m' in
        subst₂ (λ s' t'. s' ∈ preds S t') (sym os.is) (sym e) (preds-complete _ (after_ok x li) i os.place os.pos os.stack li x os.stack-low),
  )
