-- Phase two state by state (`Sweep` in specs/) chooses as the plain phase two does.
-- Claimed: the states of one level taken up, in whatever order, choose the line and the states that the plain phase two chooses (`level-first`).
use Rattle.std.specs.Prelude.{◌≡◌, Bool, cond, ◌&&◌, ◌↔◌, ◌⊎◌, ltb, leb, set}
use Rattle.std.proofs.Math.Path.{refl, sym, ap, subst}
use Rattle.std.proofs.Common.{◌∙◌, zero-add, suc-add, get_or-set_same}
use Rattle.std.proofs.Math.Bool.{true, false, false≢true}
use mathlib.Core.List.Memᴰ
use mathlib.Core.List.{List, [], ◌∷◌}
use Rattle.std.proofs.Math.Logic.{inl, inr, ⊎_elim}
use Rattle.std.proofs.Math.Option.{Option, some, none-ne-some, some-injective}
use Prim.Native.Nat.{ℕ, zero, suc, ◌+◌, ◌-◌, ◌<◌, ◌≤◌}
use native.Mathlib.Omega.{arith}
use Rattle.std.proofs.Math.Decide.{ℕ_discrete, dec_lt}
use Rattle.std.proofs.Math.Dec.{eqb, eqb-suc-zero}
use Rattle.std.proofs.Math.ListN.{length, get_or, length-set, get_or-eq_default}
use Rattle.std.proofs.Math.Seq.{get_or-set_other}
use borrow.Author.Tests.{eqb-true, eqb-false, eq-eqb, ne_eqb, ltb-true, ltb-false, leb-true, leb-false}
use Rattle.lists.specs.Listed.{◌∈◌, none_in, get_or-in}
use Rattle.graph.specs.Plain.{memb, filt, next, first, pick}
use Rattle.graph.proofs.Sets.{memb-in, in-memb, filt-in}
use Rattle.graph.specs.Loops.{loop}
use Rattle.graph.specs.Table.{distance_in, unmark}
use Rattle.graph.specs.PhaseTwo.{lesser_word, nearest_word}
use Rattle.graph.proofs.PhaseTwo.{nearest-of}
use Rattle.graph.proofs.Forward.{next-in, first_spec}
use Rattle.graph.specs.Sweep.{Noted, Sweep}
use Rattle.graph.specs.Sweep

-- ---- words written at the states of a list

module _ (v : ℕ) where
  abbrev marked : List ℕ → List ℕ → List ℕ
  marked = Sweep.marked v

  pub marked-long : (ts M : List ℕ) → length (marked ts M) ≡ length M
  unfolding loop
  marked-long [] M = refl
  marked-long (t ∷ ts) M = marked-long ts (set M t v) ∙ length-set M t v

  pub marked-out : (ts M : List ℕ) (u : ℕ) → (u ∈ ts → ⊥) → get_or (marked ts M) u 0 ≡ get_or M u 0
  unfolding loop
  marked-out [] M u n = refl
  marked-out (t ∷ ts) M u n =
      marked-out ts (set M t v) u (λ i. n (Memᴰ.tail i)) ∙ get_or-set_other M t u v 0 (λ e. n (Memᴰ.head e))

  pub marked-in : (ts M : List ℕ) (u : ℕ) → u ∈ ts → u < length M → get_or (marked ts M) u 0 ≡ v
  unfolding loop
  marked-in [] M u i l = none_in i
  marked-in (t ∷ ts) M u i l = go (memb u ts) refl (λ j. marked-in ts (set M t v) u j (omega (arith, length-set M t v)))
    where
      go : (b : Bool) → memb u ts ≡ b → (u ∈ ts → get_or (marked ts (set M t v)) u 0 ≡ v) → get_or (marked ts (set M t v)) u 0 ≡ v
      go true e ih = ih (memb-in u ts e)
      go false e ih =
          let out : u ∈ ts → ⊥ = λ j. false≢true (sym e ∙ in-memb u ts j) in
          let here : u ≡ t = ⊎_elim (λ p. p) (λ j. absurd (out j)) (Memᴰ.cases_cons i) in
          marked-out ts (set M t v) u out ∙ subst (λ z. get_or (set M z v) u 0 ≡ v) here (get_or-set_same M u v 0 l)

-- ---- a state that is marked

module _ (D : List ℕ) (succs : ℕ → ℕ → List ℕ) (m : ℕ) where
  abbrev word : ℕ → ℕ
  word = Sweep.word D succs m

  abbrev ahead : ℕ → ℕ → ℕ → List ℕ
  ahead = Sweep.ahead D succs m

  abbrev least : ℕ → ℕ → ℕ → ℕ → ℕ
  least = Sweep.least D succs m

  abbrev lead : ℕ → ℕ → Noted → Noted
  lead = Sweep.lead D succs m

  abbrev take_up : ℕ → ℕ → ℕ → Noted → Noted
  take_up = Sweep.take_up D succs m

  -- ---- laws

  pub ahead_in : (w s l t : ℕ) → (t ∈ ahead w s l) ↔ ((t ∈ succs s l) × (word t ≡ w))
  unfolding Sweep.ahead
  ahead_in w s l t =
      let f = filt-in (λ t. eqb (word t) w) (succs s l) t in
      (λ i. ((f.0 i).0, eqb-true (word t) w (f.0 i).1), λ i. f.1 (i.0, eq-eqb (word t) w i.1))

  abbrev pub Leads : ℕ → ℕ → ℕ → Type 0
  Leads w s l = (t : ℕ) × (t ∈ succs s l) × (word t ≡ w)

  pub record Leasts (w s n l r : ℕ) : Type 0 where
    pub from : l ≤ r
    pub to : r ≤ l + n
    pub leads : r < l + n → Leads w s r
    pub first_of : (j t : ℕ) → l ≤ j → t ∈ succs s j → word t ≡ w → r ≤ j

  least-next : (w s n l : ℕ) → ahead w s l ≡ [] → least w s (suc n) l ≡ least w s n (suc l)
  unfolding Sweep.least
  least-next w s n l e = rw (e, Sweep.least)

  least-here : (w s n l t : ℕ) (ts : List ℕ) → ahead w s l ≡ t ∷ ts → least w s (suc n) l ≡ l
  unfolding Sweep.least
  least-here w s n l t ts e = rw (e, Sweep.least)

  pub least-spec : (w s n l : ℕ) → Leasts w s n l (least w s n l)
  least-spec w s zero l = unfold Sweep.least in record { from = omega arith; to = omega arith; leads = λ a. absurd (omega arith); first_of = λ j t a i e. a }
  least-spec w s (suc n) l = go (ahead w s l) refl (least-spec w s n (suc l))
    where
      past : ahead w s l ≡ [] → (j t : ℕ) → l ≤ j → t ∈ succs s j → word t ≡ w → suc l ≤ j
      past e j t a i f = elim (dec_lt l j) [ yes p ↦ p | no p ↦ (let q : j ≡ l = omega arith in absurd (none_in (rw e at ((ahead_in w s l t).1 (rw q at i, f))))) ]

      go : (ts : List ℕ) → ahead w s l ≡ ts → Leasts w s n (suc l) (least w s n (suc l)) → Leasts w s (suc n) l (least w s (suc n) l)
      go [] e ih = rw (least-next w s n l e) record {
        from = omega (arith, ih.from);
        to = omega (arith, ih.to);
        leads = λ a. ih.leads (omega (arith, a));
        first_of = λ j t a i f. ih.first_of j t (past e j t a i f) i f;
      }
      go (t ∷ ts) e ih = rw (least-here w s n l t ts e) record {
        from = omega arith;
        to = omega arith;
        leads = λ a. let r = (ahead_in w s l t).0 (rw e (Memᴰ.head refl)) in (t, r.0, r.1);
        first_of = λ j t a i f. a;
      }

  -- ---- one level: the states of the level above w, c being the line chosen into it; M are the marks when it begins

  -- a state with a word is one of the table's
  low_of : (t w : ℕ) → 0 < w → word t ≡ w → t < length D
  low_of t w any e = elim (dec_lt t (length D)) [
    | yes l ↦ l
    | no l ↦ absurd (omega (arith, any, e, get_or-eq_default D 0 {n = t} (omega arith)))
  ]

  module _ (w : ℕ) (any : 0 < w) (c : ℕ) (M : List ℕ) where
    abbrev pub InFront : ℕ → Type 0
    InFront s = get_or M s 0 ≡ suc c

    -- the states of P are taken up
    pub record Inv (P : List ℕ) (x : Noted) : Type 0 where
      pub long : length x.marks ≡ length D
      pub low : x.line ≤ m
      -- the line noted leads from one of them, and no lower line does
      pub got : x.line < m → (s : ℕ) × (s ∈ P) × InFront s × Leads w s x.line
      pub lowest : (s l t : ℕ) → s ∈ P → InFront s → l < m → t ∈ succs s l → word t ≡ w → x.line ≤ l
      -- the states marked with it are those to which it leads; other marks are higher
      pub are : (t : ℕ) → word t ≡ w → x.line < m → get_or x.marks t 0 ≡ suc x.line → (s : ℕ) × (s ∈ P) × InFront s × (t ∈ succs s x.line)
      pub all : (s t : ℕ) → s ∈ P → InFront s → x.line < m → t ∈ succs s x.line → word t ≡ w → get_or x.marks t 0 ≡ suc x.line
      pub high : (t : ℕ) → word t ≡ w → (get_or x.marks t 0 ≡ 0) ⊎ (suc x.line ≤ get_or x.marks t 0)
      pub other : (t : ℕ) → (word t ≡ w → ⊥) → get_or x.marks t 0 ≡ get_or M t 0

    -- none is taken up, and nothing is marked with the word w
    pub inv-none : length M ≡ length D → ((t : ℕ) → word t ≡ w → get_or M t 0 ≡ 0) → Inv [] (record { line = m; marks = M })
    inv-none long blank = record {
      long = long;
      low = omega arith;
      got = λ l. absurd (omega arith);
      lowest = λ s l t i. none_in i;
      are = λ t e l. absurd (omega arith);
      all = λ s t i. none_in i;
      high = λ t e. inl (blank t e);
      other = λ t n. refl;
    }

    module _ (P : List ℕ) (x : Noted) (v : Inv P x) (s : ℕ) where
      -- s is not in front, or leads nowhere lower: nothing changes
      keep : (InFront s → (l t : ℕ) → l < m → t ∈ succs s l → word t ≡ w → suc x.line ≤ l) → Inv (s ∷ P) x
      keep h = record {
        long = v.long;
        low = v.low;
        got = λ l. let (u, i, f, r) = v.got l in (u, Memᴰ.tail i, f, r);
        lowest = λ u l t i f lt j e. ⊎_elim (λ (p : u ≡ s). omega (arith, h (rw p at f) l t lt (rw p at j) e)) (λ k. v.lowest u l t k f lt j e) (Memᴰ.cases_cons i);
        are = λ t e l k. let (u, i, f, r) = v.are t e l k in (u, Memᴰ.tail i, f, r);
        all = λ u t i f l j e. ⊎_elim (λ (p : u ≡ s). absurd (let z = h (rw p at f) x.line t l (rw p at j) e in omega arith)) (λ k. v.all u t k f l j e) (Memᴰ.cases_cons i);
        high = v.high;
        other = v.other;
      }

      -- s is in front, and its least line is no higher than the line noted
      module _ (l : ℕ) (is : Leasts w s m 0 l) (front : InFront s) (lt : l < m) (le : l ≤ x.line) where
        abbrev y : Noted
        y = record { line = l; marks = marked (suc l) (ahead w s l) x.marks }

        set_here : (t : ℕ) → t ∈ succs s l → word t ≡ w → get_or y.marks t 0 ≡ suc l
        set_here t i e = marked-in (suc l) (ahead w s l) x.marks t ((ahead_in w s l t).1 (i, e)) (omega (arith, low_of t w any e, v.long))

        -- whether t is among those to which l leads from s
        split : (t : ℕ) → (t ∈ ahead w s l) ⊎ (get_or y.marks t 0 ≡ get_or x.marks t 0)
        split t = go (memb t (ahead w s l)) refl
          where
            go : (b : Bool) → memb t (ahead w s l) ≡ b → (t ∈ ahead w s l) ⊎ (get_or y.marks t 0 ≡ get_or x.marks t 0)
            go true e = inl (memb-in t (ahead w s l) e)
            go false e = inr (marked-out (suc l) (ahead w s l) x.marks t (λ i. false≢true (sym e ∙ in-memb t (ahead w s l) i)))

        -- a state marked before with l: l was noted already
        before : (t : ℕ) → word t ≡ w → get_or x.marks t 0 ≡ suc l → x.line ≡ l
        before t e k = ⊎_elim (λ z. absurd (let q : ◌≡◌ {A = ℕ} 0 (suc l) = sym z ∙ k in omega arith)) (λ z. omega (arith, z, k, le)) (v.high t e)

        -- and a state to which l leads from one taken up before
        older : (u t : ℕ) → u ∈ P → InFront u → t ∈ succs u l → word t ≡ w → x.line ≡ l
        older u t i f j e = omega (arith, v.lowest u l t i f lt j e, le)

        lower : Inv (s ∷ P) y
        lower = record {
          long = marked-long (suc l) (ahead w s l) x.marks ∙ v.long;
          low = omega (arith, lt);
          got = λ _. (s, Memᴰ.head refl, front, is.leads (omega (arith, lt)));
          lowest = λ u k t i f kt j e. ⊎_elim (λ (p : u ≡ s). is.first_of k t (omega arith) (rw p at j) e) (λ n. let z = v.lowest u k t n f kt j e in omega (arith, le)) (Memᴰ.cases_cons i);
          are = λ t e _ k. ⊎_elim
              (λ i. (s, Memᴰ.head refl, front, ((ahead_in w s l t).0 i).0))
              (λ q. let old = sym q ∙ k in let n = before t e old in let (u, i, f, r) = v.are t e (omega (arith, n, lt)) (old ∙ ap suc (sym n)) in (u, Memᴰ.tail i, f, subst (λ z. t ∈ succs u z) n r))
              (split t);
          all = λ u t i f _ j e. ⊎_elim
              (λ (p : u ≡ s). set_here t (rw p at j) e)
              (λ n. ⊎_elim (λ a. let r = (ahead_in w s l t).0 a in set_here t r.0 e) (λ q. let o = older u t n f j e in q ∙ (v.all u t n f (omega (arith, o, lt)) (subst (λ z. t ∈ succs u z) (sym o) j) e ∙ ap suc o)) (split t))
              (Memᴰ.cases_cons i);
          high = λ t e. ⊎_elim
              (λ a. let r = (ahead_in w s l t).0 a in inr (omega (arith, set_here t r.0 e)))
              (λ q. ⊎_elim (λ z. inl (q ∙ z)) (λ z. inr (omega (arith, q, z, le))) (v.high t e))
              (split t);
          other = λ t n. ⊎_elim (λ a. absurd (n ((ahead_in w s l t).0 a).1)) (λ q. q ∙ v.other t n) (split t);
        }

      -- s is taken up
      pub inv-take : word s ≡ suc w → Inv (s ∷ P) (take_up w c s x)
      unfolding Sweep.take_up Sweep.lead
      inv-take above =
          let own : get_or x.marks s 0 ≡ get_or M s 0 = v.other s (λ e. omega (arith, above, e)) in
          front (eqb (get_or x.marks s 0) (suc c)) refl own
        where
          l : ℕ
          l = least w s m 0

          is : Leasts w s m 0 l
          is = least-spec w s m 0

          leading : (b b' : Bool) → ltb l m ≡ b → leb l x.line ≡ b' → InFront s → Inv (s ∷ P) (cond (b && b') (record { line = l; marks = marked (suc l) (ahead w s l) x.marks }) x)
          leading true true e e' f = lower l is f (ltb-true l m e) (leb-true l x.line e')
          leading true false e e' f = keep (λ _ k t kt i q. omega (arith, leb-false l x.line e', is.first_of k t (omega arith) i q))
          leading false b' e e' f = keep (λ _ k t kt i q. absurd (let z = is.first_of k t (omega arith) i q in omega (arith, ltb-false l m e)))

          front : (b : Bool) → eqb (get_or x.marks s 0) (suc c) ≡ b → get_or x.marks s 0 ≡ get_or M s 0
              → Inv (s ∷ P) (cond b (cond (ltb l m && leb l x.line) (record { line = l; marks = marked (suc l) (ahead w s l) x.marks }) x) x)
          front true e own = leading (ltb l m) (leb l x.line) refl refl (sym own ∙ eqb-true _ _ e)
          front false e own = keep (λ f. absurd (eqb-false _ _ e (own ∙ f)))

    -- ---- the plain phase two's choice

    -- S are the states in front, some of which leads on
    pub level-first : (k : ℕ) → w ≡ suc k → (P : List ℕ) (x : Noted) → Inv P x → (S : List ℕ) → ((s : ℕ) → (s ∈ S) ↔ ((s ∈ P) × InFront s))
        → (s j : ℕ) → s ∈ S → j < m → Leads w s j
        → let r = first (distance_in D) succs k S m 0 in (r.0 ≡ x.line) × (x.line < m) × ((t : ℕ) → (t ∈ r.1) ↔ ((word t ≡ w) × (get_or x.marks t 0 ≡ suc x.line)))
    level-first k is P x v S own s j i jm (t, mt, e) =
        let dist = distance_in D in
        let at : (t : ℕ) → word t ≡ w → dist t ≡ some k = λ t e. ap unmark (e ∙ is) in
        let ch = first_spec dist succs k S m 0 j t (omega arith) (omega (arith, jm)) ((next-in dist succs k S j t).1 ((s, i, mt), at t e)) in
        let r = first dist succs k S m 0 in
        let low : x.line < m = let o = (own s).0 i in omega (arith, v.lowest s j t o.0 o.1 jm mt e, jm) in
        -- the line chosen leads, so the line noted is no higher
        let (u, mu) = ch.inhabited in
        let ((a, ia, ma), ea) = (next-in dist succs k S r.0 u).0 (rw ch.leads at mu) in
        let oa = (own a).0 ia in
        let rm : r.0 < m = omega (arith, ch.least j t (omega arith) ((next-in dist succs k S j t).1 ((s, i, mt), at t e)), jm) in
        let le : x.line ≤ r.0 = v.lowest a r.0 u oa.0 oa.1 rm ma (of u ea ∙ sym is) in
        -- the line noted leads, so the line chosen is no higher
        let (b, ib, fb, (z, mz, ez)) = v.got low in
        let ge : r.0 ≤ x.line = ch.least x.line z (omega arith) ((next-in dist succs k S x.line z).1 ((b, (own b).1 (ib, fb), mz), at z ez)) in
        let same : r.0 ≡ x.line = omega (arith, le, ge) in (
          same,
          low,
          λ t. (
            λ n. let ((g, ig, mg), eg) = (next-in dist succs k S r.0 t).0 (rw ch.leads at n) in let og = (own g).0 ig in let et = of t eg ∙ sym is in (et, v.all g t og.0 og.1 low (subst (λ l. t ∈ succs g l) same mg) et),
            λ n. let (g, ig, fg, mg) = v.are t n.0 low n.1 in rw ch.leads ((next-in dist succs k S r.0 t).1 ((g, (own g).1 (ig, fg), subst (λ l. t ∈ succs g l) (sym same) mg), at t n.0)),
          ),
        )
      where
        of : (t : ℕ) → distance_in D t ≡ some k → word t ≡ suc k
        of t h = go (word t) h
          where
            go : (n : ℕ) → unmark n ≡ some k → n ≡ suc k
            go zero q = absurd (none-ne-some k q)
            go (suc n) q = ap suc (some-injective n k q)

-- ---- the plain phase two goes by members

module _ (dist : ℕ → Option ℕ) (succs : ℕ → ℕ → List ℕ) where
  abbrev Same : List ℕ → List ℕ → Type 0
  Same S S' = (t : ℕ) → (t ∈ S) ↔ (t ∈ S')

  next-same : (k l : ℕ) (S S' : List ℕ) → Same S S' → Same (next dist succs k S l) (next dist succs k S' l)
  next-same k l S S' e t =
      let a = next-in dist succs k S l t in
      let b = next-in dist succs k S' l t in (
        λ i. let ((s, j, n), d) = a.0 i in b.1 ((s, (e s).0 j, n), d),
        λ i. let ((s, j, n), d) = b.0 i in a.1 ((s, (e s).1 j, n), d),
      )

  first-same : (k n l : ℕ) (S S' : List ℕ) → Same S S'
      → ((first dist succs k S n l).0 ≡ (first dist succs k S' n l).0) × Same (first dist succs k S n l).1 (first dist succs k S' n l).1
  unfolding first
  first-same k zero l S S' e = (refl, λ t. (λ i. i, λ i. i))
  first-same k (suc n) l S S' e = go (next dist succs k S l) (next dist succs k S' l) refl refl (next-same k l S S' e) (first-same k n (suc l) S S' e)
    where
      go : (x x' : List ℕ) → next dist succs k S l ≡ x → next dist succs k S' l ≡ x' → Same (next dist succs k S l) (next dist succs k S' l)
          → ((first dist succs k S n (suc l)).0 ≡ (first dist succs k S' n (suc l)).0) × Same (first dist succs k S n (suc l)).1 (first dist succs k S' n (suc l)).1
          → ((first dist succs k S (suc n) l).0 ≡ (first dist succs k S' (suc n) l).0) × Same (first dist succs k S (suc n) l).1 (first dist succs k S' (suc n) l).1
      go [] [] p q h ih = rw (p, q, first) ih
      go [] (y ∷ ys) p q h ih = none_in (rw (p) at ((h y).1 (rw q (Memᴰ.head refl))))
      go (x ∷ xs) [] p q h ih = none_in (rw (q) at ((h x).0 (rw p (Memᴰ.head refl))))
      go (x ∷ xs) (y ∷ ys) p q h ih = rw (p, q, first) (refl, rw (p, q) at h)

  pub pick_same : (m k : ℕ) (S S' : List ℕ) → Same S S' → pick dist succs m k S ≡ pick dist succs m k S'
  unfolding pick
  pick_same m zero S S' e = refl
  pick_same m (suc k) S S' e =
      let (a, b) = first-same k m 0 S S' e in
      λ i. a i ∷ pick_same m k (first dist succs k S m 0).1 (first dist succs k S' m 0).1 b i

-- ---- the least word of a list

lesser-low : (v w : ℕ) → 0 < w → (0 < lesser_word v w) × (lesser_word v w ≤ w)
unfolding lesser_word
lesser-low zero w h = (h, omega arith)
lesser-low (suc v) zero h = absurd (omega arith)
lesser-low (suc v) (suc w) h = rw (eqb-suc-zero v, eqb-suc-zero w) (omega arith, omega arith)

lesser-old : (v w : ℕ) → 0 < v → (0 < lesser_word v w) × (lesser_word v w ≤ v)
unfolding lesser_word
lesser-old zero w h = absurd (omega arith)
lesser-old (suc v) zero h = rw (eqb-suc-zero v) (omega arith, omega arith)
lesser-old (suc v) (suc w) h = rw (eqb-suc-zero v, eqb-suc-zero w) (omega arith, omega arith)

module _ (M : List ℕ) where
  least-from : (S : List ℕ) (v : ℕ) → 0 < v → (0 < loop (λ s v. lesser_word v (get_or M s 0)) S v) × (loop (λ s v. lesser_word v (get_or M s 0)) S v ≤ v)
  unfolding loop
  least-from [] v h = (h, omega arith)
  least-from (s ∷ S) v h =
      let a = lesser-old v (get_or M s 0) h in
      let b = least-from S (lesser_word v (get_or M s 0)) a.0 in
      (b.0, omega (arith, a.1, b.1))

  pub least-low : (S : List ℕ) (t : ℕ) → t ∈ S → 0 < get_or M t 0 → (0 < nearest_word M S) × (nearest_word M S ≤ get_or M t 0)
  unfolding nearest_word loop
  least-low S t i h = go S 0 i
    where
      go : (S : List ℕ) (v : ℕ) → t ∈ S → (0 < loop (λ s v. lesser_word v (get_or M s 0)) S v) × (loop (λ s v. lesser_word v (get_or M s 0)) S v ≤ get_or M t 0)
      go [] v i = none_in i
      go (s ∷ S) v i = ⊎_elim
          (λ (p : t ≡ s). let a = lesser-low v (get_or M s 0) (rw p at h) in let b = least-from S (lesser_word v (get_or M s 0)) a.0 in (b.0, rw p (omega (arith, a.1, b.1))))
          (λ j. go S (lesser_word v (get_or M s 0)) j)
          (Memᴰ.cases_cons i)

-- ---- the sweep

module _ (D : List ℕ) (succs : ℕ → ℕ → List ℕ) (m : ℕ) (q : List ℕ) where
  abbrev at : ℕ → ℕ
  at = Sweep.at D succs m q

  abbrev word_at : ℕ → ℕ
  word_at = Sweep.word_at D succs m q

  abbrev back : Sweep → Sweep
  back = Sweep.back D succs m q

  abbrev back_by : ℕ → Sweep → Sweep
  back_by = Sweep.back_by D succs m q

  abbrev line_into : List ℕ → ℕ → ℕ
  line_into = Sweep.line_into D succs m q

  abbrev chain_in : List ℕ → ℕ → List ℕ
  chain_in = Sweep.chain_in D succs m q

  back_on : (r c w : ℕ) (x : Noted) → word_at r ≡ suc w → word_at (r - 1) ≡ suc w → back (record { rest = suc r; chosen = c; noted = x }) ≡ record { rest = r; chosen = c; noted = take_up D succs m w c (at r) x }
  unfolding Sweep.back
  back_on r c w x e f =
      let less : suc r - 1 ≡ r = omega arith in
      let low : suc w - 1 ≡ w = omega arith in
      rw (less, e, f, eq-eqb (suc w) (suc w) refl, low)

  back_end : (r c w : ℕ) (x : Noted) → word_at r ≡ suc w → (word_at (r - 1) ≡ suc w → ⊥) → let n = take_up D succs m w c (at r) x in back (record { rest = suc r; chosen = c; noted = x }) ≡ record { rest = r; chosen = n.line; noted = record { line = m; marks = n.marks } }
  unfolding Sweep.back
  back_end r c w x e f =
      let less : suc r - 1 ≡ r = omega arith in
      let low : suc w - 1 ≡ w = omega arith in
      rw (less, e, ne_eqb (word_at (r - 1)) (suc w) f, low)

  -- ---- one level: the states at the places from a to a + n

  module _ (w : ℕ) (any : 0 < w) (c : ℕ) (M : List ℕ) (a : ℕ) (first_one : 0 < a) (below : word_at (a - 1) ≡ suc w → ⊥) where
    pub record Swept (n : ℕ) (P : List ℕ) (x : Noted) : Type 0 where
      pub noted : Noted
      pub taken : List ℕ
      pub inv : Inv D succs m w any c M taken noted
      pub all : (s : ℕ) → (s ∈ P) ⊎ ((j : ℕ) × (a ≤ j) × (j ≤ a + n) × (s ≡ at j)) → s ∈ taken
      pub only : (s : ℕ) → s ∈ taken → (s ∈ P) ⊎ ((j : ℕ) × (a ≤ j) × (j ≤ a + n) × (s ≡ at j))
      pub is : back_by (suc n) (record { rest = suc (a + n); chosen = c; noted = x }) ≡ record { rest = a; chosen = noted.line; noted = record { line = m; marks = noted.marks } }

    pub level-swept : (n : ℕ) → ((j : ℕ) → a ≤ j → j ≤ a + n → word_at j ≡ suc w) → (P : List ℕ) (x : Noted) → Inv D succs m w any c M P x → Swept n P x
    unfolding Sweep.back_by
    level-swept zero h P x v =
        let here = h a (omega arith) (omega arith) in
        let zero_more : a + 0 ≡ a = omega arith in
        record {
          noted = take_up D succs m w c (at a) x;
          taken = at a ∷ P;
          inv = inv-take D succs m w any c M P x v (at a) here;
          all = λ s k. ⊎_elim (λ i. Memᴰ.tail i) (λ (j, le, ge, e). let same : j ≡ a = omega arith in Memᴰ.head (e ∙ ap at same)) k;
          only = λ s k. ⊎_elim (λ e. inr (a, omega arith, omega arith, e)) (λ i. inl i) (Memᴰ.cases_cons k);
          is = rw zero_more (back_end a c w x here below);
        }
    level-swept (suc n) h P x v =
        let r = a + suc n in
        let here = h r (omega arith) (omega arith) in
        let before : r - 1 ≡ a + n = omega arith in
        let there : word_at (r - 1) ≡ suc w = rw before (h (a + n) (omega arith) (omega arith)) in
        let ih = level-swept n (λ j le ge. h j le (omega arith)) (at r ∷ P) (take_up D succs m w c (at r) x) (inv-take D succs m w any c M P x v (at r) here) in
        let count : r ≡ suc (a + n) = omega arith in
        record {
          noted = ih.noted;
          taken = ih.taken;
          inv = ih.inv;
          all = λ s k. ih.all s (⊎_elim
              (λ i. inl (Memᴰ.tail i))
              (λ (j, le, ge, e). elim (ℕ_discrete j r) [ yes p ↦ inl (Memᴰ.head (e ∙ ap at p)) | no p ↦ inr (j, le, omega arith, e) ])
              k);
          only = λ s k. ⊎_elim
              (λ i. ⊎_elim (λ e. inr (r, omega arith, omega arith, e)) (λ j. inl j) (Memᴰ.cases_cons i))
              (λ (j, le, ge, e). inr (j, le, omega arith, e))
              (ih.only s k);
          is = ap (back_by (suc n)) (back_on r c w x here there ∙ (λ i. record { rest = count i; chosen = c; noted = take_up D succs m w c (at r) x })) ∙ ih.is;
        }

  -- ---- all levels

  pub back-add : (i j : ℕ) (y : Sweep) → back_by (i + j) y ≡ back_by j (back_by i y)
  unfolding Sweep.back_by
  back-add zero j y = ap (λ n. back_by n y) (zero-add j)
  back-add (suc i) j y = ap (λ n. back_by n y) (suc-add i j) ∙ back-add i j (back y)

  -- the queue is in order of the words: those with the word w stand from lo w on; and every state up to the word `far` is in it
  pub record Levels (far : ℕ) : Type 0 where
    pub lo : ℕ → ℕ
    pub some-before : (w : ℕ) → 0 < w → w ≤ far → lo w < lo (suc w)
    pub word-at : (w j : ℕ) → 0 < w → w ≤ far → lo w ≤ j → j < lo (suc w) → word_at j ≡ w
    pub place-of : (t w : ℕ) → 0 < w → w ≤ far → get_or D t 0 ≡ w → (j : ℕ) × (lo w ≤ j) × (j < lo (suc w)) × (j < length q) × (t ≡ at j)

  -- from every state a line leads one nearer
  abbrev pub Falls : Type 0
  Falls = (s k : ℕ) → get_or D s 0 ≡ suc (suc k) → (l : ℕ) × (l < m) × Leads D succs m (suc k) s l

  module _ (far : ℕ) (levels : Levels far) (falls : Falls) where
    -- the levels from the word suc k down are swept
    pub record Ended (k c : ℕ) (M S : List ℕ) : Type 0 where
      pub chosen : ℕ
      pub marks : List ℕ
      pub is : back_by (levels.lo (suc (suc k)) - levels.lo 2) (record { rest = levels.lo (suc (suc k)); chosen = c; noted = record { line = m; marks = M } }) ≡ record { rest = levels.lo 2; chosen = chosen; noted = record { line = m; marks = marks } }
      pub chain : chain_in marks k ≡ pick (distance_in D) succs m k S
      pub above : (t : ℕ) → k < get_or D t 0 → get_or marks t 0 ≡ get_or M t 0

    -- two begins no later than any later word
    rising : (k : ℕ) → suc k ≤ far → levels.lo 2 ≤ levels.lo (suc (suc k))
    rising zero h = omega arith
    rising (suc k) h = let a = rising k (omega arith) in let b = levels.some-before (suc (suc k)) (omega arith) h in omega arith

    -- S are the states with the word suc w that are marked with c
    abbrev pub Fronts : ℕ → ℕ → List ℕ → List ℕ → Type 0
    Fronts w c M S = (s : ℕ) → (s ∈ S) ↔ ((get_or D s 0 ≡ suc w) × (get_or M s 0 ≡ suc c))

    -- no state up to the word w is marked
    abbrev pub Blank : ℕ → List ℕ → Type 0
    Blank w M = (t : ℕ) → 0 < get_or D t 0 → get_or D t 0 ≤ w → get_or M t 0 ≡ 0

    -- the level with the word suc (suc k) is swept, from the marks M and the line c
    pub record Level (k c : ℕ) (M S : List ℕ) : Type 0 where
      pub line : ℕ
      pub marks : List ℕ
      pub is : back_by (levels.lo (suc (suc (suc k))) - levels.lo (suc (suc k))) (record { rest = levels.lo (suc (suc (suc k))); chosen = c; noted = record { line = m; marks = M } })
          ≡ record { rest = levels.lo (suc (suc k)); chosen = line; noted = record { line = m; marks = marks } }
      pub long : length marks ≡ length D
      pub chosen : (first (distance_in D) succs k S m 0).0 ≡ line
      pub front : Fronts k line marks (first (distance_in D) succs k S m 0).1
      pub someone : (t : ℕ) × (t ∈ (first (distance_in D) succs k S m 0).1)
      -- the least mark of the level below is the line's
      pub high : (t : ℕ) → get_or D t 0 ≡ suc k → (get_or marks t 0 ≡ 0) ⊎ (suc line ≤ get_or marks t 0)
      pub other : (t : ℕ) → (get_or D t 0 ≡ suc k → ⊥) → get_or marks t 0 ≡ get_or M t 0

    module _ (k : ℕ) (h : suc (suc k) ≤ far) (c : ℕ) (M : List ℕ) (long : length M ≡ length D) (blank : Blank (suc k) M) (S : List ℕ) (own : Fronts (suc k) c M S) where
      a : ℕ
      a = levels.lo (suc (suc k))

      n : ℕ
      n = levels.lo (suc (suc (suc k))) - levels.lo (suc (suc k)) - 1

      some-here : levels.lo (suc (suc k)) < levels.lo (suc (suc (suc k)))
      some-here = levels.some-before (suc (suc k)) (omega arith) (omega arith)

      some_below : levels.lo (suc k) < levels.lo (suc (suc k))
      some_below = levels.some-before (suc k) (omega arith) (omega arith)

      below : word_at (levels.lo (suc (suc k)) - 1) ≡ suc (suc k) → ⊥
      below e = let l = some_below in omega (arith, e, levels.word-at (suc k) (levels.lo (suc (suc k)) - 1) (omega arith) (omega arith) (omega arith) (omega arith))

      swept : Swept (suc k) (omega arith) c M (levels.lo (suc (suc k))) (let l = some_below in omega arith) below (levels.lo (suc (suc (suc k))) - levels.lo (suc (suc k)) - 1) [] (record { line = m; marks = M })
      swept =
          level-swept (suc k) (omega arith) c M (levels.lo (suc (suc k))) (let l = some_below in omega arith) below (levels.lo (suc (suc (suc k))) - levels.lo (suc (suc k)) - 1)
          (λ j le ge. let l = some-here in levels.word-at (suc (suc k)) j (omega arith) (omega arith) le (omega arith)) [] (record { line = m; marks = M })
          (inv-none D succs m (suc k) (omega arith) c M long (λ t e. blank t (omega (arith, e)) (omega (arith, e))))

      mine : (s : ℕ) → (s ∈ S) ↔ ((s ∈ swept.taken) × (get_or M s 0 ≡ suc c))
      mine s = (
        λ i. let (e, f) = (own s).0 i in let (j, le, lt, _, at_j) = levels.place-of s (suc (suc k)) (omega arith) (omega arith) e in (swept.all s (inr (j, le, omega arith, at_j)), f),
        λ (i, f). ⊎_elim (λ z. none_in z) (λ (j, le, ge, e). (own s).1 (ap (λ z. get_or D z 0) e ∙ (let l = some-here in levels.word-at (suc (suc k)) j (omega arith) (omega arith) le (omega arith)), f)) (swept.only s i),
      )

      pub one-level : (s : ℕ) → s ∈ S → Level k c M S
      one-level s i =
          let (l, lm, leads) = falls s k ((own s).0 i).0 in
          go swept mine (level-first D succs m (suc k) (omega arith) c M k refl swept.taken swept.noted swept.inv S mine s l i lm leads)
        where
          go : (sw : Swept (suc k) (omega arith) c M (levels.lo (suc (suc k))) (let l = some_below in omega arith) below (levels.lo (suc (suc (suc k))) - levels.lo (suc (suc k)) - 1) [] (record { line = m; marks = M }))
              → ((s : ℕ) → (s ∈ S) ↔ ((s ∈ sw.taken) × (get_or M s 0 ≡ suc c)))
              → (let r = first (distance_in D) succs k S m 0 in (r.0 ≡ sw.noted.line) × (sw.noted.line < m) × ((t : ℕ) → (t ∈ r.1) ↔ ((get_or D t 0 ≡ suc k) × (get_or sw.noted.marks t 0 ≡ suc sw.noted.line))))
              → Level k c M S
          go sw own (same, low, members) =
              let v = sw.inv in
              let (b, ib, fb, (t, mt, et)) = v.got low in
              let top : levels.lo (suc (suc (suc k))) ≡ suc (levels.lo (suc (suc k)) + (levels.lo (suc (suc (suc k))) - levels.lo (suc (suc k)) - 1)) = let z = some-here in omega arith in
              let many : levels.lo (suc (suc (suc k))) - levels.lo (suc (suc k)) ≡ suc (levels.lo (suc (suc (suc k))) - levels.lo (suc (suc k)) - 1) = let z = some-here in omega arith in
              record {
                line = sw.noted.line;
                marks = sw.noted.marks;
                is = (λ j. back_by (many j) (record { rest = top j; chosen = c; noted = record { line = m; marks = M } })) ∙ sw.is;
                long = v.long;
                chosen = same;
                front = members;
                someone = (t, (members t).1 (et, v.all b t ib fb low mt et));
                high = v.high;
                other = v.other;
              }

      -- the line is read off marks that say the same of the level below
      pub line_read : (x : Level k c M S) (M' : List ℕ) → ((t : ℕ) → get_or D t 0 ≡ suc k → get_or M' t 0 ≡ get_or x.marks t 0) → line_into M' (suc k) ≡ x.line
      unfolding Sweep.line_into
      line_read x M' same =
          let (t, it) = x.someone in
          let (et, mt) = (x.front t).0 it in
          let states = filt (λ t. eqb (get_or D t 0) (suc k)) q in
          let (j, _, _, lj, at_j) = levels.place-of t (suc k) (omega arith) (omega arith) et in
          let t-in : t ∈ states = (filt-in (λ t. eqb (get_or D t 0) (suc k)) q t).1 (subst (◌∈ q) (sym at_j) (get_or-in q j 0 lj), eq-eqb (get_or D t 0) (suc k) et) in
          let mark-t : get_or M' t 0 ≡ suc x.line = same t et ∙ mt in
          let (pos, le) = least-low M' states t t-in (omega (arith, mark-t)) in
          let (u, iu, is) = nearest-of M' states pos in
          let eu : get_or D u 0 ≡ suc k = eqb-true (get_or D u 0) (suc k) ((filt-in (λ t. eqb (get_or D t 0) (suc k)) q u).0 iu).1 in
          let ge : suc x.line ≤ nearest_word M' states = ⊎_elim (λ z. absurd (omega (arith, pos, is, same u eu, z))) (λ z. omega (arith, is, same u eu, z)) (x.high u eu) in
          omega (arith, le, mark-t, ge)

    -- some states of the level with the word suc k are in front, and nothing lower is marked: the marks then say the plain chain
    pub sweep-picks : (k : ℕ) → suc k ≤ far → (c : ℕ) (M : List ℕ) → length M ≡ length D → Blank k M → (S : List ℕ) → Fronts k c M S → (s : ℕ) → s ∈ S → Ended k c M S
    unfolding Sweep.chain_in pick
    sweep-picks zero h c M long blank S own s i =
        let none_left : levels.lo 2 - levels.lo 2 ≡ 0 = omega arith in
        record { chosen = c; marks = M; is = rw none_left (unfold Sweep.back_by in refl); chain = refl; above = λ t l. refl }
    sweep-picks (suc k) h c M long blank S own s i = go (one-level k h c M long blank S own s i) (λ c M S. sweep-picks k (omega arith) c M S)
      where
        go : (x : Level k c M S) → ((c : ℕ) (M : List ℕ) → length M ≡ length D → Blank k M → (S : List ℕ) → Fronts k c M S → (s : ℕ) → s ∈ S → Ended k c M S) → Ended (suc k) c M S
        go x ih =
            let r = first (distance_in D) succs k S m 0 in
            let blank-then : Blank k x.marks = λ t p le. x.other t (λ e. omega (arith, e, le)) ∙ blank t p (omega arith) in
            let e = ih x.line x.marks x.long blank-then r.1 x.front x.someone.0 x.someone.1 in
            done x e
          where
            done : (x : Level k c M S) → Ended k x.line x.marks (first (distance_in D) succs k S m 0).1 → Ended (suc k) c M S
            done x e =
                let i = levels.lo (suc (suc (suc k))) - levels.lo (suc (suc k)) in
                let j = levels.lo (suc (suc k)) - levels.lo 2 in
                let split : levels.lo (suc (suc (suc k))) - levels.lo 2 ≡ i + j = let z = rising k (omega arith) in let y = levels.some-before (suc (suc k)) (omega arith) h in omega arith in
                let from : Sweep = record { rest = levels.lo (suc (suc (suc k))); chosen = c; noted = record { line = m; marks = M } } in
                let line : line_into e.marks (suc k) ≡ (first (distance_in D) succs k S m 0).0 = line_read k h c M long blank S own x e.marks (λ t f. e.above t (omega (arith, f))) ∙ sym x.chosen in
                record {
                  chosen = e.chosen;
                  marks = e.marks;
                  is = ap (λ z. back_by z from) split ∙ (back-add i j from ∙ (ap (back_by j) x.is ∙ e.is));
                  chain = λ z. line z ∷ e.chain z;
                  above = λ t less. e.above t (omega arith) ∙ x.other t (λ f. omega (arith, f, less));
                }
