-- Phase one may stop early: as soon as a first state is as near as the next state to expand, the distances found so far give the answer.
-- Claimed: `early`, and `ended_is` for both ends of phase one (`Ended`). Phase two asks only for distances up to that of a first state
-- (`chosen-up_to`), and what phase one finds later is further than the state that waits first (`later-up_to`), because the queue is in
-- order of distance (`queue-sorted`).
use Rattle.std.specs.Prelude.{◌≡◌, Bool, true, false, cond, ◌⊎◌, eqb, leb, get_or, drop}
use Rattle.std.proofs.Math.Path.{refl, sym, ap, fun_ext}
use Rattle.std.proofs.Common.{◌∙◌, inl, inr, ⊎_elim}
use mathlib.Core.List.Memᴰ
use mathlib.Core.List.{List, [], ◌∷◌, ◌++◌, nil≢cons, head-eq_of_cons-eq}
use Rattle.std.proofs.Math.Option.{Option, none, some, none-ne-some, some-injective}
use Prim.Native.Nat.{ℕ, zero, suc, ◌<◌, ◌≤◌, min}
use native.Mathlib.Omega.{arith}
use Rattle.std.proofs.Math.Decide.{dec_lt}
use Rattle.std.proofs.Math.ListN.{get_or-eq_default}
use borrow.Author.Tests.{ne_eqb, le-leb, lt-leb}
use Rattle.lists.specs.Listed.{◌∈◌, none_in}
use Rattle.graph.specs.Plain.{Entry, state_of, states, look, news, step, steps, nub, filt, lesser, is_at, level, nearest, next, first, pick, chosen, solve}
use Rattle.graph.proofs.Entries.{same-distance, look-some, news-old, news-new, once-look, Sorted}
use Rattle.graph.specs.Loops.{loop}
use Rattle.graph.proofs.Queue.{waits_in, waits-more, waits-after, drop-map}
use Rattle.graph.proofs.Counted.{step_end, step-next}
use Rattle.graph.specs.Table.{Search, push, mark, unmark, distance_in}
use Rattle.graph.proofs.Table.{unmark-mark, Holds}
use Rattle.graph.specs.PhaseOne.{Progress, waiting, begun, advance_by}
use Rattle.graph.proofs.PhaseOne.{advance-stays, At, advances-at, at_count}
use Rattle.graph.specs.PhaseTwo.{nearest_word, put, forward}
use Rattle.graph.proofs.PhaseTwo.{lesser-none, nearest-of, forward-is}
use Rattle.graph.specs.Phases.{finish}
use Rattle.graph.proofs.Phases.{finish-is}
use Rattle.graph.specs.Early.{Ended}

-- ---- distances up to a bound

-- the distance, if it is d or less
unfoldable up_to : ℕ → Option ℕ → Option ℕ
up_to d none = none
up_to d (some e) = cond (leb e d) (some e) none

module _ (d : ℕ) where
  up_to-low : (e : ℕ) → e ≤ d → up_to d (some e) ≡ some e
  unfolding up_to
  up_to-low e le = rw (le-leb e d le)

  up_to-high : (e : ℕ) → d < e → up_to d (some e) ≡ none
  unfolding up_to
  up_to-high e lt = rw (lt-leb e d lt)

  up_to-some : (o : Option ℕ) (a : ℕ) → up_to d o ≡ some a → (o ≡ some a) × (a ≤ d)
  up_to-some none a h = absurd (none-ne-some a (unfold up_to in h))
  up_to-some (some e) a h = elim (dec_lt d e) [
    | yes lt ↦ absurd (none-ne-some a (sym (up_to-high e lt) ∙ h))
    | no ge ↦ (let same : e ≡ a = some-injective e a (sym (up_to-low e (omega arith)) ∙ h) in (ap {B = Option ℕ} some same, omega arith))
  ]

  -- the lesser of two distances, if it is up to d, is the lesser of those up to d
  up_to-lesser : (o p : Option ℕ) → up_to d (lesser o p) ≡ lesser (up_to d o) (up_to d p)
  up_to-lesser none p = unfold up_to lesser in refl
  up_to-lesser (some a) none = unfold up_to lesser in sym (lesser-none (up_to d (some a)))
  up_to-lesser (some a) (some b) = unfold lesser in elim (dec_lt d a) [
    | yes p ↦ elim (dec_lt d b) [
      | yes q ↦ rw (up_to-high (min a b) (omega arith), up_to-high a p, up_to-high b q)
      | no q ↦ (let least : min a b ≡ b = omega arith in rw (least, up_to-high a p))
    ]
    | no p ↦ elim (dec_lt d b) [
      | yes q ↦ (let least : min a b ≡ a = omega arith in rw (least, up_to-high b q, up_to-low a (omega arith)))
      | no q ↦ rw (up_to-low (min a b) (omega arith), up_to-low a (omega arith), up_to-low b (omega arith))
    ]
  ]

  -- whether a distance is k does not change, for k up to d
  up_to-at : (k : ℕ) → k ≤ d → (o : Option ℕ) → is_at k (up_to d o) ≡ is_at k o
  up_to-at k le none = unfold up_to in refl
  up_to-at k le (some e) = unfold is_at in elim (dec_lt d e) [
    | yes lt ↦ rw (up_to-high e lt, ne_eqb e k (λ q. omega arith))
    | no ge ↦ rw (up_to-low e (omega arith))
  ]

-- ---- phase two asks only for distances up to that of a first state

lesser-both : (o p : Option ℕ) → lesser o p ≡ none → (o ≡ none) × (p ≡ none)
unfolding lesser
lesser-both none p h = (refl, h)
lesser-both (some a) none h = absurd (none-ne-some a (sym h))
lesser-both (some a) (some b) h = absurd (none-ne-some (min a b) (sym h))

nearest-none : (dist : ℕ → Option ℕ) (S : List ℕ) → nearest dist S ≡ none → (s : ℕ) → s ∈ S → dist s ≡ none
unfolding nearest
nearest-none dist [] h s i = none_in i
nearest-none dist (x ∷ S) h s i =
    let both = lesser-both (dist x) (nearest dist S) h in
    ⊎_elim (λ (e : s ≡ x). ap dist e ∙ both.0) (λ j. nearest-none dist S both.1 s j) (Memᴰ.cases_cons i)

module _ (dist : ℕ → Option ℕ) (d : ℕ) where
  -- the distances up to d alone
  abbrev near : ℕ → Option ℕ
  near t = up_to d (dist t)

  nearest-up_to : (S : List ℕ) → nearest near S ≡ up_to d (nearest dist S)
  unfolding nearest
  nearest-up_to [] = unfold up_to in refl
  nearest-up_to (s ∷ S) = ap (lesser (near s)) (nearest-up_to S) ∙ sym (up_to-lesser d (dist s) (nearest dist S))

  level-up_to : (k : ℕ) → k ≤ d → (S : List ℕ) → level near k S ≡ level dist k S
  unfolding level
  level-up_to k le S = ap (λ (p : ℕ → Bool). nub (filt p S)) (fun_ext (λ t. up_to-at d k le (dist t)))

  module _ (succs : ℕ → ℕ → List ℕ) where
    first-up_to : (k : ℕ) → k ≤ d → (S : List ℕ) (n l : ℕ) → first near succs k S n l ≡ first dist succs k S n l
    unfolding first next
    first-up_to k le S zero l = refl
    first-up_to k le S (suc n) l =
        let here : next near succs k S l ≡ next dist succs k S l = level-up_to k le _ in
        let later = first-up_to k le S n (suc l) in
        λ i. elim (here i) [ [] ↦ later i | t ∷ ts ↦ (l, t ∷ ts) ]

    pick-up_to : (m k : ℕ) → k ≤ d → (S : List ℕ) → pick near succs m k S ≡ pick dist succs m k S
    unfolding pick
    pick-up_to m zero le S = refl
    pick-up_to m (suc k) le S =
        let same = first-up_to k (omega arith) S m 0 in
        let r = first dist succs k S m 0 in
        (λ i. (same i).0 ∷ pick near succs m k (same i).1) ∙ ap (r.0 ∷◌) (pick-up_to m k (omega arith) r.1)

    -- where a state s of S has a distance up to d, the distances up to d are enough
    chosen-up_to : (m : ℕ) (S : List ℕ) (s b : ℕ) → s ∈ S → near s ≡ some b → chosen near succs m S ≡ chosen dist succs m S
    unfolding chosen
    chosen-up_to m S s b i h = go (nearest near S) refl
      where
        go : (o : Option ℕ) → nearest near S ≡ o → chosen near succs m S ≡ chosen dist succs m S
        go none e = absurd (none-ne-some b (sym (nearest-none near S e s i) ∙ h))
        go (some k) e =
            let (e', le) = up_to-some d (nearest dist S) k (sym (nearest-up_to S) ∙ e) in
            rw (e, e', chosen, level-up_to k le S) (ap {B = Option (List ℕ)} some (pick-up_to m k le (level dist k S)))

-- ---- the queue of phase one is in order of distance

pub sorted-even : (d : ℕ) (q : List Entry) → ((x : Entry) → x ∈ q → x.1 ≡ d) → Sorted q
sorted-even d [] h = tt
sorted-even d (e ∷ q) h =
    (λ x i. omega (arith, h e (Memᴰ.head refl), h x (Memᴰ.tail i)), sorted-even d q (λ x i. h x (Memᴰ.tail i)))

pub sorted-append : (q g : List Entry) → Sorted q → Sorted g → ((x y : Entry) → x ∈ q → y ∈ g → x.1 ≤ y.1) → Sorted (q ++ g)
sorted-append [] g o o' h = o'
sorted-append (e ∷ q) g o o' h = (
  λ x i. ⊎_elim (λ j. o.0 x j) (λ j. h e x (Memᴰ.head refl) j) (Memᴰ.append_cases q i),
  sorted-append q g o.1 o' (λ x y i j. h x y (Memᴰ.tail i) j),
)

sorted-first : (e : Entry) (q : List Entry) → Sorted (e ∷ q) → (x : Entry) → x ∈ (e ∷ q) → e.1 ≤ x.1
sorted-first e q o x i = ⊎_elim (λ p. omega (arith, same-distance p)) (λ j. o.0 x j) (Memᴰ.cases_cons i)

-- new entries have the distance given
pub news-at : (d : ℕ) (ps : List ℕ) (f : List Entry) (x : Entry) → x ∈ news d f ps → x.1 ≡ d
news-at d [] f x i = let j : x ∈ [] = unfold news in i in none_in j
news-at d (p ∷ ps) f x i = go (look p f) refl (λ f'. news-at d ps f' x)
  where
    go : (o : Option ℕ) → look p f ≡ o → ((f' : List Entry) → x ∈ news d f' ps → x.1 ≡ d) → x.1 ≡ d
    go none e ih = ⊎_elim (λ q. same-distance q) (λ j. ih _ j) (Memᴰ.cases_cons (rw (news-new d f p ps e) at i))
    go (some y) e ih = ih f (rw (news-old d f p ps y e) at i)

-- in order, and every distance is d or d − 1
record Ordered (d : ℕ) (q : List Entry) : Type 0 where
  sorted : Sorted q
  close : (x : Entry) → x ∈ q → (x.1 ≤ d) × (d ≤ suc x.1)

-- the first is taken off, and states one further come to the end
ordered-next : (d : ℕ) (e : Entry) (q g : List Entry) → Ordered d (e ∷ q) → ((x : Entry) → x ∈ g → x.1 ≡ suc e.1) → Ordered (suc e.1) (q ++ g)
ordered-next d e q g o h =
    record {
      sorted = sorted-append q g o.sorted.1 (sorted-even (suc e.1) g h) (λ x y i j. omega (arith, old x i, h y j));
      close = λ x i. ⊎_elim (λ j. old x j) (λ j. (omega (arith, h x j), omega (arith, h x j))) (Memᴰ.append_cases q i);
    }
  where
    old : (x : Entry) → x ∈ q → (x.1 ≤ suc e.1) × (suc e.1 ≤ suc x.1)
    old x i = (omega (arith, (o.close x (Memᴰ.tail i)).0, (o.close e (Memᴰ.head refl)).1), omega (arith, o.sorted.0 x i))

-- ---- what is found later is further

-- entries beyond d at the end change no distance up to d
look-up_to : (d : ℕ) (f g : List Entry) → ((x : Entry) → x ∈ g → d < x.1) → (t : ℕ) → up_to d (look t (f ++ g)) ≡ up_to d (look t f)
unfolding look up_to
look-up_to d [] g h t = go (look t g) refl
  where
    go : (o : Option ℕ) → look t g ≡ o → up_to d (look t g) ≡ none
    go none e = ap (up_to d) e
    go (some a) e = ap (up_to d) e ∙ up_to-high d a (h (t, a) (look-some t g a e))
look-up_to d (e ∷ f) g h t = go (eqb t e.0) (look-up_to d f g h t)
  where
    go : (b : Bool) → up_to d (look t (f ++ g)) ≡ up_to d (look t f)
        → up_to d (elim b [ true ↦ some e.1 | false ↦ look t (f ++ g) ]) ≡ up_to d (elim b [ true ↦ some e.1 | false ↦ look t f ])
    go true ih = refl
    go false ih = ih

module _ (preds : ℕ → List ℕ) where
  -- those that are new when e is expanded
  abbrev fresh : List Entry → Entry → List Entry
  fresh f e = news (suc e.1) f (preds e.0)

  -- what every expansion keeps, of the entries and the queue, holds at every count
  module _ (P : List Entry → List Entry → Type 0) (keeps : (f : List Entry) (e : Entry) (q : List Entry) → P f (e ∷ q) → P (f ++ fresh f e) (q ++ fresh f e)) where
    pub step_keeps : (f : List Entry) (n : ℕ) → P f (drop n f) → let x = step preds (f, n) in P x.0 (drop x.1 x.0)
    step_keeps f n p = go (drop n f) refl
      where
        go : (q : List Entry) → drop n f ≡ q → let x = step preds (f, n) in P x.0 (drop x.1 x.0)
        go [] h = rw (step_end preds f n h) p
        go (e ∷ q) h =
            let new = fresh f e in
            let rest : drop (suc n) (f ++ new) ≡ q ++ new = waits-after n (f ++ new) e (q ++ new) (waits-more n f new e q h) in
            rw (step-next preds f n e q h, rest) (keeps f e q (rw h at p))

    pub steps-keep : (k : ℕ) (f : List Entry) (n : ℕ) → P f (drop n f) → let x = steps preds k (f, n) in P x.0 (drop x.1 x.0)
    unfolding steps
    steps-keep zero f n p = p
    steps-keep (suc k) f n p = let x = step preds (f, n) in steps-keep k x.0 x.1 (step_keeps f n p)

  queue-sorted : (goals : List ℕ) (k : ℕ) → let x = steps preds k (news 0 [] goals, 0) in Sorted (drop x.1 x.0)
  queue-sorted goals k =
      let even = news-at 0 goals [] in
      let start : Ordered 0 (news 0 [] goals) = record { sorted = sorted-even 0 _ even; close = λ x i. (omega (arith, even x i), omega arith) } in
      (steps-keep (λ f q. (d : ℕ) × Ordered d q) (λ f e q (d, o). (suc e.1, ordered-next d e q _ o (news-at _ _ _))) k (news 0 [] goals) 0 (0, start)).1.sorted

  -- where every state that waits is at distance d or more, the search to come changes no distance up to d
  later-up_to : (d k : ℕ) (f : List Entry) (n : ℕ) → ((x : Entry) → x ∈ drop n f → d ≤ x.1)
      → (t : ℕ) → up_to d (look t (steps preds k (f, n)).0) ≡ up_to d (look t f)
  later-up_to d k f n h t = (steps-keep Far keeps k f n (h, refl)).1
    where
      Far : List Entry → List Entry → Type 0
      Far g q = ((x : Entry) → x ∈ q → d ≤ x.1) × (up_to d (look t g) ≡ up_to d (look t f))

      keeps : (g : List Entry) (e : Entry) (q : List Entry) → Far g (e ∷ q) → Far (g ++ fresh g e) (q ++ fresh g e)
      keeps g e q (far, same) = (
        λ x i. ⊎_elim (λ j. far x (Memᴰ.tail j)) (λ j. omega (arith, beyond x j)) (Memᴰ.append_cases q i),
        look-up_to d g (fresh g e) beyond t ∙ same,
      )
        where
          beyond : (x : Entry) → x ∈ fresh g e → d < x.1
          beyond x j = omega (arith, news-at (suc e.1) (preds e.0) g x j, far e (Memᴰ.head refl))

-- ---- tables

-- the entry of the first state
states-cons : (f : List Entry) (s : ℕ) (q : List ℕ) → states f ≡ s ∷ q → (d : ℕ) × (g : List Entry) × (f ≡ (s, d) ∷ g)
states-cons [] s q h = absurd (nil≢cons h)
states-cons (e ∷ f) s q h = (e.1, f, λ i. (head-eq_of_cons-eq h i, e.1) ∷ f)

module _ (N : ℕ) (Ok : ℕ → Type 0) where
  table-look : (f : List Entry) (a : Search) → Holds N Ok f a → (t : ℕ) → t < N → distance_in a.dist t ≡ look t f
  table-look f a h t l = ap unmark (h.marks t l) ∙ unmark-mark (look t f)

  -- a number past the states has no distance
  table-past : (f : List Entry) (a : Search) → Holds N Ok f a → (t : ℕ) → ¬ (t < N) → distance_in a.dist t ≡ none
  table-past f a h t l = ap unmark (get_or-eq_default a.dist 0 {n = t} (omega (arith, h.sized)))

  -- tables agree up to d where their entries do
  table-up_to : (d : ℕ) (f g : List Entry) (a b : Search) → Holds N Ok f a → Holds N Ok g b
      → ((t : ℕ) → up_to d (look t f) ≡ up_to d (look t g)) → (t : ℕ) → up_to d (distance_in a.dist t) ≡ up_to d (distance_in b.dist t)
  table-up_to d f g a b h h' same t = elim (dec_lt t N) [
    | yes l ↦ (ap (up_to d) (table-look f a h t l) ∙ (same t ∙ sym (ap (up_to d) (table-look g b h' t l))))
    | no l ↦ ap (up_to d) (table-past f a h t l ∙ sym (table-past g b h' t l))
  ]

-- ---- the early stop

-- towards no state it never ends early
pub ended-none : (u : Progress) → Ended [] u → waiting u ≡ []
unfolding nearest_word loop
ended-none u (inl e) = e
ended-none u (inr met) = absurd (omega (arith, met.some_near))

-- the hypotheses are those of `finish-is`
module _ (N : ℕ) (goals : List ℕ) (preds : ℕ → List ℕ) (succs : ℕ → ℕ → List ℕ) (m : ℕ)
    (expand : ℕ → ℕ → Search → Search) (expand-law : (w t : ℕ) (st : Search) → loop (push w) (preds t) st ≡ expand w t st)
    (from_state : List ℕ → ℕ → ℕ → ℕ → Search → Search) (from-law : (D : List ℕ) (w l s : ℕ) (st : Search) → loop (put D w) (succs s l) st ≡ from_state D w l s st)
    (Ok : ℕ → Type 0) (low : (s : ℕ) → Ok s → s < N) (goals-ok : (s : ℕ) → s ∈ goals → Ok s)
    (next-ok : (s l t : ℕ) → Ok s → l < m → t ∈ succs s l → Ok t) (preds-ok : (s t : ℕ) → Ok t → s ∈ preds t → Ok s)
    (S : List ℕ) (starts-ok : (s : ℕ) → s ∈ S → Ok s) where
  -- two tables of distances that agree up to d, where a state of S has a distance up to d, give phase two the same chain
  forward-up_to : (d : ℕ) (D D' : List ℕ) → ((t : ℕ) → up_to d (distance_in D t) ≡ up_to d (distance_in D' t))
      → (s b : ℕ) → s ∈ S → up_to d (distance_in D s) ≡ some b → forward from_state N m S D ≡ forward from_state N m S D'
  forward-up_to d D D' same s b i h =
      one D
      ∙ (sym (chosen-up_to (distance_in D) d succs m S s b i h)
      ∙ (ap (λ dist. chosen dist succs m S) (fun_ext same)
      ∙ (chosen-up_to (distance_in D') d succs m S s b i (sym (same s) ∙ h)
      ∙ sym (one D'))))
    where
      one : (D : List ℕ) → forward from_state N m S D ≡ chosen (distance_in D) succs m S
      one D = forward-is from_state D succs (from-law D) m N Ok low next-ok S starts-ok

  -- after k expansions the state x waits first, and s, one of the first states, has a distance that is not above x's
  pub early : (k x s : ℕ) (q : List ℕ) → let u = advance_by expand k (begun N goals) in let D = u.table.dist in
      waiting u ≡ x ∷ q → s ∈ S → 0 < get_or D s 0 → get_or D s 0 ≤ get_or D x 0 → forward from_state N m S D ≡ solve N goals preds succs m S
  unfolding finish
  early k x s q h i any near =
      let (d, g, e) = states-cons (drop n f) x q (sym waits ∙ h) in
      stopped d g e (get_or u.table.dist s 0) refl any near
      ∙ finish-is N goals preds succs m expand expand-law from_state from-law Ok low goals-ok next-ok preds-ok S starts-ok k
    where
      u : Progress
      u = advance_by expand k (begun N goals)

      v : Progress
      v = advance_by expand N u

      plain : List Entry × ℕ
      plain = steps preds k (news 0 [] goals, 0)

      f : List Entry
      f = plain.0

      n : ℕ
      n = plain.1

      now : At preds expand expand-law N Ok low preds-ok plain u
      now = at_count preds expand expand-law N Ok low preds-ok goals goals-ok k

      end : At preds expand expand-law N Ok low preds-ok (steps preds N plain) v
      end = advances-at preds expand expand-law N Ok low preds-ok N plain u now

      waits : waiting u ≡ states (drop n f)
      waits = (λ j. drop (now.count j) (now.table.order j)) ∙ drop-map state_of n f

      -- x's word is one more than its distance
      word : (d : ℕ) (g : List Entry) → drop n f ≡ (x, d) ∷ g → get_or u.table.dist x 0 ≡ suc d
      word d g e = let j = waits_in n f (x, d) g e in now.table.marks x (low x (now.table.okay (x, d) j)) ∙ ap mark (once-look f now.table.once x d j)

      stopped : (d : ℕ) (g : List Entry) → drop n f ≡ (x, d) ∷ g → (w : ℕ) → get_or u.table.dist s 0 ≡ w → 0 < w → w ≤ get_or u.table.dist x 0
          → forward from_state N m S u.table.dist ≡ forward from_state N m S v.table.dist
      stopped d g e zero is any near = absurd (omega arith)
      stopped d g e (suc b) is any near =
          let far : (y : Entry) → y ∈ drop n f → d ≤ y.1 = rw e (sorted-first (x, d) g (rw e at (queue-sorted preds goals k))) in
          let same = table-up_to N Ok d f (steps preds N plain).0 u.table v.table now.table end.table (λ t. sym (later-up_to preds d N f n far t)) in
          forward-up_to d u.table.dist v.table.dist same s b i (ap (λ w. up_to d (unmark w)) is ∙ up_to-low d b (omega (arith, near, word d g e)))

  -- both ends of phase one
  pub ended_is : (k : ℕ) → let u = advance_by expand k (begun N goals) in Ended S u → forward from_state N m S u.table.dist ≡ solve N goals preds succs m S
  unfolding finish
  ended_is k (inl e) =
      ap (λ (v : Progress). forward from_state N m S v.table.dist) (sym (advance-stays expand N (advance_by expand k (begun N goals)) e))
      ∙ finish-is N goals preds succs m expand expand-law from_state from-law Ok low goals-ok next-ok preds-ok S starts-ok k
  ended_is k (inr met) =
      let (s, i, is) = nearest-of (advance_by expand k (begun N goals)).table.dist S met.some_near in
      early k met.next s met.rest met.waits i (omega (arith, is, met.some_near)) (omega (arith, is, met.as-near))
