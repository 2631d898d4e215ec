-- Phase one leaves what the sweep goes by: the states found stand in order of distance (`levels`), and from each a line leads one nearer (`falls`).
use Rattle.std.specs.Prelude.{◌≡◌, refl, Bool, true, false, cond, List, [], ◌∷◌, ◌++◌, ◌↔◌, ◌⊎◌, ℕ, zero, suc, ◌+◌, ◌-◌, ◌<◌, ◌≤◌, ltb, length, get_or, drop}
use Rattle.std.proofs.Common.{sym, ap, ◌∙◌, inl, inr, ⊎_elim, arith, ltb-true, ltb-false}
use mathlib.Core.List.Memᴰ
use Rattle.std.proofs.Math.Option.{Option, none, some}
use Rattle.std.proofs.Math.Decide.{dec_lt}
use Rattle.std.proofs.lemmas.List.{length-map}
use Rattle.std.proofs.Math.ListN.{get_or-eq_default}
use Rattle.lists.specs.Listed.{◌∈◌, none_in}
use Rattle.graph.specs.Plain.{Entry, state_of, states, look, news, steps}
use Rattle.graph.proofs.Entries.{look-some, once-look, Sorted}
use Rattle.graph.proofs.Sets.{news-in}
use Rattle.graph.specs.Table.{Search, mark}
use Rattle.graph.proofs.Table.{Holds}
use Rattle.graph.proofs.Early.{news-at, sorted-append, sorted-even, steps-keep}
use Rattle.graph.proofs.Sweep.{Levels, Falls}

-- ---- the entries at every count

module _ (preds : ℕ → List ℕ) where
  -- those found are in order, and no further than d; those that wait are no nearer than d − 1
  pub record Lined (d : ℕ) (f q : List Entry) : Type 0 where
    pub sorted : Sorted f
    pub below : (x : Entry) → x ∈ f → x.1 ≤ d
    pub ahead : Sorted q
    pub close : (x : Entry) → x ∈ q → d ≤ suc x.1
    -- each but the goals was found from one of them that is one nearer
    pub from : (x : Entry) → x ∈ f → (x.1 ≡ 0) ⊎ ((y : Entry) × (y ∈ f) × (x.1 ≡ suc y.1) × (x.0 ∈ preds y.0))
    pub inside : (x : Entry) → x ∈ q → x ∈ f

  lined-next : (f : List Entry) (e : Entry) (q : List Entry) → (d : ℕ) × Lined d f (e ∷ q)
      → let g = news (suc e.1) f (preds e.0) in (d : ℕ) × Lined d (f ++ g) (q ++ g)
  lined-next f e q (d, l) =
      let g = news (suc e.1) f (preds e.0) in
      let even : (x : Entry) → x ∈ g → x.1 ≡ suc e.1 = news-at (suc e.1) (preds e.0) f in
      let near : d ≤ suc e.1 = l.close e (Memᴰ.head refl) in
      let own = l.inside e (Memᴰ.head refl) in (
        suc e.1,
        record {
          sorted = sorted-append f g l.sorted (sorted-even (suc e.1) g even) (λ x y i j. omega (arith, l.below x i, near, even y j));
          below = λ x i. ⊎_elim (λ j. omega (arith, l.below x j, near)) (λ j. omega (arith, even x j)) (Memᴰ.append_cases f i);
          ahead = sorted-append q g l.ahead.1 (sorted-even (suc e.1) g even) (λ x y i j. omega (arith, l.below x (l.inside x (Memᴰ.tail i)), near, even y j));
          close = λ x i. ⊎_elim (λ j. omega (arith, l.ahead.0 x j)) (λ j. omega (arith, even x j)) (Memᴰ.append_cases q i);
          from = λ x i. ⊎_elim
              (λ j. ⊎_elim (λ z. inl z) (λ (y, k, s, p). inr (y, Memᴰ.append_left g k, s, p)) (l.from x j))
              (λ j. inr (e, Memᴰ.append_left g own, even x j, ((news-in (suc e.1) (preds e.0) f x.0).0 (Memᴰ.map state_of j)).0))
              (Memᴰ.append_cases f i);
          inside = λ x i. ⊎_elim (λ j. Memᴰ.append_left g (l.inside x (Memᴰ.tail j))) (λ j. Memᴰ.append_right f j) (Memᴰ.append_cases q i);
        },
      )

  pub lined : (goals : List ℕ) (k : ℕ) → let x = steps preds k (news 0 [] goals, 0) in (d : ℕ) × ((q : List Entry) × Lined d x.0 q)
  lined goals k =
      let even = news-at 0 goals [] in
      let start : Lined 0 (news 0 [] goals) (news 0 [] goals) = record {
        sorted = sorted-even 0 _ even;
        below = λ x i. omega (arith, even x i);
        ahead = sorted-even 0 _ even;
        close = λ x i. omega arith;
        from = λ x i. inl (even x i);
        inside = λ x i. i;
      } in
      let (d, l) = steps-keep preds (λ f q. (d : ℕ) × Lined d f q) lined-next k (news 0 [] goals) 0 (0, start) in
      (d, (drop (steps preds k (news 0 [] goals, 0)).1 (steps preds k (news 0 [] goals, 0)).0, l))

-- ---- places in a list in order

-- how many entries are nearer than d
unfoldable pub lows : ℕ → List Entry → ℕ
lows d [] = 0
lows d (e ∷ f) = cond (ltb e.1 d) (suc (lows d f)) (lows d f)

abbrev pub entry_at : List Entry → ℕ → Entry
entry_at f j = get_or f j (0, 0)

pub no-lows : (d : ℕ) (f : List Entry) → ((x : Entry) → x ∈ f → d ≤ x.1) → lows d f ≡ 0
unfolding lows
no-lows d [] h = refl
no-lows d (e ∷ f) h = go (ltb e.1 d) refl (no-lows d f (λ x i. h x (Memᴰ.tail i)))
  where
    go : (b : Bool) → ltb e.1 d ≡ b → lows d f ≡ 0 → cond b (suc (lows d f)) (lows d f) ≡ 0
    go true q ih = absurd (let z = h e (Memᴰ.head refl) in omega (arith, ltb-true e.1 d q))
    go false q ih = ih

pub lows-at : (d : ℕ) (f : List Entry) → Sorted f → (j : ℕ) → j < length f → (j < lows d f → (entry_at f j).1 < d) × (lows d f ≤ j → d ≤ (entry_at f j).1)
unfolding lows
lows-at d [] o j l = absurd (omega arith)
lows-at d (e ∷ f) o j l = go (ltb e.1 d) refl j l (λ i. lows-at d f o.1 i)
  where
    at : (j : ℕ) → j < length (e ∷ f) → e.1 ≤ (entry_at (e ∷ f) j).1
    at zero l = omega arith
    at (suc j) l = o.0 (entry_at f j) (in_list f j (omega arith))
      where
        in_list : (f : List Entry) (j : ℕ) → j < length f → entry_at f j ∈ f
        in_list [] j l = absurd (omega arith)
        in_list (x ∷ f) zero l = Memᴰ.head refl
        in_list (x ∷ f) (suc j) l = Memᴰ.tail (in_list f j (omega arith))

    go : (b : Bool) → ltb e.1 d ≡ b → (j : ℕ) → j < length (e ∷ f) → ((i : ℕ) → i < length f → (i < lows d f → (entry_at f i).1 < d) × (lows d f ≤ i → d ≤ (entry_at f i).1))
        → (j < cond b (suc (lows d f)) (lows d f) → (entry_at (e ∷ f) j).1 < d) × (cond b (suc (lows d f)) (lows d f) ≤ j → d ≤ (entry_at (e ∷ f) j).1)
    go true q zero l ih = (λ _. ltb-true e.1 d q, λ h. absurd (omega arith))
    go true q (suc j) l ih = let (a, b) = ih j (omega arith) in (λ h. a (omega arith), λ h. b (omega arith))
    go false q j l ih =
        let none-low = no-lows d f (λ x i. let z = o.0 x i in omega (arith, ltb-false e.1 d q)) in
        (λ h. absurd (omega (arith, none-low)), λ h. omega (arith, at j l, ltb-false e.1 d q))

pub lows-few : (d : ℕ) (f : List Entry) → lows d f ≤ length f
unfolding lows
lows-few d [] = omega arith
lows-few d (e ∷ f) = go (ltb e.1 d) (lows-few d f)
  where
    go : (b : Bool) → lows d f ≤ length f → cond b (suc (lows d f)) (lows d f) ≤ suc (length f)
    go true h = omega arith
    go false h = omega arith

in-at : (f : List Entry) (x : Entry) → x ∈ f → (j : ℕ) × (j < length f) × (entry_at f j ≡ x)
in-at [] x i = none_in i
in-at (e ∷ f) x i = ⊎_elim (λ p. (0, omega arith, sym p)) (λ k. let (j, l, q) = in-at f x k in (suc j, omega arith, q)) (Memᴰ.cases_cons i)

pub at-in-list : (f : List Entry) (j : ℕ) → j < length f → entry_at f j ∈ f
at-in-list [] j l = absurd (omega arith)
at-in-list (x ∷ f) zero l = Memᴰ.head refl
at-in-list (x ∷ f) (suc j) l = Memᴰ.tail (at-in-list f j (omega arith))

pub states-at : (f : List Entry) (j : ℕ) → j < length f → get_or (states f) j 0 ≡ (entry_at f j).0
states-at [] j l = absurd (omega arith)
states-at (x ∷ f) zero l = refl
states-at (x ∷ f) (suc j) l = states-at f j (omega arith)

-- ---- the table

module _ (preds : ℕ → List ℕ) (succs : ℕ → ℕ → List ℕ) (m N : ℕ) (Ok : ℕ → Type 0) (low : (s : ℕ) → Ok s → s < N)
    (edges : (s t : ℕ) → Ok s → Ok t → (s ∈ preds t) ↔ ((l : ℕ) × (l < m) × (t ∈ succs s l)))
    (f : List Entry) (d : ℕ) (q : List Entry) (l : Lined preds d f q) (st : Search) (h : Holds N Ok f st) where
  pub word_of : (x : Entry) → x ∈ f → get_or st.dist x.0 0 ≡ suc x.1
  word_of x i = h.marks x.0 (low x.0 (h.okay x i)) ∙ ap mark (once-look f h.once x.0 x.1 i)

  -- a state with a word is found, at the distance that it says
  pub found_of : (t w : ℕ) → 0 < w → get_or st.dist t 0 ≡ w → (k : ℕ) × (w ≡ suc k) × ((t, k) ∈ f)
  found_of t w any e = elim (dec_lt t N) [
    | yes l ↦ go (look t f) refl (sym e ∙ h.marks t l)
    | no l ↦ absurd (omega (arith, any, e, get_or-eq_default st.dist 0 {n = t} (omega (arith, h.sized))))
  ]
    where
      go : (o : Option ℕ) → look t f ≡ o → w ≡ mark (look t f) → (k : ℕ) × (w ≡ suc k) × ((t, k) ∈ f)
      go none p z = absurd (omega (arith, any, z ∙ ap mark p))
      go (some k) p z = (k, z ∙ ap mark p, look-some t f k p)

  -- every nearer distance is that of some state
  pub deep : (n k : ℕ) (x : Entry) → x ∈ f → x.1 ≡ n + k → (y : Entry) × (y ∈ f) × (y.1 ≡ k)
  deep zero k x i e = (x, i, omega (arith, e))
  deep (suc n) k x i e = ⊎_elim (λ z. absurd (omega (arith, e, z))) (λ (y, j, s, p). deep n k y j (omega (arith, e, s))) (l.from x i)

  pub falls : Falls st.dist succs m st.queue
  falls s k e =
      let (j, w, i) = found_of s (suc (suc k)) (omega arith) e in
      ⊎_elim
      (λ z. absurd (omega (arith, w, z)))
      (λ (y, iy, up, p).
      let (a, am, t) = (edges s y.0 (h.okay (s, j) i) (h.okay y iy)).0 p in
      (a, am, (y.0, t, word_of y iy ∙ omega (arith, w, up))))
      (l.from (s, j) i)

  module _ (far : ℕ) (s : ℕ) (is : get_or st.dist s 0 ≡ far) where
    abbrev from_of : ℕ → ℕ
    from_of w = lows (w - 1) f

    -- the place of an entry
    pub entry_place : (x : Entry) (w : ℕ) → x ∈ f → w ≡ suc x.1 → (j : ℕ) × (from_of w ≤ j) × (j < from_of (suc w)) × (j < length f) × (entry_at f j ≡ x)
    entry_place x w i e =
        let (j, lj, at) = in-at f x i in
        let (_, a) = lows-at (w - 1) f l.sorted j lj in
        let (b, _) = lows-at (w - 1) f l.sorted j lj in
        let (_, c) = lows-at (suc w - 1) f l.sorted j lj in
        let dist : (entry_at f j).1 ≡ x.1 = ap (λ (z : Entry). z.1) at in (
          j,
          elim (dec_lt j (from_of w)) [ yes z ↦ absurd (let y = b z in omega (arith, y, dist, e)) | no z ↦ omega arith ],
          elim (dec_lt j (from_of (suc w))) [ yes z ↦ z | no z ↦ absurd (let y = c (omega arith) in omega (arith, y, dist, e)) ],
          lj,
          at,
        )

    pub queue_long : length st.queue ≡ length f
    queue_long = ap length h.order ∙ length-map f state_of

    pub queue-at : (j : ℕ) → j < length f → get_or st.queue j 0 ≡ (entry_at f j).0
    queue-at j lj = ap (λ z. get_or z j 0) h.order ∙ states-at f j lj

    unfoldable pub levels : Levels st.dist succs m st.queue far
    levels = record {
      lo = from_of;
      some-before = λ w any le.
          let (k, e, i) = found_of s far (omega arith) is in
          let (y, iy, ey) = deep (k - (w - 1)) (w - 1) (s, k) i (omega (arith, e)) in
          let (j, a, b, _, _) = entry_place y w iy (omega (arith, ey)) in
          omega (arith, a, b);
      word-at = λ w j any le a b.
          let short : j < length f = few w j b in
          let (x, _) = lows-at (suc w - 1) f l.sorted j short in
          let (_, z) = lows-at (w - 1) f l.sorted j short in
          ap (λ t. get_or st.dist t 0) (queue-at j short) ∙ (word_of (entry_at f j) (at-in-list f j short) ∙ (let p = x b in let q = z a in omega arith));
      place-of = λ t w any le e.
          let (k, p, i) = found_of t w any e in
          let (j, a, b, lj, at) = entry_place (t, k) w i p in
          (j, a, b, omega (arith, lj, queue_long), sym (queue-at j lj ∙ ap (λ (z : Entry). z.0) at));
    }
      where
        few : (w j : ℕ) → j < from_of (suc w) → j < length f
        few w j b = omega (arith, lows-few (suc w - 1) f)
