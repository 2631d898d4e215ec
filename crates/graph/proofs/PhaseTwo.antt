-- Phase two as counting loops (`PhaseTwo` in specs/) does what the plain phase two does.
-- Claimed for `Phases`: the loops give the plain phase two's chain (`forward-is`), with the nearest first state found by a loop (`nearest-is`);
-- for `Early`: where some first state has a distance, the nearest word is that of a state (`nearest-of`); for all starts in one go: the chain is as
-- long as the nearest word says (`forward-word`).
use Rattle.std.specs.Prelude.{◌≡◌, true, false, ◌⊎◌, eqb, get_or}
use Rattle.std.proofs.Math.Path.{refl, sym, ap}
use Rattle.std.proofs.Common.{◌∙◌, inl, inr, ⊎_elim, arith, length-append, take-append-drop, drop_at}
use Rattle.std.proofs.Math.Bool.{cond}
use mathlib.Core.List.Memᴰ
use mathlib.Core.List.{List, [], ◌∷◌, ◌++◌, append-nil, nil≢cons}
use Rattle.std.proofs.Math.Option.{Option, none, some, some-injective}
use Prim.Native.Nat.{ℕ, zero, suc, ◌+◌, ◌-◌, ◌<◌, ◌≤◌, min}
use Rattle.std.proofs.Math.Decide.{ℕ_discrete, dec_lt}
use Rattle.std.proofs.Math.Dec.{eqb-zero-suc, eqb-suc-zero, eqb-suc-suc}
use Rattle.std.proofs.Math.ListN.{length, take, drop, length-drop}
use Rattle.std.proofs.Math.Seq.{take_all}
use borrow.Author.Tests.{eq-eqb, ne_eqb}
use Rattle.lists.specs.Listed.{◌∈◌, none_in}
use Rattle.graph.specs.Plain.{Entry, state_of, states, look, news, nub, filt, flat, lesser, is_at, level, next, first, pick, nearest, chosen}
use Rattle.graph.proofs.Entries.{look-some, look-push, look-push-other, news-old, news-new}
use Rattle.graph.proofs.Sets.{flat_in, at_in, news-in}
use Rattle.graph.specs.Loops.{loop}
use Rattle.graph.proofs.Loops.{loop-flat, loop-filt, loop-same}
use Rattle.graph.specs.Table.{Search, push, unmark, distance_in, blank}
use Rattle.graph.proofs.Table.{Holds, blank-holds, holds-is, holds-ok, holds_more, loop-holds}
use Rattle.graph.proofs.Grows.{Grows, grows-if, push-grows, loop-grows, loop-indices}
use Rattle.graph.specs.PhaseTwo.{lesser_word, nearest_word, put, Tried, forward_by, forward, word_of}
use Rattle.graph.specs.PhaseTwo

-- ---- the nearest first state, by words: D has each state's distance and 1, or 0

-- its cases
module _ (v w : ℕ) where
  pub lesser-first : v ≡ 0 → w ≡ lesser_word v w
  unfolding lesser_word
  lesser-first h = rw (eq-eqb v 0 h)

  pub lesser-second : (v ≡ 0 → ⊥) → w ≡ 0 → v ≡ lesser_word v w
  unfolding lesser_word
  lesser-second n h = rw (ne_eqb v 0 n, eq-eqb w 0 h)

  pub lesser-min : (v ≡ 0 → ⊥) → (w ≡ 0 → ⊥) → (x : ℕ) → x ≡ min v w → x ≡ lesser_word v w
  unfolding lesser_word
  lesser-min n m x h = rw (ne_eqb v 0 n, ne_eqb w 0 m) h

lesser-words : (v w : ℕ) → unmark (lesser_word v w) ≡ lesser (unmark v) (unmark w)
unfolding lesser_word lesser
lesser-words zero w = refl
lesser-words (suc v) zero = rw (eqb-suc-zero v)
lesser-words (suc v) (suc w) =
    let least : min (suc v) (suc w) ≡ suc (min v w) = omega arith in
    rw (eqb-suc-zero v, eqb-suc-zero w, least)

pub lesser-none : (a : Option ℕ) → lesser a none ≡ a
unfolding lesser
lesser-none none = refl
lesser-none (some a) = refl

lesser-assoc : (a b c : Option ℕ) → lesser (lesser a b) c ≡ lesser a (lesser b c)
unfolding lesser
lesser-assoc none b c = refl
lesser-assoc (some a) none c = refl
lesser-assoc (some a) (some b) none = refl
lesser-assoc (some a) (some b) (some c) = ap {B = Option ℕ} some (omega arith)

pub nearest-is : (D S : List ℕ) → unmark (nearest_word D S) ≡ nearest (distance_in D) S
unfolding nearest_word loop nearest lesser
nearest-is D S = go S 0
  where
    go : (S : List ℕ) (v : ℕ) → unmark (loop (λ s v. lesser_word v (get_or D s 0)) S v) ≡ lesser (unmark v) (nearest (distance_in D) S)
    go [] v = sym (lesser-none (unmark v))
    go (s ∷ S) v =
        let rest = nearest (distance_in D) S in
        go S (lesser_word v (get_or D s 0)) ∙ (ap (λ o. lesser o rest) (lesser-words v (get_or D s 0)) ∙ lesser-assoc (unmark v) (distance_in D s) rest)

-- the lesser word is one of the two
lesser-of : (v w : ℕ) → (lesser_word v w ≡ v) ⊎ (lesser_word v w ≡ w)
unfolding lesser_word
lesser-of zero w = inr refl
lesser-of (suc v) zero = inl (rw (eqb-suc-zero v))
lesser-of (suc v) (suc w) = elim (dec_lt v w) [
  | yes l ↦ (let least : min (suc v) (suc w) ≡ suc v = omega arith in inl (rw (eqb-suc-zero v, eqb-suc-zero w, least)))
  | no l ↦ (let least : min (suc v) (suc w) ≡ suc w = omega arith in inr (rw (eqb-suc-zero v, eqb-suc-zero w, least)))
]

-- where some state has a distance, the nearest word is that of a state
pub nearest-of : (D S : List ℕ) → 0 < nearest_word D S → (s : ℕ) × (s ∈ S) × (get_or D s 0 ≡ nearest_word D S)
unfolding nearest_word loop
nearest-of D S any = ⊎_elim (λ e. absurd (omega (arith, e))) (λ x. x) (go S 0)
  where
    least : List ℕ → ℕ → ℕ
    least S v = loop (λ s v. lesser_word v (get_or D s 0)) S v

    go : (S : List ℕ) (v : ℕ) → (least S v ≡ v) ⊎ ((s : ℕ) × (s ∈ S) × (get_or D s 0 ≡ least S v))
    go [] v = inl refl
    go (s ∷ S) v =
        ⊎_elim
        (λ e. ⊎_elim (λ l. inl (e ∙ l)) (λ l. inr (s, Memᴰ.head refl, sym (e ∙ l))) (lesser-of v (get_or D s 0)))
        (λ (t, i, e). inr (t, Memᴰ.tail i, e))
        (go S (lesser_word v (get_or D s 0)))

-- ---- the loops

-- `from_state w l s`: the states with the word w to which line l leads from s come into the frontier
module _ (from_state : ℕ → ℕ → ℕ → Search → Search) where
  abbrev gather : ℕ → ℕ → ℕ → Search → Search
  gather = PhaseTwo.gather from_state

  abbrev try : ℕ → ℕ → ℕ → ℕ → Search → Tried
  try = PhaseTwo.try from_state

  abbrev walk : ℕ → ℕ → ℕ → Search → List ℕ
  walk = PhaseTwo.walk from_state

  pub try-next : (w lo n l : ℕ) (st : Search)
      → eqb (length (gather w l lo st).queue) (length st.queue) ≡ true
      → try w lo (suc n) l st ≡ try w lo n (suc l) (gather w l lo st)
  unfolding PhaseTwo.try
  try-next w lo n l st e = rw (e, PhaseTwo.try)

  pub try-here : (w lo n l : ℕ) (st : Search)
      → eqb (length (gather w l lo st).queue) (length st.queue) ≡ false
      → try w lo (suc n) l st ≡ record { line = l; table = gather w l lo st }
  unfolding PhaseTwo.try
  try-here w lo n l st e = rw (e, PhaseTwo.try)

-- ---- the length of the chain

pub walk-long : (from_state : ℕ → ℕ → ℕ → Search → Search) (m k lo : ℕ) (st : Search) → length (walk from_state m k lo st) ≡ k
unfolding PhaseTwo.walk
walk-long from_state m zero lo st = refl
walk-long from_state m (suc k) lo st = ap suc (walk-long from_state m k _ _)

-- it is known before any line is chosen
pub forward-word : (from_state : List ℕ → ℕ → ℕ → ℕ → Search → Search) (N m : ℕ) (S D : List ℕ) → word_of (forward from_state N m S D) ≡ nearest_word D S
unfolding forward forward_by
forward-word from_state N m S D = go (nearest_word D S)
  where
    go : (w : ℕ) → word_of (forward_by from_state N m S D w) ≡ w
    go zero = refl
    go (suc k) = ap suc (walk-long (from_state D) m k 0 (loop (put D (suc k)) S (blank N)))

-- ---- one line from the frontier

-- what f has does not matter to `news` where it has none of the states
news-apart : (d : ℕ) (ts : List ℕ) (f g : List Entry) → ((t : ℕ) → t ∈ ts → look t f ≡ look t g) → news d f ts ≡ news d g ts
news-apart d [] f g h = unfold news in refl
news-apart d (t ∷ ts) f g h = go (look t g) refl (λ f' g'. news-apart d ts f' g')
  where
    go : (o : Option ℕ)
        → look t g ≡ o → ((f' g' : List Entry) → ((u : ℕ) → u ∈ ts → look u f' ≡ look u g') → news d f' ts ≡ news d g' ts)
        → news d f (t ∷ ts) ≡ news d g (t ∷ ts)
    go none e ih = news-new d f t ts (h t (Memᴰ.head refl) ∙ e) ∙ (ap ((t, d) ∷◌) (ih _ _ same) ∙ sym (news-new d g t ts e))
      where
        same : (u : ℕ) → u ∈ ts → look u (f ++ ((t, d) ∷ [])) ≡ look u (g ++ ((t, d) ∷ []))
        same u m = elim (ℕ_discrete u t) [
          | yes q ↦ rw q (look-push f t d (h t (Memᴰ.head refl) ∙ e) ∙ sym (look-push g t d e))
          | no q ↦ (look-push-other f t d u q ∙ (h u (Memᴰ.tail m) ∙ sym (look-push-other g t d u q)))
        ]
    go (some y) e ih = news-old d f t ts y (h t (Memᴰ.head refl) ∙ e) ∙ (ih f g (λ u m. h u (Memᴰ.tail m)) ∙ sym (news-old d g t ts y e))

is_word : (k w : ℕ) → is_at k (unmark w) ≡ eqb w (suc k)
unfolding is_at
is_word k zero = sym (eqb-zero-suc k)
is_word k (suc d) = sym (eqb-suc-suc d k)

module _ (D : List ℕ) where
  -- those of the states that are at distance k
  abbrev at_distance : ℕ → List ℕ → List ℕ
  at_distance k ts = filt (λ t. is_at k (distance_in D t)) ts

  -- a list put into the frontier: those of it at distance k are pushed
  put-loop : (k : ℕ) (ts : List ℕ) (st : Search) → loop (put D (suc k)) ts st ≡ loop (push 1) (at_distance k ts) st
  unfolding put
  put-loop k ts st =
      loop-same _ _ (λ t b. ap (λ x. cond x (push 1 t b) b) (sym (is_word k (get_or D t 0)))) ts st
      ∙ sym (loop-filt (push 1) (λ t. is_at k (distance_in D t)) ts st)

  put-grows : (w t : ℕ) (st : Search) → Grows st (put D w t st)
  unfolding put
  put-grows w t st = grows-if (eqb (get_or D t 0) w) st (push 1 t st) (push-grows 1 t st)

module _ (from_state : ℕ → ℕ → ℕ → Search → Search) (D : List ℕ) (succs : ℕ → ℕ → List ℕ)
    (law : (w l s : ℕ) (st : Search) → loop (put D w) (succs s l) st ≡ from_state w l s st) where
  abbrev dist : ℕ → Option ℕ
  dist = distance_in D

  pub from-grows : (w l s : ℕ) (st : Search) → Grows st (from_state w l s st)
  from-grows w l s st = rw (← law w l s st) (loop-grows (put D w) (put-grows D w) (succs s l) st)

  gather-is : (k l lo : ℕ) (st : Search) → lo ≤ length st.queue
      → gather from_state (suc k) l lo st ≡ loop (push 1) (at_distance D k (flat (λ s. succs s l) (drop lo st.queue))) st
  unfolding PhaseTwo.gather
  gather-is k l lo st le =
      let X = drop lo st.queue in
      let n = length st.queue - lo in
      let whole : take n X ≡ X = take_all n X (omega (arith, length-drop lo st.queue)) in
      loop-indices (from_state (suc k) l) (from-grows (suc k) l) n lo st (omega arith)
      ∙ (ap (λ xs. loop (from_state (suc k) l) xs st) whole
      ∙ (sym (loop-same (λ s. loop (put D (suc k)) (succs s l)) (from_state (suc k) l) (law (suc k) l) X st)
      ∙ (sym (loop-flat (put D (suc k)) (λ s. succs s l) X st)
      ∙ put-loop D k (flat (λ s. succs s l) X) st)))

  -- ---- the table holds the frontiers

  module _ (m N : ℕ) (Ok : ℕ → Type 0) (low : (s : ℕ) → Ok s → s < N) (next-ok : (s l t : ℕ) → Ok s → l < m → t ∈ succs s l → Ok t) where
    -- the states of f are at distance k or more
    abbrev Far : ℕ → List Entry → Type 0
    Far k f = (x : Entry) → x ∈ f → (e : ℕ) × (dist x.0 ≡ some e) × (k ≤ e)

    -- the states of a list that are at distance k, each once
    abbrev new : ℕ → List ℕ → List Entry
    new k ts = news 0 [] (at_distance D k ts)

    far-new : (k : ℕ) (ts : List ℕ) → Far k (new k ts)
    far-new k ts x j =
        let a = (news-in 0 (at_distance D k ts) [] x.0).0 (Memᴰ.map state_of j) in
        (k, ((at_in dist k ts x.0).0 a.0).1, omega arith)

    -- a list put into the frontier: distances differ from those of the frontiers before, so all that are at distance k are new
    put_holds : (k : ℕ) (ts : List ℕ) (f : List Entry) (st : Search)
        → ((t : ℕ) → t ∈ ts → Ok t) → Holds N Ok f st → Far (suc k) f
        → Holds N Ok (f ++ new k ts) (loop (push 1) (at_distance D k ts) st)
    put_holds k ts f st o h far =
        let xs = at_distance D k ts in
        let apart : news 0 f xs ≡ news 0 [] xs = news-apart 0 xs f [] (λ t i. none_of t ((at_in dist k ts t).0 i).1 (look t f) refl) in
        rw (← apart) (loop-holds N Ok low xs 0 f st (λ t i. o t ((at_in dist k ts t).0 i).0) h)
      where
        none_of : (t : ℕ) → dist t ≡ some k → (x : Option ℕ) → look t f ≡ x → look t f ≡ look t []
        none_of t e none q = unfold look in q
        none_of t e (some y) q = let (z, w, le) = far (t, y) (look-some t f y q) in absurd (omega (arith, some-injective k z (sym e ∙ w)))

    -- ---- the line chosen

    -- x has the line of r, and after f in its table the states of r
    record Got (k : ℕ) (f : List Entry) (r : ℕ × List ℕ) (x : Tried) : Type 0 where
      line : x.line ≡ r.0
      entries : List Entry
      holds : Holds N Ok (f ++ entries) x.table
      are : states entries ≡ r.1
      far : Far k entries

    first_next : (k : ℕ) (X : List ℕ) (n l : ℕ)
        → next dist succs k X l ≡ []
        → first dist succs k X (suc n) l ≡ first dist succs k X n (suc l)
    unfolding first
    first_next k X n l e = rw (e, first)

    first-here : (k : ℕ) (X : List ℕ) (n l t : ℕ) (ts : List ℕ)
        → next dist succs k X l ≡ t ∷ ts
        → first dist succs k X (suc n) l ≡ (l, t ∷ ts)
    unfolding first
    first-here k X n l t ts e = rw (e, first)

    no-entries : (g : List Entry) → states g ≡ [] → g ≡ []
    no-entries [] e = refl
    no-entries (x ∷ g) e = absurd (nil≢cons (sym e))

    try-got : (k lo n l : ℕ) (f : List Entry) (st : Search)
        → l + n ≤ m → lo ≤ length st.queue → Holds N Ok f st → Far (suc k) f
        → Got k f (first dist succs k (drop lo st.queue) n l) (try from_state (suc k) lo n l st)
    try-got k lo zero l f st le ll h far =
        unfold PhaseTwo.try first in record { line = refl; entries = []; holds = rw (append-nil f) h; are = refl; far = λ x j. none_in j }
    try-got k lo (suc n) l f st le ll h far = go (next dist succs k X l) refl (try-got k lo n (suc l) f st (omega arith) ll h far)
      where
        X : List ℕ
        X = drop lo st.queue

        st' : Search
        st' = gather from_state (suc k) l lo st

        g : List Entry
        g = new k (flat (λ s. succs s l) X)

        -- the frontier's states are valid, and so are those to which line l leads
        valid : (t : ℕ) → t ∈ flat (λ s. succs s l) X → Ok t
        valid t i =
            let (s, a, b) = (flat_in (λ s. succs s l) X t).0 i in
            let inside : s ∈ (take lo st.queue ++ X) = Memᴰ.append_right (take lo st.queue) a in
            next-ok s l t (holds-ok N Ok f st h s (rw (take-append-drop lo st.queue) at inside)) (omega arith) b

        h' : Holds N Ok (f ++ g) st'
        h' = rw (gather-is k l lo st ll) (put_holds k (flat (λ s. succs s l) X) f st valid h far)

        all : states g ≡ next dist succs k X l
        all = unfold next level nub in refl

        long : length st'.queue ≡ length st.queue + length (states g)
        long = ap length (holds_more N Ok f g st st' h h') ∙ length-append st.queue (states g)

        go : (ts : List ℕ)
            → next dist succs k X l ≡ ts
            → Got k f (first dist succs k X n (suc l)) (try from_state (suc k) lo n (suc l) st)
            → Got k f (first dist succs k X (suc n) l) (try from_state (suc k) lo (suc n) l st)
        go [] e ih =
            let none-new : g ≡ [] = no-entries g (all ∙ e) in
            let h'' : Holds N Ok f st' = rw (none-new, append-nil f) at h' in
            let same : st' ≡ st = holds-is N Ok f st' st h'' h in
            rw (first_next k X n l e, try-next from_state (suc k) lo n l st (eq-eqb _ _ (ap (λ (x : Search). length x.queue) same)), same) ih
        go (t ∷ ts) e ih =
            let more : length (states g) ≡ suc (length ts) = ap length (all ∙ e) in
            let apart = ne_eqb (length st'.queue) (length st.queue) (λ q. omega (arith, long, more, q)) in
            rw (first-here k X n l t ts e, try-here from_state (suc k) lo n l st apart)
            record { line = refl; entries = g; holds = h'; are = all ∙ e; far = far-new k (flat (λ s. succs s l) X) }

    -- ---- the lines chosen one after the other

    walk_is : (k lo : ℕ) (f : List Entry) (st : Search)
        → lo ≤ length st.queue → Holds N Ok f st → Far k f
        → walk from_state m k lo st ≡ pick dist succs m k (drop lo st.queue)
    unfolding PhaseTwo.walk pick
    walk_is zero lo f st ll h far = refl
    walk_is (suc k) lo f st ll h far =
        let ih = walk_is k (length st.queue) (f ++ g.entries) r.table behind g.holds far' in
        (λ z. g.line z ∷ (ih ∙ ap (pick dist succs m k) frontier) z)
      where
        r : Tried
        r = try from_state (suc k) lo m 0 st

        best : ℕ × List ℕ
        best = first dist succs k (drop lo st.queue) m 0

        g : Got k f best r
        g = try-got k lo m 0 f st (omega arith) ll h far

        longer : r.table.queue ≡ st.queue ++ states g.entries
        longer = holds_more N Ok f g.entries st r.table h g.holds

        behind : length st.queue ≤ length r.table.queue
        behind = omega (arith, ap length longer, length-append st.queue (states g.entries))

        frontier : drop (length st.queue) r.table.queue ≡ best.1
        frontier = ap (drop (length st.queue)) longer ∙ (drop_at st.queue (states g.entries) (length st.queue) refl ∙ g.are)

        far' : Far k (f ++ g.entries)
        far' x j = ⊎_elim (λ a. let (y, b, c) = far x a in (y, b, omega arith)) (λ a. g.far x a) (Memᴰ.append_cases f j)

    -- ---- from the first states

    from_first : (S : List ℕ)
        → ((s : ℕ) → s ∈ S → Ok s) → (k : ℕ)
        → let st = loop (put D (suc k)) S (blank N) in walk from_state m k 0 st ≡ pick dist succs m k (level dist k S)
    from_first S ok k = walk_is k 0 (new k S) st (omega arith) h (far-new k S) ∙ ap (pick dist succs m k) (h.order ∙ unfold level nub in refl)
      where
        st : Search
        st = loop (put D (suc k)) S (blank N)

        h : Holds N Ok (new k S) st
        h = rw (put-loop D k S (blank N)) (put_holds k S [] (blank N) ok (blank-holds N Ok) (λ x j. none_in j))

-- the loops of phase two give the plain phase two's chain
pub forward-is : (from_state : List ℕ → ℕ → ℕ → ℕ → Search → Search) (D : List ℕ) (succs : ℕ → ℕ → List ℕ)
    → ((w l s : ℕ) (st : Search) → loop (put D w) (succs s l) st ≡ from_state D w l s st)
    → (m N : ℕ) (Ok : ℕ → Type 0) → ((s : ℕ) → Ok s → s < N) → ((s l t : ℕ) → Ok s → l < m → t ∈ succs s l → Ok t)
    → (S : List ℕ) → ((s : ℕ) → s ∈ S → Ok s) → forward from_state N m S D ≡ chosen (distance_in D) succs m S
unfolding forward forward_by chosen
forward-is from_state D succs law m N Ok low next-ok S ok = go (nearest_word D S) (nearest-is D S)
  where
    go : (w : ℕ) → unmark w ≡ nearest (distance_in D) S → forward_by from_state N m S D w ≡ chosen (distance_in D) succs m S
    go zero e = rw (← e, chosen)
    go (suc k) e = rw (← e, chosen) (ap {B = Option (List ℕ)} some (from_first (from_state D) D succs law m N Ok low next-ok S ok k))
