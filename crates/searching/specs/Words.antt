-- The words of an area that holds a search, stretch by stretch (`Stretched`): what is read of `held_of`, and what makes an area `held_of`.
-- Claimed: `held-stretched` and `stretched-held` (an area is `held_of` exactly where it is `Stretched`), `held-long` (how long it is), and what single words of it are.
use Rattle.std.specs.Prelude.{◌≡◌, refl, take}
use Rattle.std.proofs.Math.Path.{sym, ap}
use Rattle.std.proofs.Common.{◌∙◌, subst, mod-eq_of_lt, arith, length-append, take-append-drop, take_at, drop_at, take-take, get_or-take}
use mathlib.Core.List.{List, [], ◌∷◌, ◌++◌, map, append_assoc}
use Prim.Native.Nat.{ℕ, suc, ◌+◌, ◌*◌, ◌-◌, ◌%◌, ◌≤◌, ◌<◌, min}
use Rattle.std.proofs.Math.Nat.{min-eq_left}
use Rattle.std.proofs.Math.ListN.{length, get_or, drop, replicate, get_or-append}
use Rattle.std.proofs.lemmas.List.{length-replicate}
use Rattle.std.proofs.Math.Seq.{take-append_seam, drop-drop}
use Rattle.meaning.specs.Record.{boats}
use Rattle.meaning.specs.Pattern.{keeps}
use Rattle.meaning.specs.Request.{Asked, size_of}
use Rattle.graph.specs.Underway.{Underway, dist_of, queue_of}
use Rattle.request.specs.Layout.{loaded_of}
use Rattle.area.specs.Area.{stretch}
use Rattle.holding.specs.Holding.{length_in, counters_in, bytes_in}
use Rattle.searching.specs.Promise.{padded, numbers_in, held_of}

-- the search's lists have as many words as there are states, or fewer
pub record Sized (N : ℕ) (u : Underway) : Type 0 where
  pub dist-long : length (dist_of u) ≡ N
  pub queue-fits : length (queue_of u) ≤ N
  pub how-long : length u.found.how ≡ length (queue_of u)
  pub marks-long : length u.sweep.noted.marks ≡ N

-- the first word after what is loaded of a record
abbrev pub base_of : Asked → ℕ
base_of q = 209 + length (loaded_of (keeps q.pattern) q.day.lines)

pub record Stretched (q : Asked) (pat : List ℕ) (from : ℕ) (u : Underway) (w : List ℕ) : Type 0 where
  pub numbers : take 17 w ≡ padded 17 (numbers_in q pat from u)
  pub bytes : stretch 17 192 w ≡ padded 192 pat
  pub tables : stretch 209 (length (loaded_of (keeps q.pattern) q.day.lines)) w ≡ loaded_of (keeps q.pattern) q.day.lines
  pub dist : stretch (base_of q) (size_of q) w ≡ dist_of u
  pub queue : stretch (base_of q + size_of q) (length (queue_of u)) w ≡ queue_of u
  pub queue-gap : stretch (base_of q + size_of q + length (queue_of u)) (size_of q - length (queue_of u)) w ≡ replicate (size_of q - length (queue_of u)) 0
  pub how : stretch (base_of q + 2 * size_of q) (length (queue_of u)) w ≡ u.found.how
  pub how-gap : stretch (base_of q + 2 * size_of q + length (queue_of u)) (size_of q - length (queue_of u)) w ≡ replicate (size_of q - length (queue_of u)) 0
  pub marks : stretch (base_of q + 3 * size_of q) (size_of q) w ≡ u.sweep.noted.marks
  pub after : drop (base_of q + 4 * size_of q) w ≡ replicate (length w - (base_of q + 4 * size_of q)) 0

-- ---- parts end to end

-- a part and what comes after it, read out of the words, and put together to them
part_of : (b n : ℕ) (w p r : List ℕ) → length p ≡ n → drop b w ≡ p ++ r → stretch b n w ≡ p
unfolding stretch
part_of b n w p r l h = ap (take n) h ∙ take_at p r n l

module _ (b n c : ℕ) (e : b + n ≡ c) (w : List ℕ) where
  after-of : (p r : List ℕ) → length p ≡ n → drop b w ≡ p ++ r → drop c w ≡ r
  after-of p r l h = ap (λ k. drop k w) (sym e) ∙ (sym (drop-drop n b w) ∙ (ap (drop n) h ∙ drop_at p r n l))

  whole_of : (p r : List ℕ) → stretch b n w ≡ p → drop c w ≡ r → drop b w ≡ p ++ r
  unfolding stretch
  whole_of p r h k =
      let rest : drop n (drop b w) ≡ r = drop-drop n b w ∙ (ap (λ m. drop m w) e ∙ k) in
      sym (take-append-drop n (drop b w)) ∙ (λ i. h i ++ rest i)

padded-long : (n : ℕ) (l : List ℕ) → length l ≤ n → length (padded n l) ≡ n
unfolding padded
padded-long n l h = length-append l (replicate (n - length l) 0) ∙ omega (arith, length-replicate {A = ℕ} (n - length l) 0)

-- the parts of an area: two of fixed length, the tables, and four of N words, of which the middle two are filled up with zeros
module _ (N : ℕ) (A B T D Q H M : List ℕ) where
  abbrev zeros : List ℕ
  zeros = replicate (N - length Q) 0

  -- from a part on to the end, with z after the last
  abbrev from_h : List ℕ → List ℕ
  from_h z = H ++ (zeros ++ (M ++ z))

  abbrev from_t : List ℕ → List ℕ
  from_t z = T ++ (D ++ (Q ++ (zeros ++ from_h z)))

  abbrev parts : List ℕ
  parts = A ++ (B ++ (T ++ (D ++ (padded N Q ++ (padded N H ++ M)))))

  abbrev base : ℕ
  base = 209 + length T

  record Fit : Type 0 where
    a : length A ≡ 17
    b : length B ≡ 192
    d : length D ≡ N
    q : length Q ≤ N
    h : length H ≡ length Q
    m : length M ≡ N

  record Cut (w z : List ℕ) : Type 0 where
    a : stretch 0 17 w ≡ A
    b : stretch 17 192 w ≡ B
    t : stretch 209 (length T) w ≡ T
    d : stretch base N w ≡ D
    q : stretch (base + N) (length Q) w ≡ Q
    q-gap : stretch (base + N + length Q) (N - length Q) w ≡ zeros
    h : stretch (base + 2 * N) (length Q) w ≡ H
    h-gap : stretch (base + 2 * N + length Q) (N - length Q) w ≡ zeros
    m : stretch (base + 3 * N) N w ≡ M
    after : drop (base + 4 * N) w ≡ z

  module _ (f : Fit) where
    parts-long : length parts ≡ base + 4 * N
    parts-long =
        let e = padded-long N Q f.q in
        let g = padded-long N H (omega (arith, f.q, f.h)) in
        simp length-append (omega (arith, e, g, f.a, f.b, f.d, f.m))

    parts-flat : (z : List ℕ) → parts ++ z ≡ A ++ (B ++ from_t z)
    unfolding padded
    parts-flat z = rw f.h (simp append_assoc refl)

    gap : length zeros ≡ N - length Q
    gap = length-replicate (N - length Q) 0

    to-h : base + N + length Q + (N - length Q) ≡ base + 2 * N
    to-h = omega (arith, f.q)

    to-m : base + 2 * N + length Q + (N - length Q) ≡ base + 3 * N
    to-m = omega (arith, f.q)

    to_end : base + 3 * N + N ≡ base + 4 * N
    to_end = omega arith

    cut_of : (w z : List ℕ) → w ≡ A ++ (B ++ from_t z) → Cut w z
    cut_of w z e =
        let e1 = after-of 0 17 17 refl w A (B ++ from_t z) f.a e in
        let e2 = after-of 17 192 209 refl w B (from_t z) f.b e1 in
        let e3 = after-of 209 (length T) base refl w T (D ++ (Q ++ (zeros ++ from_h z))) refl e2 in
        let e4 = after-of base N (base + N) refl w D (Q ++ (zeros ++ from_h z)) f.d e3 in
        let e5 = after-of (base + N) (length Q) (base + N + length Q) refl w Q (zeros ++ from_h z) refl e4 in
        let e6 = after-of (base + N + length Q) (N - length Q) (base + 2 * N) to-h w zeros (from_h z) gap e5 in
        let e7 = after-of (base + 2 * N) (length Q) (base + 2 * N + length Q) refl w H (zeros ++ (M ++ z)) f.h e6 in
        let e8 = after-of (base + 2 * N + length Q) (N - length Q) (base + 3 * N) to-m w zeros (M ++ z) gap e7 in
        record {
          a = part_of 0 17 w A (B ++ from_t z) f.a e;
          b = part_of 17 192 w B (from_t z) f.b e1;
          t = part_of 209 (length T) w T (D ++ (Q ++ (zeros ++ from_h z))) refl e2;
          d = part_of base N w D (Q ++ (zeros ++ from_h z)) f.d e3;
          q = part_of (base + N) (length Q) w Q (zeros ++ from_h z) refl e4;
          q-gap = part_of (base + N + length Q) (N - length Q) w zeros (from_h z) gap e5;
          h = part_of (base + 2 * N) (length Q) w H (zeros ++ (M ++ z)) f.h e6;
          h-gap = part_of (base + 2 * N + length Q) (N - length Q) w zeros (M ++ z) gap e7;
          m = part_of (base + 3 * N) N w M z f.m e8;
          after = after-of (base + 3 * N) N (base + 4 * N) to_end w M z f.m e8;
        }

    joined : (w z : List ℕ) → Cut w z → w ≡ A ++ (B ++ from_t z)
    joined w z c =
        let e8 = whole_of (base + 3 * N) N (base + 4 * N) to_end w M z c.m c.after in
        let e7 = whole_of (base + 2 * N + length Q) (N - length Q) (base + 3 * N) to-m w zeros (M ++ z) c.h-gap e8 in
        let e6 = whole_of (base + 2 * N) (length Q) (base + 2 * N + length Q) refl w H (zeros ++ (M ++ z)) c.h e7 in
        let e5 = whole_of (base + N + length Q) (N - length Q) (base + 2 * N) to-h w zeros (from_h z) c.q-gap e6 in
        let e4 = whole_of (base + N) (length Q) (base + N + length Q) refl w Q (zeros ++ from_h z) c.q e5 in
        let e3 = whole_of base N (base + N) refl w D (Q ++ (zeros ++ from_h z)) c.d e4 in
        let e2 = whole_of 209 (length T) base refl w T (D ++ (Q ++ (zeros ++ from_h z))) c.t e3 in
        let e1 = whole_of 17 192 209 refl w B (from_t z) c.b e2 in
        whole_of 0 17 17 refl w A (B ++ from_t z) c.a e1

    -- and zeros after them, up to so many words
    abbrev ending : ℕ → List ℕ
    ending words = replicate (words - (base + 4 * N)) 0

    filled-flat : (words : ℕ) → padded words parts ≡ A ++ (B ++ from_t (ending words))
    unfolding padded
    filled-flat words = ap (λ n. parts ++ replicate (words - n) 0) parts-long ∙ parts-flat (ending words)

-- bytes are what remains of them over 256
bytes-stay : (l : List ℕ) → ((i : ℕ) → get_or l i 0 < 256) → map (λ x. x % 256) l ≡ l
bytes-stay [] low = refl
bytes-stay (x ∷ l) low = λ i. mod-eq_of_lt (low 0) i ∷ bytes-stay l (λ k. low (suc k)) i

-- ---- the words of an area that holds a search

module _ (q : Asked) (pat : List ℕ) (from : ℕ) (u : Underway) where
  abbrev front : List ℕ
  front = padded 17 (numbers_in q pat from u)

  abbrev loaded : List ℕ
  loaded = loaded_of (keeps q.pattern) q.day.lines

  abbrev Fits : Type 0
  Fits = Fit (size_of q) front (padded 192 pat) loaded (dist_of u) (queue_of u) u.found.how u.sweep.noted.marks

  fits : Sized (size_of q) u → length pat ≤ 192 → Fits
  fits sized short = record {
    a = padded-long 17 (numbers_in q pat from u) (omega arith);
    b = padded-long 192 pat short;
    d = sized.dist-long;
    q = sized.queue-fits;
    h = sized.how-long;
    m = sized.marks-long;
  }

  pub held-stretched : (w : List ℕ) → Sized (size_of q) u → length pat ≤ 192 → base_of q + 4 * size_of q ≤ length w → w ≡ held_of q pat from (length w) u → Stretched q pat from u w
  unfolding held_of stretch
  held-stretched w sized short room e =
      let f = fits sized short in
      let c = cut_of _ _ _ _ _ _ _ _ f w _ (e ∙ filled-flat _ _ _ _ _ _ _ _ f (length w)) in
      record {
        numbers = c.a;
        bytes = c.b;
        tables = c.t;
        dist = c.d;
        queue = c.q;
        queue-gap = c.q-gap;
        how = c.h;
        how-gap = c.h-gap;
        marks = c.m;
        after = c.after;
      }

  pub stretched-held : (v : List ℕ) → Sized (size_of q) u → length pat ≤ 192 → base_of q + 4 * size_of q ≤ length v → Stretched q pat from u v → v ≡ held_of q pat from (length v) u
  unfolding held_of stretch
  stretched-held v sized short room s =
      let f = fits sized short in
      let whole = joined _ _ _ _ _ _ _ _ f v _ (record {
        a = s.numbers;
        b = s.bytes;
        t = s.tables;
        d = s.dist;
        q = s.queue;
        q-gap = s.queue-gap;
        h = s.how;
        h-gap = s.how-gap;
        m = s.marks;
        after = s.after;
      }) in
      whole ∙ sym (filled-flat _ _ _ _ _ _ _ _ f (length v))

  pub held-long : (words : ℕ) → Sized (size_of q) u → length pat ≤ 192 → base_of q + 4 * size_of q ≤ words → length (held_of q pat from words u) ≡ words
  unfolding held_of
  held-long words sized short room =
      let e = parts-long _ _ _ _ _ _ _ _ (fits sized short) in
      padded-long words _ (subst (λ n. n ≤ words) (sym e) room)

  -- ---- single words of it

  module _ (w : List ℕ) (s : Stretched q pat from u w) where
    pub number_at : (i : ℕ) → i < 12 → get_or w i 0 ≡ get_or (numbers_in q pat from u) i 0
    unfolding padded
    number_at i h =
        sym (get_or-take 17 w i 0 (omega arith))
        ∙ (ap (λ (l : List ℕ). get_or l i 0) s.numbers ∙ get_or-append (numbers_in q pat from u) (replicate 5 0) 0 i h)

    pub word-0 : get_or w 0 0 ≡ suc (length (boats q.day.lines))
    word-0 = number_at 0 (omega arith)

    pub word-1 : get_or w 1 0 ≡ q.day.places
    word-1 = number_at 1 (omega arith)

    pub word-2 : get_or w 2 0 ≡ length q.day.lines
    word-2 = number_at 2 (omega arith)

    pub word-3 : get_or w 3 0 ≡ from
    word-3 = number_at 3 (omega arith)

    pub word-4 : get_or w 4 0 ≡ length pat
    word-4 = number_at 4 (omega arith)

    pub counters-are : counters_in w ≡ record {
      phase = u.phase;
      expanded = u.expanded;
      found = length (queue_of u);
      far = u.far;
      rest = u.sweep.rest;
      chosen = u.sweep.chosen;
      noted = u.sweep.noted.line;
    }
    unfolding counters_in
    counters-are = λ i. record {
      phase = number_at 5 (omega arith) i;
      expanded = number_at 6 (omega arith) i;
      found = number_at 7 (omega arith) i;
      far = number_at 8 (omega arith) i;
      rest = number_at 9 (omega arith) i;
      chosen = number_at 10 (omega arith) i;
      noted = number_at 11 (omega arith) i;
    }

    pub bytes-are : ((i : ℕ) → get_or pat i 0 < 256) → length pat ≤ 192 → bytes_in w ≡ pat
    unfolding stretch padded
    bytes-are low short =
        let n : min (length_in w) 192 ≡ length pat = ap (λ k. min k 192) word-4 ∙ min-eq_left short in
        let part : stretch 17 (length pat) w ≡ pat =
        sym (take-take (length pat) 192 (drop 17 w) short) ∙ (ap (take (length pat)) s.bytes ∙ take-append_seam pat (replicate (192 - length pat) 0)) in
        ap (λ k. map (λ x. x % 256) (stretch 17 k w)) n ∙ (ap (map (λ x. x % 256)) part ∙ bytes-stay pat low)
