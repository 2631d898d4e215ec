-- What a move leaves: where the words held a search, stretch by stretch, and it was moved on, its table of lines cleared and its numbers put back,
-- they hold the moved search (`moved-stretched`).
use mathlib.Core.Path.{◌≡◌, refl, sym, ap, ◌∙◌}
use mathlib.Core.List.{List, [], ◌∷◌, ◌++◌}
use Prim.Native.Nat.{ℕ, ◌+◌, ◌*◌, ◌-◌, ◌≤◌}
use native.Mathlib.Omega.{arith}
use lib.ListN.{length, take, drop, replicate, length-replicate, take-append-drop, replicate-append-replicate}
use lib.Seq.{take-add, drop-drop, take-take}
use Rattle.meaning.specs.Pattern.{keeps}
use Rattle.meaning.specs.Request.{Asked, size_of}
use Rattle.graph.specs.Underway.{Underway, queue_of}
use Rattle.request.specs.Layout.{table_words, loaded_of}
use Rattle.request.specs.declared.Plan.{Plan}
use Rattle.area.specs.Area.{stretch, patch, found}
use Rattle.area.proofs.Anyhow.{room-long}
use Rattle.area.proofs.Stretches.{stretch-take, patch-length, patch-same, patch-take, patch-drop}
use Rattle.tracing.proofs.Traces.{stretch-end}
use Rattle.holding.specs.Holding.{numbers_of}
use Rattle.holding.specs.declared.SearchState.{SearchState}
use Rattle.tracing.specs.Tracing.{reached_in}
use Rattle.sweeping.specs.Sweeping.{index_at}
use Rattle.stepping.specs.Stepping.{underway_in, index_end, Standing, Held}
use Rattle.searching.specs.Promise.{padded, numbers_in}
use Rattle.searching.specs.Words.{base_of, Stretched}
use Rattle.searching.proofs.Beginning.{zeros-drop, same-stretch, later-drop, later-stretch, earlier-stretch}

-- zeros from a later word of a stretch on
zeros-later : (b n a c : ℕ) (w : List ℕ) → a ≤ c → c ≤ n → b + n ≤ length w → stretch (b + a) (n - a) w ≡ replicate (n - a) 0 → stretch (b + c) (n - c) w ≡ replicate (n - c) 0
zeros-later b n a c w h l room e =
    let start : b + a + (c - a) ≡ b + c = omega arith in
    let left : n - a - (c - a) ≡ n - c = omega arith in
    (λ i. stretch (sym start i) (sym left i) w)
    ∙ (stretch-end (b + a) (n - a) (c - a) w (omega arith) (omega arith)
    ∙ (ap (drop (c - a)) e ∙ (zeros-drop (c - a) (n - a) ∙ ap (λ (k : ℕ). replicate k 0) left)))

module _ {q : Asked} {pat : List ℕ} {from : ℕ} {u : Underway} {w : List ℕ} (was : Stretched q pat from u w)
    {F : Underway → Underway} {s r : SearchState} {v : List ℕ} (held : Held F (index_end s.plan) s w r v) (standing : Standing s w) (here : underway_in s w ≡ u)
    (base-is : s.plan.base ≡ base_of q) (size_is : s.plan.size ≡ size_of q) where
  abbrev P : Plan
  P = s.plan

  abbrev n : ℕ
  n = table_words P.places P.lines

  -- the lines in order of a place cleared, and the numbers put back
  abbrev pub cleared : List ℕ
  cleared = patch (index_at P) n (replicate n 0) v

  abbrev pub put_back : List ℕ
  put_back = patch 5 7 (numbers_of r.at) cleared

  room : index_at P + n ≤ length w
  room = standing.room

  low : 209 ≤ P.base
  low = omega (arith, base-is)

  zeros-long : length (replicate {A = ℕ} n 0) ≡ n
  zeros-long = length-replicate n 0

  cleared-long : length cleared ≡ length w
  cleared-long = patch-length (index_at P) n (replicate n 0) v zeros-long (omega (arith, room, held.long)) ∙ held.long

  cleared-before : take (index_at P) cleared ≡ take (index_at P) v
  cleared-before = patch-take (index_at P) n (replicate n 0) v zeros-long (omega (arith, room, held.long))

  cleared-same : stretch (index_at P) n cleared ≡ replicate n 0
  cleared-same = patch-same (index_at P) n (replicate n 0) v zeros-long (omega (arith, room, held.long))

  cleared-after : drop (index_end P) cleared ≡ drop (index_end P) v
  cleared-after = patch-drop (index_at P) n (replicate n 0) v zeros-long (omega (arith, room, held.long))

  pub put-long : length put_back ≡ length w
  put-long = patch-length 5 7 (numbers_of r.at) cleared refl (omega (arith, cleared-long, room, low)) ∙ cleared-long

  put-before : take 5 put_back ≡ take 5 cleared
  put-before = patch-take 5 7 (numbers_of r.at) cleared refl (omega (arith, cleared-long, room, low))

  put_same : stretch 5 7 put_back ≡ numbers_of r.at
  put_same = patch-same 5 7 (numbers_of r.at) cleared refl (omega (arith, cleared-long, room, low))

  put-after : drop 12 put_back ≡ drop 12 cleared
  put-after = patch-drop 5 7 (numbers_of r.at) cleared refl (omega (arith, cleared-long, room, low))

  -- a stretch before the lines in order
  late : (b k : ℕ) → 12 ≤ b → b + k ≤ index_at P → stretch b k put_back ≡ stretch b k v
  late b k h l =
      later-stretch 12 b k put_back cleared put-after h
      ∙ earlier-stretch (index_at P) b k cleared v cleared-before l (omega (arith, cleared-long, room)) (omega (arith, held.long, room))

  -- a stretch before the search's own
  front : (b k : ℕ) → b + k ≤ P.base → stretch b k v ≡ stretch b k w
  front b k l = earlier-stretch P.base b k v w held.front l (omega (arith, held.long, room)) (omega (arith, room))

  early : (b k : ℕ) → 12 ≤ b → b + k ≤ P.base → stretch b k put_back ≡ stretch b k w
  early b k h l = late b k h (omega (arith, l)) ∙ front b k l

  -- ---- how many are found

  many : length (queue_of (underway_in r v)) ≡ r.at.found
  unfolding underway_in reached_in
  many = room-long held.standing.ready

  many-before : length (queue_of u) ≡ s.at.found
  unfolding underway_in reached_in
  many-before = sym (ap (λ (x : Underway). length (queue_of x)) here) ∙ room-long standing.ready

  few : r.at.found ≤ P.size
  few = omega (arith, held.standing.fits.found-low, ap (λ (p : Plan). p.size) held.plan-same)

  -- ---- the numbers

  five : take 5 put_back ≡ take 5 (numbers_in q pat from u)
  unfolding padded
  five =
      put-before
      ∙ (sym (take-take 5 (index_at P) cleared (omega (arith, low)))
      ∙ (ap (take 5) cleared-before
      ∙ (take-take 5 (index_at P) v (omega (arith, low))
      ∙ (sym (take-take 5 P.base v (omega (arith, low)))
      ∙ (ap (take 5) held.front
      ∙ (take-take 5 P.base w (omega (arith, low))
      ∙ (sym (take-take 5 17 w (omega arith)) ∙ ap (take 5) was.numbers)))))))

  last : stretch 12 5 put_back ≡ replicate 5 0
  unfolding padded stretch
  last =
      early 12 5 (omega arith) (omega (arith, low))
      ∙ (sym (stretch-take 17 12 5 w (omega arith) (omega (arith, low, room))) ∙ ap (λ (l : List ℕ). take 5 (drop 12 l)) was.numbers)

  numbers : take 17 put_back ≡ padded 17 (numbers_in q pat from (underway_in r v))
  unfolding padded underway_in stretch
  numbers =
      let at = r.at in
      take-add 5 12 put_back
      ∙ ((λ i. five i ++ take-add 7 5 (drop 5 put_back) i)
      ∙ ((λ i. take 5 (numbers_in q pat from u) ++ (put_same i ++ take 5 (drop-drop 7 5 put_back i)))
      ∙ (λ i. take 5 (numbers_in q pat from u) ++ ((at.phase ∷ at.expanded ∷ sym many i ∷ at.far ∷ at.rest ∷ at.chosen ∷ at.noted ∷ []) ++ last i))))

  -- ---- every stretch

  base-in : base_of q ≡ r.plan.base
  base-in = sym base-is ∙ ap (λ (p : Plan). p.base) (sym held.plan-same)

  size_in : size_of q ≡ r.plan.size
  size_in = sym size_is ∙ ap (λ (p : Plan). p.size) (sym held.plan-same)

  own : (b k c m : ℕ) → 12 ≤ b → b + k ≤ index_at P → b ≡ c → k ≡ m → stretch b k put_back ≡ stretch c m v
  own b k c m h l e f = late b k h l ∙ same-stretch v e f

  -- what is not used of a stretch stays zeros
  unused : (b : ℕ) → P.base ≤ b → b + P.size ≤ index_at P
      → stretch (b + s.at.found) (P.size - s.at.found) w ≡ replicate (P.size - s.at.found) 0
      → stretch (b + r.at.found) (P.size - r.at.found) v ≡ stretch (b + r.at.found) (P.size - r.at.found) w
      → stretch (b + r.at.found) (P.size - r.at.found) put_back ≡ replicate (P.size - r.at.found) 0
  unused b h l was-zero same =
      late _ _ (omega (arith, low, h)) (omega (arith, few, l))
      ∙ (same ∙ zeros-later b P.size s.at.found r.at.found w held.grows few (omega (arith, l, room)) was-zero)

  queue-unused : stretch (P.base + P.size + r.at.found) (P.size - r.at.found) put_back ≡ replicate (P.size - r.at.found) 0
  queue-unused =
      let left : size_of q - length (queue_of u) ≡ P.size - s.at.found = omega (arith, size_is, many-before) in
      unused (P.base + P.size) (omega arith) (omega arith)
      (same-stretch w (omega (arith, base-is, size_is, many-before)) (sym left) ∙ (was.queue-gap ∙ ap (λ (k : ℕ). replicate k 0) left))
      held.queue-gap

  how-unused : stretch (P.base + 2 * P.size + r.at.found) (P.size - r.at.found) put_back ≡ replicate (P.size - r.at.found) 0
  how-unused =
      let left : size_of q - length (queue_of u) ≡ P.size - s.at.found = omega (arith, size_is, many-before) in
      unused (P.base + 2 * P.size) (omega arith) (omega arith)
      (same-stretch w (omega (arith, base-is, size_is, many-before)) (sym left) ∙ (was.how-gap ∙ ap (λ (k : ℕ). replicate k 0) left))
      held.how-gap

  -- the words after the four stretches
  after : drop (index_at P) put_back ≡ replicate (length w - index_at P) 0
  unfolding stretch
  after =
      let index : base_of q + 4 * size_of q ≡ index_at P = omega (arith, base-is, size_is) in
      let zero : drop (index_at P) w ≡ replicate (length w - index_at P) 0 = sym (ap (λ (k : ℕ). drop k w) index) ∙ (was.after ∙ ap (λ (k : ℕ). replicate (length w - k) 0) index) in
      let rest : drop (index_end P) cleared ≡ replicate (length w - index_at P - n) 0 =
      cleared-after ∙ (held.after ∙ (sym (drop-drop n (index_at P) w) ∙ (ap (drop n) zero ∙ zeros-drop n (length w - index_at P)))) in
      let sum : n + (length w - index_at P - n) ≡ length w - index_at P = omega (arith, room) in
      later-drop 12 (index_at P) put_back cleared put-after (omega (arith, low))
      ∙ (sym (take-append-drop n (drop (index_at P) cleared))
      ∙ ((λ i. cleared-same i ++ (drop-drop n (index_at P) cleared ∙ rest) i)
      ∙ (replicate-append-replicate n (length w - index_at P - n) 0 ∙ ap (λ (k : ℕ). replicate k 0) sum)))

  pub moved-stretched : Stretched q pat from (underway_in r v) put_back
  unfolding underway_in reached_in found
  moved-stretched =
      let loaded = loaded_of (keeps q.pattern) q.day.lines in
      let left : size_of q - length (queue_of (underway_in r v)) ≡ P.size - r.at.found = omega (arith, size_is, many) in
      let index : base_of q + 4 * size_of q ≡ index_at P = omega (arith, base-is, size_is) in
      let long : length w - index_at P ≡ length put_back - (base_of q + 4 * size_of q) = omega (arith, base-is, size_is, put-long) in
      record {
        numbers = numbers;
        bytes = early 17 192 (omega arith) (omega (arith, low)) ∙ was.bytes;
        tables = early 209 (length loaded) (omega arith) (omega (arith, base-is)) ∙ was.tables;
        dist = own _ _ r.plan.base r.plan.size (omega arith) (omega (arith, base-is, size_is)) base-in size_in;
        queue = own _ _ (r.plan.base + r.plan.size) r.at.found (omega arith) (omega (arith, base-is, size_is, many, few)) (omega (arith, base-in, size_in)) many;
        queue-gap = same-stretch put_back (omega (arith, base-is, size_is, many)) left ∙ (queue-unused ∙ ap (λ (k : ℕ). replicate k 0) (sym left));
        how = own _ _ (r.plan.base + 2 * r.plan.size) r.at.found (omega arith) (omega (arith, base-is, size_is, many, few)) (omega (arith, base-in, size_in)) many;
        how-gap = same-stretch put_back (omega (arith, base-is, size_is, many)) left ∙ (how-unused ∙ ap (λ (k : ℕ). replicate k 0) (sym left));
        marks = own _ _ (r.plan.base + 3 * r.plan.size) r.plan.size (omega arith) (omega (arith, base-is, size_is)) (omega (arith, base-in, size_in)) size_in;
        after = ap (λ (k : ℕ). drop k put_back) index ∙ (after ∙ ap (λ (k : ℕ). replicate k 0) long);
      }
