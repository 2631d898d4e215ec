-- Laws of stretches: a stretch has the length it says and is read at its own index; a word put into one of them leaves every other as it was.
use mathlib.Core.Path.{◌≡◌, refl, sym, ap, ◌∙◌}
use mathlib.Core.List.{List, [], ◌∷◌, ◌++◌}
use Prim.Native.Nat.{ℕ, ◌+◌, ◌-◌, ◌≤◌, ◌<◌}
use native.Mathlib.Numerals.{add-one}
use native.Mathlib.Omega.{arith}
use lib.ListN.{length, get_or, set, take, drop, length-take, length-drop, length-append, take-append-drop}
use lib.Seq.{get_or-take, get_or-drop, drop-set-add, take-set-lt, take-set-le, drop-set-lt, take-suc-set, drop-drop, length-take-le, drop-append-le, take-append-le, drop_at, take_at}
use Rattle.area.specs.Area.{stretch, patch}

-- ---- a stretch

pub stretch-length : (b n : ℕ) (w : List ℕ) → b + n ≤ length w → length (stretch b n w) ≡ n
unfolding stretch
stretch-length b n w h = simp (length-take, length-drop) (omega arith)

pub stretch-none : (b : ℕ) (w : List ℕ) → stretch b 0 w ≡ []
unfolding stretch
stretch-none b w = refl

pub stretch-get : (b n : ℕ) (w : List ℕ) (i : ℕ) → i < n → get_or (stretch b n w) i 0 ≡ get_or w (b + i) 0
unfolding stretch
stretch-get b n w i h = rw (get_or-take, get_or-drop)

-- it hangs on the words before any c at or past its end
pub stretch-take : (c b n : ℕ) (w : List ℕ) → b + n ≤ c → c ≤ length w → stretch b n (take c w) ≡ stretch b n w
unfolding stretch
stretch-take c b n w h k =
    let l : length (take c w) ≡ c = length-take-le c w k in
    let m : b ≤ length (take c w) = omega arith in
    let o : n ≤ length (drop b (take c w)) = simp length-drop (omega arith) in
    sym (ap (λ (z : List ℕ). take n (drop b z)) (sym (take-append-drop c w)) ∙ rw (drop-append-le, take-append-le))

-- ---- one word put into the area

pub stretch-set : (b n : ℕ) (w : List ℕ) (i v : ℕ) → i < n → stretch b n (set w (b + i) v) ≡ set (stretch b n w) i v
unfolding stretch
stretch-set b n w i v h = rw (drop-set-add, take-set-lt)

pub stretch-below : (b n : ℕ) (w : List ℕ) (j v : ℕ) → j < b → stretch b n (set w j v) ≡ stretch b n w
unfolding stretch
stretch-below b n w j v h = rw drop-set-lt

pub stretch-above : (b n : ℕ) (w : List ℕ) (j v : ℕ) → b + n ≤ j → stretch b n (set w j v) ≡ stretch b n w
unfolding stretch
stretch-above b n w j v h =
    let e : j ≡ b + (j - b) = omega arith in
    let k : n ≤ j - b = omega arith in
    ap (λ (m : ℕ). take n (drop b (set w m v))) e ∙ rw (drop-set-add, take-set-le)

-- the word after the stretch: the stretch has it at its end then
pub stretch-push : (b n : ℕ) (w : List ℕ) (v : ℕ) → b + n < length w → stretch b (n + 1) (set w (b + n) v) ≡ stretch b n w ++ (v ∷ [])
unfolding stretch
stretch-push b n w v h =
    let k : n < length (drop b w) = simp length-drop (omega arith) in
    rw (drop-set-add, add-one, take-suc-set)

-- a word put into a middle part is a word put into the area
pub patch-set : (b n : ℕ) (w : List ℕ) (i v : ℕ) → i < n → b + n ≤ length w → patch b n (set (stretch b n w) i v) w ≡ set w (b + i) v
unfolding patch stretch
patch-set b n w i v h k =
    let z = set w (b + i) v in
    let front : take b z ≡ take b w = take-set-le b w (b + i) v (omega arith) in
    let part : drop b z ≡ set (drop b w) i v = drop-set-add b w i v in
    let own : take n (drop b z) ≡ set (take n (drop b w)) i v = ap (take n) part ∙ take-set-lt n (drop b w) i v h in
    let back : drop n (drop b z) ≡ drop n (drop b w) = ap (drop n) part ∙ drop-set-lt n (drop b w) i v h in
    rw (← front, ← own, ← back, take-append-drop n (drop b z), take-append-drop b z)

-- ---- a whole stretch put into the area

module _ (b n : ℕ) (ys w : List ℕ) (e : length ys ≡ n) (fits : b + n ≤ length w) where
  lead : length (take b w) ≡ b
  lead = length-take-le b w (omega arith)

  pub patch-length : length (patch b n ys w) ≡ length w
  unfolding patch
  patch-length = simp (length-append, length-drop) (omega (arith, lead))

  pub patch-same : stretch b n (patch b n ys w) ≡ ys
  unfolding patch stretch
  patch-same = rw (drop_at (take b w) _ b lead, take_at ys _ n e)

  pub patch-take : take b (patch b n ys w) ≡ take b w
  unfolding patch
  patch-take = take_at (take b w) _ b lead

  pub patch-drop : drop (b + n) (patch b n ys w) ≡ drop (b + n) w
  unfolding patch
  patch-drop = rw (← drop-drop n b (patch b n ys w), drop_at (take b w) _ b lead, drop_at ys _ n e, drop-drop)
