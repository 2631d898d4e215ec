-- The search size by steps: a product that has passed the limit stays above it; and the boats' table against the size. Assumes nothing.
use mathlib.Core.Path.{◌≡◌, sym, ap, ◌∙◌}
use Prim.Native.Nat.{ℕ, zero, suc, ◌+◌, ◌*◌, ◌^◌, ◌<◌, ◌≤◌}
use native.Mathlib.Nat.{pow-succ', mul_assoc, mul_comm, mul-le-mul, mul-le-mul_left, one-le-pow, pow-le-pow_right}
use native.Mathlib.Numerals.{add-one}
use native.Mathlib.Omega.{arith}
use Rattle.request.specs.Layout.{boat_words}

pub size_step : (n r k : ℕ) → n * r ^ k * r ≡ n * r ^ (k + 1)
size_step n r k = mul_assoc n (r ^ k) r ∙ ap (λ (x : ℕ). n * x) (mul_comm (r ^ k) r ∙ sym (ap (λ (e : ℕ). r ^ e) (add-one k) ∙ pow-succ' r k))

-- more factors make it no less
pub size-grows : (n r k m : ℕ) → 0 < r → k ≤ m → n * r ^ k ≤ n * r ^ m
size-grows n r k m h le = mul-le-mul_left n (pow-le-pow_right h le)

-- ---- the boats' table

-- it has no more words than the size
pub boats-in-size : (n r k : ℕ) → 0 < n → 0 < r → boat_words k r ≤ n * r ^ k
boats-in-size n r zero some h = omega arith
boats-in-size n r (suc k) some h =
    let all : r * 1 ≤ r * r ^ k = mul-le-mul_left r (one-le-pow k r h) in
    let power : r ≤ r ^ suc k = omega (arith, all, pow-succ' r k) in
    omega (arith, mul-le-mul {n₁ = 1} {m₁ = r} some power)

-- and no more than a word for each boat, and one
pub boats-in-radix : (r k : ℕ) → boat_words k r ≤ r
boats-in-radix r zero = omega arith
boats-in-radix r (suc k) = omega arith
