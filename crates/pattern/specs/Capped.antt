-- A count of which it is only asked whether it is over 63: every larger one is taken as 64, so that no sum or product is large.
-- Claimed: taking it so at each step changes nothing (`capped-sum`, `capped-times`), and answers the same (`capped_same`, `capped-many`).
-- Laws of numbers, for the reader's unfolded count. Assumes nothing.
use Rattle.std.specs.Prelude.{◌≡◌, ℕ, zero, suc, ◌+◌, ◌*◌, ◌<◌, ◌≤◌, min}
use Rattle.std.proofs.Common.{sym, ap}
use native.Mathlib.Omega.{arith, min_cases}

abbrev pub capped : ℕ → ℕ
capped n = min n 64

pub capped-below : (n : ℕ) → capped n ≤ 64
capped-below n = omega arith

-- ---- asked at the end

pub capped_same : (n : ℕ) → capped n ≤ 63 → capped n ≡ n
capped_same n h = omega arith

pub capped-many : (n : ℕ) → 63 < capped n → 63 < n
capped-many n h = omega arith

-- ---- at each step

pub capped-sum : (a b : ℕ) → capped (suc (a + b)) ≡ capped (suc (capped a + capped b))
capped-sum a b = omega arith

pub capped-next : (a : ℕ) → capped (suc a) ≡ capped (suc (capped a))
capped-next a = omega arith

-- what is at least 64 still is so many times over
times-many : (k a b : ℕ) → 64 ≤ a → 64 ≤ b → capped (suc (suc k * a)) ≡ capped (suc (suc k * b))
times-many k a b h l = omega arith

pub capped-times : (h a : ℕ) → capped (suc (h * a)) ≡ capped (suc (h * capped a))
capped-times zero a = omega arith
capped-times (suc k) a =
    min_cases a 64 (capped (suc (suc k * a)) ≡ capped (suc (suc k * capped a)))
    (λ small e. ap (λ (x : ℕ). capped (suc (suc k * x))) (sym e))
    (λ many e. times-many k a (capped a) many (omega arith))
