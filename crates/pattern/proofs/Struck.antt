-- The lines with those struck that may not be used: as many, and each by the test of its own number.
use Rattle.std.specs.Prelude.{◌≡◌, refl, Bool, cond, List, [], ◌∷◌, ℕ, zero, suc, ◌+◌, ◌<◌, length}
use Rattle.std.proofs.Common.{ap, arith}
use Rattle.meaning.specs.Record.{Line}
use Rattle.meaning.specs.Writing.{line_at}
use Rattle.meaning.specs.Chain.{struck, masked}

-- ---- line by line

pub masked-length : (test : ℕ → Bool) (k : ℕ) (lines : List Line) → length (masked test k lines) ≡ length lines
unfolding masked
masked-length test k [] = refl
masked-length test k (l ∷ lines) = ap suc (masked-length test (suc k) lines)

pub masked-at : (test : ℕ → Bool) (k : ℕ) (lines : List Line) (i : ℕ) → i < length lines → line_at (masked test k lines) i ≡ cond (test (k + i)) (line_at lines i) (struck (line_at lines i))
unfolding masked
masked-at test k [] i there = absurd (omega (arith, there))
masked-at test k (l ∷ lines) zero there = let e : k + 0 ≡ k = omega arith in rw e
masked-at test k (l ∷ lines) (suc i) there = let e : k + suc i ≡ suc k + i = omega arith in rw e (masked-at test (suc k) lines i (omega (arith, there)))
