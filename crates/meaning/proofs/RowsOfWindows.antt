-- An example of windows that rests on those of `RowsOfWindows` in specs/: which chain is the first.
use Rattle.std.specs.Prelude.{◌≡◌, refl, ℕ, zero, suc, ◌-◌}
use mathlib.Core.List.{List, [], ◌∷◌, nil≢cons}
use Rattle.std.proofs.Common.{inl, inr, arith}
use Rattle.meaning.specs.Pattern.{line}
use Rattle.meaning.specs.Chain.{Accepted, Before, First}
use Rattle.meaning.specs.RowsOfWindows.{asking, line-inside, line-early}

-- ---- which chains are accepted

-- line 0 is before line 1 but is not accepted, so line 1 is the first
first-inside : First (asking (line 1)) 0 1 (1 ∷ [])
first-inside = (line-inside, others)
  where
    others : (c : List ℕ) → Accepted (asking (line 1)) 0 1 c → ¬ (1 ∷ [] ≡ c) → Before (1 ∷ []) c
    others [] ((exists, leads, (a, e, k)), used) n = absurd (nil≢cons e)
    others (zero ∷ []) accepted n = absurd (line-early accepted)
    others (suc zero ∷ []) accepted n = absurd (n refl)
    others (suc (suc i) ∷ []) accepted n = inr (refl, ([], 1, suc (suc i), [], [], refl, refl, omega arith))
    others (i ∷ j ∷ c) accepted n = inl (omega arith)
