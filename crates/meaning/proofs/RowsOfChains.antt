-- Examples of chains that rest on those of `RowsOfChains` in specs/: how many rounds there were, and which chain is the first.
use Rattle.std.specs.Prelude.{◌≡◌, refl, ℕ, zero, suc, length}
use Rattle.std.proofs.Common.{ap, inl, inr, arith, length-append}
use mathlib.Core.List.{List, [], ◌∷◌, nil≢cons, head-eq_of_cons-eq}
use Rattle.meaning.specs.Pattern.{line, counted}
use Rattle.meaning.specs.Language.{Word, unbound, Power, L}
use Rattle.meaning.specs.Chain.{word, Matches, Accepted, Before, First}
use Rattle.meaning.specs.RowsOfChains.{lines_t, not-higher, asking, line-0}

-- ---- which are accepted

-- not none and not three, where a round is a line: it has as many letters as there are rounds
lines_long : (n : ℕ) (w : Word) → Power (L (line 1) unbound) n w → length w ≡ n
lines_long zero w e = ap length e
lines_long (suc n) w (u, v, e, (a, f, k), x) = omega (arith, ap length e, length-append u v, ap length f, lines_long n v x)

not-none-T : Matches lines_t (counted 1 2 (line 1)) 0 0 [] → ⊥
not-none-T (exists, leads, (n, low, high, x)) = omega (arith, low, lines_long n [] x)

not-three-T : Matches lines_t (counted 1 2 (line 1)) 0 0 (1 ∷ 0 ∷ 1 ∷ []) → ⊥
not-three-T (exists, leads, (n, low, high, x)) = omega (arith, high, lines_long n (word lines_t (1 ∷ 0 ∷ 1 ∷ [])) x)

-- ---- the first

first-line : First (asking lines_t (line 1)) 0 0 (0 ∷ [])
first-line = (line-0, others)
  where
    others : (c : List ℕ) → Accepted (asking lines_t (line 1)) 0 0 c → ¬ (0 ∷ [] ≡ c) → Before (0 ∷ []) c
    others [] ((exists, leads, (a, e, k)), used) n = absurd (nil≢cons e)
    others (zero ∷ []) accepted n = absurd (n refl)
    others (suc i ∷ []) accepted n = inr (refl, ([], 0, suc i, [], [], refl, refl, omega arith))
    others (i ∷ j ∷ c) accepted n = inl (omega arith)

not-the-second : First (asking lines_t (line 1)) 0 0 (1 ∷ []) → ⊥
not-the-second h = not-higher (h.1 (0 ∷ []) line-0 (λ e. omega (arith, head-eq_of_cons-eq e)))
