-- A loop that fills a part from the front with what a list has: after n turns it is the list's first n members, and then the part as
-- it was. Assumes nothing.
use Rattle.std.specs.Prelude.{◌≡◌, refl, List, [], ◌∷◌, ◌++◌, ℕ, zero, suc, ◌+◌, ◌<◌, length, get_or, take, drop, set}
use Rattle.std.proofs.Common.{sym, ap, ◌∙◌, append-nil, add-one, arith}
use Rattle.std.proofs.Math.Seq.{take-length, drop-length}

abbrev pub filled : List ℕ → ℕ → List ℕ → List ℕ
filled xs n part = take n xs ++ drop n part

fill_suc : (xs part : List ℕ) (n : ℕ) → n < length xs → n < length part → set (filled xs n part) n (get_or xs n 0) ≡ filled xs (suc n) part
fill_suc [] part n h k = absurd (omega (arith, h))
fill_suc (x ∷ xs) [] n h k = absurd (omega (arith, k))
fill_suc (x ∷ xs) (y ∷ part) zero h k = refl
fill_suc (x ∷ xs) (y ∷ part) (suc n) h k = ap (λ t. x ∷ t) (fill_suc xs part n (omega (arith, h)) (omega (arith, k)))

-- a store of the next member
pub fill-next : (xs part : List ℕ) (n : ℕ) → n < length xs → n < length part → set (filled xs n part) n (get_or xs n 0) ≡ filled xs (n + 1) part
fill-next xs part n h k = fill_suc xs part n h k ∙ ap (λ m. filled xs m part) (sym (add-one n))

-- all stored
pub fill-all : (xs part : List ℕ) (n : ℕ) → length xs ≡ length part → n ≡ length part → filled xs n part ≡ xs
fill-all xs part n same all =
    ap (λ m. take m xs ++ drop n part) (all ∙ sym same)
    ∙ (ap (λ t. t ++ drop n part) (take-length xs) ∙ (ap (λ m. xs ++ drop m part) all ∙ (ap (λ t. xs ++ t) (drop-length part) ∙ append-nil xs)))
