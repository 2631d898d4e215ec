-- `holding::lines_sound`: every line gives true, or one gives false.
use Rattle.std.proofs.Common.{◌≡◌, refl, sym, ◌∙◌, subst, ℕ, ◌<◌, Bool, true, false, length, get_or, zero-add, arith, rules}
use mathlib.Core.Bool.{false≢true}
use Rattle.std.specs.Bool.{MatchBool}
use Rattle.std.specs.List.{range_with_len, AllWithin, HoldsAt}
use Rattle.std.proofs.lemmas.Iterator.{cases_from_all, YieldsList-from_range}
use Rattle.std.proofs.lemmas.List.FromFn.{length-range_with_len, get_or-range_with_len}
use Rattle.states.specs.Spots.{front}
use Rattle.holding.specs.Holding.{LineSound}
use Rattle.holding.proofs.lines_sound.Goals as goal

number : (n i : ℕ) → i < n → get_or (range_with_len 0 n) i 0 ≡ i
number n i h = get_or-range_with_len 0 n i 0 h ∙ zero-add i

-- of the numbers below n all are P, or one is not
below : (P : ℕ → Type 0) (n : ℕ) (r : Bool) → (let xs = range_with_len 0 n in MatchBool r (AllWithin P xs 0 (length xs)) ((k : ℕ) × (k < length xs) × HoldsAt (λ i. P i → ⊥) xs k))
    → (r ≡ true → (i : ℕ) → i < n → P i) × (((i : ℕ) → i < n → P i) → r ≡ true)
below P n true all = (λ e i h. subst P (number n i h) (all i 0 (omega arith) (omega (arith, length-range_with_len 0 n, h))), λ _. refl)
below P n false (k, low, here) =
    let less : k < n = omega (arith, length-range_with_len 0 n, low) in
    (λ e. absurd (false≢true e), λ all. absurd (here 0 (subst P (sym (number n k less)) (all k less))))

pub returns : goal.returns
returns c =
    let P : ℕ → Type 0 = LineSound c.args.plan (front c.args.plan c.args.work.now) in
    let n = c.args.plan.lines in
    below P n c.all.result (cases_from_all _ _ _ P (λ i. P i → ⊥) c.all.ensures.ran (YieldsList-from_range 0 n n refl (omega arith)) (λ x q k. search rules) (λ x q k. search rules))
