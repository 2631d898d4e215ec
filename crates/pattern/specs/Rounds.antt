-- Counted patterns, as document 02's request Three has them, in the words of the other commands: no round is nothing (`no-rounds`), one
-- round is the pattern (`once`), a round stands before the others (`one_more`, `maybe-more`), so that a count is a short wording of rounds
-- written one by one (`n-rounds`, `at_most`, `spelled_out`); a lowest count above the highest leaves no word (`no-count`).
-- A repeat is any count (`counted-repeat`, `repeat-counted`). Each round is read with the slots as they are around all of them
-- (`own-rounds`). A pattern without counts has the search size that its commands, as written, give (`plain_size`).
use Rattle.std.specs.Prelude.{◌≡◌, refl, List, [], ◌∷◌, ◌++◌, ◌⊎◌, ◌↔◌, ℕ, zero, suc, ◌+◌, ◌*◌, ◌^◌, ◌≤◌, ◌<◌, length}
use Rattle.std.proofs.Common.{ap, ap₂, ◌∙◌, inl, inr, ⊎_elim, arith}
use Rattle.meaning.specs.Record.{Line, boats}
use Rattle.meaning.specs.Pattern.{Pattern, nothing, line, test, either, then, repeat, keep, counted, commands, unfolded, keeps}
use Rattle.meaning.specs.Language.{Word, Valuation, Star, stop, more, Power, Times, L}
use Rattle.meaning.specs.Request.{search_size}
use Rattle.pattern.specs.Wordings.{Alike, alike_refl, alike-sym, alike-trans, alike-either, alike_then, then-regrouped, nothing-before, nothing-after}

-- ---- words of P, one after the other

-- a word of P, then a word of Q
abbrev pub Joined : (Word → Type 0) → (Word → Type 0) → Word → Type 0
Joined P Q w = (u : Word) × (v : Word) × (w ≡ u ++ v) × P u × Q v

module _ (P : Word → Type 0) where
  pub times_none : (w : Word) → Times P 0 0 w ↔ (w ≡ [])
  times_none w = (λ (n, low, high, x). go n high x, λ e. (0, omega arith, omega arith, e))
    where
      go : (n : ℕ) → n ≤ 0 → Power P n w → w ≡ []
      go zero high e = e
      go (suc n) high x = absurd (omega (arith, high))

  pub times_more : (low high : ℕ) (w : Word) → Times P (suc low) (suc high) w ↔ Joined P (Times P low high) w
  times_more low high w = (λ (n, l, h, x). go n l h x, λ (u, v, e, x, (n, l, h, y)). (suc n, omega (arith, l), omega (arith, h), (u, v, e, x, y)))
    where
      go : (n : ℕ) → suc low ≤ n → n ≤ suc high → Power P n w → Joined P (Times P low high) w
      go zero l h e = absurd (omega (arith, l))
      go (suc n) l h (u, v, e, x, y) = (u, v, e, x, (n, omega (arith, l), omega (arith, h), y))

  pub times-maybe : (high : ℕ) (w : Word) → Times P 0 (suc high) w ↔ ((w ≡ []) ⊎ Joined P (Times P 0 high) w)
  times-maybe high w = (
    λ (n, l, h, x). go n h x,
    ⊎_elim (λ e. (0, omega arith, omega arith, e)) (λ (u, v, e, x, (n, l, h, y)). (suc n, omega arith, omega (arith, h), (u, v, e, x, y))),
  )
    where
      go : (n : ℕ) → n ≤ suc high → Power P n w → (w ≡ []) ⊎ Joined P (Times P 0 high) w
      go zero h e = inl e
      go (suc n) h (u, v, e, x, y) = inr (u, v, e, x, (n, omega arith, omega (arith, h), y))

  power-star : (n : ℕ) (w : Word) → Power P n w → Star P w
  power-star zero w e = stop e
  power-star (suc n) w (u, v, e, x, y) = more u v e x (power-star n v y)

  star-power : {w : Word} → Star P w → (n : ℕ) × Power P n w
  star-power (stop e) = (0, e)
  star-power (more u v e x s) = let (n, y) = star-power s in (suc n, (u, v, e, x, y))

-- ---- one round, and the others

pub no-rounds : (p : Pattern) → Alike (counted 0 0 p) nothing
no-rounds p = record { words = λ ν w. times_none (L p ν) w }

pub one_more : (low high : ℕ) (p : Pattern) → Alike (counted (suc low) (suc high) p) (then p (counted low high p))
one_more low high p = record { words = λ ν w. times_more (L p ν) low high w }

pub maybe-more : (high : ℕ) (p : Pattern) → Alike (counted 0 (suc high) p) (either nothing (then p (counted 0 high p)))
maybe-more high p = record { words = λ ν w. times-maybe (L p ν) high w }

pub no-count : (low high : ℕ) (p : Pattern) (ν : Valuation) (w : Word) → high < low → L (counted low high p) ν w → ⊥
no-count low high p ν w above (n, l, h, x) = omega (arith, above, l, h)

-- ---- without the command

-- p so many times in a row
abbrev pub times : ℕ → Pattern → Pattern
times zero p = nothing
times (suc n) p = then p (times n p)

-- p at most so many times in a row
abbrev pub up_to : ℕ → Pattern → Pattern
up_to zero p = nothing
up_to (suc n) p = either nothing (then p (up_to n p))

pub n-rounds : (n : ℕ) (p : Pattern) → Alike (counted n n p) (times n p)
n-rounds zero p = no-rounds p
n-rounds (suc n) p = alike-trans (one_more n n p) (alike_then (alike_refl p) (n-rounds n p))

pub once : (p : Pattern) → Alike (counted 1 1 p) p
once p = alike-trans (n-rounds 1 p) (nothing-after p)

pub at_most : (n : ℕ) (p : Pattern) → Alike (counted 0 n p) (up_to n p)
at_most zero p = no-rounds p
at_most (suc n) p = alike-trans (maybe-more n p) (alike-either (alike_refl nothing) (alike_then (alike_refl p) (at_most n p)))

pub spelled_out : (low others : ℕ) (p : Pattern) → Alike (counted low (low + others) p) (then (times low p) (up_to others p))
spelled_out zero others p = let e : 0 + others ≡ others = omega arith in rw e (alike-trans (at_most others p) (alike-sym (nothing-before (up_to others p))))
spelled_out (suc low) others p =
    let e : suc low + others ≡ suc (low + others) = omega arith in
    rw e
    (alike-trans (one_more low (low + others) p)
    (alike-trans (alike_then (alike_refl p) (spelled_out low others p))
    (alike-sym (then-regrouped p (times low p) (up_to others p)))))

-- ---- a repeat is any count of rounds

pub counted-repeat : (low high : ℕ) (p : Pattern) (ν : Valuation) (w : Word) → L (counted low high p) ν w → L (repeat p) ν w
counted-repeat low high p ν w (n, l, h, x) = power-star (L p ν) n w x

pub repeat-counted : (p : Pattern) (ν : Valuation) (w : Word) → L (repeat p) ν w → (n : ℕ) × L (counted n n p) ν w
repeat-counted p ν w s = let (n, x) = star-power (L p ν) s in (n, (n, omega arith, omega arith, x))

-- ---- what a round may look at

-- words one after the other
abbrev pub in_aRow : List Word → Word
in_aRow [] = []
in_aRow (u ∷ us) = u ++ in_aRow us

-- all of them are words of P
abbrev pub Each : (Word → Type 0) → List Word → Type 0
Each P [] = Unit {0}
Each P (u ∷ us) = P u × Each P us

rounds-of : (P : Word → Type 0) (n : ℕ) (w : Word) → Power P n w → (us : List Word) × (length us ≡ n) × (w ≡ in_aRow us) × Each P us
rounds-of P zero w e = ([], refl, e, tt)
rounds-of P (suc n) w (u, v, e, x, y) =
    let (us, long, f, each) = rounds-of P n v y in
    (u ∷ us, ap suc long, e ∙ ap (u ++◌) f, (x, each))

power-of : (P : Word → Type 0) (us : List Word) → Each P us → Power P (length us) (in_aRow us)
power-of P [] each = refl
power-of P (u ∷ us) (x, each) = (u, in_aRow us, refl, x, power-of P us each)

-- each round is a word of p under the valuation around all of them: a boat that one keeps, no other sees
pub own-rounds : (low high : ℕ) (p : Pattern) (ν : Valuation) (w : Word)
    → L (counted low high p) ν w ↔ ((us : List Word) × (low ≤ length us) × (length us ≤ high) × (w ≡ in_aRow us) × Each (L p ν) us)
own-rounds low high p ν w = (
  λ (n, l, h, x). let (us, long, e, each) = rounds-of (L p ν) n w x in (us, omega (arith, l, long), omega (arith, h, long), e, each),
  λ (us, l, h, e, each). (length us, l, h, rw e (power-of (L p ν) us each)),
)

-- ---- patterns without the command

abbrev pub Plain : Pattern → Type 0
Plain nothing = Unit {0}
Plain (line k) = Unit {0}
Plain (test r k s) = Unit {0}
Plain (either p q) = Plain p × Plain q
Plain (then p q) = Plain p × Plain q
Plain (repeat p) = Plain p
Plain (keep k s p) = Plain p
Plain (counted low high p) = ⊥

pub plain-unfolded : (p : Pattern) → Plain p → unfolded p ≡ commands p
plain-unfolded nothing is = refl
plain-unfolded (line k) is = refl
plain-unfolded (test r k s) is = refl
plain-unfolded (either p q) (one, two) = ap₂ (λ m n. suc (m + n)) (plain-unfolded p one) (plain-unfolded q two)
plain-unfolded (then p q) (one, two) = ap₂ (λ m n. suc (m + n)) (plain-unfolded p one) (plain-unfolded q two)
plain-unfolded (repeat p) is = ap suc (plain-unfolded p is)
plain-unfolded (keep k s p) is = ap suc (plain-unfolded p is)
plain-unfolded (counted low high p) is = absurd is

-- so its search size is the one of document 01, by commands as written
pub plain_size : (lines : List Line) (places : ℕ) (p : Pattern) → Plain p → search_size lines places p ≡ places * suc (commands p) * suc (length (boats lines)) ^ keeps p
unfolding search_size
plain_size lines places p is = ap (λ n. places * suc n * suc (length (boats lines)) ^ keeps p) (plain-unfolded p is)
