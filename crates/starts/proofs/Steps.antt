-- The highest of listed places, place by place, and the length that a word says. Assumes nothing.
use Rattle.std.specs.Prelude.{◌≡◌, refl, List, ℕ, zero, suc, ◌+◌, ◌-◌, ◌<◌, ◌≤◌, max, length, get_or, drop}
use Rattle.std.proofs.Common.{sym, ap, ◌∙◌, add-one, arith, drop-cons}
use Rattle.std.proofs.Math.Seq.{drop-length}
use Rattle.starts.specs.Highest.{highest_of}
use Rattle.starts.specs.Promise.{no_length}
use Rattle.starts.specs.Lengths.{length_by}

-- ---- the higher of two places

module _ (a b : ℕ) where
  pub higher-second : a < b → b ≡ max a b
  higher-second h = omega (arith, h)

  pub higher-first : b ≤ a → a ≡ max a b
  higher-first h = omega (arith, h)

-- ---- the list from place i on: its next place, and its end

module _ (starts : List ℕ) (i most : ℕ) where
  pub highest-next : i < length starts → highest_of (drop (i + 1) starts) (max most (get_or starts i 0)) ≡ highest_of (drop i starts) most
  highest-next h =
      ap (λ n. highest_of (drop n starts) (max most (get_or starts i 0))) (add-one i) ∙ sym (ap (λ l. highest_of l most) (drop-cons starts i 0 h))

  pub highest-end : i ≡ length starts → highest_of (drop i starts) most ≡ most
  highest-end e = ap (λ l. highest_of l most) (ap (λ n. drop n starts) e ∙ drop-length starts)

-- ---- the length that a word says

pub by-none : (word : ℕ) → word ≡ 0 → no_length ≡ length_by word
unfolding length_by
by-none word e = sym (ap length_by e)

pub by-some : (word : ℕ) → (word ≡ 0 → ⊥) → word - 1 ≡ length_by word
by-some zero has = absurd (has refl)
by-some (suc n) has = unfold length_by in omega arith
