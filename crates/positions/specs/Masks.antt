-- Sets of positions as masks of 64 bits: what `members` has (`members-bit`), and which masks mark which lists.
-- The compiler's contracts say `Marks`; a code that tests a bit of a mask goes by `members-bit`. Assumes nothing.
use Rattle.std.specs.Prelude.{◌≡◌, refl, Bool, true, false, cond, List, [], ◌∷◌, ◌++◌, map, ◌↔◌, ◌⊎◌, ℕ, zero, suc, ◌+◌, ◌-◌, ◌*◌, ◌<◌, ◌≤◌, ◌^◌, ◌/◌, ◌%◌, max, eqb}
use Rattle.std.proofs.Common.{sym, ap, ◌∙◌, subst, append-nil, inl, inr, ⊎_elim, mul_assoc, one-mul, pow_pos, pow-add, shr-shr, eqb-true}
use mathlib.Core.List.Memᴰ
use Rattle.std.proofs.Math.Nat.{div-eq_of_lt, div_self}
use native.Mathlib.Omega.{arith}
use Rattle.std.proofs.Math.Decide.{dec_lt}
use Rattle.std.specs.Int.Bits.{bit_or, or_step, shifted_even}
use Rattle.std.proofs.lemmas.Nat.{or_shr, shl-shr}
use Rattle.std.proofs.Math.Pow.{pow-lt, mod-mod-pow, field}
use Rattle.std.proofs.lemmas.Bool.{eqb-false}
use Rattle.lists.specs.Listed.{◌∈◌, none_in, when}
use Rattle.positions.specs.Program.{bit_of, members, members_from}

-- ---- bits

bit-or : (a b k : ℕ) → bit_of (bit_or a b) k ≡ max (bit_of a k) (bit_of b k)
bit-or a b k = rw (or_shr a b k) (omega (arith, or_step (a / 2 ^ k) (b / 2 ^ k)))

bit-zero : (k : ℕ) → bit_of 0 k ≡ 0
bit-zero k = rw (div-eq_of_lt (pow_pos k))

bit-same : (i : ℕ) → bit_of (2 ^ i) i ≡ 1
bit-same i = rw (div_self (pow_pos i))

-- moved up by d bits: each bit is d places further up, and below them there is none
bit_moved : (m d k : ℕ) → bit_of (m * 2 ^ d) (k + d) ≡ bit_of m k
bit_moved m d k =
    let at : k + d ≡ d + k = omega arith in
    ap (bit_of (m * 2 ^ d)) at ∙ ap (λ n. n % 2) (sym (shr-shr (m * 2 ^ d) d k) ∙ ap (λ n. n / 2 ^ k) (shl-shr m d))

bit_below : (m d k : ℕ) → k < d → bit_of (m * 2 ^ d) k ≡ 0
bit_below m d k h =
    let c : ℕ = d - suc k in
    let e : d ≡ suc c + k = omega arith in
    let p : m * 2 ^ d ≡ m * 2 ^ suc c * 2 ^ k = ap (λ (n : ℕ). m * 2 ^ n) e ∙ (ap (m *◌) (pow-add 2 (suc c) k) ∙ sym (mul_assoc m (2 ^ suc c) (2 ^ k))) in
    rw (p, shl-shr) (shifted_even m c)

bit-other : (i k : ℕ) → (k ≡ i → ⊥) → bit_of (2 ^ i) k ≡ 0
bit-other i k ne = go (dec_lt i k)
  where
    go : Dec (i < k) → bit_of (2 ^ i) k ≡ 0
    go (yes h) = rw (div-eq_of_lt (pow-lt h))
    go (no h) = ap (λ n. bit_of n k) (sym (one-mul (2 ^ i))) ∙ bit_below 1 i k (omega arith)

-- the lowest 64 bits stay where those above them are left off
bit_kept : (n k : ℕ) → k < 64 → bit_of (n % 18446744073709551616) k ≡ bit_of n k
bit_kept n k h =
    let j : ℕ = 63 - k in
    let e : 64 ≡ j + 1 + k = omega arith in
    let p : n % 18446744073709551616 / 2 ^ k ≡ n / 2 ^ k % 2 ^ (j + 1) = ap (λ (i : ℕ). n % 2 ^ i / 2 ^ k) e ∙ field n (j + 1) k in
    ap (λ i. i % 2) p ∙ mod-mod-pow (n / 2 ^ k) j 1

-- ---- the members of a mask

module _ (mask : ℕ) where
  -- j is one of the n positions from k on, and in the mask
  abbrev Among : ℕ → ℕ → ℕ → Type 0
  Among k n j = (k ≤ j) × (j < k + n) × (bit_of mask j ≡ 1)

  later : (k n j : ℕ) → Among (suc k) n j → Among k (suc n) j
  later k n j x = (omega (arith, x.0), omega (arith, x.1), x.2)

  from-sound : (k n j : ℕ) → j ∈ members_from mask k n → Among k n j
  from-sound k zero j m = none_in m
  from-sound k (suc n) j m = here (eqb (bit_of mask k) 1) refl m (from-sound (suc k) n j)
    where
      here : (t : Bool) → eqb (bit_of mask k) 1 ≡ t → j ∈ cond t (k ∷ members_from mask (suc k) n) (members_from mask (suc k) n)
          → (j ∈ members_from mask (suc k) n → Among (suc k) n j) → Among k (suc n) j
      here true e m' rest =
          ⊎_elim
          (λ i. (omega (arith, i), omega (arith, i), ap (bit_of mask) i ∙ eqb-true (bit_of mask k) 1 e))
          (λ r. later k n j (rest r))
          (Memᴰ.cases_cons m')
      here false e m' rest = later k n j (rest m')

  from-complete : (k n j : ℕ) → Among k n j → j ∈ members_from mask k n
  from-complete k zero j x = absurd (omega (arith, x.0, x.1))
  from-complete k (suc n) j x = here (eqb (bit_of mask k) 1) refl (eqb j k) refl (from-complete (suc k) n j)
    where
      here : (t : Bool) → eqb (bit_of mask k) 1 ≡ t → (u : Bool) → eqb j k ≡ u → (Among (suc k) n j → j ∈ members_from mask (suc k) n)
          → j ∈ cond t (k ∷ members_from mask (suc k) n) (members_from mask (suc k) n)
      here true e true f rest = Memᴰ.head (eqb-true j k f)
      here true e false f rest = Memᴰ.tail (rest (omega (arith, x.0, eqb-false j k f), omega (arith, x.1), x.2))
      here false e true f rest = absurd (eqb-false (bit_of mask k) 1 e (ap (bit_of mask) (sym (eqb-true j k f)) ∙ x.2))
      here false e false f rest = rest (omega (arith, x.0, eqb-false j k f), omega (arith, x.1), x.2)

  pub members-bit : (k : ℕ) → (k ∈ members mask) ↔ ((k < 64) × (bit_of mask k ≡ 1))
  unfolding members
  members-bit k = (λ m. let x = from-sound 0 64 k m in (omega (arith, x.1), x.2), λ x. from-complete 0 64 k (omega arith, omega (arith, x.0), x.1))

-- ---- a mask marks a list: they have the same members

pub record Marks (mask : ℕ) (K : List ℕ) : Type 0 where
  pub has : (k : ℕ) → (k ∈ members mask) ↔ (k ∈ K)

pub marks-none : Marks 0 []
marks-none = record { has = λ k. (λ m. absurd (omega (arith, ((members-bit 0 k).0 m).1, bit-zero k)), λ m. none_in m) }

pub marks-one : (i : ℕ) → i < 64 → Marks (2 ^ i) (i ∷ [])
marks-one i h = record { has = λ k. (λ m. Memᴰ.head (sound k (eqb k i) refl ((members-bit (2 ^ i) k).0 m).1), λ m. complete k (Memᴰ.eq_of_singleton m)) }
  where
    sound : (k : ℕ) (t : Bool) → eqb k i ≡ t → bit_of (2 ^ i) k ≡ 1 → k ≡ i
    sound k true e b = eqb-true k i e
    sound k false e b = absurd (omega (arith, b, bit-other i k (eqb-false k i e)))

    complete : (k : ℕ) → k ≡ i → k ∈ members (2 ^ i)
    complete k e = (members-bit (2 ^ i) k).1 (omega (arith, e), ap (bit_of (2 ^ i)) e ∙ bit-same i)

module _ {m n : ℕ} {K L : List ℕ} (f : Marks m K) (g : Marks n L) where
  -- the union of two masks marks the two lists together
  pub marks-append : Marks (bit_or m n) (K ++ L)
  marks-append = record { has = λ k. (sound k, λ i. ⊎_elim (left k) (right k) (Memᴰ.append_cases K i)) }
    where
      -- the bit of one of the two is 1
      one : (k : ℕ) → bit_of (bit_or m n) k ≡ 1 → (t : Bool) → eqb (bit_of m k) 1 ≡ t → (bit_of m k ≡ 1) ⊎ (bit_of n k ≡ 1)
      one k b true e = inl (eqb-true (bit_of m k) 1 e)
      one k b false e = inr (omega (arith, b, bit-or m n k, eqb-false (bit_of m k) 1 e))

      sound : (k : ℕ) → k ∈ members (bit_or m n) → k ∈ (K ++ L)
      sound k i =
          let (low, b) = (members-bit (bit_or m n) k).0 i in
          ⊎_elim
          (λ e. Memᴰ.append_left L ((f.has k).0 ((members-bit m k).1 (low, e))))
          (λ e. Memᴰ.append_right K ((g.has k).0 ((members-bit n k).1 (low, e))))
          (one k b (eqb (bit_of m k) 1) refl)

      left : (k : ℕ) → k ∈ K → k ∈ members (bit_or m n)
      left k i = let (low, b) = (members-bit m k).0 ((f.has k).1 i) in (members-bit (bit_or m n) k).1 (low, omega (arith, b, bit-or m n k))

      right : (k : ℕ) → k ∈ L → k ∈ members (bit_or m n)
      right k i = let (low, b) = (members-bit n k).0 ((g.has k).1 i) in (members-bit (bit_or m n) k).1 (low, omega (arith, b, bit-or m n k))

  -- the second only where the condition holds
  pub marks-when : (e : Bool) → Marks (cond e (bit_or m n) m) (K ++ when e L)
  marks-when true = marks-append
  marks-when false = subst (Marks m) (sym (append-nil K)) f

-- a mask that is shifted up by d bits in a word of 64 marks the positions d further on, as long as none of them falls out
pub marks-moved : (m d : ℕ) (K : List ℕ) → Marks m K → ((k : ℕ) → k ∈ K → k + d < 64) → Marks ((m * 2 ^ d) % 18446744073709551616) (map (λ k. k + d) K)
marks-moved m d K f small = record { has = λ k. (λ i. let (low, b) = (members-bit mask k).0 i in sound k low (dec_lt k d) (sym (bit_kept (m * 2 ^ d) k low) ∙ b), complete k) }
  where
    mask : ℕ
    mask = (m * 2 ^ d) % 18446744073709551616

    sound : (k : ℕ) → k < 64 → Dec (k < d) → bit_of (m * 2 ^ d) k ≡ 1 → k ∈ map (λ j. j + d) K
    sound k low (yes h) b = absurd (omega (arith, b, bit_below m d k h))
    sound k low (no h) b =
        let j : ℕ = k - d in
        let e : j + d ≡ k = omega arith in
        let i : j ∈ members m = (members-bit m j).1 (omega arith, sym (bit_moved m d j) ∙ (ap (bit_of (m * 2 ^ d)) e ∙ b)) in
        subst (◌∈ map (λ j. j + d) K) e (Memᴰ.map (λ j. j + d) ((f.has j).0 i))

    complete : (k : ℕ) → k ∈ map (λ j. j + d) K → k ∈ members mask
    complete k i =
        let (j, mj, e) = Memᴰ.of_map (λ j. j + d) K i in
        let (low, b) = (members-bit m j).0 ((f.has j).1 mj) in
        subst (◌∈ members mask) e ((members-bit mask (j + d)).1 (small j mj, bit_kept (m * 2 ^ d) (j + d) (small j mj) ∙ (bit_moved m d j ∙ b)))
