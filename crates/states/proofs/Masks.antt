-- The lowest position of a mask is the count of the zeros below its lowest set digit (`trailing-lowest`); what a mask has from a position on;
-- and a mask without its lowest position (`cleared`).
use mathlib.Core.Path.{◌≡◌, refl, sym, ap, ◌∙◌}
use Prim.Native.Nat.{ℕ, zero, suc, ◌+◌, ◌*◌, ◌-◌, ◌^◌, ◌/◌, ◌%◌, ◌<◌, ◌≤◌}
use native.Mathlib.Nat.{div-one, div-lt_iff_lt-mul, pow-suc, div-add-mod', mod-lt, mod-one, one-le-pow, zero-mul, one-mul, mul_assoc}
use native.Mathlib.Omega.{arith}
use lib.Count.{count_trailing_zeros, under}
use lib.Bits.{bit_and, and_block, and_shifted, and_self, shifted_even}
use lib.Pow.{shr-shr, shl-shr, pow-add, mod-pow-add, split}
use Rattle.positions.specs.Program.{bit_of}
use Rattle.states.specs.Spots.{Lowest, From}

-- the digits from digit k on
pub bit-from : (n k j : ℕ) → bit_of (n / 2 ^ k) j ≡ bit_of n (k + j)
bit-from n k j = ap (◌% 2) (shr-shr n k j)

bit-first : (n : ℕ) → bit_of n 0 ≡ n % 2
bit-first n = ap (◌% 2) (div-one n)

bit-next : (n j : ℕ) → bit_of (n / 2) j ≡ bit_of n (suc j)
bit-next n j = bit-from n 1 j ∙ ap (bit_of n) (omega arith)

pub trailing-lowest : (k n : ℕ) → 0 < n → n < 2 ^ k → (count_trailing_zeros k n < k) × Lowest n (count_trailing_zeros k n)
unfolding count_trailing_zeros
trailing-lowest zero n some less = let none : n < 1 = less in absurd (omega arith)
trailing-lowest (suc k) n some less = go (n % 2) refl (trailing-lowest k (n / 2))
  where
    half : n / 2 * 2 + n % 2 ≡ n
    half = div-add-mod' n 2

    go : (d : ℕ) → n % 2 ≡ d → (0 < n / 2 → n / 2 < 2 ^ k → (count_trailing_zeros k (n / 2) < k) × Lowest (n / 2) (count_trailing_zeros k (n / 2)))
        → (under d (count_trailing_zeros k (n / 2)) < suc k) × Lowest n (under d (count_trailing_zeros k (n / 2)))
    go zero e rest =
        let two : 0 < 2 = omega arith in
        let bound : n < 2 ^ k * 2 = rw (← pow-suc 2 k) less in
        let ih = rest (omega (arith, half, e)) ((div-lt_iff_lt-mul two).1 bound) in (
          omega (arith, ih.0),
          record {
            has = sym (bit-next n (count_trailing_zeros k (n / 2))) ∙ ih.1.has;
            none_below = below (count_trailing_zeros k (n / 2)) ih.1.none_below e;
          },
        )
      where
        below : (z : ℕ) → ((j : ℕ) → j < z → bit_of (n / 2) j ≡ 1 → ⊥) → n % 2 ≡ 0 → (j : ℕ) → j < suc z → bit_of n j ≡ 1 → ⊥
        below z none f zero h b = omega (arith, bit-first n, b, f)
        below z none f (suc j) h b = none j (omega arith) (bit-next n j ∙ b)
    go (suc d) e rest =
        let two : 0 < 2 = omega arith in
        let low : n % 2 < 2 = mod-lt n two in (
          omega arith,
          record {
            has = bit-first n ∙ omega (arith, e, low);
            none_below = λ j h b. omega (arith, h);
          },
        )

-- ---- a mask without its lowest position

-- no digit below k is set
low-none : (n k : ℕ) → ((j : ℕ) → j < k → bit_of n j ≡ 1 → ⊥) → n % 2 ^ k ≡ 0
low-none n zero none = mod-one n
low-none n (suc k) none =
    let ih = low-none n k (λ j h. none j (omega arith)) in
    let parts : n % 2 ^ (1 + k) ≡ (n / 2 ^ k % 2 ^ 1) * 2 ^ k + n % 2 ^ k = mod-pow-add n 1 k in
    let digit : n / 2 ^ k % 2 ≡ 0 = omega (arith, none k (omega arith), mod-lt (n / 2 ^ k) {m = 2} (omega arith)) in
    let top : (n / 2 ^ k % 2 ^ 1) * 2 ^ k ≡ 0 * 2 ^ k = ap (◌* 2 ^ k) digit in
    let one : 1 + k ≡ suc k = omega arith in
    ap (λ e. n % 2 ^ e) (sym one) ∙ (parts ∙ omega (arith, top, zero-mul (2 ^ k), ih))

-- its digits below s are 0, and those from s on are those of m from 0 on
shifted-below : (m s i : ℕ) → i < s → bit_of (m * 2 ^ s) i ≡ 0
shifted-below m s i h =
    let sum : suc (s - i - 1) + i ≡ s = omega arith in
    let split : m * 2 ^ s ≡ m * 2 ^ suc (s - i - 1) * 2 ^ i = ap (λ e. m * 2 ^ e) (sym sum) ∙ (ap (m *◌) (pow-add 2 (suc (s - i - 1)) i) ∙ sym (mul_assoc m (2 ^ suc (s - i - 1)) (2 ^ i))) in
    ap (λ n. n / 2 ^ i % 2) split ∙ (ap (◌% 2) (shl-shr (m * 2 ^ suc (s - i - 1)) i) ∙ shifted_even m (s - i - 1))

shifted-from : (m s i : ℕ) → s ≤ i → bit_of (m * 2 ^ s) i ≡ bit_of m (i - s)
shifted-from m s i h =
    let sum : s + (i - s) ≡ i = omega arith in
    ap (λ e. m * 2 ^ s / 2 ^ e % 2) (sym sum) ∙ ap (◌% 2) (sym (shr-shr (m * 2 ^ s) s (i - s)) ∙ ap (◌/ 2 ^ (i - s)) (shl-shr m s))

pub cleared : (n k : ℕ) → Lowest n k → From n (k + 1) (bit_and n (n - 1))
cleared n k low = record { same = same; none_below = λ i h b. omega (arith, b, ap (λ x. bit_of x i) is ∙ shifted-below m s i (omega arith)) }
  where
    s : ℕ
    s = suc k

    m : ℕ
    m = n / 2 ^ s

    pos : 0 < 2 ^ k
    pos = one-le-pow k 2 (omega arith)

    double : 2 ^ s ≡ 2 ^ k * 2
    double = pow-suc 2 k

    -- the lowest digit alone is set below digit s
    rest : n % 2 ^ s ≡ 2 ^ k
    rest =
        let one : 1 + k ≡ suc k = omega arith in
        let parts : n % 2 ^ (1 + k) ≡ (n / 2 ^ k % 2 ^ 1) * 2 ^ k + n % 2 ^ k = mod-pow-add n 1 k in
        let top : (n / 2 ^ k % 2 ^ 1) * 2 ^ k ≡ 1 * 2 ^ k = ap (◌* 2 ^ k) low.has in
        ap (λ e. n % 2 ^ e) (sym one) ∙ (parts ∙ omega (arith, top, one-mul (2 ^ k), low-none n k low.none_below))

    whole : n ≡ m * 2 ^ s + 2 ^ k
    whole = omega (arith, split n s, rest)

    before : n - 1 ≡ m * 2 ^ s + (2 ^ k - 1)
    before = omega (arith, whole, pos)

    is : bit_and n (n - 1) ≡ m * 2 ^ s
    is =
        let both : bit_and n (n - 1) ≡ bit_and (m * 2 ^ s + 2 ^ k) (m * 2 ^ s + (2 ^ k - 1)) = λ i. bit_and (whole i) (before i) in
        let blocks = and_block s m m (2 ^ k) (2 ^ k - 1) (omega (arith, double, pos)) (omega (arith, double, pos)) in
        let none : bit_and (1 * 2 ^ k) (2 ^ k - 1) ≡ 0 = and_shifted 1 k (2 ^ k - 1) (omega (arith, pos)) in
        let low_bits : bit_and (2 ^ k) (2 ^ k - 1) ≡ 0 = ap (λ x. bit_and x (2 ^ k - 1)) (sym (one-mul (2 ^ k))) ∙ none in
        both ∙ (blocks ∙ omega (arith, ap (◌* 2 ^ s) (and_self m), low_bits))

    same : (i : ℕ) → k + 1 ≤ i → bit_of (bit_and n (n - 1)) i ≡ bit_of n i
    same i h =
        let sum : s + (i - s) ≡ i = omega arith in
        ap (λ x. bit_of x i) is ∙ (shifted-from m s i (omega arith) ∙ (bit-from n s (i - s) ∙ ap (bit_of n) sum))
