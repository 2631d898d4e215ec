-- Where a state stands, asked without a division, and its position and stack there; a division as a multiplication (`divided`).
use mathlib.Core.Path.{◌≡◌, refl, sym, ap, ◌∙◌}
use mathlib.Core.Bool.{Bool, true, false}
use Prim.Native.Nat.{ℕ, suc, ◌+◌, ◌*◌, ◌-◌, ◌/◌, ◌%◌, ◌<◌, ◌≤◌}
use native.Mathlib.Nat.{div-div-eq-div-mul, mul_comm, mul_assoc, add_comm, div-mul-le_self, lt-div-mul-add, add-mul-div_right, div-lt_iff_lt-mul, div-add-mod', mul-add-mod_self_right, mod-lt, add-mul, mul-add, one-mul, suc-mul, mul-le-mul_left, mul-le-mul_right}
use native.Mathlib.Omega.{arith}
use lib.Arith.{digits_div, digits_mod}
use lib.Dec.{eqb, ltb}
use borrow.Author.Tests.{eq-eqb, ne_eqb, eqb-true, ltb-true, ltb-false}

-- a state stands at place q exactly where it is one of the block of states from q · block on
module _ (stacks positions s q block : ℕ) (is : block ≡ positions * stacks) (some : 0 < block) where
  block_of : s / stacks / positions ≡ s / block
  block_of = div-div-eq-div-mul s stacks positions ∙ (ap (s /◌) (mul_comm stacks positions) ∙ ap (s /◌) (sym is))

  not_there : (q ≡ s / block → ⊥) → eqb q (s / stacks / positions) ≡ false
  not_there n = ne_eqb q (s / stacks / positions) (λ e. n (e ∙ block_of))

  pub stands-before : s < q * block → false ≡ eqb q (s / stacks / positions)
  stands-before h = sym (not_there (λ e. let whole : q * block ≡ s / block * block = ap (◌* block) e in omega (arith, div-mul-le_self s block)))

  pub stands-within : q * block ≤ s → ltb (s - q * block) block ≡ eqb q (s / stacks / positions)
  stands-within h = go (ltb (s - q * block) block) refl
    where
      go : (t : Bool) → ltb (s - q * block) block ≡ t → t ≡ eqb q (s / stacks / positions)
      go true e =
          let less : s - q * block < block = ltb-true _ _ e in
          let sum : s ≡ q * block + (s - q * block) = omega arith in
          sym (eq-eqb q (s / stacks / positions) (sym (block_of ∙ (ap (◌/ block) sum ∙ digits_div q less))))
      go false e =
          let past : block ≤ s - q * block = ltb-false _ _ e in
          sym (not_there (λ f. let whole : q * block ≡ s / block * block = ap (◌* block) f in omega (arith, lt-div-mul-add {a = s} some)))

-- division by d as a multiplication by m, which is a little more than Q / d, and a division by Q
module _ (Q s d m : ℕ) (some : 0 < d) (is : m ≡ Q / d + 1) (short : s + d < Q / d) where
  pub divided : s * m / Q ≡ s / d
  divided =
      let q = s / d in
      let r = s % d in
      let k = Q / d in
      let c = Q % d in
      let e = d - c in
      let by-d : q * d + r ≡ s = div-add-mod' s d in
      let whole : k * d + c ≡ Q = div-add-mod' Q d in
      let r-low : r < d = mod-lt s some in
      let c-low : c < d = mod-lt Q some in
      let times : m * d ≡ k * d + d = ap (◌* d) is ∙ (add-mul k 1 d ∙ ap (k * d +◌) (one-mul d)) in
      let over : m * d ≡ Q + e = omega (arith, times, whole, c-low) in
      let parts : s * m ≡ q * d * m + r * m = ap (◌* m) (sym by-d) ∙ add-mul (q * d) r m in
      let first : q * d * m ≡ q * Q + q * e = mul_assoc q d m ∙ (ap (q *◌) (mul_comm d m ∙ over) ∙ mul-add q Q e) in
      let last : suc r * m ≤ d * m = mul-le-mul_right m r-low in
      let rest : r * m + m ≤ Q + e = omega (arith, last, suc-mul r m, mul_comm d m, over) in
      let small : q * e ≤ q * d = mul-le-mul_left q (omega arith) in
      let less : q * e + r * m < Q = omega (arith, rest, small, by-d, short, is) in
      let sum : s * m ≡ q * Q + (q * e + r * m) = omega (arith, parts, first) in
      ap (◌/ Q) sum ∙ digits_div q less

-- what is left of a state past its block's first tells its position and its stack
module _ (stacks positions q rest : ℕ) (some : 0 < stacks) (less : rest < positions * stacks) where
  rest-position : (q * (positions * stacks) + rest) / stacks ≡ q * positions + rest / stacks
  rest-position =
      let sum : q * (positions * stacks) + rest ≡ rest + q * positions * stacks = omega (arith, mul_assoc q positions stacks) in
      let out : (rest + q * positions * stacks) / stacks ≡ rest / stacks + q * positions = add-mul-div_right rest (q * positions) some in
      ap (◌/ stacks) sum ∙ (out ∙ add_comm (rest / stacks) (q * positions))

  position-low : rest / stacks < positions
  position-low = (div-lt_iff_lt-mul some).1 less

  pub standing-position : (s : ℕ) → s ≡ q * (positions * stacks) + rest → rest / stacks ≡ s / stacks % positions
  standing-position s e = sym (ap (λ n. n / stacks % positions) e ∙ (ap (◌% positions) rest-position ∙ digits_mod q position-low))

  pub standing-stack : (s : ℕ) → s ≡ q * (positions * stacks) + rest → rest - rest / stacks * stacks ≡ s % stacks
  standing-stack s e =
      let turned : q * (positions * stacks) + rest ≡ q * positions * stacks + rest = omega (arith, mul_assoc q positions stacks) in
      let same : s % stacks ≡ rest % stacks = ap (◌% stacks) (e ∙ turned) ∙ mul-add-mod_self_right (q * positions) stacks rest in
      omega (arith, div-add-mod' rest stacks, same)

-- a state at the place q is not before its block, and is in it
module _ (stacks positions s q : ℕ) (some : 0 < positions * stacks) (here : eqb q (s / stacks / positions) ≡ true) where
  whole : q * (positions * stacks) ≡ s / (positions * stacks) * (positions * stacks)
  whole = ap (◌* (positions * stacks)) (eqb-true q (s / stacks / positions) here ∙ block_of stacks positions s q (positions * stacks) refl some)

  pub standing-past : q * (positions * stacks) ≤ s
  standing-past = omega (arith, whole, div-mul-le_self s (positions * stacks))

  pub standing-within : s - q * (positions * stacks) < positions * stacks
  standing-within = omega (arith, whole, lt-div-mul-add {a = s} some)
