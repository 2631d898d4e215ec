-- Laws of a stack as one number (`Digits` in specs/).
-- Claimed: what pushing, cutting and reading do to the number (`num-pushed`, `num-take`, `num-get`), and the bounds
-- and the way back that predecessors need (`push-lt`, `pop-lt`, `pop-push`, `pow-split`). `Steps` and `Along` use them.
use Rattle.std.specs.Prelude.{◌≡◌, refl, Bool, true, false, List, [], ◌∷◌, ◌++◌, ℕ, zero, suc, ◌+◌, ◌*◌, ◌-◌, ◌^◌, ◌%◌, ◌<◌, ◌≤◌, length, take}
use Rattle.std.proofs.Common.{sym, ap, ◌∙◌, pow-suc, div-one, mod-lt, mul_assoc, add-mul, add_assoc, add-zero, mul-one, zero-mul, zero-add, arith, pow-add}
use mathlib.Core.List.Memᴰ
use Rattle.std.proofs.Math.Option.{Option, some}
use Rattle.std.proofs.Math.Nat.{pow-zero, pow-succ', mod-one, zero-mod, div-div-eq-div-mul, one-le-pow}
use Rattle.std.proofs.Math.Arith.{digits_lt, digits_div, digits_mod, mod-mul}
use Rattle.std.proofs.Math.ListN.{get_elem?}
use Rattle.automaton.specs.Automaton.{pushed}
use Rattle.automaton.specs.Shape.{deeper}
use Rattle.automaton.proofs.Readings.{AllOf}
use Rattle.search.specs.Digits

module _ (R : ℕ) where
  -- ---- the definitions

  abbrev entry : ℕ → ℕ → ℕ
  entry = Digits.entry R

  abbrev push_on : Bool → ℕ → ℕ → ℕ → ℕ
  push_on = Digits.push_on R

  abbrev pop_off : Bool → ℕ → ℕ → ℕ
  pop_off = Digits.pop_off R

  -- a list of entries, the outermost first, as a number
  abbrev pub num : List ℕ → ℕ
  num [] = 0
  num (x ∷ st) = num st * R + x

  -- ---- lists of entries below R

  abbrev pub Low : List ℕ → Type 0
  Low st = AllOf (◌< R) st

  module _ {x : ℕ} {st : List ℕ} (low : Low (x ∷ st)) where
    low-head : x < R
    low-head = low x (Memᴰ.head refl)

    low-tail : Low st
    low-tail y m = low y (Memᴰ.tail m)

  pub num-lt : (st : List ℕ) → Low st → num st < R ^ length st
  num-lt [] low = rw pow-zero (omega arith)
  num-lt (x ∷ st) low = rw (pow-suc R (length st)) (digits_lt (num-lt st (low-tail low)) (low-head low))

  num-end : (st : List ℕ) (x : ℕ) → num (st ++ (x ∷ [])) ≡ x * R ^ length st + num st
  num-end [] x = rw (pow-zero, mul-one, zero-mul, zero-add, add-zero)
  num-end (y ∷ st) x =
      rw (num-end st x, pow-suc R (length st), ← mul_assoc x (R ^ length st) R, add-mul (x * R ^ length st) (num st) R)
      (add_assoc (x * R ^ length st * R) (num st * R) y)

  pub num-pushed : (b : Bool) (st : List ℕ) (x : ℕ) → num (pushed b st x) ≡ push_on b (length st) (num st) x
  num-pushed true st x = num-end st x
  num-pushed false st x = refl

  pub num-get : (st : List ℕ) (j : ℕ) → Low st → j < length st → get_elem? st j ≡ some (entry (num st) j)
  num-get [] j low h = absurd (omega arith)
  num-get (x ∷ st) zero low h = ap {B = Option ℕ} some (sym (rw (pow-zero, div-one) (digits_mod (num st) (low-head low))))
  num-get (x ∷ st) (suc j) low h =
      num-get st j (low-tail low) (omega arith)
      ∙ ap {B = Option ℕ} some (rw (pow-succ' R j, ← div-div-eq-div-mul (num st * R + x) R (R ^ j), digits_div (num st) (low-head low)))

  -- ---- numbers as stacks

  pub pow-split : (e d : ℕ) → e ≤ d → R ^ (d - e) * R ^ e ≡ R ^ d
  pow-split e d h = sym (pow-add R (d - e) e) ∙ ap (R ^◌) (omega arith)

  pub push-lt : (b : Bool) (d v x : ℕ) → v < R ^ d → x < R → push_on b d v x < R ^ deeper b d
  push-lt true d v x h k = rw (pow-succ' R d) (digits_lt k h)
  push-lt false d v x h k = h

  pub pop-push : (b : Bool) (d v x : ℕ) → v < R ^ d → pop_off b d (push_on b d v x) ≡ v
  pop-push true d v x h = digits_mod x h
  pop-push false d v x h = refl

  module _ (pos : 0 < R) where
    pub pow_pos : (d : ℕ) → 0 < R ^ d
    pow_pos d = one-le-pow d R pos

    pub pop-lt : (b : Bool) (d v : ℕ) → v < R ^ deeper b d → pop_off b d v < R ^ d
    pop-lt true d v h = mod-lt v (pow_pos d)
    pop-lt false d v h = h

    pub num-take : (e : ℕ) (st : List ℕ) → Low st → num (take e st) ≡ num st % R ^ e
    num-take zero [] low = rw (pow-zero, mod-one)
    num-take zero (x ∷ st) low = rw (pow-zero, mod-one)
    num-take (suc e) [] low = sym (zero-mod (R ^ suc e))
    num-take (suc e) (x ∷ st) low =
        let x< = low-head low in
        rw (pow-suc R e, mod-mul (num st * R + x) (pow_pos e) pos, digits_div (num st) x<, digits_mod (num st) x<, num-take e st (low-tail low))
