-- The pattern's bytes out of their words, one by one. Assumes nothing.
use mathlib.Core.Path.{◌≡◌, refl, sym, ap, ◌∙◌}
use mathlib.Core.List.{List}
use Prim.Native.Nat.{ℕ, ◌+◌, ◌%◌, ◌<◌, ◌≤◌}
use native.Mathlib.Omega.{arith}
use lib.ListN.{length, get_or, length-map, get_or-map}
use lib.Seq.{ext_get_or}
use Rattle.area.specs.Area.{stretch}
use Rattle.area.proofs.Stretches.{stretch-length, stretch-get}
use Rattle.holding.specs.Holding.{bytes_of}

bytes-long : (n : ℕ) (w : List ℕ) → 17 + n ≤ length w → length (bytes_of n w) ≡ n
bytes-long n w h = length-map (stretch 17 n w) (λ x. x % 256) ∙ stretch-length 17 n w h

byte_at : (n : ℕ) (w : List ℕ) (i x : ℕ) → i < n → x ≡ get_or w (17 + i) 0 → x % 256 ≡ get_or (bytes_of n w) i 0
byte_at n w i x h e = ap (λ (y : ℕ). y % 256) (e ∙ sym (stretch-get 17 n w i h)) ∙ sym (get_or-map (λ x. x % 256) (stretch 17 n w) i 0)

-- all of them, read one by one
pub bytes-read : (n : ℕ) (w front : List ℕ) → 17 + n ≤ length w → length front ≡ n → ((k : ℕ) → k < n → get_or front k 0 ≡ get_or w (17 + k) 0 % 256) → front ≡ bytes_of n w
bytes-read n w front h e read = ext_get_or 0 front (bytes_of n w) (e ∙ sym (bytes-long n w h)) (λ k l. read k (omega (arith, e, l)) ∙ byte_at n w k _ (omega (arith, e, l)) refl)
