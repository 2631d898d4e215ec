-- A line's operands as two words of four bytes and the byte between them. Claimed: `words-equal` (they say all operands) and `words-decide`;
-- `head_bytes`, `tail-bytes` and `high_byte` are these words of a line's bytes. Assumes nothing.
use mathlib.Core.Path.{◌≡◌, refl, sym, ap}
use mathlib.Core.Bool.{Bool, true, false}
use mathlib.Core.List.{List}
use mathlib.Core.Option.{none}
use Prim.Native.Nat.{ℕ, ◌+◌, ◌*◌, ◌/◌, ◌<◌}
use native.Mathlib.Omega.{arith}
use lib.Dec.{eqb}
use borrow.Author.Tests.{eqb-true, eqb-false}
use Rattle.meaning.specs.Record.{Line, byte, two, four, line_of}
use Rattle.meaning.specs.Writing.{same_line}
use Rattle.record.specs.Same.{equal-same, differs-same}
use Rattle.record.specs.Reading.{head_word, tail_word, untimed}

-- the operands that have one or two bytes
abbrev pub Narrow : Line → Type 0
Narrow l = (l.kind < 256) × (l.boat.class < 256) × (l.to < 65536)

pub words-equal : (a b : Line) → Narrow a → Narrow b → head_word a ≡ head_word b → tail_word a ≡ tail_word b → a.boat.sail / 65536 ≡ b.boat.sail / 65536 → untimed a ≡ untimed b
words-equal a b (k, c, t) (k', c', t') head tail high =
    let from : a.from ≡ b.from = omega (arith, head, k, c, k', c') in
    let kind : a.kind ≡ b.kind = omega (arith, head, k, c, k', c') in
    let class : a.boat.class ≡ b.boat.class = omega (arith, head, k, c, k', c') in
    let sail : a.boat.sail ≡ b.boat.sail = omega (arith, tail, t, t', high) in
    let to : a.to ≡ b.to = omega (arith, tail, t, t') in
    λ i. record { from = from i; kind = kind i; boat = record { class = class i; sail = sail i }; to = to i; time = none }

-- where the two words agree, the byte between them decides
pub words-decide : (a b : Line) → Narrow a → Narrow b → head_word a ≡ head_word b → tail_word a ≡ tail_word b → eqb (b.boat.sail / 65536) (a.boat.sail / 65536) ≡ same_line (untimed a) (untimed b)
words-decide a b m n head tail = go (eqb (b.boat.sail / 65536) (a.boat.sail / 65536)) refl
  where
    go : (t : Bool) → eqb (b.boat.sail / 65536) (a.boat.sail / 65536) ≡ t → t ≡ same_line (untimed a) (untimed b)
    go true e = sym (equal-same (untimed a) (untimed b) (words-equal a b m n head tail (sym (eqb-true _ _ e))))
    go false e = sym (differs-same (untimed a) (untimed b) (λ u. eqb-false _ _ e (sym (ap (λ (l : Line). l.boat.sail / 65536) u))))

-- ---- of a line's bytes

module _ (s : List ℕ) (small : (i : ℕ) → byte s i < 256) where
  pub head_bytes : four s 1 ≡ head_word (line_of s)
  head_bytes = refl

  pub tail-bytes : four s 6 ≡ tail_word (line_of s)
  tail-bytes = ap (λ n. n * 65536 + two s 8) (omega (arith, small 6, small 7))

  pub high_byte : byte s 5 ≡ (line_of s).boat.sail / 65536
  high_byte = omega (arith, small 6, small 7)

  pub narrow-bytes : Narrow (line_of s)
  narrow-bytes = (small 3, small 4, omega (arith, small 8, small 9))
