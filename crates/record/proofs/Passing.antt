-- Line i of a record that passes, where it begins: its bytes are there, and they say the line and its width. For the functions that go over a
-- record. Assumes nothing.
use mathlib.Core.Path.{◌≡◌, sym, ap, ◌∙◌, subst}
use mathlib.Core.List.{List}
use Prim.Native.Nat.{ℕ, suc, ◌+◌, ◌-◌, ◌<◌, ◌≤◌}
use native.Mathlib.Omega.{arith}
use lib.Dec.{eqb}
use lib.ListN.{length, get_or, length-drop, take, drop}
use lib.Seq.{get_or-drop}
use Rattle.meaning.specs.Record.{byte, line_of, width}
use Rattle.meaning.specs.Writing.{line_at}
use Rattle.record.specs.Reading.{width_shown}
use Rattle.record.specs.Walk.{width-least}
use Rattle.record.specs.Whole.{lines_of}
use Rattle.record.specs.Cursor.{start_of, start-next, record-short, line-from, line-inside}
use Rattle.record.proofs.Loop.{lent}
use Rattle.record.proofs.Timed.{width_read}

-- the command stands at the front of the bytes there
command : (s : List ℕ) (at : ℕ) → get_or s at 0 ≡ byte (drop at s) 0
command s at = sym (get_or-drop at s 0 0 ∙ ap (λ n. get_or s n 0) (omega arith))

-- and so it does in the part that is lent
pub command-lent : (s : List ℕ) (at : ℕ) → eqb (get_or s at 0) 3 ≡ eqb (byte (take (length s - at) (drop at s)) 0) 3
command-lent s at = ap (λ b. eqb b 3) (command s at) ∙ ap (λ t. eqb (byte t 0) 3) (sym (lent s at))

-- line i of the record s begins at byte `at`
pub record Begins (s : List ℕ) (i at : ℕ) : Type 0 where
  pub less : i < length (lines_of s)
  pub starts : at ≡ start_of (lines_of s) i

module _ {s : List ℕ} {i at : ℕ} (b : Begins s i at) where
  -- its bytes are there
  pub bytes-there : (at + width (line_at (lines_of s) i) ≤ length s) × (10 ≤ width (line_at (lines_of s) i))
  bytes-there = (subst (λ k. k + width (line_at (lines_of s) i) ≤ length s) (sym b.starts) (line-inside s i b.less), width-least (line_at (lines_of s) i))

  -- the line is that of the bytes there, and of the part that is lent
  line-is : line_at (lines_of s) i ≡ line_of (drop at s)
  line-is = (line-from s i b.less).1.is ∙ ap (λ k. line_of (drop k s)) (sym b.starts)

  pub line-lent : line_of (take (length s - at) (drop at s)) ≡ line_at (lines_of s) i
  line-lent = ap line_of (lent s at) ∙ sym line-is

  -- the width by the test of the command is the line's
  width_is : width_shown (eqb (get_or s at 0) 3) ≡ width (line_at (lines_of s) i)
  width_is = width_read (eqb (get_or s at 0) 3) (drop at s) (ap (λ x. eqb x 3) (command s at)) ∙ ap width (sym line-is)

  -- and the part that is lent has so many bytes
  pub width-lent : width_shown (eqb (get_or s at 0) 3) ≤ length (take (length s - at) (drop at s))
  width-lent = omega (arith, width_is, ap length (lent s at), length-drop at s, bytes-there.0)

  -- the next line begins after them, and no later than question 1 lets a record end
  pub next-is : (n : ℕ) → n ≡ width_shown (eqb (get_or s at 0) 3) → at + n ≡ start_of (lines_of s) (suc i)
  next-is n e = omega (arith, e, width_is, b.starts, start-next (lines_of s) i)

  pub next_low : (n : ℕ) → n ≡ width_shown (eqb (get_or s at 0) 3) → at + n ≤ 57348
  next_low n e = omega (arith, e, width_is, bytes-there.0, record-short s i b.less)
