-- Tests of numbers that the code makes one way and the definitions another. Assumes nothing.
use mathlib.Core.Path.{◌≡◌, refl, sym, ap}
use mathlib.Core.Bool.{Bool, true, false, not, false≢true}
use mathlib.Core.List.{List}
use Prim.Native.Nat.{ℕ}
use lib.ListN.{length}
use native.Mathlib.Omega.{arith}
use lib.Dec.{leb}
use Rattle.meaning.specs.Outcome.{refused, passed, ask}
use Rattle.meaning.specs.Record.{Line, width, line, end, byte, places_below, kind_allowed, time_allowed, ask_line, line_entry, entry_at}
use Rattle.refusals.specs.Refusal.{mapped}
use Rattle.record.specs.Outcomes.{not-both}
use Rattle.record.specs.Reading.{entry_width}
use borrow.Author.Tests.{le-leb, ne_eqb}

-- what is not 0 is at least 1
pub not-zero : (n : ℕ) → (n ≡ 0 → ⊥) → leb 1 n ≡ true
not-zero n h = le-leb 1 n (omega (arith, h))

-- a test that is turned round
pub not-true : (b : Bool) → not b ≡ true → b ≡ false
not-true true h = absurd (false≢true h)
not-true false h = refl

pub not-false : (b : Bool) → not b ≡ false → b ≡ true
not-false true h = refl
not-false false h = absurd (false≢true (sym h))

-- a line that is refused is refused whatever is told of one that passes
pub line-refused : (places : ℕ) (l : Line) (n : ℕ) → refused n ≡ ask_line places l (passed (width l)) → refused n ≡ mapped entry_width (ask_line places l (passed (line l)))
line-refused places l n h = go (places_below places l) (kind_allowed l.kind) (time_allowed l.time) h
  where
    go : (a b c : Bool) → refused n ≡ ask a 5 (ask b 6 (ask c 28 (passed (width l)))) → refused n ≡ mapped entry_width (ask a 5 (ask b 6 (ask c 28 (passed (line l)))))
    go false b c h = ap refused cc
    go true false c h = ap refused cc
    go true true false h = ap refused cc
    go true true true h = absurd (not-both h)

-- ---- the first entry of the bytes s, by its first byte

module _ (places lines : ℕ) (s : List ℕ) where
  pub entry_none : length s ≡ 0 → entry_at places lines s ≡ refused 3
  unfolding entry_at
  entry_none h = simp h

  pub entry_end : length s ≡ 1 → byte s 0 ≡ 0 → entry_at places lines s ≡ passed end
  unfolding entry_at
  entry_end h e = simp (h, e)

  module _ (some : length s ≡ 0 → ⊥) where
    pub entry-after : (length s ≡ 1 → ⊥) → byte s 0 ≡ 0 → entry_at places lines s ≡ refused 7
    unfolding entry_at
    entry-after h e = simp (not-zero _ some, e, ne_eqb _ _ h)

    pub entry-untimed : byte s 0 ≡ 2 → entry_at places lines s ≡ line_entry places lines s
    unfolding entry_at
    entry-untimed e = simp (not-zero _ some, e)

    pub entry-timed : byte s 0 ≡ 3 → entry_at places lines s ≡ line_entry places lines s
    unfolding entry_at
    entry-timed e = simp (not-zero _ some, e)

    pub entry-other : (byte s 0 ≡ 0 → ⊥) → (byte s 0 ≡ 2 → ⊥) → (byte s 0 ≡ 3 → ⊥) → entry_at places lines s ≡ refused 3
    unfolding entry_at
    entry-other a b c = simp (not-zero _ some, ne_eqb _ _ a, ne_eqb _ _ b, ne_eqb _ _ c)
