-- Reading a line back: what the definition says where the record is refused and where it passes. Assumes nothing.
use mathlib.Core.Path.{◌≡◌}
use mathlib.Core.List.{List}
use Prim.Native.Nat.{ℕ}
use lib.Dec.{ltb}
use lib.ListN.{length}
use Rattle.meaning.specs.Outcome.{refused, passed, ask}
use Rattle.meaning.specs.Record.{Day, read_record}
use Rattle.meaning.specs.Writing.{line_at, read_of}

pub read-refused : (s : List ℕ) (i number : ℕ) → read_record s ≡ refused number → read_of s i ≡ refused number
unfolding read_of
read-refused s i number e = simp e

pub read-passed : (s : List ℕ) (i : ℕ) (day : Day) → read_record s ≡ passed day → read_of s i ≡ ask (ltb i (length day.lines)) 18 (passed (line_at day.lines i))
unfolding read_of
read-passed s i day e = simp e
