-- A line timed or not: its bytes by the code's test of its command. Assumes nothing.
use mathlib.Core.Path.{◌≡◌, refl, ap}
use mathlib.Core.Bool.{Bool, true, false, cond}
use mathlib.Core.List.{List}
use Prim.Native.Nat.{ℕ, ◌≤◌}
use native.Mathlib.Omega.{arith}
use lib.Dec.{eqb}
use Rattle.meaning.specs.Record.{byte, four, line_of, wide, width}
use mathlib.Core.Option.{some, none}
use Rattle.std.specs.Prelude.{Some, None, is_some}
use Rattle.std.specs.Prelude.{Option as Maybe}
use Rattle.record.specs.Reading.{time_shown, width_shown}

-- the width by the test of a time
pub width-shown : (time : Maybe ℕ) → width_shown (is_some time) ≡ wide (time_shown time)
width-shown (Some time) = refl
width-shown None = refl

pub ten-at-least : (timed : Bool) → 10 ≤ width_shown timed
ten-at-least true = omega arith
ten-at-least false = omega arith

-- where the test is that of the command, the width is the line's
pub width_read : (timed : Bool) (s : List ℕ) → timed ≡ eqb (byte s 0) 3 → width_shown timed ≡ width (line_of s)
width_read true s e = ap (λ t. wide (cond t (some (four s 10)) none)) e
width_read false s e = ap (λ t. wide (cond t (some (four s 10)) none)) e
