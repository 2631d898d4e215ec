-- Windows of the day (document 02, request Seven), and what goes with a question besides record, pattern and places.
-- `inside` says which lines a window lets in, `windows_allowed` asks question 27.
use Rattle.std.specs.Prelude.{Bool, true, ◌&&◌, List, ℕ, zero, suc, ◌-◌, ltb, leb, eqb, get_or, replicate}
use Rattle.std.proofs.Math.Option.{Option, none, some}
use Rattle.meaning.specs.Record.{Line}

-- a window for each of the kinds 1 to 15, in their order: from the opening second, which is included, to the closing second, which is not
pub record Windows : Type 0 where
  pub opens : List ℕ
  pub closes : List ℕ

abbrev pub opens_at : Windows → ℕ → ℕ
opens_at w kind = get_or w.opens (kind - 1) 0

abbrev pub closes_at : Windows → ℕ → ℕ
closes_at w kind = get_or w.closes (kind - 1) 0

-- is a time inside a window? A line without a time is, exactly if the window runs from 0 to 86,400
abbrev pub within : ℕ → ℕ → Option ℕ → Bool
within opens closes none = eqb opens 0 && eqb closes 86400
within opens closes (some t) = leb opens t && ltb t closes

-- is a line inside its kind's window?
abbrev pub inside : Windows → Line → Bool
inside w l = within (opens_at w l.kind) (closes_at w l.kind) l.time

-- does a kind's window open before it closes, and close by 86,400?
abbrev pub window_allowed : Windows → ℕ → Bool
window_allowed w kind = ltb (opens_at w kind) (closes_at w kind) && leb (closes_at w kind) 86400

-- does each of the first so many kinds?
unfoldable pub first_allowed : Windows → ℕ → Bool
first_allowed w zero = true
first_allowed w (suc kind) = first_allowed w kind && window_allowed w (suc kind)

-- question 27: does each of the fifteen, whether a line has its kind or not?
abbrev pub windows_allowed : Windows → Bool
windows_allowed w = first_allowed w 15

-- where no windows are given, each runs over the whole day
abbrev pub whole_day : Windows
whole_day = record { opens = replicate 15 0; closes = replicate 15 86400 }

-- what goes with a question
pub record Options : Type 0 where
  pub windows : Windows

abbrev pub plain : Options
plain = record { windows = whole_day }
