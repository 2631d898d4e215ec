-- What the functions of the reader answer, in the terms of `meaning`: the definitions that their contracts cite.
-- No open function's promise uses them.
use Rattle.std.specs.Prelude.{cond, List, ℕ, suc, ◌+◌, ◌*◌, ◌-◌, ◌≤◌, max, length, get_or, Result}
use Rattle.std.proofs.Math.Option.{Option, none, some}
use Rattle.meaning.specs.Outcome.{Outcome}
use Rattle.meaning.specs.Pattern as M
use Rattle.refusals.specs.declared.Refusal.{Refusal}
use Rattle.refusals.specs.Refusal.{outcome, mapped}
use Rattle.pattern.specs.declared.Op.{Op}
use Rattle.pattern.specs.declared.Op.TheVariants as Is
use Rattle.pattern.specs.declared.Outside.{Outside}
use Rattle.pattern.specs.declared.Command.{Command}
use Rattle.pattern.specs.declared.Extent.{Extent}
use Rattle.pattern.specs.Capped.{capped}

-- ---- what each struct says

-- a command's byte
abbrev pub byte_of : Op → ℕ
byte_of Is.Nothing = 0x20
byte_of Is.Line = 0x21
byte_of Is.Same = 0x22
byte_of Is.Other = 0x23
byte_of Is.Either = 0x24
byte_of Is.Then = 0x25
byte_of Is.Repeat = 0x26
byte_of Is.Keep = 0x27
byte_of Is.Sister = 0x28
byte_of Is.Foreign = 0x29
byte_of Is.Counted = 0x2A

-- its row in the table
abbrev row_in : Option M.Shape → M.Shape
row_in none = record { operands = 0; patterns = 0 }
row_in (some x) = x

abbrev pub row_of : Op → M.Shape
row_of op = row_in (get_or M.table (byte_of op - 0x20) none)

abbrev pub outside_shown : Outside → M.Outside
outside_shown o = record { kept = o.kept; given = o.given; depth = o.depth }

abbrev pub command_of : Command → M.Command
command_of c = record { code = byte_of c.op; first = c.first; second = c.second; patterns = c.patterns; next = c.next }

abbrev pub command_shown : Result Command Refusal → Outcome M.Command
command_shown r = mapped command_of (outcome r)

-- ---- a pattern's extent

-- what is kept of a pattern that was read: the place after it, its commands, its unfolded count and its keeps
abbrev pub extent_of : M.Part → Extent
extent_of p = record { next = p.next; commands = M.commands p.tree; unfolded = capped (M.unfolded p.tree); keeps = M.keeps p.tree }

-- the pattern at a place; `bound-enough` shows that every larger bound gives the same
abbrev pub pattern_at : List ℕ → ℕ → ℕ → M.Outside → Outcome M.Part
pattern_at s at before o = M.read_at (suc (length s)) s at before o

abbrev pub extent_at : List ℕ → ℕ → ℕ → M.Outside → Outcome Extent
extent_at s at before o = mapped extent_of (pattern_at s at before o)

-- with a command around a pattern: the counts of the two
abbrev pub times_around : ℕ → ℕ → ℕ → ℕ
times_around b high n = cond (M.is_counted b) (high * n) n

abbrev pub unfolded_around : ℕ → ℕ → ℕ → ℕ
unfolded_around b high n = capped (suc (times_around b high n))

abbrev pub keeps_around : ℕ → ℕ → ℕ
keeps_around b k = cond (M.is_keep b) (k + 1) k

abbrev pub around_extent : ℕ → ℕ → Extent → Extent
around_extent b high e =
    record { next = e.next; commands = suc e.commands; unfolded = unfolded_around b high e.unfolded; keeps = keeps_around b e.keeps }

-- with two patterns after a command
abbrev pub joined_extent : Extent → Extent → Extent
joined_extent e f =
    record { next = f.next; commands = suc (e.commands + f.commands); unfolded = capped (suc (e.unfolded + f.unfolded)); keeps = max e.keeps f.keeps }

-- at most 63 commands, an unfolded count of at most 64, and keeps at most three deep
abbrev pub Few : Extent → Type 0
Few e = (e.commands ≤ 63) × (e.unfolded ≤ 64) × (e.keeps ≤ 3)
