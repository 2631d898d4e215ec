-- Computed examples of windows: nothing to believe. An edited definition of `Windows`, or of how `Chain` goes by them, breaks one of them.
-- Lines inside and outside, question 27, the lines as a search meets them, and chains that are accepted or not for where their lines stand.
use Rattle.std.specs.Prelude.{◌≡◌, refl, true, false, ℕ, ◌-◌, ltb, replicate}
use Rattle.std.proofs.lemmas.Bool.{false≢true}
use mathlib.Core.List.{List, [], ◌∷◌, ◌++◌, map}
use Rattle.std.proofs.Common.{arith}
use Rattle.meaning.specs.Record.{Line}
use Rattle.meaning.specs.Pattern.{Pattern, line, then}
use Rattle.meaning.specs.Language.{Letter}
use Rattle.meaning.specs.Windows.{Windows, inside, first_allowed, windows_allowed, whole_day}
use Rattle.meaning.specs.Request.{Asked}
use Rattle.meaning.specs.Chain.{usable, Accepted, masked, lines_met}
use Rattle.meaning.specs.Rows.{line_of, timed_of}

-- ---- inside and outside

-- one window for all kinds
unfoldable pub all_kinds : ℕ → ℕ → Windows
all_kinds opens closes = record { opens = replicate 15 opens; closes = replicate 15 closes }

-- one window for the kind that so many stand before; the others have the whole day
unfoldable pub one_kind : ℕ → ℕ → ℕ → Windows
one_kind before opens closes = record {
  opens = replicate before 0 ++ (opens ∷ replicate (14 - before) 0);
  closes = replicate before 86400 ++ (closes ∷ replicate (14 - before) 86400);
}

-- the opening second is included, the closing second is not
timed-inside : map (λ w. inside w (timed_of 0 1 1 150 1 5)) (all_kinds 5 6 ∷ all_kinds 0 5 ∷ all_kinds 6 7 ∷ all_kinds 0 6 ∷ all_kinds 5 86400 ∷ []) ≡ true ∷ false ∷ false ∷ true ∷ true ∷ []
unfolding all_kinds timed_of
timed-inside = refl

-- the day's first and last second
edges-inside : map (λ t. inside (all_kinds 0 86400) (timed_of 0 1 1 150 1 t)) (0 ∷ 86399 ∷ []) ++ map (λ t. inside (all_kinds 1 86399) (timed_of 0 1 1 150 1 t)) (0 ∷ 1 ∷ 86398 ∷ 86399 ∷ [])
    ≡ true ∷ true ∷ false ∷ true ∷ true ∷ false ∷ []
unfolding all_kinds timed_of
edges-inside = refl

-- a line without a time is inside from 0 to 86,400 only
untimed-inside : map (λ w. inside w (line_of 0 1 1 150 1)) (whole_day ∷ all_kinds 0 86400 ∷ all_kinds 0 86399 ∷ all_kinds 1 86400 ∷ all_kinds 5 6 ∷ all_kinds 0 1 ∷ []) ≡ true ∷ true ∷ false ∷ false ∷ false ∷ false ∷ []
unfolding all_kinds line_of
untimed-inside = refl

-- each kind goes by its own window: the first, the third and the last of the fifteen
kinds-inside : map (λ before. map (λ kind. inside (one_kind before 5 6) (timed_of 0 kind 1 150 1 4)) (1 ∷ 2 ∷ 3 ∷ 4 ∷ 14 ∷ 15 ∷ [])) (0 ∷ 2 ∷ 14 ∷ [])
    ≡ (false ∷ true ∷ true ∷ true ∷ true ∷ true ∷ []) ∷ (true ∷ true ∷ false ∷ true ∷ true ∷ true ∷ []) ∷ (true ∷ true ∷ true ∷ true ∷ true ∷ false ∷ []) ∷ []
unfolding one_kind timed_of
kinds-inside = refl

-- and so it closes
kinds-closed : map (λ before. map (λ kind. inside (one_kind before 5 6) (timed_of 0 kind 1 150 1 6)) (1 ∷ 2 ∷ 3 ∷ 4 ∷ 14 ∷ 15 ∷ [])) (0 ∷ 2 ∷ 14 ∷ [])
    ≡ (false ∷ true ∷ true ∷ true ∷ true ∷ true ∷ []) ∷ (true ∷ true ∷ false ∷ true ∷ true ∷ true ∷ []) ∷ (true ∷ true ∷ true ∷ true ∷ true ∷ false ∷ []) ∷ []
unfolding one_kind timed_of
kinds-closed = refl

-- ---- question 27

-- a window opens before it closes, and closes by 86,400
windows-asked : map windows_allowed (whole_day ∷ all_kinds 5 6 ∷ all_kinds 86399 86400 ∷ all_kinds 5 5 ∷ all_kinds 6 5 ∷ all_kinds 0 86401 ∷ all_kinds 86400 86401 ∷ []) ≡ true ∷ true ∷ true ∷ false ∷ false ∷ false ∷ false ∷ []
unfolding first_allowed all_kinds
windows-asked = refl

-- each of the fifteen is asked, and one is enough to fail
kinds-asked : map (λ before. windows_allowed (one_kind before 5 5)) (0 ∷ 1 ∷ 7 ∷ 13 ∷ 14 ∷ []) ++ map (λ before. windows_allowed (one_kind before 5 86401)) (0 ∷ 14 ∷ [])
    ≡ false ∷ false ∷ false ∷ false ∷ false ∷ false ∷ false ∷ []
unfolding first_allowed one_kind
kinds-asked = refl

-- the first so many kinds: a window that fails counts from its own kind on
first-asked : map (first_allowed (one_kind 2 5 5)) (0 ∷ 1 ∷ 2 ∷ 3 ∷ 15 ∷ []) ++ map (first_allowed (one_kind 14 5 5)) (14 ∷ 15 ∷ []) ≡ true ∷ true ∷ true ∷ false ∷ false ∷ true ∷ false ∷ []
unfolding first_allowed one_kind
first-asked = refl

-- ---- the lines as a search meets them

-- four lines between two places, three of them timed; kind 1 has a window from 6 to 10
pub lines_w : List Line
lines_w = timed_of 0 1 1 150 1 5 ∷ timed_of 0 1 2 150 1 9 ∷ line_of 0 1 1 151 1 ∷ timed_of 1 2 1 150 0 5 ∷ []

abbrev pub asking : Pattern → Asked
asking p = record { day = record { places = 2; lines = lines_w }; pattern = p; options = record { windows = one_kind 0 6 10 } }

usable-lines : map (usable (asking (line 1))) (0 ∷ 1 ∷ 2 ∷ 3 ∷ []) ≡ false ∷ true ∷ false ∷ true ∷ []
unfolding lines_w line_of timed_of one_kind
usable-lines = refl

-- a line that may not be used has kind 0, and keeps its number, its places, its boat and its time
lines-met : lines_met (asking (line 1)) ≡ timed_of 0 0 1 150 1 5 ∷ timed_of 0 1 2 150 1 9 ∷ line_of 0 0 1 151 1 ∷ timed_of 1 2 1 150 0 5 ∷ []
unfolding masked lines_w line_of timed_of one_kind
lines-met = refl

-- the test is of a line's number, from the given one on
masked-from : map (λ (l : Line). l.kind) (masked (λ i. ltb i 7) 5 lines_w) ≡ 1 ∷ 1 ∷ 0 ∷ 0 ∷ []
unfolding masked lines_w line_of timed_of
masked-from = refl

-- ---- which chains are accepted

letter : ℕ → ℕ → ℕ → Letter
letter kind class sail = record { kind = kind; boat = record { class = class; sail = sail } }

pub line-inside : Accepted (asking (line 1)) 0 1 (1 ∷ [])
unfolding lines_w line_of timed_of one_kind letter
line-inside = (((omega arith, tt), (refl, refl), (letter 1 2 150, refl, refl)), (refl, tt))

-- before the window opens, and without a time
pub line-early : Accepted (asking (line 1)) 0 1 (0 ∷ []) → ⊥
unfolding lines_w line_of timed_of one_kind
line-early (matches, used) = false≢true used.0

line-untimed : Accepted (asking (line 1)) 0 1 (2 ∷ []) → ⊥
unfolding lines_w line_of timed_of one_kind
line-untimed (matches, used) = false≢true used.0

-- lines of other kinds go by their own windows; every line of a chain is asked
both-inside : Accepted (asking (then (line 1) (line 2))) 0 0 (1 ∷ 3 ∷ [])
unfolding lines_w line_of timed_of one_kind letter
both-inside = (
  (
    (omega arith, (omega arith, tt)),
    (refl, (refl, refl)),
    (letter 1 2 150 ∷ [], letter 2 1 150 ∷ [], refl, (letter 1 2 150, refl, refl), (letter 2 1 150, refl, refl)),
  ),
  (refl, (refl, tt)),
)

one_outside : Accepted (asking (then (line 2) (line 1))) 1 1 (3 ∷ 0 ∷ []) → ⊥
unfolding lines_w line_of timed_of one_kind
one_outside (matches, used) = false≢true used.1.0
