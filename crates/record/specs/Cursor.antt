-- Where the lines of a record begin, for whoever goes over a record line by line.
-- Claimed: `start_first` and `start-next` (where the walk begins and goes on) and `line-from` (what stands there). Assumes nothing.
use Rattle.std.specs.Prelude.{◌≡◌, refl, List, [], ◌∷◌, ℕ, zero, suc, ◌+◌, ◌<◌, ◌≤◌, length, take, drop}
use Rattle.std.proofs.Common.{sym, ◌∙◌, subst, arith, length-drop}
use Rattle.meaning.specs.Record.{Line, width}
use Rattle.meaning.specs.Writing.{line_at}
use Rattle.record.specs.Walk.{LineStands, width-least, widths}
use Rattle.record.specs.Whole.{whole_of, lines_of, has-line, line_read}

-- the byte at which line i begins: after the places command and the lines before it
unfoldable pub start_of : List Line → ℕ → ℕ
start_of lines zero = 3
start_of lines (suc i) = start_of lines i + width (line_at lines i)

pub start_first : (lines : List Line) → start_of lines 0 ≡ 3
unfolding start_of
start_first lines = refl

pub start-next : (lines : List Line) (i : ℕ) → start_of lines (suc i) ≡ start_of lines i + width (line_at lines i)
unfolding start_of
start-next lines i = refl

-- the bytes of one line more
widths-next : (lines : List Line) (i : ℕ) → i < length lines → widths (take (suc i) lines) ≡ widths (take i lines) + width (line_at lines i)
widths-next [] i less = absurd (omega (arith, less))
widths-next (l ∷ ls) zero less = omega (arith, none ls)
  where
    none : (x : List Line) → widths (take 0 x) ≡ 0
    none [] = refl
    none (y ∷ ys) = refl
widths-next (l ∷ ls) (suc i) less = omega (arith, widths-next ls i (omega (arith, less)))

start_is : (lines : List Line) (i : ℕ) → i ≤ length lines → start_of lines i ≡ 3 + widths (take i lines)
start_is lines zero less = start_first lines ∙ none lines
  where
    none : (x : List Line) → 3 ≡ 3 + widths (take 0 x)
    none [] = refl
    none (y ∷ ys) = refl
start_is lines (suc i) less = omega (arith, start-next lines i, start_is lines i (omega (arith, less)), widths-next lines i (omega (arith, less)))

-- the record is no longer than question 1 lets it be
pub record-short : (s : List ℕ) (i : ℕ) → i < length (lines_of s) → length s ≤ 57348
record-short s i h = let (day, e) = has-line s i h in (whole_of s day e).short

-- line i stands there, all of it
pub line-from : (s : List ℕ) (i : ℕ) → i < length (lines_of s) → (places : ℕ) × LineStands places i (drop (start_of (lines_of s) i) s) (line_at (lines_of s) i)
line-from s i h =
    let (places, stands) = line_read s i h in
    (places, subst (λ at. LineStands places i (drop at s) (line_at (lines_of s) i)) (sym (start_is (lines_of s) i (omega (arith, h)))) stands)

-- and ends within the record
pub line-inside : (s : List ℕ) (i : ℕ) → i < length (lines_of s) → start_of (lines_of s) i + width (line_at (lines_of s) i) ≤ length s
line-inside s i h =
    let (places, stands) = line-from s i h in
    let at = start_of (lines_of s) i in
    omega (arith, stands.long, length-drop at s, width-least (line_at (lines_of s) i))
