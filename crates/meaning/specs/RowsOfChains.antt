-- Computed examples of chains: nothing to believe. An edited definition of `Chain` or `Language` breaks one of them.
-- Chains of document 01's records that lead or do not, are accepted or are not, come first or do not.
use Rattle.std.specs.Prelude.{◌≡◌, refl, true, false, ℕ, length}
use Rattle.std.proofs.Common.{ap, ap₂, ◌∙◌, inl, inr, arith, length-append}
use Rattle.std.proofs.lemmas.Bool.{false≢true}
use mathlib.Core.List.{List, [], ◌∷◌, ◌++◌, map, head-eq_of_cons-eq, tail-eq_of_cons-eq}
use Rattle.meaning.specs.Record.{Line}
use Rattle.meaning.specs.Pattern.{Pattern, line, test, same, repeat, keep, counted}
use Rattle.meaning.specs.Language.{Letter, compared, meets, stop, more}
use Rattle.meaning.specs.Windows.{plain}
use Rattle.meaning.specs.Request.{Asked}
use Rattle.meaning.specs.Chain.{Exist, exist, Leads, word, Matches, Accepted, Before}
use Rattle.meaning.specs.Rows.{line_of, lines_r, P, S}

-- ---- which chains of record R lead where

-- its seven lines are 0 to 6
exist-R : Exist lines_r (0 ∷ 6 ∷ 6 ∷ [])
unfolding lines_r
exist-R = (omega arith, (omega arith, (omega arith, tt)))

no-line-7 : Exist lines_r (0 ∷ 7 ∷ []) → ⊥
unfolding lines_r
no-line-7 h = omega (arith, h.1.0)

exist-asked : map (exist 7) ((0 ∷ 6 ∷ 6 ∷ []) ∷ (0 ∷ 7 ∷ []) ∷ (7 ∷ 0 ∷ []) ∷ [] ∷ []) ≡ true ∷ false ∷ false ∷ true ∷ []
unfolding exist
exist-asked = refl

leads-R : Leads lines_r 0 3 (1 ∷ 2 ∷ 5 ∷ [])
unfolding lines_r line_of
leads-R = (refl, (refl, (refl, refl)))

-- not from another place, not to another, not past a gap
from-elsewhere : Leads lines_r 1 3 (1 ∷ 2 ∷ 5 ∷ []) → ⊥
unfolding lines_r line_of
from-elsewhere h = omega (arith, h.0)

to-elsewhere : Leads lines_r 0 2 (1 ∷ 2 ∷ 5 ∷ []) → ⊥
unfolding lines_r line_of
to-elsewhere h = omega (arith, h.1.1.1)

with-a-gap : Leads lines_r 0 3 (1 ∷ 5 ∷ []) → ⊥
unfolding lines_r line_of
with-a-gap h = omega (arith, h.1.0)

-- the empty chain leads from a place to itself only
empty-stays : Leads lines_r 2 2 []
empty-stays = refl

empty-leads-on : Leads lines_r 0 1 [] → ⊥
empty-leads-on h = omega (arith, h)

letter : ℕ → ℕ → ℕ → Letter
letter kind class sail = record { kind = kind; boat = record { class = class; sail = sail } }

word-R : word lines_r (1 ∷ 2 ∷ 5 ∷ []) ≡ letter 1 2 150 ∷ letter 2 2 150 ∷ letter 4 2 150 ∷ []
unfolding lines_r line_of letter
word-R = refl

-- ---- which are accepted

accepted-R : Matches lines_r P 0 3 (1 ∷ 2 ∷ 5 ∷ [])
unfolding lines_r line_of letter P
accepted-R = (
  (omega arith, (omega arith, (omega arith, tt))),
  (refl, (refl, (refl, refl))),
  (
    letter 1 2 150,
    letter 2 2 150 ∷ letter 4 2 150 ∷ [],
    refl,
    refl,
    (
      letter 2 2 150 ∷ [],
      letter 4 2 150 ∷ [],
      refl,
      (letter 2 2 150, refl, refl, refl),
      ([], letter 4 2 150 ∷ [], refl, stop refl, (letter 4 2 150, refl, refl, refl)),
    ),
  ),
)

-- line 0 is of boat 1-150, line 2 of 2-150: not the same boat
other-class : Matches lines_r P 0 3 (0 ∷ 2 ∷ 5 ∷ []) → ⊥
unfolding lines_r line_of letter P
other-class (exists, leads, (a, u, e, k, (v, w, f, (b, g, l, met), rest))) =
    let kept : letter 1 1 150 ≡ a = head-eq_of_cons-eq e in
    let tested : letter 2 2 150 ≡ b = head-eq_of_cons-eq (tail-eq_of_cons-eq e ∙ (f ∙ ap (◌++ w) g)) in
    false≢true (ap₂ (λ (x y : Letter). meets same (compared x.boat y.boat)) tested kept ∙ met)

-- document 01's record T: two boats at one place
pub lines_t : List Line
lines_t = line_of 0 1 1 1 0 ∷ line_of 0 1 1 2 0 ∷ []

-- by S: the inner keep has the slot in its own pattern only, and after it the outer boat is back
accepted-T : Matches lines_t S 0 0 (0 ∷ 1 ∷ 0 ∷ 0 ∷ [])
unfolding lines_t line_of letter S
accepted-T = (
  (omega arith, (omega arith, (omega arith, (omega arith, tt)))),
  (refl, (refl, (refl, (refl, refl)))),
  (
    letter 1 1 1,
    letter 1 1 2 ∷ letter 1 1 1 ∷ letter 1 1 1 ∷ [],
    refl,
    refl,
    (
      letter 1 1 2 ∷ letter 1 1 1 ∷ [],
      letter 1 1 1 ∷ [],
      refl,
      (letter 1 1 2, letter 1 1 1 ∷ [], refl, refl, (letter 1 1 1, refl, refl, refl)),
      (letter 1 1 1, refl, refl, refl),
    ),
  ),
)

-- two turns of a repeat
repeated-T : Matches lines_t (repeat (line 1)) 0 0 (1 ∷ 0 ∷ [])
unfolding lines_t line_of letter
repeated-T = (
  (omega arith, (omega arith, tt)),
  (refl, (refl, refl)),
  more (letter 1 1 2 ∷ []) (letter 1 1 1 ∷ []) refl (letter 1 1 2, refl, refl) (more (letter 1 1 1 ∷ []) [] refl (letter 1 1 1, refl, refl) (stop refl)),
)

-- one round of a line, then two: so many and no more
counted-T : Matches lines_t (counted 1 2 (line 1)) 0 0 (1 ∷ []) × Matches lines_t (counted 1 2 (line 1)) 0 0 (1 ∷ 0 ∷ [])
unfolding lines_t line_of letter
counted-T = (
  ((omega arith, tt), (refl, refl), (1, omega arith, omega arith, (letter 1 1 2 ∷ [], [], refl, (letter 1 1 2, refl, refl), refl))),
  (
    (omega arith, (omega arith, tt)),
    (refl, (refl, refl)),
    (2, omega arith, omega arith, (letter 1 1 2 ∷ [], letter 1 1 1 ∷ [], refl, (letter 1 1 2, refl, refl), (letter 1 1 1 ∷ [], [], refl, (letter 1 1 1, refl, refl), refl))),
  ),
)

-- a round may be empty
empty-rounds-T : Matches lines_t (counted 1 3 (repeat (line 1))) 0 0 []
empty-rounds-T = (tt, refl, (1, omega arith, omega arith, ([], [], refl, stop refl, refl)))

-- each round keeps a boat of its own
own-boats-T : Matches lines_t (counted 2 2 (keep 1 0 (test same 1 0))) 0 0 (0 ∷ 0 ∷ 1 ∷ 1 ∷ [])
unfolding lines_t line_of letter
own-boats-T = (
  (omega arith, (omega arith, (omega arith, (omega arith, tt)))),
  (refl, (refl, (refl, (refl, refl)))),
  (
    2,
    omega arith,
    omega arith,
    (
      letter 1 1 1 ∷ letter 1 1 1 ∷ [],
      letter 1 1 2 ∷ letter 1 1 2 ∷ [],
      refl,
      (letter 1 1 1, letter 1 1 1 ∷ [], refl, refl, (letter 1 1 1, refl, refl, refl)),
      (letter 1 1 2 ∷ letter 1 1 2 ∷ [], [], refl, (letter 1 1 2, letter 1 1 2 ∷ [], refl, refl, (letter 1 1 2, refl, refl, refl)), refl),
    ),
  ),
)

-- an unread number is kept, and a line with one is taken where nothing is compared
unread-kept : Matches (line_of 0 1 0 0 1 ∷ line_of 1 2 0 0 1 ∷ []) (keep 1 0 (line 2)) 0 1 (0 ∷ 1 ∷ [])
unfolding line_of letter
unread-kept = (
  (omega arith, (omega arith, tt)),
  (refl, (refl, refl)),
  (letter 1 0 0, letter 2 0 0 ∷ [], refl, refl, (letter 2 0 0, refl, refl)),
)

-- ---- which of two comes first

shorter-first : Before (9 ∷ []) (0 ∷ 1 ∷ [])
shorter-first = inl (omega arith)

not-longer : Before (0 ∷ 1 ∷ []) (9 ∷ []) → ⊥
not-longer (inl h) = omega (arith, h)
not-longer (inr h) = omega (arith, h.0)

-- as long: the lower number at the first difference, whatever comes after it
lower-first : Before (0 ∷ 0 ∷ 1 ∷ 0 ∷ []) (0 ∷ 1 ∷ 0 ∷ 0 ∷ [])
lower-first = inr (refl, (0 ∷ [], 0, 1, 1 ∷ 0 ∷ [], 0 ∷ 0 ∷ [], refl, refl, omega arith))

pub not-higher : Before (1 ∷ []) (0 ∷ []) → ⊥
not-higher (inl h) = omega (arith, h)
not-higher (inr (long, ([], i, j, v, v', e, f, less))) = omega (arith, head-eq_of_cons-eq e, head-eq_of_cons-eq f, less)
not-higher (inr (long, (m ∷ u, i, j, v, v', e, f, less))) = omega (arith, head-eq_of_cons-eq e, head-eq_of_cons-eq f)

not_itself : Before (1 ∷ []) (1 ∷ []) → ⊥
not_itself (inl h) = omega (arith, h)
not_itself (inr (long, ([], i, j, v, v', e, f, less))) = omega (arith, head-eq_of_cons-eq e, head-eq_of_cons-eq f, less)
not_itself (inr (long, (m ∷ u, i, j, v, v', e, f, less))) = omega (arith, ap length e, length-append u (i ∷ v))

-- ---- the first

-- a request about these lines, for the whole day
abbrev pub asking : List Line → Pattern → Asked
asking lines p = record { day = record { places = 4; lines = lines }; pattern = p; options = plain }

pub line-0 : Accepted (asking lines_t (line 1)) 0 0 (0 ∷ [])
unfolding lines_t line_of letter
line-0 = (((omega arith, tt), (refl, refl), (letter 1 1 1, refl, refl)), (refl, tt))
