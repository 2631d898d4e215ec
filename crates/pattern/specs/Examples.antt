-- Patterns and words that belong to them or do not, in one table: `examples-computed` evaluates all its rows.
-- `examples-hold` says it of the language: the word of a row belongs exactly when the row expects it.
use Rattle.std.specs.Prelude.{◌≡◌, refl, Bool, true, false, ◌↔◌, ℕ, replicate}
use Rattle.std.proofs.Common.{sym, ◌∙◌}
use mathlib.Core.List.{List, [], ◌∷◌, ◌++◌, map, Memᴰ, head-eq_of_cons-eq, tail-eq_of_cons-eq}
use Rattle.meaning.specs.Pattern.{Pattern, nothing, line, test, same, other, sister, foreign, either, then, repeat, keep, counted}
use Rattle.meaning.specs.Language.{Letter, Word, unbound, L}
use Rattle.pattern.specs.Membership.{member, member-sound, member-complete}

pub record Row : Type 0 where
  pub pattern : Pattern
  pub word : Word
  pub expected : Bool

-- words that belong to a pattern, and words that do not
abbrev rows : Pattern → List Word → List Word → List Row
rows p inside outside =
    map (λ w. record { pattern = p; word = w; expected = true }) inside ++ map (λ w. record { pattern = p; word = w; expected = false }) outside

-- ---- words

-- a kind, a class and a sail number
abbrev letter : ℕ → ℕ → ℕ → Letter
letter k c n = record { kind = k; boat = record { class = c; sail = n } }

-- lines of kind 1 and class 1 with these sail numbers
abbrev sails : List ℕ → Word
sails ns = map (λ n. letter 1 1 n) ns

-- lines of one boat with these kinds
abbrev kinds : List ℕ → Word
kinds ks = map (λ k. letter k 1 1) ks

-- ---- source document 001, section 3, Example 2, over the letter 1

-- the first data value is different from the others
abbrev first_alone : List Row
first_alone =
    rows (keep 1 0 (repeat (test other 1 0)))
    (sails (1 ∷ []) ∷ sails (1 ∷ 2 ∷ []) ∷ sails (1 ∷ 2 ∷ 2 ∷ []) ∷ sails (1 ∷ 2 ∷ 3 ∷ 2 ∷ []) ∷ [])
    ([] ∷ sails (1 ∷ 1 ∷ []) ∷ sails (1 ∷ 2 ∷ 1 ∷ []) ∷ sails (1 ∷ 1 ∷ 2 ∷ []) ∷ kinds (2 ∷ []) ∷ [])

-- the first and the last data value are the same; they stand at two positions, so one letter is out
abbrev first_as_last : List Row
first_as_last =
    rows (keep 1 0 (then (repeat (line 1)) (test same 1 0)))
    (sails (1 ∷ 1 ∷ []) ∷ sails (1 ∷ 2 ∷ 1 ∷ []) ∷ sails (1 ∷ 1 ∷ 1 ∷ []) ∷ sails (1 ∷ 2 ∷ 3 ∷ 1 ∷ []) ∷ [])
    ([] ∷ sails (1 ∷ []) ∷ sails (1 ∷ 2 ∷ []) ∷ sails (1 ∷ 1 ∷ 2 ∷ []) ∷ sails (2 ∷ 1 ∷ 1 ∷ []) ∷ [])

-- two positions have the same data value
abbrev two_the_same : List Row
two_the_same =
    rows (then (repeat (line 1)) (then (keep 1 0 (then (repeat (line 1)) (test same 1 0))) (repeat (line 1))))
    (sails (1 ∷ 1 ∷ []) ∷ sails (2 ∷ 1 ∷ 1 ∷ []) ∷ sails (1 ∷ 2 ∷ 1 ∷ []) ∷ sails (3 ∷ 1 ∷ 2 ∷ 1 ∷ 4 ∷ []) ∷ [])
    ([] ∷ sails (1 ∷ []) ∷ sails (1 ∷ 2 ∷ []) ∷ sails (1 ∷ 2 ∷ 3 ∷ 4 ∷ []) ∷ kinds (2 ∷ 2 ∷ []) ∷ [])

-- ---- document 01, "A day at the hut"

-- pattern P, with boats of record R; in the first word that is out the entry is of 1-150 and the rest of 2-150
abbrev pattern_p : List Row
pattern_p =
    rows (keep 1 0 (then (test same 2 0) (then (repeat (test same 3 0)) (test same 4 0))))
    ((letter 1 2 150 ∷ letter 2 2 150 ∷ letter 4 2 150 ∷ []) ∷ (letter 1 1 150 ∷ letter 2 1 150 ∷ letter 3 1 150 ∷ letter 3 1 150 ∷ letter 4 1 150 ∷ []) ∷ [])
    ((letter 1 1 150 ∷ letter 2 2 150 ∷ letter 4 2 150 ∷ []) ∷ (letter 1 1 150 ∷ letter 2 1 150 ∷ letter 4 1 151 ∷ []) ∷ (letter 1 2 150 ∷ letter 2 2 150 ∷ []) ∷ [])

-- pattern S, with words of record T: the inner keep uses the outer keep's slot, and after it the outer boat is back
abbrev pattern_s : List Row
pattern_s =
    rows (keep 1 0 (then (keep 1 0 (test other 1 0)) (test same 1 0)))
    (sails (1 ∷ 2 ∷ 1 ∷ 1 ∷ []) ∷ sails (1 ∷ 1 ∷ 2 ∷ 1 ∷ []) ∷ [])
    (sails (1 ∷ 2 ∷ 1 ∷ 2 ∷ []) ∷ sails (1 ∷ 2 ∷ 2 ∷ 1 ∷ []) ∷ sails (1 ∷ 2 ∷ 1 ∷ []) ∷ [])

-- ---- single commands

-- a repeat whose inner pattern can be empty
abbrev empty_rounds : List Row
empty_rounds =
    rows (repeat (repeat nothing)) ([] ∷ []) (sails (1 ∷ []) ∷ [])
    ++ rows (repeat (either nothing (line 1))) ([] ∷ sails (1 ∷ []) ∷ sails (1 ∷ 2 ∷ 1 ∷ []) ∷ []) (kinds (2 ∷ []) ∷ kinds (1 ∷ 2 ∷ []) ∷ [])

-- a test needs its kind too; the same sail number in another class is another boat
abbrev tests : List Row
tests =
    rows (keep 1 0 (test same 2 0))
    ((letter 1 1 150 ∷ letter 2 1 150 ∷ []) ∷ [])
    ((letter 1 1 150 ∷ letter 2 2 150 ∷ []) ∷ (letter 1 1 150 ∷ letter 2 1 151 ∷ []) ∷ (letter 1 1 150 ∷ letter 1 1 150 ∷ []) ∷ [])
    ++ rows (keep 1 0 (test other 2 0))
    ((letter 1 1 150 ∷ letter 2 2 150 ∷ []) ∷ (letter 1 1 150 ∷ letter 2 1 151 ∷ []) ∷ [])
    ((letter 1 1 150 ∷ letter 2 1 150 ∷ []) ∷ (letter 1 1 150 ∷ letter 1 1 151 ∷ []) ∷ [])
    ++ rows (keep 1 0 (test sister 2 0))
    ((letter 1 1 150 ∷ letter 2 1 151 ∷ []) ∷ [])
    ((letter 1 1 150 ∷ letter 2 1 150 ∷ []) ∷ (letter 1 1 150 ∷ letter 2 2 151 ∷ []) ∷ (letter 1 1 150 ∷ letter 1 1 151 ∷ []) ∷ [])
    ++ rows (keep 1 0 (test foreign 2 0))
    ((letter 1 1 150 ∷ letter 2 2 150 ∷ []) ∷ (letter 1 1 150 ∷ letter 2 2 151 ∷ []) ∷ [])
    ((letter 1 1 150 ∷ letter 2 1 150 ∷ []) ∷ (letter 1 1 150 ∷ letter 2 1 151 ∷ []) ∷ (letter 1 1 150 ∷ letter 1 2 150 ∷ []) ∷ [])

-- a slot has a boat only inside the keep that gives it one, and only that slot
abbrev slots : List Row
slots =
    rows (test same 1 0) [] (sails (1 ∷ []) ∷ [])
    ++ rows (test other 1 0) [] (sails (1 ∷ []) ∷ [])
    ++ rows (then (keep 1 0 nothing) (test same 1 0)) [] (sails (1 ∷ 1 ∷ []) ∷ [])
    ++ rows (keep 1 0 (keep 1 1 (then (test same 1 0) (test same 1 1)))) (sails (1 ∷ 2 ∷ 1 ∷ 2 ∷ []) ∷ []) (sails (1 ∷ 2 ∷ 2 ∷ 1 ∷ []) ∷ sails (1 ∷ 2 ∷ 2 ∷ 2 ∷ []) ∷ [])

-- nothing, line, either and then
abbrev plain : List Row
plain =
    rows nothing ([] ∷ []) (sails (1 ∷ []) ∷ [])
    ++ rows (line 1) (sails (1 ∷ []) ∷ []) ([] ∷ sails (1 ∷ 1 ∷ []) ∷ kinds (2 ∷ []) ∷ [])
    ++ rows (either (line 1) (line 2)) (kinds (1 ∷ []) ∷ kinds (2 ∷ []) ∷ []) ([] ∷ kinds (3 ∷ []) ∷ kinds (1 ∷ 2 ∷ []) ∷ [])
    ++ rows (then (line 1) (line 2)) (kinds (1 ∷ 2 ∷ []) ∷ []) (kinds (2 ∷ 1 ∷ []) ∷ kinds (1 ∷ []) ∷ [])

-- ---- document 02's request Three

-- so many lines of kind 3
abbrev threes : ℕ → Word
threes n = replicate n (letter 3 1 1)

-- from the lowest count to the highest, both allowed; no round is the empty word; counts in a row add
abbrev counts : List Row
counts =
    rows (counted 2 5 (line 3)) (map threes (2 ∷ 3 ∷ 4 ∷ 5 ∷ [])) (map threes (0 ∷ 1 ∷ 6 ∷ 7 ∷ []) ++ (kinds (3 ∷ 3 ∷ 4 ∷ []) ∷ []))
    ++ rows (counted 0 0 (line 3)) ([] ∷ []) (map threes (1 ∷ 2 ∷ []))
    ++ rows (counted 1 1 (line 3)) (threes 1 ∷ []) (map threes (0 ∷ 2 ∷ []))
    ++ rows (counted 20 20 (line 3)) (threes 20 ∷ []) (map threes (19 ∷ 21 ∷ []))
    ++ rows (counted 2 1 (line 3)) [] (map threes (0 ∷ 1 ∷ 2 ∷ []))
    ++ rows (then (counted 2 5 (line 3)) (counted 3 3 (line 3))) (map threes (5 ∷ 6 ∷ 7 ∷ 8 ∷ [])) (map threes (0 ∷ 3 ∷ 4 ∷ 9 ∷ []))

-- a round may be empty, and counts as one
abbrev counts_of_nothing : List Row
counts_of_nothing =
    rows (counted 1 3 nothing) ([] ∷ []) (map threes (1 ∷ 3 ∷ []))
    ++ rows (counted 1 3 (repeat (line 3))) (map threes (0 ∷ 1 ∷ 4 ∷ 9 ∷ [])) (kinds (3 ∷ 1 ∷ []) ∷ [])
    ++ rows (counted 2 3 (either nothing (line 3))) (map threes (0 ∷ 1 ∷ 2 ∷ 3 ∷ [])) (threes 4 ∷ [])

-- rounds of rounds, and rounds of two lines
abbrev counts_in_counts : List Row
counts_in_counts =
    rows (counted 2 3 (counted 2 2 (line 3))) (map threes (4 ∷ 6 ∷ [])) (map threes (0 ∷ 2 ∷ 3 ∷ 5 ∷ 7 ∷ 8 ∷ []))
    ++ rows (counted 0 2 (counted 3 4 (line 3))) (map threes (0 ∷ 3 ∷ 4 ∷ 6 ∷ 7 ∷ 8 ∷ [])) (map threes (1 ∷ 2 ∷ 5 ∷ 9 ∷ []))
    ++ rows (counted 1 2 (then (line 1) (line 2))) (kinds (1 ∷ 2 ∷ []) ∷ kinds (1 ∷ 2 ∷ 1 ∷ 2 ∷ []) ∷ []) (kinds (1 ∷ 1 ∷ 2 ∷ 2 ∷ []) ∷ kinds (1 ∷ 2 ∷ 1 ∷ []) ∷ [])

-- each round keeps a boat of its own, and no other round sees it; a boat that is kept around them all of them see
abbrev counts_of_keeps : List Row
counts_of_keeps =
    rows (counted 2 2 (keep 1 0 (test same 1 0)))
    (sails (1 ∷ 1 ∷ 2 ∷ 2 ∷ []) ∷ sails (1 ∷ 1 ∷ 1 ∷ 1 ∷ []) ∷ [])
    (sails (1 ∷ 2 ∷ 1 ∷ 2 ∷ []) ∷ sails (1 ∷ 2 ∷ 2 ∷ 1 ∷ []) ∷ sails (1 ∷ 1 ∷ []) ∷ [])
    ++ rows (counted 2 2 (either (keep 2 0 nothing) (test same 1 0))) (kinds (2 ∷ 2 ∷ []) ∷ []) (kinds (2 ∷ 1 ∷ []) ∷ kinds (1 ∷ 2 ∷ []) ∷ kinds (1 ∷ 1 ∷ []) ∷ [])
    ++ rows (then (counted 1 2 (keep 1 0 nothing)) (test same 1 0)) [] (sails (1 ∷ 1 ∷ []) ∷ sails (1 ∷ 1 ∷ 1 ∷ []) ∷ [])
    ++ rows (keep 1 0 (counted 2 2 (test same 1 0))) (sails (1 ∷ 1 ∷ 1 ∷ []) ∷ []) (sails (1 ∷ 1 ∷ 2 ∷ []) ∷ sails (1 ∷ 2 ∷ 2 ∷ []) ∷ [])
    ++ rows (keep 1 0 (counted 2 2 (keep 1 0 (test other 1 0)))) (sails (1 ∷ 1 ∷ 2 ∷ 1 ∷ 2 ∷ []) ∷ []) (sails (1 ∷ 2 ∷ 2 ∷ 1 ∷ 2 ∷ []) ∷ [])

-- ---- the table

abbrev pub table : List Row
table = first_alone ++ first_as_last ++ two_the_same ++ pattern_p ++ pattern_s ++ empty_rounds ++ tests ++ slots ++ plain ++ counts ++ counts_of_nothing ++ counts_in_counts ++ counts_of_keeps

pub examples-computed : map (λ row. member row.pattern unbound row.word) table ≡ map (λ row. row.expected) table
examples-computed = refl

-- two functions with the same values on a list agree at each of its rows
agree_at : (f g : Row → Bool) {row : Row} {l : List Row} → Memᴰ row l → map f l ≡ map g l → f row ≡ g row
agree_at f g (Memᴰ.head e) h = rw e (head-eq_of_cons-eq h)
agree_at f g (Memᴰ.tail m) h = agree_at f g m (tail-eq_of_cons-eq h)

pub examples-hold : (row : Row) → Memᴰ row table → (row.expected ≡ true) ↔ L row.pattern unbound row.word
examples-hold row m =
    let e : member row.pattern unbound row.word ≡ row.expected = agree_at (λ r. member r.pattern unbound r.word) (λ r. r.expected) m examples-computed in
    (λ h. member-sound row.pattern unbound row.word (e ∙ h), λ x. sym e ∙ member-complete row.pattern unbound row.word x)
