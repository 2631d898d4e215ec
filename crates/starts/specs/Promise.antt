-- What all starts in one go promises (document 02, request Six): `starts_reply r ≡ told (starts_of …)`, the lengths as `lengths_after`, the area as
-- `work_after` of `meaning`, and `Shortest`, what the lengths say of accepted chains.
-- `starts_of` goes by the finder's `answer`, place by place; it takes only the sizes of work area and lengths, never their contents.
use Rattle.std.specs.Prelude.{◌≡◌, cond, List, ◌++◌, map, ℕ, ◌<◌, leb, length, drop, get_or, Result, Ok, Err}
use Rattle.std.proofs.Math.Option.{Option, none, some}
use Rattle.meaning.specs.Outcome.{Outcome, refused, passed, Reply, value, refusal}
use Rattle.meaning.specs.Record.{Day, read_record}
use Rattle.meaning.specs.Pattern.{Pattern, read_pattern, none_given}
use Rattle.meaning.specs.Windows.{Options}
use Rattle.meaning.specs.Chain.{Accepted, First}
use Rattle.meaning.specs.Request.{Asked, ask_starts}
use Rattle.search.specs.Asked.{answer}
use Rattle.refusals.specs.OutputError.{number, second}
use Rattle.refusals.specs.declared.OutputError.{OutputError}

-- the mark for none
abbrev pub no_length : ℕ
no_length = 4294967295

-- what stands for a place: the length of its first shortest chain, or the mark
abbrev pub length_of : Option (List ℕ) → ℕ
length_of none = no_length
length_of (some c) = length c

-- from the place a to the place `to`
abbrev pub length_from : Asked → ℕ → ℕ → ℕ
length_from q to a = length_of (answer q a to)

-- from the listed places, in the list's order
abbrev pub lengths_of : Asked → List ℕ → ℕ → List ℕ
lengths_of q starts to = map (length_from q to) starts

-- a refusal at question 17 or before; a list that does not fit, by its length (question 19); the lengths
pub data Starting : Type 0 where
  stopped : ℕ → Starting
  too_short : ℕ → Starting
  lengths : List ℕ → Starting

-- question 19 comes before the search: do the lengths fit a list of so many words?
abbrev pub searched : Outcome Asked → List ℕ → ℕ → ℕ → Starting
searched (refused number) starts to room = stopped number
searched (passed q) starts to room = cond (leb (length starts) room) (lengths (lengths_of q starts to)) (too_short (length starts))

-- the whole reply: record, pattern, listed places, finishing place, what goes with the question, work area of so many words, room for so many
-- lengths
unfoldable pub starts_of : List ℕ → List ℕ → List ℕ → ℕ → Options → ℕ → ℕ → Starting
starts_of rec pat starts to options words room = searched (ask_starts rec pat starts to options words) starts to room

-- ---- the documents' number and values of each reply

-- how many lengths were written; or a refusal, whose second number is 0, but for 19 the count of the listed places
abbrev pub told : Starting → Reply ℕ
told (stopped number) = refusal number 0
told (too_short n) = refusal 19 n
told (lengths l) = value (length l)

abbrev pub starts_reply : Result ℕ OutputError → Reply ℕ
starts_reply (Ok n) = value n
starts_reply (Err e) = refusal (number e) (second e)

-- ---- the lent list of words (the work area is `work_after` of the questions up to 17, in `meaning`)

-- the lengths at the front, the rest untouched; after a refusal all of it untouched
abbrev pub lengths_after : Starting → List ℕ → List ℕ
lengths_after (stopped number) old = old
lengths_after (too_short n) old = old
lengths_after (lengths l) old = l ++ drop (length l) old

-- ---- demand 3: each length, in terms of accepted chains of any length

-- the mark: no chain of any length is accepted. Any other: a chain of that length is accepted and comes before every other
pub record LengthSays (q : Asked) (a b n : ℕ) : Type 0 where
  pub none-accepted : n ≡ no_length → (c : List ℕ) → Accepted q a b c → ⊥
  pub first-has : (n ≡ no_length → ⊥) → (c : List ℕ) × First q a b c × (length c ≡ n)

-- where the reply is no refusal it is the count of the listed places, and each has its length, for every record and pattern that the bytes
-- read as
abbrev pub Shortest : List ℕ → List ℕ → List ℕ → ℕ → Options → Reply ℕ → List ℕ → Type 0
Shortest rec pat starts to options (refusal number second) after = Unit {0}
Shortest rec pat starts to options (value n) after =
    (n ≡ length starts)
    × ((day : Day) (p : Pattern) → read_record rec ≡ passed day → read_pattern none_given pat ≡ passed p
    → (i : ℕ) → i < length starts → LengthSays (record { day = day; pattern = p; options = options }) (get_or starts i 0) to (get_or after i 0))
