-- What the finder promises (document 01, "Asking" and "After each reply"): `find_reply r ≡ said (find_of …)`, the output as `out_after`, the
-- area as `work_after` of `meaning`, and `Demand3`, what the reply and the output say of accepted chains.
-- `find_of` goes by the plain search; it takes only the lengths of work area and output, never their contents.
use Rattle.std.specs.Prelude.{◌≡◌, cond, List, ◌++◌, ℕ, ◌<◌, ◌≤◌, leb, length, take, drop, Some, None, Result, Ok, Err}
use Rattle.std.specs.Prelude.{Option as Maybe}
use Rattle.std.proofs.Math.Option.{Option, none, some}
use Rattle.meaning.specs.Outcome.{Outcome, refused, passed}
use Rattle.meaning.specs.Record.{Day, read_record}
use Rattle.meaning.specs.Pattern.{Pattern, read_pattern, none_given}
use Rattle.meaning.specs.Windows.{Options}
use Rattle.meaning.specs.Chain.{Accepted, First}
use Rattle.meaning.specs.Request.{Asked, ask_request}
use Rattle.search.specs.Asked.{answer}
use Rattle.refusals.specs.declared.OutputError.{OutputError}
use Rattle.refusals.specs.OutputError.{number, second}

-- a refusal at question 17 or before; none; a chain that fits the output; the length of one that doesn't (question 19)
pub data Finding : Type 0 where
  stopped : ℕ → Finding
  nowhere : Finding
  chain : List ℕ → Finding
  too_long : ℕ → Finding

-- question 19, a shortest chain being known: does it fit an output of so many entries?
abbrev pub settled : ℕ → Option (List ℕ) → Finding
settled room none = nowhere
settled room (some c) = cond (leb (length c) room) (chain c) (too_long (length c))

abbrev pub searched : Outcome Asked → ℕ → ℕ → ℕ → Finding
searched (refused number) from to room = stopped number
searched (passed q) from to room = settled room (answer q from to)

-- the whole reply: record, pattern, places, what goes with the question, work area of so many words, output of so many entries
unfoldable pub find_of : List ℕ → List ℕ → ℕ → ℕ → Options → ℕ → ℕ → Finding
find_of rec pat from to options words room = searched (ask_request rec pat from to options words) from to room

-- ---- document 01's number and values of each reply

pub data Said : Type 0 where
  found : ℕ → Said
  none_found : Said
  refusal : ℕ → ℕ → Said

abbrev pub said : Finding → Said
said (stopped number) = refusal number 0
said nowhere = none_found
said (chain c) = found (length c)
said (too_long n) = refusal 19 n

abbrev pub find_reply : Result (Maybe ℕ) OutputError → Said
find_reply (Ok (Some n)) = found n
find_reply (Ok None) = none_found
find_reply (Err e) = refusal (number e) (second e)

-- ---- the output (the work area is `work_after` of the questions up to 17, in `meaning`)

-- the chain at the front when found, the rest untouched; else all of it untouched
abbrev pub out_after : Finding → List ℕ → List ℕ
out_after (stopped number) out = out
out_after nowhere out = out
out_after (chain c) out = c ++ drop (length c) out
out_after (too_long n) out = out

-- ---- demand 3: the reply and the output, in terms of accepted chains of any length

-- none: no chain of any length is accepted. Found: the chain written is accepted and comes before every other accepted one.
-- 19: so does a chain of the length given, which doesn't fit
abbrev pub Answers : Asked → ℕ → ℕ → ℕ → Said → List ℕ → Type 0
Answers q a b room none_found out = (c : List ℕ) → Accepted q a b c → ⊥
Answers q a b room (found n) out = (n ≤ room) × (length (take n out) ≡ n) × First q a b (take n out)
Answers q a b room (refusal number n) out = number ≡ 19 → (c : List ℕ) × First q a b c × (length c ≡ n) × (room < n)

-- for every record and pattern that the bytes read as
abbrev pub Demand3 : List ℕ → List ℕ → ℕ → ℕ → Options → ℕ → Said → List ℕ → Type 0
Demand3 rec pat from to options room reply out =
    (day : Day) (p : Pattern) → read_record rec ≡ passed day → read_pattern none_given pat ≡ passed p
    → Answers (record { day = day; pattern = p; options = options }) from to room reply out
