-- What the checker promises: `check_reply r ≡ told (check_of …)`, the area as `work_after` of `meaning`, and `Demand2`, demand 2 in the words
-- of document 01.
use Rattle.std.specs.Prelude.{◌≡◌, Bool, true, false, List, ℕ, length, Result}
use Rattle.meaning.specs.Outcome.{Outcome, passed, ask, and_then, Reply, value, refusal}
use Rattle.meaning.specs.Record.{Day, read_record}
use Rattle.meaning.specs.Pattern.{Pattern, read_pattern, none_given}
use Rattle.meaning.specs.Windows.{Options}
use Rattle.meaning.specs.Chain.{exist, Accepted}
use Rattle.meaning.specs.Request.{Asked, ask_request}
use Rattle.refusals.specs.Refusal.{reply}
use Rattle.refusals.specs.declared.Refusal.{Refusal}
use Rattle.search.specs.Asked.{check}

-- a reply's value, or its number and second number
abbrev pub check_reply : Result Bool Refusal → Reply Bool
check_reply r = reply r

-- question 18: is each number that of a line of the record?
abbrev pub lines_exist : Asked → List ℕ → Bool
lines_exist q chain = exist (length q.day.lines) chain

-- all questions up to 17, then 18 for every number of the chain, then whether the chain is accepted
unfoldable pub check_of : List ℕ → List ℕ → ℕ → ℕ → List ℕ → Options → ℕ → Outcome Bool
check_of rec pat from to chain options words =
    and_then (ask_request rec pat from to options words) (λ q.
    ask (lines_exist q chain) 18
    (passed (check q from to chain)))

-- yes: the chain leads from the first place to the second, its word is in the pattern's language, and its lines may be used; no: that is not so
abbrev pub Says : Asked → ℕ → ℕ → List ℕ → Reply Bool → Type 0
Says q a b c (value true) = Accepted q a b c
Says q a b c (value false) = Accepted q a b c → ⊥
Says q a b c (refusal number second) = Unit {0}

-- of the record and the pattern that the bytes are
abbrev pub Demand2 : List ℕ → List ℕ → ℕ → ℕ → List ℕ → Options → Reply Bool → Type 0
Demand2 rec pat a b c options r =
    (day : Day) (p : Pattern) → read_record rec ≡ passed day → read_pattern none_given pat ≡ passed p → Says (record { day = day; pattern = p; options = options }) a b c r
