-- What the functions for C, Rust and Python promise: a reply as one number of 64 bits, n · 2^32 + value, and the lent words afterwards.
-- `Membership` and `FirstShortest` are demands 2 and 3 of that number, `EachShortest` demand 3 of all starts; `MovingNumber` and `FinishingNumber` are what a move and a finish promise. The contracts of the functions `chains_…` cite these definitions.
use Rattle.std.specs.Prelude.{◌≡◌, Bool, true, false, cond, List, [], ◌∷◌, ◌++◌, ℕ, ◌+◌, ◌*◌, ◌/◌, ◌%◌, ◌<◌, ◌≤◌, min, leb, length, get_or, take, drop}
use Rattle.std.proofs.Math.Option.{Option, none, some}
use Rattle.meaning.specs.Outcome.{Outcome, refused, passed, Reply, value, refusal}
use Rattle.meaning.specs.Record.{Line, Day, read_record}
use Rattle.meaning.specs.Count.{Count}
use Rattle.meaning.specs.Pattern.{Pattern, read_pattern, none_given}
use Rattle.meaning.specs.Windows.{Options}
use Rattle.meaning.specs.Chain.{Accepted, First}
use Rattle.pattern.specs.Promise.{Counts}
use Rattle.meaning.specs.Request.{Asked}
use Rattle.finder.specs.Promise as Find
use Rattle.searching.specs.Promise.{Left, Moving, Finishing}
use Rattle.starts.specs.Promise.{LengthSays}

-- ---- a value, or a refusal's number and second number

abbrev pub number_of : Reply ℕ → ℕ
number_of (value n) = n
number_of (refusal number second) = number * 4294967296 + second

-- ---- a line read back into a lent list of words

-- the time, where there is one
abbrev pub time_fields : Option ℕ → List ℕ
time_fields none = []
time_fields (some time) = time ∷ []

-- from, kind, class, sail number, to, and the time of a timed line
abbrev pub fields_of : Line → List ℕ
fields_of l = l.from ∷ l.kind ∷ l.boat.class ∷ l.boat.sail ∷ l.to ∷ time_fields l.time

-- how many they are, five or six, where the list has room for them, else 0
abbrev pub read_number : Outcome Line → ℕ → ℕ
read_number (refused number) room = number * 4294967296
read_number (passed l) room = let n = length (fields_of l) in cond (leb n room) n 0

-- the fields at the front, or nothing written
abbrev pub read_after : Outcome Line → List ℕ → List ℕ
read_after (refused number) fields = fields
read_after (passed l) fields = let n = length (fields_of l) in cond (leb n (length fields)) (fields_of l ++ drop n fields) fields

-- ---- the count of boats in a lent list of words

-- 2 where the list has room for both numbers, else 0
abbrev pub count_number : Outcome Count → ℕ → ℕ
count_number (refused number) room = number * 4294967296
count_number (passed c) room = cond (leb 2 room) 2 0

-- boats and lines read at the front, or nothing written
abbrev pub count_after : Outcome Count → List ℕ → List ℕ
count_after (refused number) counts = counts
count_after (passed c) counts = cond (leb 2 (length counts)) (c.boats ∷ c.reads ∷ drop 2 counts) counts

-- ---- a pattern's counts in a lent list of words

-- commands, the deepest nesting of keeps, and the unfolded count
abbrev pub count_words : Counts → List ℕ
count_words c = c.commands ∷ c.keeps ∷ c.unfolded ∷ []

-- how many of them a list of so many words gets: all three, or the first two; none where it has not two words
abbrev pub counts_told : ℕ → ℕ
counts_told room = cond (leb 3 room) 3 (cond (leb 2 room) 2 0)

abbrev pub pattern_number : Outcome Counts → ℕ → ℕ
pattern_number (refused number) room = number * 4294967296
pattern_number (passed c) room = counts_told room

-- so many counts at the front
abbrev pub pattern_after : Outcome Counts → List ℕ → List ℕ
pattern_after (refused number) counts = counts
pattern_after (passed c) counts = let n = counts_told (length counts) in take n (count_words c) ++ drop n counts

-- ---- yes and no

abbrev pub check_number : Reply Bool → ℕ
check_number (value true) = 1
check_number (value false) = 0
check_number (refusal number second) = number * 4294967296 + second

-- 1: the chain is accepted; 0: it is not
abbrev pub YesNo : Asked → ℕ → ℕ → List ℕ → ℕ → Type 0
YesNo q a b c r =
    (r ≡ 1 → Accepted q a b c)
    × (r ≡ 0 → Accepted q a b c → ⊥)

-- for every record and pattern that the bytes read as
abbrev pub Membership : List ℕ → List ℕ → ℕ → ℕ → List ℕ → Options → ℕ → Type 0
Membership rec pat a b c options r =
    (day : Day) (p : Pattern) → read_record rec ≡ passed day → read_pattern none_given pat ≡ passed p → YesNo (record { day = day; pattern = p; options = options }) a b c r

-- ---- a chain's length, or none

abbrev pub find_number : Find.Said → ℕ
find_number (Find.found n) = n
find_number Find.none_found = 4294967295
find_number (Find.refusal number second) = number * 4294967296 + second

-- 4,294,967,295: no chain of any length is accepted. Less: so many entries of the output are the accepted chain that comes before every
-- other. Refused with 19: that chain has the length told, and does not fit
abbrev pub LengthOrNone : Asked → ℕ → ℕ → ℕ → ℕ → List ℕ → Type 0
LengthOrNone q a b room r out =
    (r ≡ 4294967295 → (c : List ℕ) → Accepted q a b c → ⊥)
    × (r < 4294967295 → (r ≤ room) × (length (take r out) ≡ r) × First q a b (take r out))
    × (r / 4294967296 ≡ 19 → (c : List ℕ) × First q a b c × (length c ≡ r % 4294967296) × (room < length c))

-- for every record and pattern that the bytes read as
unfoldable pub FirstShortest : List ℕ → List ℕ → ℕ → ℕ → Options → ℕ → ℕ → List ℕ → Type 0
FirstShortest rec pat a b options room r out =
    (day : Day) (p : Pattern) → read_record rec ≡ passed day → read_pattern none_given pat ≡ passed p
    → LengthOrNone (record { day = day; pattern = p; options = options }) a b room r out

-- ---- all starts: how many lengths there are

-- a count has 32 bits; a list may be longer, and its count is then told as the highest of them
abbrev pub counted : ℕ → ℕ
counted n = min n 4294967295

-- of the lengths written, or of those that do not fit (19)
abbrev pub starts_number : Reply ℕ → ℕ
starts_number (value n) = counted n
starts_number (refusal number second) = number * 4294967296 + counted second

-- no refusal: as many lengths as places are listed, and each is that of the accepted chain that comes before every other, or says that none is
-- accepted; for every record and pattern that the bytes read as
unfoldable pub EachShortest : List ℕ → List ℕ → List ℕ → ℕ → Options → ℕ → List ℕ → Type 0
EachShortest rec pat starts to options r after =
    (day : Day) (p : Pattern) → read_record rec ≡ passed day → read_pattern none_given pat ≡ passed p → r < 4294967296
    → (r ≡ counted (length starts)) × ((i : ℕ) → i < length starts → LengthSays (record { day = day; pattern = p; options = options }) (get_or starts i 0) to (get_or after i 0))

-- ---- a search under way: the number is that of what `searching` says

pub record MovingNumber (amount : ℕ) (w : List ℕ) (r : ℕ) (v : List ℕ) : Type 0 where
  pub reply : Reply ℕ
  pub number : r ≡ number_of reply
  pub moving : Moving amount w reply v

pub record FinishingNumber (w out : List ℕ) (r : ℕ) (v out' : List ℕ) : Type 0 where
  pub reply : Find.Said
  pub number : r ≡ find_number reply
  pub finishing : Finishing w out reply v out'
  -- where the area is as a begin and its moves left it
  pub first-shortest : (rec pat : List ℕ) (from to : ℕ) (options : Options) (q : Asked) (k : ℕ) → Left rec pat from to options q k w → FirstShortest rec pat from to options (length out) r out'

-- ---- the version

abbrev pub version_number : ℕ → ℕ → ℕ → ℕ
version_number major minor patch = major * 1000000 + minor * 1000 + patch
