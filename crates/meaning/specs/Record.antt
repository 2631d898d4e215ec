-- The day's record (document 01, "The day's record" and questions 1 to 7; document 02, request Seven: timed lines, 22 and 28): what its
-- bytes say. `read_record` is the whole of it: the number of the first question that fails, or the places and the lines.
use Rattle.std.specs.Prelude.{Bool, cond, true, false, ◌&&◌, ◌||◌, List, [], ◌∷◌, ◌++◌, ℕ, zero, suc, ◌+◌, ◌*◌, ◌/◌, ◌%◌, ltb, leb, eqb, length, get_or, drop}
use Rattle.std.proofs.Math.Option.{Option, none, some}
use Rattle.meaning.specs.Outcome.{Outcome, refused, passed, ask, and_then}

-- a boat (the data value of a line): the class and the sail number together
pub record Boat : Type 0 where
  pub class : ℕ
  pub sail : ℕ

-- two boats are the same when both agree
abbrev pub agree : Boat → Boat → Bool
agree a b = eqb a.class b.class && eqb a.sail b.sail

-- a line (an edge) leads from a place (a node) to a place; its label is a kind
pub record Line : Type 0 where
  pub from : ℕ
  pub kind : ℕ
  pub boat : Boat
  pub to : ℕ
  -- seconds since midnight, where it was written with a time
  pub time : Option ℕ

-- what a record says: places 0, 1, … and lines 0, 1, … in the order written
pub record Day : Type 0 where
  pub places : ℕ
  pub lines : List Line

-- ---- numbers in bytes, the high byte first

abbrev pub byte : List ℕ → ℕ → ℕ
byte s i = get_or s i 0

abbrev pub two : List ℕ → ℕ → ℕ
two s i = byte s i * 256 + byte s (i + 1)

abbrev pub three : List ℕ → ℕ → ℕ
three s i = two s i * 256 + byte s (i + 2)

abbrev pub four : List ℕ → ℕ → ℕ
four s i = two s i * 65536 + two s (i + 2)

-- ---- a line in bytes: 02 or 03, from, kind, class, sail number, to; after 03 the time too

-- the time of the line that the bytes begin with: a line without one is untimed
abbrev pub time_of : List ℕ → Option ℕ
time_of s = cond (eqb (byte s 0) 0x03) (some (four s 10)) none

abbrev pub line_of : List ℕ → Line
line_of s = record { from = two s 1; kind = byte s 3; boat = record { class = byte s 4; sail = three s 5 }; to = two s 8; time = time_of s }

-- how many bytes a line has, by its time
abbrev pub wide : Option ℕ → ℕ
wide none = 10
wide (some t) = 14

abbrev pub width : Line → ℕ
width l = wide l.time

abbrev pub command_of : Option ℕ → ℕ
command_of none = 0x02
command_of (some t) = 0x03

abbrev pub time_bytes : Option ℕ → List ℕ
time_bytes none = []
time_bytes (some t) = t / 16777216 ∷ t / 65536 % 256 ∷ t / 256 % 256 ∷ t % 256 ∷ []

abbrev pub bytes_of : Line → List ℕ
bytes_of l =
    command_of l.time ∷ l.from / 256 ∷ l.from % 256 ∷ l.kind ∷ l.boat.class
    ∷ l.boat.sail / 65536 ∷ l.boat.sail / 256 % 256 ∷ l.boat.sail % 256 ∷ l.to / 256 ∷ l.to % 256 ∷ time_bytes l.time

-- ---- the questions

-- is a count of places 1 to 1,024?
abbrev pub count_allowed : ℕ → Bool
count_allowed n = leb 1 n && leb n 1024

-- are both places of a line below the count?
abbrev pub places_below : ℕ → Line → Bool
places_below places l = ltb l.from places && ltb l.to places

-- is a kind 1 to 15?
abbrev pub kind_allowed : ℕ → Bool
kind_allowed k = leb 1 k && leb k 15

-- is a time below 86,400? A line without one passes
abbrev pub time_allowed : Option ℕ → Bool
time_allowed none = true
time_allowed (some t) = ltb t 86400

-- questions 5, 6 and 28 of a line
abbrev pub ask_line : {A : Type 0} → ℕ → Line → Outcome A → Outcome A
ask_line places l rest = ask (places_below places l) 5 (ask (kind_allowed l.kind) 6 (ask (time_allowed l.time) 28 rest))

-- what stands at a command of the record after the first
pub data Entry : Type 0 where
  line : Line → Entry
  end : Entry

-- is it the byte of a line?
abbrev pub is_line : ℕ → Bool
is_line b = eqb b 0x02 || eqb b 0x03

-- the line that the bytes s begin with, `before` lines standing before it: questions 22, 4 to 6 and 28
abbrev pub line_entry : ℕ → ℕ → List ℕ → Outcome Entry
line_entry places before s =
    ask (ltb before 4096) 22
    (ask (leb (width (line_of s)) (length s)) 4
    (ask_line places (line_of s) (passed (line (line_of s)))))

-- the first entry of the bytes s, the rest of a record: question 3, then those of a line or 7
unfoldable pub entry_at : ℕ → ℕ → List ℕ → Outcome Entry
entry_at places before s =
    ask (ltb 0 (length s)) 3
    (cond (eqb (byte s 0) 0x00) (ask (eqb (length s) 1) 7 (passed end))
    (ask (is_line (byte s 0)) 3
    (line_entry places before s)))

-- a line is followed by the lines after it, which stand so many bytes further on; the end by nothing
abbrev pub followed : Entry → (ℕ → Outcome (List Line)) → Outcome (List Line)
followed end rest = passed []
followed (line l) rest = and_then (rest (width l)) (λ ls. passed (l ∷ ls))

-- the lines of the bytes s, entry by entry, `before` lines standing before them; the first number only bounds how many there can be
unfoldable pub lines_from : ℕ → ℕ → ℕ → List ℕ → Outcome (List Line)
lines_from zero places before s = refused 3
lines_from (suc bound) places before s = and_then (entry_at places before s) (λ e. followed e (λ n. lines_from bound places (suc before) (drop n s)))

-- the places command: 01 and a count of two bytes
abbrev pub places_whole : List ℕ → Bool
places_whole s = leb 3 (length s) && eqb (byte s 0) 0x01 && count_allowed (two s 1)

-- a record's bytes: questions 1 to 7, 22 and 28
unfoldable pub read_record : List ℕ → Outcome Day
read_record s =
    ask (leb (length s) 57348) 1
    (ask (places_whole s) 2
    (and_then (lines_from (length s) (two s 1) 0 (drop 3 s)) (λ ls. passed (record { places = two s 1; lines = ls }))))

-- ---- the different boats

-- is the boat among these?
abbrev pub among : Boat → List Boat → Bool
among b [] = false
among b (c ∷ cs) = cond (agree b c) true (among b cs)

-- the different boats of the lines after those in `seen`, in order of first appearance
unfoldable pub boats_after : List Boat → List Line → List Boat
boats_after seen [] = seen
boats_after seen (l ∷ ls) = boats_after (cond (among l.boat seen) seen (seen ++ (l.boat ∷ []))) ls

abbrev pub boats : List Line → List Boat
boats ls = boats_after [] ls
