-- Computed examples of what bytes say: nothing to believe. An edited definition of `Record`, `Writing` or `Pattern` breaks a row here.
-- Document 01's record R and patterns P and S, for the examples of chains and requests too.
use Rattle.std.specs.Prelude.{◌≡◌, refl, Bool, true, false, List, [], ◌∷◌, ◌++◌, map, ℕ, zero, suc, take, replicate}
use Rattle.std.proofs.Math.Option.{none, some}
use Rattle.meaning.specs.Outcome.{Outcome, refused, passed}
use Rattle.meaning.specs.Record.{Boat, Line, bytes_of, boats, boats_after, entry_at, lines_from, read_record}
use Rattle.meaning.specs.Writing.{empty_record, begin_of, begin_after, add_of, add_after, read_of}
use Rattle.meaning.specs.Pattern.{Rule, Pattern, nothing, line, test, same, other, sister, foreign, either, then, repeat, keep, counted, commands, unfolded, keeps, read_pattern, read_at, command_at, shape_of, none_given}
use Rattle.meaning.specs.Language.{compared, meets}

-- the number of the question that was answered no, or 0
abbrev pub number : {A : Type 0} → Outcome A → ℕ
number (refused n) = n
number (passed a) = 0

-- bytes, and the number that reading them gives
record Row : Type 0 where
  bytes : List ℕ
  gives : ℕ

abbrev row : List ℕ → ℕ → Row
row bytes gives = record { bytes = bytes; gives = gives }

-- ---- document 01's record R and others

unfoldable pub line_of : ℕ → ℕ → ℕ → ℕ → ℕ → Line
line_of from kind class sail to = record { from = from; kind = kind; boat = record { class = class; sail = sail }; to = to; time = none }

-- a line with a time
unfoldable pub timed_of : ℕ → ℕ → ℕ → ℕ → ℕ → ℕ → Line
timed_of from kind class sail to time = record { from = from; kind = kind; boat = record { class = class; sail = sail }; to = to; time = some time }

unfoldable pub lines_r : List Line
lines_r =
    line_of 0 1 1 150 1 ∷ line_of 0 1 2 150 1 ∷ line_of 1 2 2 150 2 ∷ line_of 1 2 1 150 2 ∷ line_of 2 3 1 150 2
    ∷ line_of 2 4 2 150 3 ∷ line_of 2 4 1 151 3 ∷ []

-- the bytes of lines one after the other
unfoldable pub written_out : List Line → List ℕ
written_out [] = []
written_out (l ∷ ls) = bytes_of l ++ written_out ls

unfoldable pub bytes_r : List ℕ
bytes_r = 0x01 ∷ 0x00 ∷ 0x04 ∷ (written_out lines_r ++ (0x00 ∷ []))

row-R : read_record bytes_r ≡ passed (record { places = 4; lines = lines_r })
unfolding read_record lines_from entry_at bytes_r lines_r written_out line_of
row-R = refl

-- three different boats: 1-150, 2-150, 1-151
row-boats : map (λ b. b.sail) (boats lines_r) ≡ 150 ∷ 150 ∷ 151 ∷ []
unfolding boats_after lines_r line_of
row-boats = refl

-- ---- records refused and passed

-- a record of four places with the bytes s after its places command
begin4 : List ℕ → List ℕ
begin4 s = 0x01 ∷ 0x00 ∷ 0x04 ∷ s

-- the ten bytes of a line of boat 1-150
some_line : ℕ → ℕ → ℕ → List ℕ
some_line from kind to = bytes_of (line_of from kind 1 150 to)

-- the fourteen bytes of a timed one
timed_line : ℕ → ℕ → ℕ → ℕ → List ℕ
timed_line from kind to time = bytes_of (timed_of from kind 1 150 to time)

records : List Row
records =
    row (0x01 ∷ 0x00 ∷ 0x00 ∷ 0x00 ∷ []) 2
    ∷ row (0x01 ∷ 0x04 ∷ 0x01 ∷ 0x00 ∷ []) 2
    ∷ row (0x01 ∷ 0x04 ∷ 0x00 ∷ 0x00 ∷ []) 0
    ∷ row (0x01 ∷ 0x00 ∷ 0x01 ∷ 0x00 ∷ []) 0
    ∷ row (0x01 ∷ 0x00 ∷ 0x01 ∷ []) 3
    -- a second places command
    ∷ row (0x01 ∷ 0x00 ∷ 0x01 ∷ 0x01 ∷ 0x00 ∷ 0x01 ∷ 0x00 ∷ []) 3
    -- too short, or another byte first
    ∷ row [] 2
    ∷ row (0x01 ∷ []) 2
    ∷ row (0x01 ∷ 0x00 ∷ []) 2
    ∷ row (0x02 ∷ 0x00 ∷ 0x01 ∷ 0x00 ∷ []) 2
    -- too long, whatever it says
    ∷ row (replicate 57349 7) 1
    ∷ row (replicate 57348 7) 2
    -- a line: all its operands, then both places, then the kind
    ∷ row (begin4 (some_line 3 1 0 ++ (0x00 ∷ []))) 0
    ∷ row (begin4 (take 9 (some_line 3 1 0))) 4
    ∷ row (begin4 (take 9 (some_line 9 0 9))) 4
    ∷ row (begin4 (some_line 4 0 0 ++ (0x00 ∷ []))) 5
    ∷ row (begin4 (some_line 0 0 4 ++ (0x00 ∷ []))) 5
    ∷ row (begin4 (some_line 0 0 3 ++ (0x00 ∷ []))) 6
    ∷ row (begin4 (some_line 0 16 3 ++ (0x00 ∷ []))) 6
    ∷ row (begin4 (some_line 0 15 3 ++ (0x00 ∷ []))) 0
    -- line by line: line 0's kind before line 1's places
    ∷ row (begin4 (some_line 0 0 0 ++ (some_line 9 1 0 ++ (0x00 ∷ [])))) 6
    ∷ row (begin4 (some_line 0 1 0 ++ (some_line 9 0 0 ++ (0x00 ∷ [])))) 5
    -- no end, and bytes after it
    ∷ row (begin4 (some_line 0 1 0)) 3
    ∷ row (begin4 (some_line 0 1 0 ++ (0x00 ∷ 0x00 ∷ []))) 7
    ∷ row (begin4 (0x04 ∷ [])) 3
    -- a timed line: all fourteen bytes, then its places, its kind, its time
    ∷ row (begin4 (0x03 ∷ [])) 4
    ∷ row (begin4 (timed_line 0 1 3 86399 ++ (0x00 ∷ []))) 0
    ∷ row (begin4 (timed_line 0 1 3 86400 ++ (0x00 ∷ []))) 28
    ∷ row (begin4 (timed_line 0 1 3 16777216 ++ (0x00 ∷ []))) 28
    ∷ row (begin4 (timed_line 0 0 3 86400 ++ (0x00 ∷ []))) 6
    ∷ row (begin4 (timed_line 0 0 4 86400 ++ (0x00 ∷ []))) 5
    ∷ row (begin4 (take 13 (timed_line 0 1 3 5))) 4
    ∷ row (begin4 (take 10 (timed_line 9 0 9 86400))) 4
    ∷ row (begin4 (timed_line 0 1 3 5)) 3
    -- timed and untimed lines in turn
    ∷ row (begin4 (timed_line 0 1 3 5 ++ (some_line 0 1 0 ++ (timed_line 0 1 3 5 ++ (0x00 ∷ []))))) 0
    ∷ []

records-computed : map (λ r. number (read_record r.bytes)) records ≡ map (λ r. r.gives) records
unfolding read_record lines_from entry_at records begin4 some_line timed_line line_of timed_of
records-computed = refl

-- the 4,097th line is not looked at; the end and a byte that is no line are met as ever
full-rows : map (λ s. number (entry_at 4 4096 s)) ((0x02 ∷ []) ∷ (0x03 ∷ []) ∷ some_line 9 0 9 ∷ (0x04 ∷ []) ∷ [] ∷ (0x00 ∷ []) ∷ (0x00 ∷ 0x00 ∷ []) ∷ []) ≡ 22 ∷ 22 ∷ 22 ∷ 3 ∷ 3 ∷ 0 ∷ 7 ∷ []
unfolding entry_at some_line line_of
full-rows = refl

-- the 4,096th is
last-rows : map (λ s. number (entry_at 4 4095 s)) ((0x02 ∷ []) ∷ (0x03 ∷ []) ∷ some_line 9 0 9 ∷ some_line 0 1 0 ∷ timed_line 0 1 0 5 ∷ []) ≡ 4 ∷ 4 ∷ 5 ∷ 0 ∷ 0 ∷ []
unfolding entry_at some_line timed_line line_of timed_of
last-rows = refl

-- the times are read, and an untimed line has none
times-read : map (λ n. number (read_of (begin4 (timed_line 0 1 3 86399 ++ (some_line 0 1 0 ++ (timed_line 0 2 3 0 ++ (0x00 ∷ []))))) n)) (0 ∷ 1 ∷ 2 ∷ 3 ∷ []) ≡ 0 ∷ 0 ∷ 0 ∷ 18 ∷ []
unfolding read_of read_record lines_from entry_at begin4 some_line timed_line line_of timed_of
times-read = refl

lines-read : read_record (begin4 (timed_line 0 1 3 86399 ++ (some_line 0 1 0 ++ (timed_line 0 2 3 0 ++ (0x00 ∷ []))))) ≡ passed (record { places = 4; lines = timed_of 0 1 1 150 3 86399 ∷ line_of 0 1 1 150 0 ∷ timed_of 0 2 1 150 3 0 ∷ [] })
unfolding read_record lines_from entry_at begin4 some_line timed_line line_of timed_of
lines-read = refl

-- ---- writing

row-begin : begin_after (9 ∷ 9 ∷ 9 ∷ 9 ∷ 9 ∷ []) 258 ≡ 0x01 ∷ 0x01 ∷ 0x02 ∷ 0x00 ∷ 9 ∷ []
unfolding begin_of
row-begin = refl

-- 2 before 23
begins : map (λ n. number (begin_of (9 ∷ 9 ∷ 9 ∷ []) n)) (0 ∷ 1025 ∷ 1024 ∷ []) ≡ 2 ∷ 2 ∷ 23 ∷ []
unfolding begin_of
begins = refl

empty1 : List ℕ
empty1 = empty_record 1

new : Line
new = line_of 0 3 7 66051 0

-- the line's ten bytes over the old end byte, a new end byte, and the byte after them as it was
row-add : add_after (empty1 ++ replicate 11 9) 4 new ≡ 0x01 ∷ 0x00 ∷ 0x01 ∷ 0x02 ∷ 0 ∷ 0 ∷ 3 ∷ 7 ∷ 1 ∷ 2 ∷ 3 ∷ 0 ∷ 0 ∷ 0x00 ∷ 9 ∷ []
unfolding add_of read_record lines_from entry_at empty1 new line_of
row-add = refl

row-added : add_of (empty1 ++ replicate 11 9) 4 new ≡ passed 14
unfolding add_of read_record lines_from entry_at empty1 new line_of
row-added = refl

-- a timed line's fourteen bytes, the time's high byte first
row-timed : add_after (empty1 ++ replicate 15 9) 4 (timed_of 0 3 7 66051 0 66052) ≡ 0x01 ∷ 0x00 ∷ 0x01 ∷ 0x03 ∷ 0 ∷ 0 ∷ 3 ∷ 7 ∷ 1 ∷ 2 ∷ 3 ∷ 0 ∷ 0 ∷ 0 ∷ 1 ∷ 2 ∷ 4 ∷ 0x00 ∷ 9 ∷ []
unfolding add_of read_record lines_from entry_at empty1 timed_of
row-timed = refl

row-timed-added : add_of (empty1 ++ replicate 15 9) 4 (timed_of 0 3 7 66051 0 66052) ≡ passed 18
unfolding add_of read_record lines_from entry_at empty1 timed_of
row-timed-added = refl

record Addition : Type 0 where
  buffer : List ℕ
  len : ℕ
  added : Line
  expected : ℕ

addition : List ℕ → ℕ → Line → ℕ → Addition
addition b n l q = record { buffer = b; len = n; added = l; expected = q }

additions : List Addition
additions =
    addition (empty1 ++ replicate 10 9) 15 new 20
    ∷ addition (empty1 ++ replicate 9 9) 4 new 23
    ∷ addition (empty1 ++ replicate 9 9) 4 (line_of 0 3 7 16777216 0) 21
    ∷ addition (empty1 ++ replicate 10 9) 4 (line_of 0 3 7 16777215 0) 0
    ∷ addition (empty1 ++ replicate 10 9) 4 (line_of 0 0 7 16777216 0) 6
    ∷ addition (empty1 ++ replicate 10 9) 4 (line_of 1 0 7 16777216 0) 5
    ∷ addition (empty1 ++ replicate 10 9) 4 (line_of 0 0 7 16777216 1) 5
    -- the record ends at the length, not at the buffer's end
    ∷ addition (empty1 ++ replicate 10 9) 5 new 7
    ∷ addition (empty1 ++ replicate 10 9) 3 new 3
    ∷ addition [] 0 new 2
    -- a timed line: 5, 6, 28, 21, 23, in this order
    ∷ addition (empty1 ++ replicate 14 9) 4 (timed_of 0 3 7 16777215 0 86399) 0
    ∷ addition (empty1 ++ replicate 13 9) 4 (timed_of 0 3 7 16777215 0 86399) 23
    ∷ addition (empty1 ++ replicate 13 9) 4 (timed_of 0 3 7 16777216 0 86399) 21
    ∷ addition (empty1 ++ replicate 13 9) 4 (timed_of 0 3 7 16777216 0 86400) 28
    ∷ addition (empty1 ++ replicate 13 9) 4 (timed_of 0 0 7 16777216 0 86400) 6
    ∷ addition (empty1 ++ replicate 13 9) 4 (timed_of 0 0 7 16777216 1 86400) 5
    ∷ []

additions-computed : map (λ a. number (add_of a.buffer a.len a.added)) additions ≡ map (λ a. a.expected) additions
unfolding add_of read_record lines_from entry_at additions addition empty1 new line_of timed_of
additions-computed = refl

-- the whole record is asked about before the line's number
reads : map number (read_of bytes_r 6 ∷ read_of bytes_r 7 ∷ read_of (bytes_r ++ (0x00 ∷ [])) 0 ∷ []) ≡ 0 ∷ 18 ∷ 7 ∷ []
unfolding read_of read_record lines_from entry_at bytes_r lines_r written_out line_of
reads = refl

-- ---- patterns

unfoldable pub bytes_p : List ℕ
bytes_p = 0x27 ∷ 1 ∷ 0 ∷ 0x25 ∷ 0x22 ∷ 2 ∷ 0 ∷ 0x25 ∷ 0x26 ∷ 0x22 ∷ 3 ∷ 0 ∷ 0x22 ∷ 4 ∷ 0 ∷ []

bytes_s : List ℕ
bytes_s = 0x27 ∷ 1 ∷ 0 ∷ 0x25 ∷ 0x27 ∷ 1 ∷ 0 ∷ 0x23 ∷ 1 ∷ 0 ∷ 0x22 ∷ 1 ∷ 0 ∷ []

unfoldable pub P : Pattern
P = keep 1 0 (then (test same 2 0) (then (repeat (test same 3 0)) (test same 4 0)))

unfoldable pub S : Pattern
S = keep 1 0 (then (keep 1 0 (test other 1 0)) (test same 1 0))

-- so many repeats, and what follows
repeats : ℕ → List ℕ → List ℕ
repeats n rest = replicate n 0x26 ++ rest

-- so many times "twenty times", each in the one before, and what follows
twenties : ℕ → List ℕ → List ℕ
twenties zero rest = rest
twenties (suc n) rest = 0x2A ∷ 20 ∷ 20 ∷ twenties n rest

-- three keeps, each in the one before, and what follows
three_keeps : List ℕ → List ℕ
three_keeps rest = 0x27 ∷ 1 ∷ 0 ∷ 0x27 ∷ 1 ∷ 1 ∷ 0x27 ∷ 1 ∷ 2 ∷ rest

pattern_rows : List Row
pattern_rows =
    -- document 01: empty, cut, a kind out of range, a slot that is not kept, bytes after the pattern, too many commands
    row [] 8
    ∷ row (0x21 ∷ []) 10
    ∷ row (0x21 ∷ 0 ∷ []) 11
    ∷ row (0x22 ∷ 1 ∷ 0 ∷ []) 12
    ∷ row (0x20 ∷ 0x20 ∷ []) 14
    ∷ row (repeats 62 (0x20 ∷ [])) 0
    ∷ row (repeats 63 (0x20 ∷ [])) 9
    ∷ row bytes_p 0
    ∷ row bytes_s 0
    -- a byte is a command by the table: 20 to 2A
    ∷ row (0x1F ∷ []) 8
    ∷ row (0x28 ∷ []) 10
    ∷ row (0x29 ∷ []) 10
    ∷ row (0x2A ∷ []) 10
    ∷ row (0x2B ∷ []) 8
    ∷ row (0x2C ∷ []) 8
    ∷ row (0x2D ∷ []) 8
    ∷ row (0x2E ∷ []) 8
    ∷ row (0x2F ∷ []) 8
    ∷ row (0x30 ∷ []) 8
    ∷ row (255 ∷ []) 8
    -- a command is done before the next one is looked at
    ∷ row (0x24 ∷ 0x21 ∷ 0 ∷ 255 ∷ []) 11
    ∷ row (0x24 ∷ 0x22 ∷ 1 ∷ 0 ∷ 0x21 ∷ []) 12
    ∷ row (0x24 ∷ 0x21 ∷ 1 ∷ []) 8
    -- 8 before 9, and 9 before 10
    ∷ row (repeats 63 []) 8
    ∷ row (repeats 63 (255 ∷ [])) 8
    ∷ row (repeats 63 (0x21 ∷ [])) 9
    ∷ row (repeats 62 (0x21 ∷ [])) 10
    -- a complete pattern: no byte after it is read as a command
    ∷ row (repeats 62 (0x20 ∷ 0x20 ∷ [])) 14
    ∷ row (0x20 ∷ 255 ∷ []) 14
    -- 10 wants all operands before 11 looks at one
    ∷ row (0x22 ∷ 0 ∷ []) 10
    ∷ row (0x22 ∷ 0 ∷ 5 ∷ []) 11
    ∷ row (0x27 ∷ 1 ∷ []) 10
    -- kinds are 1 to 15, slots 0 to 3
    ∷ row (0x21 ∷ 15 ∷ []) 0
    ∷ row (0x21 ∷ 16 ∷ []) 11
    ∷ row (0x22 ∷ 1 ∷ 3 ∷ []) 12
    ∷ row (0x22 ∷ 1 ∷ 4 ∷ []) 11
    ∷ row (0x23 ∷ 1 ∷ 0 ∷ []) 12
    ∷ row (0x23 ∷ 1 ∷ 255 ∷ []) 11
    ∷ row (0x27 ∷ 1 ∷ 3 ∷ 0x23 ∷ 1 ∷ 3 ∷ []) 0
    ∷ row (0x27 ∷ 1 ∷ 4 ∷ 0x20 ∷ []) 11
    -- 28 and 29 are asked what 22 and 23 are
    ∷ row (0x28 ∷ 1 ∷ []) 10
    ∷ row (0x29 ∷ 16 ∷ 0 ∷ []) 11
    ∷ row (0x28 ∷ 1 ∷ 4 ∷ []) 11
    ∷ row (0x28 ∷ 1 ∷ 0 ∷ []) 12
    ∷ row (0x29 ∷ 1 ∷ 0 ∷ []) 12
    ∷ row (0x27 ∷ 1 ∷ 0 ∷ 0x28 ∷ 1 ∷ 0 ∷ []) 0
    ∷ row (0x27 ∷ 1 ∷ 0 ∷ 0x29 ∷ 1 ∷ 0 ∷ []) 0
    ∷ row (0x27 ∷ 1 ∷ 0 ∷ 0x28 ∷ 1 ∷ 1 ∷ []) 12
    ∷ row (0x27 ∷ 1 ∷ 0 ∷ 0x29 ∷ 1 ∷ 1 ∷ []) 12
    ∷ row (0x27 ∷ 1 ∷ 0 ∷ 0x28 ∷ 1 ∷ 0 ∷ 0x29 ∷ []) 14
    -- 2A: 24 wants lowest ≤ highest ≤ 20, after 9 and 10 and before anything inside is read; 11 asks it nothing
    ∷ row (0x2A ∷ 1 ∷ []) 10
    ∷ row (0x2A ∷ 1 ∷ 0 ∷ []) 24
    ∷ row (0x2A ∷ 0 ∷ 21 ∷ 255 ∷ []) 24
    ∷ row (0x2A ∷ 21 ∷ 21 ∷ 0x20 ∷ []) 24
    ∷ row (0x2A ∷ 255 ∷ 0 ∷ 0x20 ∷ []) 24
    ∷ row (0x2A ∷ 0 ∷ 0 ∷ []) 8
    ∷ row (0x2A ∷ 20 ∷ 20 ∷ 0x20 ∷ []) 0
    ∷ row (0x2A ∷ 16 ∷ 16 ∷ 0x21 ∷ 3 ∷ []) 0
    ∷ row (0x2A ∷ 2 ∷ 5 ∷ 0x21 ∷ 0 ∷ []) 11
    ∷ row (repeats 63 (0x2A ∷ 1 ∷ 0 ∷ [])) 9
    ∷ row (repeats 62 (0x2A ∷ 1 ∷ [])) 10
    ∷ row (repeats 62 (0x2A ∷ 1 ∷ 0 ∷ [])) 24
    -- it keeps nothing, and hides nothing that is kept around it; what is kept inside is kept inside only
    ∷ row (0x2A ∷ 0 ∷ 2 ∷ 0x22 ∷ 1 ∷ 0 ∷ []) 12
    ∷ row (0x27 ∷ 1 ∷ 0 ∷ 0x2A ∷ 0 ∷ 2 ∷ 0x22 ∷ 1 ∷ 0 ∷ []) 0
    ∷ row (0x25 ∷ 0x2A ∷ 1 ∷ 1 ∷ 0x27 ∷ 1 ∷ 0 ∷ 0x20 ∷ 0x22 ∷ 1 ∷ 0 ∷ []) 12
    ∷ row (three_keeps (0x2A ∷ 0 ∷ 1 ∷ 0x20 ∷ [])) 0
    ∷ row (three_keeps (0x2A ∷ 0 ∷ 0 ∷ 0x27 ∷ 1 ∷ 0 ∷ 0x20 ∷ [])) 13
    -- 9 counts commands as written: a round is written once, whatever its count
    ∷ row (0x25 ∷ 0x2A ∷ 0 ∷ 20 ∷ 0x20 ∷ repeats 43 (0x20 ∷ [])) 25
    ∷ row (0x25 ∷ 0x2A ∷ 0 ∷ 0 ∷ repeats 30 (0x20 ∷ repeats 29 (0x20 ∷ []))) 0
    ∷ row (0x25 ∷ 0x2A ∷ 0 ∷ 0 ∷ repeats 30 (0x20 ∷ repeats 30 (0x20 ∷ []))) 9
    -- 25 counts what is counted as often as it may come, after 14
    ∷ row (repeats 2 (0x2A ∷ 0 ∷ 20 ∷ 0x24 ∷ 0x20 ∷ 0x20 ∷ [])) 0
    ∷ row (repeats 3 (0x2A ∷ 0 ∷ 20 ∷ 0x24 ∷ 0x20 ∷ 0x20 ∷ [])) 25
    ∷ row (repeats 3 (0x2A ∷ 0 ∷ 20 ∷ 0x24 ∷ 0x20 ∷ 0x20 ∷ 0x20 ∷ [])) 14
    ∷ row (twenties 40 (0x20 ∷ [])) 25
    ∷ row (twenties 40 (0x20 ∷ 0x20 ∷ [])) 14
    ∷ row (0x2A ∷ 0 ∷ 0 ∷ twenties 40 (0x20 ∷ [])) 0
    ∷ row (0x2A ∷ 0 ∷ 0 ∷ twenties 61 (0x20 ∷ [])) 0
    ∷ row (0x2A ∷ 0 ∷ 0 ∷ twenties 62 (0x20 ∷ [])) 9
    -- 12 wants a keep around: one to the left, or of another slot, is none
    ∷ row (0x25 ∷ 0x27 ∷ 1 ∷ 0 ∷ 0x20 ∷ 0x22 ∷ 1 ∷ 0 ∷ []) 12
    ∷ row (0x27 ∷ 1 ∷ 0 ∷ 0x25 ∷ 0x27 ∷ 1 ∷ 1 ∷ 0x20 ∷ 0x22 ∷ 1 ∷ 1 ∷ []) 12
    ∷ row (0x27 ∷ 1 ∷ 0 ∷ 0x22 ∷ 1 ∷ 1 ∷ []) 12
    -- 13 counts the keeps around: the fourth fails, with whichever slot, and those side by side don't add
    ∷ row (three_keeps (0x20 ∷ [])) 0
    ∷ row (three_keeps (0x27 ∷ 1 ∷ 3 ∷ 0x20 ∷ [])) 13
    ∷ row (three_keeps (0x27 ∷ 1 ∷ 0 ∷ 0x20 ∷ [])) 13
    ∷ row (0x27 ∷ 1 ∷ 0 ∷ 0x27 ∷ 1 ∷ 0 ∷ 0x27 ∷ 1 ∷ 0 ∷ 0x27 ∷ 1 ∷ 0 ∷ 0x20 ∷ []) 13
    ∷ row (three_keeps (0x27 ∷ 1 ∷ 7 ∷ 0x20 ∷ [])) 11
    ∷ row (0x25 ∷ three_keeps (0x20 ∷ three_keeps (0x20 ∷ []))) 0
    ∷ []

patterns-asked : map (λ r. number (read_pattern none_given r.bytes)) pattern_rows ≡ map (λ r. r.gives) pattern_rows
unfolding pattern_rows bytes_p bytes_s repeats twenties three_keeps read_pattern read_at command_at shape_of
patterns-asked = refl

-- P and S are these trees
patterns-read : map (read_pattern none_given) (bytes_p ∷ bytes_s ∷ []) ≡ passed P ∷ passed S ∷ []
unfolding bytes_p bytes_s P S read_pattern read_at command_at shape_of
patterns-read = refl

-- every command once
all-commands : read_pattern none_given (0x27 ∷ 5 ∷ 2 ∷ 0x24 ∷ 0x25 ∷ 0x20 ∷ 0x21 ∷ 1 ∷ 0x26 ∷ 0x24 ∷ 0x24 ∷ 0x22 ∷ 2 ∷ 2 ∷ 0x23 ∷ 3 ∷ 2 ∷ 0x24 ∷ 0x28 ∷ 4 ∷ 2 ∷ 0x2A ∷ 7 ∷ 8 ∷ 0x29 ∷ 6 ∷ 2 ∷ [])
    ≡ passed (keep 5 2 (either (then nothing (line 1)) (repeat (either (either (test same 2 2) (test other 3 2)) (either (test sister 4 2) (counted 7 8 (test foreign 6 2)))))))
unfolding read_pattern read_at command_at shape_of
all-commands = refl

-- their commands, and their keeps
patterns-counted : map commands (P ∷ S ∷ either P S ∷ []) ++ map keeps (P ∷ S ∷ either P S ∷ then P S ∷ []) ≡ 7 ∷ 5 ∷ 13 ∷ 1 ∷ 2 ∷ 2 ∷ 2 ∷ []
unfolding P S
patterns-counted = refl

-- so many rounds of a pattern: their commands, their unfolded counts and their keeps; without rounds the two counts are one
rounds-counted : map commands (counted 2 5 P ∷ counted 0 0 P ∷ then (counted 1 3 S) P ∷ P ∷ []) ++ (map unfolded (counted 2 5 P ∷ counted 0 0 P ∷ then (counted 1 3 S) P ∷ P ∷ []) ++ map keeps (counted 2 5 P ∷ counted 0 0 S ∷ []))
    ≡ 8 ∷ 8 ∷ 14 ∷ 7 ∷ 36 ∷ 1 ∷ 24 ∷ 7 ∷ 1 ∷ 2 ∷ []
unfolding P S
rounds-counted = refl

-- slot 3 given from outside
slot-given : read_pattern (0 ∷ 0 ∷ 0 ∷ 1 ∷ []) (0x22 ∷ 1 ∷ 3 ∷ []) ≡ passed (test same 1 3)
unfolding read_pattern read_at command_at shape_of
slot-given = refl

-- ---- boats compared

boat : ℕ → ℕ → Boat
boat class sail = record { class = class; sail = sail }

-- which of the lines' boats each rule takes when a boat is kept: by same, by other, by sister, by foreign
met : Boat → List Boat → List (List Bool)
met kept bs = map (λ (r : Rule). map (λ b. meets r (compared b kept)) bs) (same ∷ other ∷ sister ∷ foreign ∷ [])

-- against 1-150: itself, another boat of its class, the same number in another class, another number there, an unread number
rules-met : met (boat 1 150) (boat 1 150 ∷ boat 1 151 ∷ boat 2 150 ∷ boat 2 151 ∷ boat 0 0 ∷ [])
    ≡ (true ∷ false ∷ false ∷ false ∷ false ∷ [])
    ∷ (false ∷ true ∷ true ∷ true ∷ false ∷ [])
    ∷ (false ∷ true ∷ false ∷ false ∷ false ∷ [])
    ∷ (false ∷ false ∷ true ∷ true ∷ false ∷ [])
    ∷ []
unfolding met boat
rules-met = refl

-- a kept unread number: nobody's, not even its own or its class's
unread-met : met (boat 0 0) (boat 0 0 ∷ boat 0 5 ∷ boat 3 0 ∷ boat 1 150 ∷ [])
    ≡ (false ∷ false ∷ false ∷ false ∷ []) ∷ (false ∷ false ∷ false ∷ false ∷ []) ∷ (false ∷ false ∷ false ∷ false ∷ []) ∷ (false ∷ false ∷ false ∷ false ∷ []) ∷ []
unfolding met boat
unread-met = refl

-- 0-5 and 3-0 are boats: themselves, another of the class, another class, an unread number
class-0-met : met (boat 0 5) (boat 0 5 ∷ boat 0 6 ∷ boat 3 5 ∷ boat 0 0 ∷ [])
    ≡ (true ∷ false ∷ false ∷ false ∷ []) ∷ (false ∷ true ∷ true ∷ false ∷ []) ∷ (false ∷ true ∷ false ∷ false ∷ []) ∷ (false ∷ false ∷ true ∷ false ∷ []) ∷ []
unfolding met boat
class-0-met = refl

number-0-met : met (boat 3 0) (boat 3 0 ∷ boat 3 1 ∷ boat 4 0 ∷ boat 0 0 ∷ [])
    ≡ (true ∷ false ∷ false ∷ false ∷ []) ∷ (false ∷ true ∷ true ∷ false ∷ []) ∷ (false ∷ true ∷ false ∷ false ∷ []) ∷ (false ∷ false ∷ true ∷ false ∷ []) ∷ []
unfolding met boat
number-0-met = refl

-- unread numbers are one of the different boats
boats-counted : boats (map (λ (b : Boat). record { from = 0; kind = 1; boat = b; to = 0; time = none }) (boat 1 1 ∷ boat 0 0 ∷ boat 0 5 ∷ boat 0 0 ∷ [])) ≡ boat 1 1 ∷ boat 0 0 ∷ boat 0 5 ∷ []
unfolding boat boats_after
boats-counted = refl
