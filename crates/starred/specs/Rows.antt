-- Document 01's starred rows, "A day at the hut", computed from the bytes, of the definitions that the promises of the finder and the
-- checker cite: one table, one theorem, `rows_right`. `more-right` has rows that the starred ones do not tell apart, `lists-right` rows of all
-- starts in one go, `windows-right` rows of windows, and `full-right` records of 4,096 lines and more. Nothing to believe.
use Rattle.std.specs.Prelude.{◌≡◌, refl, Bool, true, false, cond, not, ◌&&◌, List, [], ◌∷◌, ◌++◌, map, ℕ, zero, suc, ◌-◌, eqb}
use Rattle.meaning.specs.Outcome.{Outcome, refused, passed}
use Rattle.meaning.specs.Record.{Day, boats_after, entry_at, lines_from, read_record}
use Rattle.meaning.specs.Pattern.{read_pattern, read_at, command_at, shape_of}
use Rattle.meaning.specs.Request.{search_size, ask_request, all_below, ask_starts}
use Rattle.meaning.specs.Windows.{Windows, Options, first_allowed, plain}
use Rattle.meaning.specs.Chain.{exist, masked}
use Rattle.boats.specs.Codes.{codes}
use Rattle.graph.specs.Plain.{solve, found, news, look, bfs, chosen, pick, first, next, level, nearest, lesser, is_at, memb, nub, filt, flat, count}
use Rattle.search.specs.Product.{stacks, state, place_of, pos_of, stack_of, succs, preds}
use Rattle.search.specs.Answer.{setting, starts, solution}
use Rattle.search.specs.Check.{moved, checked}
use Rattle.checker.specs.Promise.{check_of}
use Rattle.finder.specs.Promise.{Finding, stopped, nowhere, chain, too_long, find_of}
use Rattle.starts.specs.Promise as OfStarts
use Rattle.starts.specs.Promise.{Starting, starts_of}

-- ---- the day's records and patterns, in bytes

-- from, kind, class, sail number and to, each below 256
line_bytes : ℕ → ℕ → ℕ → ℕ → ℕ → List ℕ
line_bytes from kind class sail to = 0x02 ∷ 0 ∷ from ∷ kind ∷ class ∷ 0 ∷ 0 ∷ sail ∷ 0 ∷ to ∷ []

head_R : List ℕ
head_R =
    0x01 ∷ 0 ∷ 4
    ∷ (line_bytes 0 1 1 150 1 ++ (line_bytes 0 1 2 150 1 ++ (line_bytes 1 2 2 150 2 ++ (line_bytes 1 2 1 150 2 ++ line_bytes 2 3 1 150 2))))

R : List ℕ
R = head_R ++ (line_bytes 2 4 2 150 3 ++ (line_bytes 2 4 1 151 3 ++ (0x00 ∷ [])))

-- R with line 7
R-more : List ℕ
R-more = head_R ++ (line_bytes 2 4 2 150 3 ++ (line_bytes 2 4 1 151 3 ++ (line_bytes 2 4 1 150 3 ++ (0x00 ∷ []))))

-- R without line 5
R-less : List ℕ
R-less = head_R ++ (line_bytes 2 4 1 151 3 ++ (0x00 ∷ []))

T : List ℕ
T = 0x01 ∷ 0 ∷ 1 ∷ (line_bytes 0 1 1 1 0 ++ (line_bytes 0 1 1 2 0 ++ (0x00 ∷ [])))

E : List ℕ
E = 0x01 ∷ 0 ∷ 1 ∷ 0x00 ∷ []

P : List ℕ
P = 0x27 ∷ 1 ∷ 0 ∷ 0x25 ∷ 0x22 ∷ 2 ∷ 0 ∷ 0x25 ∷ 0x26 ∷ 0x22 ∷ 3 ∷ 0 ∷ 0x22 ∷ 4 ∷ 0 ∷ []

S : List ℕ
S = 0x27 ∷ 1 ∷ 0 ∷ 0x25 ∷ 0x27 ∷ 1 ∷ 0 ∷ 0x23 ∷ 1 ∷ 0 ∷ 0x22 ∷ 1 ∷ 0 ∷ []

-- ---- the table

-- record, pattern, from, to; a chain to check, or the entries of the output; and the reply, with a work area of 16,384 words
data Row : Type 0 where
  finds : List ℕ → List ℕ → ℕ → ℕ → ℕ → Finding → Row
  checks : List ℕ → List ℕ → ℕ → ℕ → List ℕ → Outcome Bool → Row

rows : List Row
rows =
    finds R P 0 3 16 (chain (1 ∷ 2 ∷ 5 ∷ []))
    ∷ finds R-more P 0 3 16 (chain (0 ∷ 3 ∷ 7 ∷ []))
    ∷ finds R-less P 0 3 16 nowhere
    ∷ checks R P 0 3 (0 ∷ 2 ∷ 5 ∷ []) (passed false)
    ∷ checks T S 0 0 (0 ∷ 1 ∷ 0 ∷ 0 ∷ []) (passed true)
    ∷ checks T S 0 0 (0 ∷ 1 ∷ 0 ∷ 1 ∷ []) (passed false)
    ∷ finds T S 0 0 16 (chain (0 ∷ 0 ∷ 1 ∷ 0 ∷ []))
    ∷ finds E (0x20 ∷ []) 0 0 16 (chain [])
    ∷ finds E (0x21 ∷ 3 ∷ []) 0 0 16 nowhere
    ∷ finds R (0x26 ∷ 0x20 ∷ []) 0 1 16 nowhere
    ∷ []

-- ---- the test of a row

same_chain : List ℕ → List ℕ → Bool
same_chain [] [] = true
same_chain [] (y ∷ ys) = false
same_chain (x ∷ xs) [] = false
same_chain (x ∷ xs) (y ∷ ys) = cond (eqb x y) (same_chain xs ys) false

is_stopped : Finding → ℕ → Bool
is_stopped (stopped m) n = eqb m n
is_stopped nowhere n = false
is_stopped (chain c) n = false
is_stopped (too_long m) n = false

is_nowhere : Finding → Bool
is_nowhere (stopped m) = false
is_nowhere nowhere = true
is_nowhere (chain c) = false
is_nowhere (too_long m) = false

is_chain : Finding → List ℕ → Bool
is_chain (stopped m) d = false
is_chain nowhere d = false
is_chain (chain c) d = same_chain c d
is_chain (too_long m) d = false

is_long : Finding → ℕ → Bool
is_long (stopped m) n = false
is_long nowhere n = false
is_long (chain c) n = false
is_long (too_long m) n = eqb m n

same_finding : Finding → Finding → Bool
same_finding x (stopped n) = is_stopped x n
same_finding x nowhere = is_nowhere x
same_finding x (chain d) = is_chain x d
same_finding x (too_long n) = is_long x n

agrees : Bool → Bool → Bool
agrees true b = b
agrees false b = not b

same_check : Outcome Bool → Outcome Bool → Bool
same_check (refused n) (refused m) = eqb n m
same_check (refused n) (passed b) = false
same_check (passed a) (refused m) = false
same_check (passed a) (passed b) = agrees a b

right : Row → Bool
right (finds rec pat a b room f) = same_finding (find_of rec pat a b plain 16384 room) f
right (checks rec pat a b c o) = same_check (check_of rec pat a b c plain 16384) o

all_right : List Row → Bool
all_right [] = true
all_right (r ∷ rs) = right r && all_right rs

rows_right : all_right rows ≡ true
unfolding all_right right same_check agrees same_finding is_stopped is_nowhere is_chain is_long same_chain rows R R-more R-less head_R line_bytes T E P S find_of check_of ask_request read_record lines_from entry_at read_pattern read_at command_at shape_of search_size boats_after codes solve found news look bfs chosen pick first next level nearest lesser is_at memb nub filt flat count stacks state place_of pos_of stack_of succs preds setting starts solution exist moved checked masked first_allowed
rows_right = refl

-- ---- more rows

-- boat 2-1 entered; then from one place two boats of class 1, that boat, another of its class, and one of class 3
C : List ℕ
C =
    0x01 ∷ 0 ∷ 3
    ∷ (line_bytes 0 1 2 1 1 ++ (line_bytes 1 2 1 7 2 ++ (line_bytes 1 2 1 8 2 ++ (line_bytes 1 2 2 1 2 ++ (line_bytes 1 2 2 9 2 ++ (line_bytes 1 2 3 1 2 ++ (0x00 ∷ [])))))))

-- a boat entered, and then the test of a command
entered : ℕ → List ℕ
entered b = 0x27 ∷ 1 ∷ 0 ∷ b ∷ 2 ∷ 0 ∷ []

-- one place, and one line that leads from it to itself
lap : List ℕ
lap = 0x01 ∷ 0 ∷ 1 ∷ (line_bytes 0 3 1 1 0 ++ (0x00 ∷ []))

-- so many rounds, and what follows
laps : ℕ → ℕ → List ℕ → List ℕ
laps low high rest = 0x2A ∷ low ∷ high ∷ rest

more : List Row
more =
    -- an output that is one entry short, and one that just holds the chain
    finds R P 0 3 2 (too_long 3)
    ∷ finds R P 0 3 3 (chain (1 ∷ 2 ∷ 5 ∷ []))
    ∷ finds E (0x20 ∷ []) 0 0 0 (chain [])
    -- places are asked about after the pattern
    ∷ finds R P 0 4 16 (stopped 15)
    ∷ finds R (0x22 ∷ 1 ∷ 0 ∷ []) 0 4 16 (stopped 12)
    ∷ checks R P 0 3 (1 ∷ 2 ∷ 5 ∷ []) (passed true)
    ∷ checks R P 0 2 (1 ∷ 2 ∷ 5 ∷ []) (passed false)
    ∷ checks R P 0 3 (1 ∷ 2 ∷ []) (passed false)
    -- a line that does not exist, after lines that do not join; only where 15 is passed
    ∷ checks R P 0 3 (0 ∷ 5 ∷ 7 ∷ []) (refused 18)
    ∷ checks R P 0 4 (7 ∷ []) (refused 15)
    -- the empty chain leads from a place to itself
    ∷ checks R (0x26 ∷ 0x20 ∷ []) 0 0 [] (passed true)
    ∷ checks R (0x26 ∷ 0x20 ∷ []) 0 1 [] (passed false)
    -- the same boat, another, another of its class, one of another class; a byte that is no command, and a slot that is not kept
    ∷ finds C (entered 0x22) 0 2 16 (chain (0 ∷ 3 ∷ []))
    ∷ finds C (entered 0x23) 0 2 16 (chain (0 ∷ 1 ∷ []))
    ∷ finds C (entered 0x28) 0 2 16 (chain (0 ∷ 4 ∷ []))
    ∷ finds C (entered 0x29) 0 2 16 (chain (0 ∷ 1 ∷ []))
    ∷ finds C (entered 0x2B) 0 2 16 (stopped 8)
    ∷ finds C (0x28 ∷ 2 ∷ 0 ∷ []) 0 2 16 (stopped 12)
    ∷ finds C (0x29 ∷ 2 ∷ 0 ∷ []) 0 2 16 (stopped 12)
    ∷ checks C (entered 0x28) 0 2 (0 ∷ 3 ∷ []) (passed false)
    ∷ checks C (entered 0x29) 0 2 (0 ∷ 4 ∷ []) (passed false)
    ∷ checks C (entered 0x29) 0 2 (0 ∷ 5 ∷ []) (passed true)
    -- so many laps and no more: the lowest count, none, empty ones, two counts in a row, the highest count and one above it
    ∷ finds lap (laps 2 5 (0x21 ∷ 3 ∷ [])) 0 0 16 (chain (0 ∷ 0 ∷ []))
    ∷ finds lap (laps 2 5 (0x21 ∷ 3 ∷ [])) 0 0 1 (too_long 2)
    ∷ finds lap (laps 0 0 (0x21 ∷ 3 ∷ [])) 0 0 16 (chain [])
    ∷ finds lap (laps 1 3 (0x20 ∷ [])) 0 0 16 (chain [])
    ∷ finds lap (0x25 ∷ laps 2 5 (0x21 ∷ 3 ∷ laps 3 3 (0x21 ∷ 3 ∷ []))) 0 0 16 (chain (0 ∷ 0 ∷ 0 ∷ 0 ∷ 0 ∷ []))
    ∷ checks lap (laps 2 5 (0x21 ∷ 3 ∷ [])) 0 0 (0 ∷ []) (passed false)
    ∷ checks lap (laps 2 5 (0x21 ∷ 3 ∷ [])) 0 0 (0 ∷ 0 ∷ 0 ∷ 0 ∷ 0 ∷ []) (passed true)
    ∷ checks lap (laps 2 5 (0x21 ∷ 3 ∷ [])) 0 0 (0 ∷ 0 ∷ 0 ∷ 0 ∷ 0 ∷ 0 ∷ []) (passed false)
    -- each round keeps a boat of its own
    ∷ checks T (laps 2 2 (0x27 ∷ 1 ∷ 0 ∷ 0x22 ∷ 1 ∷ 0 ∷ [])) 0 0 (0 ∷ 0 ∷ 1 ∷ 1 ∷ []) (passed true)
    ∷ checks T (laps 2 2 (0x27 ∷ 1 ∷ 0 ∷ 0x22 ∷ 1 ∷ 0 ∷ [])) 0 0 (0 ∷ 1 ∷ 1 ∷ 0 ∷ []) (passed false)
    -- 24 before what is inside, 25 after 14 and before 15, and counted as often as it may come
    ∷ finds lap (0x2A ∷ 1 ∷ 0 ∷ []) 0 9 16 (stopped 24)
    ∷ finds lap (0x26 ∷ 0x26 ∷ laps 0 20 (0x24 ∷ 0x20 ∷ 0x20 ∷ [])) 0 0 16 (chain [])
    ∷ finds lap (0x26 ∷ 0x26 ∷ 0x26 ∷ laps 0 20 (0x24 ∷ 0x20 ∷ 0x20 ∷ [])) 0 9 16 (stopped 25)
    ∷ finds lap (0x26 ∷ 0x26 ∷ 0x26 ∷ laps 0 20 (0x24 ∷ 0x20 ∷ 0x20 ∷ 0x20 ∷ [])) 0 9 16 (stopped 14)
    ∷ []

more-right : all_right more ≡ true
unfolding all_right right same_check agrees same_finding is_stopped is_nowhere is_chain is_long same_chain more C entered lap laps R R-more R-less head_R line_bytes T E P S find_of check_of ask_request read_record lines_from entry_at read_pattern read_at command_at shape_of search_size boats_after codes solve found news look bfs chosen pick first next level nearest lesser is_at memb nub filt flat count stacks state place_of pos_of stack_of succs preds setting starts solution exist moved checked masked first_allowed
more-right = refl

-- ---- all starts in one go

-- record, pattern, listed places, finishing place, words of work area, room for lengths; and the reply
data ListRow : Type 0 where
  lists : List ℕ → List ℕ → List ℕ → ℕ → ℕ → ℕ → Starting → ListRow

-- the mark for none
none : ℕ
none = 4294967295

-- from place 1 in one line to place 2, from place 0 in two, and from place 3 in four; from place 5 no line leads
away : List ℕ
away = 0x01 ∷ 0 ∷ 6 ∷ (line_bytes 0 1 1 1 1 ++ (line_bytes 1 1 1 2 2 ++ (line_bytes 3 1 1 3 4 ++ (line_bytes 4 1 1 3 0 ++ (0x00 ∷ [])))))

some_lines : List ℕ
some_lines = 0x26 ∷ 0x21 ∷ 1 ∷ []

lists_of : List ListRow
lists_of =
    -- a place listed twice is answered twice
    lists R P (0 ∷ 1 ∷ 2 ∷ 3 ∷ 0 ∷ []) 3 8704 5 (OfStarts.lengths (3 ∷ none ∷ none ∷ none ∷ 3 ∷ []))
    -- in the list's order; the nearest start is not the end of the search; the empty chain has length 0
    ∷ lists away some_lines (5 ∷ 3 ∷ 2 ∷ 1 ∷ 0 ∷ []) 2 16384 9 (OfStarts.lengths (none ∷ 4 ∷ 0 ∷ 1 ∷ 2 ∷ []))
    ∷ lists R P [] 3 8704 0 (OfStarts.lengths [])
    -- 15 of every listed place and of the finishing place, also with an empty list, and after the pattern
    ∷ lists R P (0 ∷ 4 ∷ []) 3 16384 2 (OfStarts.stopped 15)
    ∷ lists R P (4 ∷ 0 ∷ []) 3 16384 2 (OfStarts.stopped 15)
    ∷ lists R P (0 ∷ []) 4 16384 1 (OfStarts.stopped 15)
    ∷ lists R P [] 4 16384 0 (OfStarts.stopped 15)
    ∷ lists R (0x22 ∷ 1 ∷ 0 ∷ []) (4 ∷ []) 4 16384 0 (OfStarts.stopped 12)
    -- 15 before 17, 17 before 19, and 19 with the list's length
    ∷ lists R P (4 ∷ []) 3 8703 0 (OfStarts.stopped 15)
    ∷ lists R P (0 ∷ 0 ∷ []) 3 8703 1 (OfStarts.stopped 17)
    ∷ lists R P (0 ∷ 0 ∷ 0 ∷ []) 3 8704 2 (OfStarts.too_short 3)
    ∷ []

is_start : Starting → Starting → Bool
is_start (OfStarts.stopped m) (OfStarts.stopped n) = eqb m n
is_start (OfStarts.stopped m) (OfStarts.too_short n) = false
is_start (OfStarts.stopped m) (OfStarts.lengths l) = false
is_start (OfStarts.too_short m) (OfStarts.stopped n) = false
is_start (OfStarts.too_short m) (OfStarts.too_short n) = eqb m n
is_start (OfStarts.too_short m) (OfStarts.lengths l) = false
is_start (OfStarts.lengths k) (OfStarts.stopped n) = false
is_start (OfStarts.lengths k) (OfStarts.too_short n) = false
is_start (OfStarts.lengths k) (OfStarts.lengths l) = same_chain k l

right_list : ListRow → Bool
right_list (lists rec pat starts to words room s) = is_start (starts_of rec pat starts to plain words room) s

all_right_lists : List ListRow → Bool
all_right_lists [] = true
all_right_lists (r ∷ rs) = right_list r && all_right_lists rs

lists-right : all_right_lists lists_of ≡ true
unfolding all_right_lists right_list is_start lists_of away some_lines none same_chain R head_R line_bytes P starts_of ask_starts all_below read_record lines_from entry_at read_pattern read_at command_at shape_of search_size boats_after codes solve found news look bfs chosen pick first next level nearest lesser is_at memb nub filt flat count stacks state place_of pos_of stack_of succs preds setting starts solution masked first_allowed
lists-right = refl

-- ---- windows of the day

-- the same with a time below 256
timed_bytes : ℕ → ℕ → ℕ → ℕ → ℕ → ℕ → List ℕ
timed_bytes from kind class sail to time = 0x03 ∷ 0 ∷ from ∷ kind ∷ class ∷ 0 ∷ 0 ∷ sail ∷ 0 ∷ to ∷ 0 ∷ 0 ∷ 0 ∷ time ∷ []

-- so many times a number
times : ℕ → ℕ → List ℕ → List ℕ
times zero n rest = rest
times (suc k) n rest = n ∷ times k n rest

-- the whole day for all kinds but one, which has so many before it
but : ℕ → ℕ → ℕ → Options
but before opens closes =
    record { windows = record { opens = times before 0 (opens ∷ times (14 - before) 0 []); closes = times before 86400 (closes ∷ times (14 - before) 86400 []) } }

-- one line of kind 1, at 5; two more of kinds 2 and 1, at 7 and untimed, on to the next place
one_timed : List ℕ
one_timed = 0x01 ∷ 0 ∷ 1 ∷ (timed_bytes 0 1 1 1 0 5 ++ (0x00 ∷ []))

three_lines : List ℕ
three_lines = 0x01 ∷ 0 ∷ 2 ∷ (timed_bytes 0 1 1 1 1 5 ++ (timed_bytes 0 2 1 2 1 7 ++ (line_bytes 0 1 1 3 1 ++ (0x00 ∷ []))))

-- a line of kind 1, or one of kind 2
either_kind : List ℕ
either_kind = 0x24 ∷ 0x21 ∷ 1 ∷ 0x21 ∷ 2 ∷ []

data WindowRow : Type 0 where
  finds-in : List ℕ → List ℕ → ℕ → ℕ → Options → ℕ → Finding → WindowRow
  checks-in : List ℕ → List ℕ → ℕ → ℕ → List ℕ → Options → Outcome Bool → WindowRow
  starts-in : List ℕ → List ℕ → List ℕ → ℕ → Options → ℕ → Starting → WindowRow

window_rows : List WindowRow
window_rows =
    -- the opening second is inside, the closing second is not
    finds-in one_timed (0x21 ∷ 1 ∷ []) 0 0 (but 0 5 6) 16384 (chain (0 ∷ []))
    ∷ finds-in one_timed (0x21 ∷ 1 ∷ []) 0 0 (but 0 0 5) 16384 nowhere
    ∷ finds-in one_timed (0x21 ∷ 1 ∷ []) 0 0 (but 0 6 7) 16384 nowhere
    -- lines keep their numbers, and an untimed line is inside the whole day alone
    ∷ finds-in three_lines (0x21 ∷ 1 ∷ []) 0 1 (but 0 6 86400) 16384 nowhere
    ∷ finds-in three_lines either_kind 0 1 (but 0 6 86400) 16384 (chain (1 ∷ []))
    ∷ finds-in three_lines either_kind 0 1 (but 1 0 7) 16384 (chain (0 ∷ []))
    ∷ finds-in three_lines (0x21 ∷ 2 ∷ []) 0 1 (but 1 0 7) 16384 nowhere
    ∷ finds-in three_lines (0x21 ∷ 1 ∷ []) 0 1 (but 14 5 6) 16384 (chain (0 ∷ []))
    -- a line outside is no, and not 18; a line that is not there is 18
    ∷ checks-in three_lines either_kind 0 1 (0 ∷ []) (but 0 6 7) (passed false)
    ∷ checks-in three_lines either_kind 0 1 (1 ∷ []) (but 0 6 7) (passed true)
    ∷ checks-in three_lines either_kind 0 1 (2 ∷ []) (but 0 0 86399) (passed false)
    ∷ checks-in three_lines either_kind 0 1 (3 ∷ []) (but 0 6 7) (refused 18)
    -- all starts see the windows too
    ∷ starts-in three_lines (0x21 ∷ 2 ∷ []) (0 ∷ 1 ∷ []) 1 (but 1 7 8) 16384 (OfStarts.lengths (1 ∷ none ∷ []))
    ∷ starts-in three_lines (0x21 ∷ 2 ∷ []) (0 ∷ 1 ∷ []) 1 (but 1 8 9) 16384 (OfStarts.lengths (none ∷ none ∷ []))
    -- 27 of a kind that no line has, after 15 and before 17
    ∷ finds-in three_lines either_kind 0 1 (but 14 5 5) 0 (stopped 27)
    ∷ finds-in three_lines either_kind 0 1 (but 14 5 86401) 16384 (stopped 27)
    ∷ finds-in three_lines either_kind 0 2 (but 14 5 5) 0 (stopped 15)
    ∷ starts-in three_lines either_kind (0 ∷ []) 1 (but 14 6 5) 0 (OfStarts.stopped 27)
    -- the boats of lines outside count: with two more boats the size is 2 × 3 × 4, and one word less is too few
    ∷ finds-in three_lines (0x27 ∷ 1 ∷ 0 ∷ 0x20 ∷ []) 0 1 (but 0 5 6) 8288 (chain (0 ∷ []))
    ∷ finds-in three_lines (0x27 ∷ 1 ∷ 0 ∷ 0x20 ∷ []) 0 1 (but 0 5 6) 8287 (stopped 17)
    ∷ []

right_in : WindowRow → Bool
right_in (finds-in rec pat a b o words f) = same_finding (find_of rec pat a b o words 16) f
right_in (checks-in rec pat a b c o r) = same_check (check_of rec pat a b c o 16384) r
right_in (starts-in rec pat l to o words r) = is_start (starts_of rec pat l to o words 16) r

all_right_in : List WindowRow → Bool
all_right_in [] = true
all_right_in (r ∷ rs) = right_in r && all_right_in rs

windows-right : all_right_in window_rows ≡ true
unfolding all_right_in right_in window_rows one_timed three_lines either_kind but times timed_bytes is_start none same_check agrees same_finding is_stopped is_nowhere is_chain is_long same_chain line_bytes find_of check_of starts_of ask_request ask_starts all_below read_record lines_from entry_at read_pattern read_at command_at shape_of search_size boats_after codes solve found news look bfs chosen pick first next level nearest lesser is_at memb nub filt flat count stacks state place_of pos_of stack_of succs preds setting starts solution exist moved checked masked first_allowed
windows-right = refl

-- ---- full records

-- so many lines, and what follows them
many : ℕ → List ℕ → List ℕ → List ℕ
many zero line rest = rest
many (suc n) line rest = line ++ many n line rest

full : List ℕ → List ℕ → List ℕ
full line rest = 0x01 ∷ 0 ∷ 1 ∷ many 4096 line rest

number_of : Outcome Day → ℕ
number_of (refused n) = n
number_of (passed day) = 0

-- 4,096 lines with times and without; a 4,097th of either sort, whole or cut, before 4; a byte that is no line; bytes after the end
full-right : map (λ s. number_of (read_record s))
    (full (line_bytes 0 1 1 1 0) (0x00 ∷ []) ∷ full (timed_bytes 0 1 1 1 0 5) (0x00 ∷ []) ∷ full (line_bytes 0 1 1 1 0) (line_bytes 0 1 1 1 0 ++ (0x00 ∷ []))
    ∷ full (line_bytes 0 1 1 1 0) (0x03 ∷ []) ∷ full (timed_bytes 0 1 1 1 0 5) [] ∷ full (line_bytes 0 1 1 1 0) (0x04 ∷ []) ∷ full (timed_bytes 0 1 1 1 0 5) (0x00 ∷ 0x00 ∷ []) ∷ [])
    ≡ 0 ∷ 0 ∷ 22 ∷ 22 ∷ 3 ∷ 3 ∷ 1 ∷ []
unfolding full many number_of line_bytes timed_bytes read_record lines_from entry_at
full-right = refl
