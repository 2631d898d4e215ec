-- Computed examples of requests: nothing to believe. An edited definition of `Request` breaks one of them.
-- Search sizes and words, questions 15, 27, 16 and 17 in their order and at their limits, and the work area afterwards.
use Rattle.std.specs.Prelude.{◌≡◌, refl, List, [], ◌∷◌, ◌++◌, map, ℕ, zero, suc, replicate}
use Rattle.meaning.specs.Outcome.{refused, passed}
use Rattle.meaning.specs.Record.{Line, boats_after, entry_at, lines_from, read_record}
use Rattle.meaning.specs.Pattern.{nothing, counted, read_pattern, read_at, command_at, shape_of}
use Rattle.meaning.specs.Windows.{Options, first_allowed, plain}
use Rattle.meaning.specs.Request.{search_size, need, Asked, ask_request, words_of, ask_search, search_words_of, all_below, ask_starts, work_after}
use Rattle.meaning.specs.Rows.{number, line_of, lines_r, written_out, bytes_r, bytes_p, P, S}
use Rattle.meaning.specs.RowsOfWindows.{all_kinds, one_kind}

-- ---- the search size and the words

-- the size of rounds is that of their unfolded count, and keeps count where no round comes
sizes : map (search_size lines_r 4) (P ∷ S ∷ nothing ∷ counted 2 3 nothing ∷ counted 0 0 S ∷ []) ≡ 128 ∷ 384 ∷ 8 ∷ 20 ∷ 128 ∷ []
unfolding search_size boats_after lines_r line_of P S
sizes = refl

words-needed : map need (128 ∷ 1048576 ∷ []) ≡ 8704 ∷ 4202496 ∷ []
words-needed = refl

-- ---- questions 15 to 17

-- the lines of so many boats, and a record of 1,024 places with them
fleet : ℕ → List Line
fleet zero = []
fleet (suc n) = line_of 0 1 1 (suc n) 0 ∷ fleet n

day_of : ℕ → List ℕ
day_of boats = 0x01 ∷ 0x04 ∷ 0x00 ∷ (written_out (fleet boats) ++ (0x00 ∷ []))

-- 15 commands, one keep
fifteen : List ℕ
fifteen = 0x27 ∷ 1 ∷ 0 ∷ (replicate 13 0x26 ++ (0x20 ∷ []))

record Request : Type 0 where
  rec : List ℕ
  pat : List ℕ
  from : ℕ
  to : ℕ
  words : ℕ
  gives : ℕ

request : List ℕ → List ℕ → ℕ → ℕ → ℕ → ℕ → Request
request rec pat from to words gives = record { rec = rec; pat = pat; from = from; to = to; words = words; gives = gives }

requests : List Request
requests =
    -- record, then pattern, then request
    request (0x01 ∷ []) [] 4 4 0 2
    ∷ request bytes_r [] 4 4 0 8
    -- both places, and before the area
    ∷ request bytes_r bytes_p 0 3 8704 0
    ∷ request bytes_r bytes_p 4 3 0 15
    ∷ request bytes_r bytes_p 0 4 8704 15
    -- an area of just the words needed, and one of a word less
    ∷ request bytes_r bytes_p 0 3 8703 17
    -- the largest size, and the next: 15 before 16 before 17
    ∷ request (day_of 63) fifteen 0 1023 4202496 0
    ∷ request (day_of 63) fifteen 0 1023 4202495 17
    ∷ request (day_of 64) fifteen 0 1023 0 16
    ∷ request (day_of 64) fifteen 0 1024 0 15
    ∷ []

requests-asked : map (λ r. number (ask_request r.rec r.pat r.from r.to plain r.words)) requests ≡ map (λ r. r.gives) requests
unfolding requests request fleet day_of fifteen bytes_r lines_r written_out line_of bytes_p ask_request first_allowed search_size boats_after read_record lines_from entry_at read_pattern read_at command_at shape_of
requests-asked = refl

-- how many words: 1 to 14, then 16
words-told : words_of bytes_r bytes_p ∷ words_of (day_of 64) fifteen ∷ [] ≡ passed 8704 ∷ refused 16 ∷ []
unfolding fleet day_of fifteen bytes_r lines_r written_out line_of bytes_p words_of search_size boats_after read_record lines_from entry_at read_pattern read_at command_at shape_of
words-told = refl

-- ---- question 27

-- a window of kind 15, which no line and no pattern here has, that closes as it opens
shut : Options
shut = record { windows = one_kind 14 5 5 }

-- windows that no line of the records here is inside, as it has no time
morning : Options
morning = record { windows = all_kinds 0 43200 }

-- after 15, before 16 and 17
shut_requests : List Request
shut_requests =
    request (0x01 ∷ []) bytes_p 0 3 8704 2
    ∷ request bytes_r [] 0 3 8704 8
    ∷ request bytes_r bytes_p 4 3 8704 15
    ∷ request bytes_r bytes_p 0 3 8704 27
    ∷ request bytes_r bytes_p 0 3 0 27
    ∷ request (day_of 64) fifteen 0 1023 0 27
    ∷ []

shut-asked : map (λ r. number (ask_request r.rec r.pat r.from r.to shut r.words)) shut_requests ≡ map (λ r. r.gives) shut_requests
unfolding shut shut_requests request fleet day_of fifteen bytes_r lines_r written_out line_of bytes_p one_kind ask_request first_allowed search_size boats_after read_record lines_from entry_at read_pattern read_at command_at shape_of
shut-asked = refl

-- of a search that is begun, and of all starts, too
shut-begun : map (λ r. number (ask_search r.rec r.pat r.from r.to shut r.words)) shut_requests ≡ map (λ r. r.gives) shut_requests
unfolding shut shut_requests request fleet day_of fifteen bytes_r lines_r written_out line_of bytes_p one_kind ask_search first_allowed search_size boats_after read_record lines_from entry_at read_pattern read_at command_at shape_of
shut-begun = refl

shut-listed : map (λ r. number (ask_starts r.rec r.pat (r.from ∷ []) r.to shut r.words)) shut_requests ≡ map (λ r. r.gives) shut_requests
unfolding shut shut_requests request fleet day_of fifteen bytes_r lines_r written_out line_of bytes_p one_kind ask_starts all_below first_allowed search_size boats_after read_record lines_from entry_at read_pattern read_at command_at shape_of
shut-listed = refl

-- the search size and the words go by the whole record, however many lines are outside
morning_requests : List Request
morning_requests =
    request bytes_r bytes_p 0 3 8704 0
    ∷ request bytes_r bytes_p 0 3 8703 17
    ∷ request (day_of 64) fifteen 0 1023 0 16
    ∷ []

morning-asked : map (λ r. number (ask_request r.rec r.pat r.from r.to morning r.words)) morning_requests ≡ map (λ r. r.gives) morning_requests
unfolding morning morning_requests request fleet day_of fifteen bytes_r lines_r written_out line_of bytes_p all_kinds ask_request first_allowed search_size boats_after read_record lines_from entry_at read_pattern read_at command_at shape_of
morning-asked = refl

-- what passes is the whole record, the pattern and the windows that were given
morning-passed : ask_request bytes_r bytes_p 0 3 morning 8704 ≡ passed (record { day = record { places = 4; lines = lines_r }; pattern = P; options = morning })
unfolding morning bytes_r lines_r written_out line_of bytes_p P all_kinds ask_request first_allowed search_size boats_after read_record lines_from entry_at read_pattern read_at command_at shape_of
morning-passed = refl

-- ---- a search that is begun

-- its first 14 questions, 15 and 16 come as for a search at once; 17 asks for three words more for each line
searches : List Request
searches =
    request bytes_r [] 4 4 0 8
    ∷ request bytes_r bytes_p 0 3 8725 0
    ∷ request bytes_r bytes_p 0 3 8724 17
    ∷ request bytes_r bytes_p 0 4 8725 15
    -- the largest size, and the next
    ∷ request (day_of 63) fifteen 0 1023 4202685 0
    ∷ request (day_of 63) fifteen 0 1023 4202684 17
    ∷ request (day_of 64) fifteen 0 1023 0 16
    ∷ []

searches-asked : map (λ r. number (ask_search r.rec r.pat r.from r.to plain r.words)) searches ≡ map (λ r. r.gives) searches
unfolding searches request fleet day_of fifteen bytes_r lines_r written_out line_of bytes_p ask_search first_allowed search_size boats_after read_record lines_from entry_at read_pattern read_at command_at shape_of
searches-asked = refl

search-words-told : search_words_of bytes_r bytes_p ∷ search_words_of (day_of 63) fifteen ∷ search_words_of (day_of 64) fifteen ∷ [] ≡ passed 8725 ∷ passed 4202685 ∷ refused 16 ∷ []
unfolding fleet day_of fifteen bytes_r lines_r written_out line_of bytes_p search_words_of search_size boats_after read_record lines_from entry_at read_pattern read_at command_at shape_of
search-words-told = refl

-- ---- all starts in one go

record Starts : Type 0 where
  rec : List ℕ
  pat : List ℕ
  starts : List ℕ
  to : ℕ
  words : ℕ
  gives : ℕ

all-starts : List ℕ → List ℕ → List ℕ → ℕ → ℕ → ℕ → Starts
all-starts rec pat starts to words gives = record { rec = rec; pat = pat; starts = starts; to = to; words = words; gives = gives }

-- 15 is asked of every listed place and of the finishing place, also where none is listed
lists : List Starts
lists =
    all-starts bytes_r [] (4 ∷ []) 4 0 8
    ∷ all-starts bytes_r bytes_p (0 ∷ 3 ∷ 0 ∷ []) 3 8704 0
    ∷ all-starts bytes_r bytes_p [] 3 8704 0
    ∷ all-starts bytes_r bytes_p (4 ∷ 0 ∷ 1 ∷ []) 3 0 15
    ∷ all-starts bytes_r bytes_p (0 ∷ 1 ∷ 4 ∷ []) 3 8704 15
    ∷ all-starts bytes_r bytes_p (0 ∷ []) 4 8704 15
    ∷ all-starts bytes_r bytes_p [] 4 8704 15
    ∷ all-starts bytes_r bytes_p (0 ∷ 1 ∷ []) 3 8703 17
    -- the largest size, and the next: 15 before 16 before 17
    ∷ all-starts (day_of 63) fifteen (1023 ∷ []) 0 4202496 0
    ∷ all-starts (day_of 63) fifteen (1023 ∷ []) 0 4202495 17
    ∷ all-starts (day_of 64) fifteen (1023 ∷ []) 0 0 16
    ∷ all-starts (day_of 64) fifteen (0 ∷ 1024 ∷ []) 0 0 15
    ∷ []

lists-asked : map (λ r. number (ask_starts r.rec r.pat r.starts r.to plain r.words)) lists ≡ map (λ r. r.gives) lists
unfolding lists all-starts fleet day_of fifteen bytes_r lines_r written_out line_of bytes_p ask_starts first_allowed all_below search_size boats_after read_record lines_from entry_at read_pattern read_at command_at shape_of
lists-asked = refl

-- ---- the work area afterwards

area-untouched : work_after (refused 17) (5 ∷ 6 ∷ []) ≡ 5 ∷ 6 ∷ []
area-untouched = refl

area-cleared : (q : Asked) → work_after (passed q) (5 ∷ 6 ∷ []) ≡ 0 ∷ 0 ∷ []
area-cleared q = refl
