-- A request (document 01, "Asking" and questions 15 to 17; document 02, request Seven: 27): the search size, the words of work area that it
-- needs, and what becomes of the area. Record first, then pattern, then request. Sizes and questions go by the whole record.
use Rattle.std.specs.Prelude.{Bool, true, ◌&&◌, List, [], ◌∷◌, ℕ, suc, ◌+◌, ◌*◌, ◌^◌, ltb, leb, length, replicate}
use Rattle.meaning.specs.Outcome.{Outcome, refused, passed, ask, and_then}
use Rattle.meaning.specs.Record.{Line, Day, boats, read_record}
use Rattle.meaning.specs.Pattern.{Pattern, unfolded, keeps, read_pattern, none_given}
use Rattle.meaning.specs.Windows.{Options, windows_allowed, plain}

-- places × (unfolded count + 1) × (boats + 1) to the power of keeps
unfoldable pub search_size : List Line → ℕ → Pattern → ℕ
search_size lines places p = places * suc (unfolded p) * suc (length (boats lines)) ^ keeps p

-- the words that a search of that size needs
abbrev pub need : ℕ → ℕ
need size = 4 * size + 8192

-- what a request that passes its questions asks about
pub record Asked : Type 0 where
  pub day : Day
  pub pattern : Pattern
  pub options : Options

abbrev pub size_of : Asked → ℕ
size_of q = search_size q.day.lines q.day.places q.pattern

-- the record, then the pattern
abbrev pub ask_both : List ℕ → List ℕ → Options → Outcome Asked
ask_both rec pat options =
    and_then (read_record rec) (λ day.
    and_then (read_pattern none_given pat) (λ p.
    passed (record { day = day; pattern = p; options = options })))

-- question 27 of what is asked
abbrev pub ask_windows : Asked → Outcome Asked → Outcome Asked
ask_windows q rest = ask (windows_allowed q.options.windows) 27 rest

-- questions 1 to 17, 22, 24, 25, 27 and 28, for a work area of so many words
unfoldable pub ask_request : List ℕ → List ℕ → ℕ → ℕ → Options → ℕ → Outcome Asked
ask_request rec pat from to options words =
    and_then (ask_both rec pat options) (λ q.
    ask (ltb from q.day.places && ltb to q.day.places) 15
    (ask_windows q
    (ask (leb (size_of q) 1048576) 16
    (ask (leb (need (size_of q)) words) 17
    (passed q)))))

-- how many words a record and a pattern need, whatever the windows: the record's questions, the pattern's and 16
unfoldable pub words_of : List ℕ → List ℕ → Outcome ℕ
words_of rec pat = and_then (ask_both rec pat plain) (λ q. ask (leb (size_of q) 1048576) 16 (passed (need (size_of q))))

-- ---- a search that is begun and moved on

-- it needs three words more for each line
abbrev pub search_need : Asked → ℕ
search_need q = need (size_of q) + 3 * length q.day.lines

-- its questions: 17 asks for those words
unfoldable pub ask_search : List ℕ → List ℕ → ℕ → ℕ → Options → ℕ → Outcome Asked
ask_search rec pat from to options words =
    and_then (ask_both rec pat options) (λ asked.
    ask (ltb from asked.day.places && ltb to asked.day.places) 15
    (ask_windows asked
    (ask (leb (size_of asked) 1048576) 16
    (ask (leb (search_need asked) words) 17
    (passed asked)))))

-- how many words it needs for a record and a pattern
unfoldable pub search_words_of : List ℕ → List ℕ → Outcome ℕ
search_words_of rec pat = and_then (ask_both rec pat plain) (λ asked. ask (leb (size_of asked) 1048576) 16 (passed (search_need asked)))

-- ---- all starts in one go

-- is each of the places below the count?
unfoldable pub all_below : ℕ → List ℕ → Bool
all_below count [] = true
all_below count (a ∷ rest) = ltb a count && all_below count rest

-- its questions: 15 is asked of every listed place and of the finishing place
unfoldable pub ask_starts : List ℕ → List ℕ → List ℕ → ℕ → Options → ℕ → Outcome Asked
ask_starts rec pat starts to options words =
    and_then (ask_both rec pat options) (λ listed.
    ask (all_below listed.day.places starts && ltb to listed.day.places) 15
    (ask_windows listed
    (ask (leb (size_of listed) 1048576) 16
    (ask (leb (need (size_of listed)) words) 17
    (passed listed)))))

-- ---- the area afterwards

-- a work area after a reply: untouched after a refusal at 17 or before, else all zeros
abbrev pub work_after : Outcome Asked → List ℕ → List ℕ
work_after (refused number) work = work
work_after (passed q) work = replicate (length work) 0
