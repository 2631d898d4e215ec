-- The area that holds a search, computed for a small day: after begin, after one state, where phase one has ended, and at the end.
-- Nothing to believe, and something that breaks where a definition on the way is changed.
use Rattle.std.specs.Prelude.{◌≡◌, refl, true, false, List, [], ◌∷◌, ◌++◌, map, ℕ, ◌-◌, length, replicate}
use Rattle.std.proofs.Math.Option.{none, some}
use Rattle.meaning.specs.Record.{Line, boats_after}
use Rattle.meaning.specs.Pattern.{test, same, keep}
use Rattle.meaning.specs.Windows.{plain}
use Rattle.meaning.specs.Request.{Asked, search_size}
use Rattle.boats.specs.Codes.{codes}
use Rattle.boats.specs.Table.{boat_table}
use Rattle.graph.specs.Plain.{memb, filt, count}
use Rattle.graph.specs.Loops.{loop, turns}
use Rattle.graph.specs.Table.{blank, push}
use Rattle.graph.specs.PhaseOne.{begun}
use Rattle.graph.specs.PhaseTwo.{lesser_word, nearest_word}
use Rattle.graph.specs.Early.{met_by}
use Rattle.graph.specs.Trace.{tagged}
use Rattle.graph.specs.Sweep.{ahead, least, lead, take_up, back, line_into, chain_in}
use Rattle.graph.specs.Underway.{last_word, given_up, goes_on, turned, settled, begun_from, expanded_next, swept_next, taken, taken_by, taken_up, at_end, outcome}
use Rattle.search.specs.Product.{stacks, state, place_of, pos_of, stack_of, succs}
use Rattle.search.specs.Moves.{over_stacks}
use Rattle.search.specs.Traced.{over_traced, trace}
use Rattle.search.specs.Answer.{setting}
use Rattle.searching.specs.Promise.{search_at, padded, held_of, held_in}

-- ---- a small day

-- from, kind, class and sail number, to
ln : ℕ → ℕ → ℕ → ℕ → ℕ → Line
ln from kind class sail to = record { from = from; kind = kind; boat = record { class = class; sail = sail }; to = to; time = none }

-- boat 1-1 entered; then from one place another boat, and that boat
asked : Asked
asked = record { day = record { places = 2; lines = ln 0 1 1 1 1 ∷ ln 1 2 1 2 0 ∷ ln 1 2 1 1 0 ∷ [] }; pattern = keep 1 0 (test same 2 0); options = plain }

-- the pattern's bytes
bytes : List ℕ
bytes = 0x27 ∷ 1 ∷ 0 ∷ 0x22 ∷ 2 ∷ 0 ∷ []

-- the search from place 0 to place 0 has 18 states
size : search_size asked.day.lines asked.day.places asked.pattern ≡ 18
unfolding asked ln search_size boats_after
size = refl

-- the words with these numbers in front, and these distances, queue, tags and marks: two words more than are needed
abbrev area : List ℕ → List ℕ → List ℕ → List ℕ → List ℕ → List ℕ
area numbers dist queue how marks =
    numbers
    ++ (replicate 5 0
    ++ ((0x27 ∷ 1 ∷ 0 ∷ 0x22 ∷ 2 ∷ 0 ∷ [])
    ++ (replicate 186 0
    ++ ((0 ∷ 16777217 ∷ 16777218 ∷ [])
    ++ ((1 ∷ 2 ∷ 1 ∷ [])
    ++ ((17 ∷ 16386 ∷ 16386 ∷ [])
    ++ (dist
    ++ (queue
    ++ (replicate (18 - length queue) 0
    ++ (how
    ++ (replicate (18 - length how) 0
    ++ (marks
    ++ replicate 2 0))))))))))))

-- ---- the area at the counts

-- begun: the goal, state 6, is found
held-begun : held_in asked bytes 0 0 292 0
    ≡ area
    (3 ∷ 2 ∷ 3 ∷ 0 ∷ 6 ∷ 0 ∷ 0 ∷ 1 ∷ 0 ∷ 0 ∷ 0 ∷ 0 ∷ [])
    (0 ∷ 0 ∷ 0 ∷ 0 ∷ 0 ∷ 0 ∷ 1 ∷ 0 ∷ 0 ∷ 0 ∷ 0 ∷ 0 ∷ 0 ∷ 0 ∷ 0 ∷ 0 ∷ 0 ∷ 0 ∷ [])
    (6 ∷ [])
    (0 ∷ [])
    (replicate 18 0)
unfolding asked bytes ln search_size boats_after codes boat_table setting stacks state place_of pos_of stack_of succs over_stacks over_traced trace tagged begun blank push loop turns filt memb count lesser_word nearest_word met_by last_word goes_on given_up turned settled begun_from expanded_next swept_next taken taken_by ahead least lead take_up back search_at padded held_of
held-begun = refl

-- one state: by line 1 state 14 and by line 2 state 13, both from the goal
held_one : held_in asked bytes 0 0 292 1
    ≡ area
    (3 ∷ 2 ∷ 3 ∷ 0 ∷ 6 ∷ 0 ∷ 1 ∷ 3 ∷ 0 ∷ 0 ∷ 0 ∷ 0 ∷ [])
    (0 ∷ 0 ∷ 0 ∷ 0 ∷ 0 ∷ 0 ∷ 1 ∷ 0 ∷ 0 ∷ 0 ∷ 0 ∷ 0 ∷ 0 ∷ 2 ∷ 2 ∷ 0 ∷ 0 ∷ 0 ∷ [])
    (6 ∷ 14 ∷ 13 ∷ [])
    (0 ∷ 1048582 ∷ 2097158 ∷ [])
    (replicate 18 0)
unfolding asked bytes ln search_size boats_after codes boat_table setting stacks state place_of pos_of stack_of succs over_stacks over_traced trace tagged begun blank push loop turns filt memb count lesser_word nearest_word met_by last_word goes_on given_up turned settled begun_from expanded_next swept_next taken taken_by ahead least lead take_up back search_at padded held_of
held_one = refl

-- three: by line 0 state 0, the first state, from state 13; phase one has ended
held-turned : held_in asked bytes 0 0 292 3
    ≡ area
    (3 ∷ 2 ∷ 3 ∷ 0 ∷ 6 ∷ 1 ∷ 3 ∷ 4 ∷ 3 ∷ 4 ∷ 3 ∷ 3 ∷ [])
    (3 ∷ 0 ∷ 0 ∷ 0 ∷ 0 ∷ 0 ∷ 1 ∷ 0 ∷ 0 ∷ 0 ∷ 0 ∷ 0 ∷ 0 ∷ 2 ∷ 2 ∷ 0 ∷ 0 ∷ 0 ∷ [])
    (6 ∷ 14 ∷ 13 ∷ 0 ∷ [])
    (0 ∷ 1048582 ∷ 2097158 ∷ 13 ∷ [])
    (4 ∷ replicate 17 0)
unfolding asked bytes ln search_size boats_after codes boat_table setting stacks state place_of pos_of stack_of succs over_stacks over_traced trace tagged begun blank push loop turns filt memb count lesser_word nearest_word met_by last_word goes_on given_up turned settled begun_from expanded_next swept_next taken taken_by ahead least lead take_up back search_at padded held_of
held-turned = refl

-- six: the end. Line 0 leads to state 13, and line 2 on to the goal
held-end : held_in asked bytes 0 0 292 6
    ≡ area
    (3 ∷ 2 ∷ 3 ∷ 0 ∷ 6 ∷ 1 ∷ 3 ∷ 4 ∷ 3 ∷ 1 ∷ 2 ∷ 3 ∷ [])
    (3 ∷ 0 ∷ 0 ∷ 0 ∷ 0 ∷ 0 ∷ 1 ∷ 0 ∷ 0 ∷ 0 ∷ 0 ∷ 0 ∷ 0 ∷ 2 ∷ 2 ∷ 0 ∷ 0 ∷ 0 ∷ [])
    (6 ∷ 14 ∷ 13 ∷ 0 ∷ [])
    (0 ∷ 1048582 ∷ 2097158 ∷ 13 ∷ [])
    (4 ∷ 0 ∷ 0 ∷ 0 ∷ 0 ∷ 0 ∷ 3 ∷ 0 ∷ 0 ∷ 0 ∷ 0 ∷ 0 ∷ 0 ∷ 1 ∷ 0 ∷ 0 ∷ 0 ∷ 0 ∷ [])
unfolding asked bytes ln search_size boats_after codes boat_table setting stacks state place_of pos_of stack_of succs over_stacks over_traced trace tagged begun blank push loop turns filt memb count lesser_word nearest_word met_by last_word goes_on given_up turned settled begun_from expanded_next swept_next taken taken_by ahead least lead take_up back search_at padded held_of
held-end = refl

-- ---- the count, the end and what is said there

-- a step at the end takes nothing up
taken_then : map (λ k. taken_up (search_at asked 0 0 k)) (count 0 8) ≡ 0 ∷ 1 ∷ 2 ∷ 3 ∷ 4 ∷ 5 ∷ 6 ∷ 6 ∷ []
unfolding asked bytes ln search_size boats_after codes boat_table setting stacks state place_of pos_of stack_of succs over_stacks over_traced trace tagged begun blank push loop turns filt memb count lesser_word nearest_word met_by last_word goes_on given_up turned settled begun_from expanded_next swept_next taken taken_by ahead least lead take_up back search_at taken_up
taken_then = refl

ends-then : map (λ k. at_end (search_at asked 0 0 k)) (0 ∷ 3 ∷ 5 ∷ 6 ∷ 7 ∷ []) ≡ false ∷ false ∷ false ∷ true ∷ true ∷ []
unfolding asked bytes ln search_size boats_after codes boat_table setting stacks state place_of pos_of stack_of succs over_stacks over_traced trace tagged begun blank push loop turns filt memb count lesser_word nearest_word met_by last_word goes_on given_up turned settled begun_from expanded_next swept_next taken taken_by ahead least lead take_up back search_at at_end
ends-then = refl

said-then : outcome (succs (setting asked.day.lines asked.pattern)) 3 (search_at asked 0 0 6) ≡ some (0 ∷ 2 ∷ [])
unfolding asked bytes ln search_size boats_after codes boat_table setting stacks state place_of pos_of stack_of succs over_stacks over_traced trace tagged begun blank push loop turns filt memb count lesser_word nearest_word met_by last_word goes_on given_up turned settled begun_from expanded_next swept_next taken taken_by ahead least lead take_up back search_at outcome line_into chain_in
said-then = refl
