-- The small graph of `SmallGraph`, searched state by state: every count computed, from the beginning to the end and one step further.
-- Nothing to believe, and something that breaks where a definition of `Trace`, `Sweep` or `Underway` is changed.
use Rattle.std.specs.Prelude.{◌≡◌, refl, true, false, List, [], ◌∷◌, map, ℕ}
use Rattle.graph.specs.Plain.{look, news, bfs, found, memb, nub, filt, flat, count, lesser, is_at, level, nearest, next, first, pick, chosen, solve}
use Rattle.graph.specs.Loops.{loop, turns}
use Rattle.graph.specs.Table.{blank, push}
use Rattle.graph.specs.PhaseOne.{begun}
use Rattle.graph.specs.PhaseTwo.{lesser_word, nearest_word}
use Rattle.graph.specs.Early.{met_by}
use Rattle.graph.specs.SmallGraph.{goals, preds, succs}
use Rattle.graph.specs.Sweep.{ahead, least, lead, take_up, back, line_into, chain_in}
use Rattle.graph.specs.Trace.{Reached, tag_of, tagged}
use Rattle.graph.specs.Underway.{Underway, dist_of, queue_of, last_word, given_up, goes_on, turned, settled, begun_from, expanded_next, swept_next, taken, taken_by, taken_up, at_end, outcome}
use Rattle.graph.specs.Taking.{taken_each}

-- ---- the search

-- line by line, the states from which the line leads to t, in order
unfoldable trace : ℕ → ℕ → Reached → Reached
trace w t x = turns (λ l. tagged (tag_of l t) (loop (push w) (filt (λ s. memb t (succs s l)) (count 0 6)))) 0 3 x

-- towards the first states S: begun, and taken up by k
unfoldable searched : List ℕ → ℕ → Underway
searched S k = taken_by S 3 trace succs k (begun_from S 3 6 goals)

-- expanded, phase, nearest word, states left, line chosen, line noted
abbrev numbers : Underway → List ℕ
numbers u = u.expanded ∷ u.phase ∷ u.far ∷ u.sweep.rest ∷ u.sweep.chosen ∷ u.sweep.noted.line ∷ []

abbrev marks_of : Underway → List ℕ
marks_of u = u.sweep.noted.marks

-- ---- from state 3

-- what is found: by line 1 state 2 and by line 2 state 1, both from the goal; then by line 0 state 3 and by line 2 state 4, both from state 2
found-then : map (λ k. let u = searched (3 ∷ []) k in dist_of u ∷ queue_of u ∷ u.found.how ∷ []) (0 ∷ 1 ∷ 2 ∷ 3 ∷ [])
    ≡ ((1 ∷ 0 ∷ 0 ∷ 0 ∷ 0 ∷ 0 ∷ []) ∷ (0 ∷ []) ∷ (0 ∷ []) ∷ [])
    ∷ ((1 ∷ 2 ∷ 2 ∷ 0 ∷ 0 ∷ 0 ∷ []) ∷ (0 ∷ 2 ∷ 1 ∷ []) ∷ (0 ∷ 1048576 ∷ 2097152 ∷ []) ∷ [])
    ∷ ((1 ∷ 2 ∷ 2 ∷ 3 ∷ 3 ∷ 0 ∷ []) ∷ (0 ∷ 2 ∷ 1 ∷ 3 ∷ 4 ∷ []) ∷ (0 ∷ 1048576 ∷ 2097152 ∷ 2 ∷ 2097154 ∷ []) ∷ [])
    ∷ ((1 ∷ 2 ∷ 2 ∷ 3 ∷ 3 ∷ 0 ∷ []) ∷ (0 ∷ 2 ∷ 1 ∷ 3 ∷ 4 ∷ []) ∷ (0 ∷ 1048576 ∷ 2097152 ∷ 2 ∷ 2097154 ∷ []) ∷ [])
    ∷ []
unfolding goals succs trace searched tagged begun blank push loop turns filt memb count lesser_word nearest_word met_by last_word goes_on given_up turned settled begun_from expanded_next swept_next taken taken_by ahead least lead take_up back
found-then = refl

-- state 3 is found at count 2, but state 1, as near as state 2, is still expanded; then it is met, and the states found are taken up again:
-- 4 and 3, then 1 and 2, until the goal is left. One step more changes nothing
numbers-then : map (λ k. numbers (searched (3 ∷ []) k)) (count 0 9)
    ≡ (0 ∷ 0 ∷ 0 ∷ 0 ∷ 0 ∷ 0 ∷ [])
    ∷ (1 ∷ 0 ∷ 0 ∷ 0 ∷ 0 ∷ 0 ∷ [])
    ∷ (2 ∷ 0 ∷ 0 ∷ 0 ∷ 0 ∷ 0 ∷ [])
    ∷ (3 ∷ 1 ∷ 3 ∷ 5 ∷ 3 ∷ 3 ∷ [])
    ∷ (3 ∷ 1 ∷ 3 ∷ 4 ∷ 3 ∷ 3 ∷ [])
    ∷ (3 ∷ 1 ∷ 3 ∷ 3 ∷ 0 ∷ 3 ∷ [])
    ∷ (3 ∷ 1 ∷ 3 ∷ 2 ∷ 0 ∷ 2 ∷ [])
    ∷ (3 ∷ 1 ∷ 3 ∷ 1 ∷ 1 ∷ 3 ∷ [])
    ∷ (3 ∷ 1 ∷ 3 ∷ 1 ∷ 1 ∷ 3 ∷ [])
    ∷ []
unfolding goals succs trace searched tagged begun blank push loop turns filt memb count lesser_word nearest_word met_by last_word goes_on given_up turned settled begun_from expanded_next swept_next taken taken_by ahead least lead take_up back
numbers-then = refl

-- the line from state 1 is undercut by that from state 2, and the goal gets the lesser mark
marks_then : map (λ k. marks_of (searched (3 ∷ []) k)) (count 2 7)
    ≡ (0 ∷ 0 ∷ 0 ∷ 0 ∷ 0 ∷ 0 ∷ [])
    ∷ (0 ∷ 0 ∷ 0 ∷ 4 ∷ 0 ∷ 0 ∷ [])
    ∷ (0 ∷ 0 ∷ 0 ∷ 4 ∷ 0 ∷ 0 ∷ [])
    ∷ (0 ∷ 1 ∷ 1 ∷ 4 ∷ 0 ∷ 0 ∷ [])
    ∷ (3 ∷ 1 ∷ 1 ∷ 4 ∷ 0 ∷ 0 ∷ [])
    ∷ (2 ∷ 1 ∷ 1 ∷ 4 ∷ 0 ∷ 0 ∷ [])
    ∷ (2 ∷ 1 ∷ 1 ∷ 4 ∷ 0 ∷ 0 ∷ [])
    ∷ []
unfolding goals succs trace searched tagged begun blank push loop turns filt memb count lesser_word nearest_word met_by last_word goes_on given_up turned settled begun_from expanded_next swept_next taken taken_by ahead least lead take_up back
marks_then = refl

-- ---- from other states

-- state 4 has a line of its own into the level of state 2, and that line does not lead to state 1
from-four : map (λ k. let u = searched (4 ∷ []) k in marks_of u ∷ numbers u ∷ []) (count 3 6)
    ≡ ((0 ∷ 0 ∷ 0 ∷ 0 ∷ 4 ∷ 0 ∷ []) ∷ (3 ∷ 1 ∷ 3 ∷ 5 ∷ 3 ∷ 3 ∷ []) ∷ [])
    ∷ ((0 ∷ 0 ∷ 3 ∷ 0 ∷ 4 ∷ 0 ∷ []) ∷ (3 ∷ 1 ∷ 3 ∷ 4 ∷ 3 ∷ 2 ∷ []) ∷ [])
    ∷ ((0 ∷ 0 ∷ 3 ∷ 0 ∷ 4 ∷ 0 ∷ []) ∷ (3 ∷ 1 ∷ 3 ∷ 3 ∷ 2 ∷ 3 ∷ []) ∷ [])
    ∷ ((0 ∷ 0 ∷ 3 ∷ 0 ∷ 4 ∷ 0 ∷ []) ∷ (3 ∷ 1 ∷ 3 ∷ 2 ∷ 2 ∷ 3 ∷ []) ∷ [])
    ∷ ((2 ∷ 0 ∷ 3 ∷ 0 ∷ 4 ∷ 0 ∷ []) ∷ (3 ∷ 1 ∷ 3 ∷ 1 ∷ 1 ∷ 3 ∷ []) ∷ [])
    ∷ ((2 ∷ 0 ∷ 3 ∷ 0 ∷ 4 ∷ 0 ∷ []) ∷ (3 ∷ 1 ∷ 3 ∷ 1 ∷ 1 ∷ 3 ∷ []) ∷ [])
    ∷ []
unfolding goals succs trace searched tagged begun blank push loop turns filt memb count lesser_word nearest_word met_by last_word goes_on given_up turned settled begun_from expanded_next swept_next taken taken_by ahead least lead take_up back
from-four = refl

-- state 5 is never found: all five states that are found are expanded, and there is no chain
from-five : map (λ k. numbers (searched (5 ∷ []) k)) (4 ∷ 5 ∷ 6 ∷ []) ≡ (4 ∷ 0 ∷ 0 ∷ 0 ∷ 0 ∷ 0 ∷ []) ∷ (5 ∷ 2 ∷ 0 ∷ 0 ∷ 0 ∷ 0 ∷ []) ∷ (5 ∷ 2 ∷ 0 ∷ 0 ∷ 0 ∷ 0 ∷ []) ∷ []
unfolding goals succs trace searched tagged begun blank push loop turns filt memb count lesser_word nearest_word met_by last_word goes_on given_up turned settled begun_from expanded_next swept_next taken taken_by ahead least lead take_up back
from-five = refl

-- ---- the count and the end

-- how many are taken up, by the amounts 2, 0, 3, 4 and 1: of the fourth only two are left
taken_then : map
    (λ amounts. taken_up (taken_each (3 ∷ []) 3 trace succs amounts (searched (3 ∷ []) 0)))
    ((2 ∷ []) ∷ (2 ∷ 0 ∷ []) ∷ (2 ∷ 0 ∷ 3 ∷ []) ∷ (2 ∷ 0 ∷ 3 ∷ 4 ∷ []) ∷ (2 ∷ 0 ∷ 3 ∷ 4 ∷ 1 ∷ []) ∷ [])
    ≡ 2 ∷ 2 ∷ 5 ∷ 7 ∷ 7 ∷ []
unfolding goals succs trace searched tagged begun blank push loop turns filt memb count lesser_word nearest_word met_by last_word goes_on given_up turned settled begun_from expanded_next swept_next taken taken_by ahead least lead take_up back taken_up taken_each
taken_then = refl

-- from state 3, 4, all three, 5, and from the goal itself, where the end is at count 0
outcomes : map (λ S. outcome succs 3 (searched S 7)) ((3 ∷ []) ∷ (4 ∷ []) ∷ (5 ∷ 4 ∷ 3 ∷ []) ∷ (5 ∷ []) ∷ (0 ∷ []) ∷ [])
    ≡ map (solve 6 goals preds succs 3) ((3 ∷ []) ∷ (4 ∷ []) ∷ (5 ∷ 4 ∷ 3 ∷ []) ∷ (5 ∷ []) ∷ (0 ∷ []) ∷ [])
unfolding goals preds succs trace searched tagged begun blank push loop turns filt memb count lesser_word nearest_word met_by last_word goes_on given_up turned settled begun_from expanded_next swept_next taken taken_by ahead least lead take_up back outcome line_into chain_in found news bfs look solve chosen nub flat lesser is_at level nearest next first pick
outcomes = refl

-- the first count at which nothing is left, and the one before it
ends : map at_end (searched (3 ∷ []) 6 ∷ searched (3 ∷ []) 7 ∷ searched (5 ∷ []) 4 ∷ searched (5 ∷ []) 5 ∷ searched (0 ∷ []) 0 ∷ [])
    ≡ false ∷ true ∷ false ∷ true ∷ true ∷ []
unfolding goals succs trace searched tagged begun blank push loop turns filt memb count lesser_word nearest_word met_by last_word goes_on given_up turned settled begun_from expanded_next swept_next taken taken_by ahead least lead take_up back at_end
ends = refl

-- the whole search at the end; a step further nothing of it changes
abbrev last : Underway
last = record {
  found = record { table = record { dist = 1 ∷ 2 ∷ 2 ∷ 3 ∷ 3 ∷ 0 ∷ []; queue = 0 ∷ 2 ∷ 1 ∷ 3 ∷ 4 ∷ [] }; how = 0 ∷ 1048576 ∷ 2097152 ∷ 2 ∷ 2097154 ∷ [] };
  expanded = 3;
  phase = 1;
  far = 3;
  sweep = record { rest = 1; chosen = 1; noted = record { line = 3; marks = 2 ∷ 1 ∷ 1 ∷ 4 ∷ 0 ∷ 0 ∷ [] } };
}

stays : map (searched (3 ∷ [])) (7 ∷ 8 ∷ []) ≡ last ∷ last ∷ []
unfolding goals succs trace searched tagged begun blank push loop turns filt memb count lesser_word nearest_word met_by last_word goes_on given_up turned settled begun_from expanded_next swept_next taken taken_by ahead least lead take_up back
stays = refl
