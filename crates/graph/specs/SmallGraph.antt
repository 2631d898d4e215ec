-- A small graph, computed: nothing to believe, and something that breaks where a definition is changed.
-- Line 0 leads from state 3 to the states 1 and 2, and the first shortest chain goes on from 2, not from 1;
-- state 4 is near by line 2 and far by line 0; from state 5 no line leads.
use Rattle.std.specs.Prelude.{◌≡◌, refl, List, [], ◌∷◌, map, ℕ, get_or}
use Rattle.std.proofs.Math.Option.{none, some}
use Rattle.graph.specs.Plain.{look, news, bfs, found, nub, filt, flat, lesser, is_at, level, nearest, next, first, pick, chosen, solve}
use Rattle.graph.specs.Loops.{loop, turns}
use Rattle.graph.specs.Table.{Search, blank, push}
use Rattle.graph.specs.PhaseOne.{begun, advance, advance_by}
use Rattle.graph.specs.PhaseTwo.{lesser_word, nearest_word, put, gather, try, walk, forward_by, forward}
use Rattle.graph.specs.Phases.{finish}

-- ---- the graph: six states, three lines, the goal is state 0

unfoldable pub goals : List ℕ
goals = 0 ∷ []

-- by state
unfoldable pub preds : ℕ → List ℕ
preds t = get_or ((1 ∷ 2 ∷ []) ∷ (3 ∷ []) ∷ (3 ∷ 4 ∷ []) ∷ (4 ∷ []) ∷ []) t []

-- by state and line
unfoldable pub succs : ℕ → ℕ → List ℕ
succs s l = get_or (get_or ([] ∷ ([] ∷ [] ∷ (0 ∷ []) ∷ []) ∷ ([] ∷ (0 ∷ []) ∷ []) ∷ ((1 ∷ 2 ∷ []) ∷ []) ∷ ((3 ∷ []) ∷ [] ∷ (2 ∷ []) ∷ []) ∷ []) s []) l []

-- ---- the plain search

distances : found 6 goals preds ≡ (0, 0) ∷ (1, 1) ∷ (2, 1) ∷ (3, 2) ∷ (4, 2) ∷ []
unfolding goals preds found news bfs look
distances = refl

-- both states that line 0 leads to are followed; a shorter chain comes before a lower line; the least line over all first states; no chain at all
answers : map (solve 6 goals preds succs 3) ((3 ∷ []) ∷ (4 ∷ []) ∷ (5 ∷ 4 ∷ 3 ∷ []) ∷ (5 ∷ []) ∷ [])
    ≡ some (0 ∷ 1 ∷ []) ∷ some (2 ∷ 1 ∷ []) ∷ some (0 ∷ 1 ∷ []) ∷ none ∷ []
unfolding goals preds succs found news bfs look solve chosen nub filt flat lesser is_at level nearest next first pick
answers = refl

-- ---- the counting loops

unfoldable expand : ℕ → ℕ → Search → Search
expand w t st = loop (push w) (preds t) st

unfoldable from_state : List ℕ → ℕ → ℕ → ℕ → Search → Search
from_state D w l s st = loop (put D w) (succs s l) st

-- after three expanded states: from state 3 lines lead to two of them, and it is in the queue once
counted : advance_by expand 3 (begun 6 goals) ≡ record { expanded = 3; table = record { dist = 1 ∷ 2 ∷ 2 ∷ 3 ∷ 3 ∷ 0 ∷ []; queue = 0 ∷ 1 ∷ 2 ∷ 3 ∷ 4 ∷ [] } }
unfolding goals preds expand begun blank push loop advance advance_by
counted = refl

-- finished from there
finished : finish expand from_state 6 3 (3 ∷ []) (advance_by expand 3 (begun 6 goals)) ≡ some (0 ∷ 1 ∷ [])
unfolding goals preds succs expand from_state begun blank push loop turns advance advance_by lesser_word nearest_word put gather try walk forward_by forward finish
finished = refl
