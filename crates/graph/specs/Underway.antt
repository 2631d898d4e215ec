-- The search state by state: a search that is begun, taken up state by state, and can stop at every count. Definitions that compute.
-- Phase one expands the states found, in the order found, each once. As soon as nothing waits or a first state is met, phase two takes up the
-- states found once more, the last found first (`Sweep.back`), until the goal is left; or there is no chain, where no first state was found.
-- `Taking` has the laws of the count, `Finishing` what stands at the end.
use Rattle.std.specs.Prelude.{Bool, true, false, cond, not, ◌&&◌, List, [], ◌∷◌, ℕ, zero, suc, ◌+◌, ◌-◌, eqb, ltb, leb, length, get_or, drop, replicate}
use Rattle.std.proofs.Math.Option.{Option, none, some}
use Rattle.graph.specs.Plain.{filt}
use Rattle.graph.specs.Early.{met_by}
use Rattle.graph.specs.PhaseOne.{begun}
use Rattle.graph.specs.PhaseTwo.{nearest_word}
use Rattle.graph.specs.Trace.{Reached}
use Rattle.graph.specs.Sweep.{Sweep, marked, back, chain_in}

-- ---- a search under way

-- what is found and how; how many states are expanded; the phase: 0 backward, 1 forward, 2 there is no chain; the word of the nearest first
-- state, from phase one's end on; and the sweep
pub record Underway : Type 0 where
  pub found : Reached
  pub expanded : ℕ
  pub phase : ℕ
  pub far : ℕ
  pub sweep : Sweep

abbrev pub dist_of : Underway → List ℕ
dist_of u = u.found.table.dist

abbrev pub queue_of : Underway → List ℕ
queue_of u = u.found.table.queue

-- the queue's states that are not expanded yet, the next one first
abbrev pub waiting_in : Underway → List ℕ
waiting_in u = drop u.expanded (queue_of u)

-- the word of the state expanded last, 0 where none is
unfoldable pub last_word : Underway → ℕ
last_word u = elim u.expanded [ zero ↦ 0 | suc e ↦ get_or (dist_of u) (get_or (queue_of u) e 0) 0 ]

-- there is no chain
unfoldable pub given_up : Underway → Underway
given_up u = record { found = u.found; expanded = u.expanded; phase = 2; far = u.far; sweep = u.sweep }

-- S are the first states, m is the count of lines
module _ (S : List ℕ) (m : ℕ) where
  -- the word of the nearest first state
  abbrev pub near_in : Underway → ℕ
  near_in u = nearest_word (dist_of u) S

  -- ---- phase one goes on, or ends

  -- a state waits, and no first state is as near as it; asked where its word differs from that of the state expanded last
  unfoldable pub goes_on : Underway → Bool
  goes_on u = elim (waiting_in u) [ [] ↦ false | t ∷ q ↦ not (met_by (near_in u) (get_or (dist_of u) t 0) (last_word u)) ]

  -- the first states that are nearest are marked, and the sweep is to begin
  unfoldable pub turned : Underway → Underway
  turned u = record {
    found = u.found;
    expanded = u.expanded;
    phase = 1;
    far = near_in u;
    sweep = record {
      rest = length (queue_of u);
      chosen = m;
      noted = record { line = m; marks = marked (suc m) (filt (λ t. eqb (get_or (dist_of u) t 0) (near_in u)) S) u.sweep.noted.marks };
    };
  }

  unfoldable pub settled : Underway → Underway
  settled u = cond (goes_on u) u (cond (eqb (near_in u) 0) (given_up u) (turned u))

  -- begun: the goals are found, of N states, and nothing is taken up
  unfoldable pub begun_from : ℕ → List ℕ → Underway
  begun_from N goals =
      let table = (begun N goals).table in
      settled (record {
        found = record { table = table; how = replicate (length table.queue) 0 };
        expanded = 0;
        phase = 0;
        far = 0;
        sweep = record { rest = 0; chosen = 0; noted = record { line = 0; marks = replicate N 0 } };
      })

  -- ---- a state is taken up

  -- `trace w t` gives the states before t the word w, with the line by which each was reached; `succs s l` has the states to which line l leads from s
  module _ (trace : ℕ → ℕ → Reached → Reached) (succs : ℕ → ℕ → List ℕ) where
    -- the next state that waits is expanded
    unfoldable pub expanded_next : Underway → Underway
    expanded_next u = elim (waiting_in u) [
      | [] ↦ u
      | t ∷ q ↦ record { found = trace (suc (get_or (dist_of u) t 0)) t u.found; expanded = suc u.expanded; phase = u.phase; far = u.far; sweep = u.sweep }
    ]

    -- the last state that is left is taken up by the sweep
    unfoldable pub swept_next : Underway → Underway
    swept_next u = record { found = u.found; expanded = u.expanded; phase = u.phase; far = u.far; sweep = back (dist_of u) succs m (queue_of u) u.sweep }

    -- one state, if any is left
    unfoldable pub taken : Underway → Underway
    taken u = elim u.phase [
      | zero ↦ settled (expanded_next u)
      | suc p ↦ cond (eqb p 0 && ltb 1 u.sweep.rest) (swept_next u) u
    ]

    unfoldable pub taken_by : ℕ → Underway → Underway
    taken_by zero u = u
    taken_by (suc k) u = taken_by k (taken u)

-- ---- the count

-- how many states are taken up
unfoldable pub taken_up : Underway → ℕ
taken_up u = u.expanded + cond (eqb u.phase 1) (length (queue_of u) - u.sweep.rest) 0

-- nothing is left to take up
unfoldable pub at_end : Underway → Bool
at_end u = elim u.phase [ zero ↦ false | suc p ↦ cond (eqb p 0) (leb u.sweep.rest 1) true ]

-- ---- what is said at the end

-- the chain: of each level below the nearest first state's the line that leads into it, by the marks
unfoldable pub outcome : (ℕ → ℕ → List ℕ) → ℕ → Underway → Option (List ℕ)
outcome succs m u = cond (eqb u.phase 1) (some (chain_in (dist_of u) succs m (queue_of u) u.sweep.noted.marks (u.far - 1))) none
