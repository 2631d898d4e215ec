-- Phase one as counting loops over a table of distances and a queue, for any expansion that pushes the predecessors of a state.
use Rattle.std.specs.Prelude.{get_or}
use mathlib.Core.List.{List, [], ◌∷◌}
use Prim.Native.Nat.{ℕ, zero, suc, ◌-◌}
use Rattle.std.proofs.Math.ListN.{drop}
use Rattle.graph.specs.Loops.{loop}
use Rattle.graph.specs.Table.{Search, push, blank}

-- ---- a search under way

pub record Progress : Type 0 where
  pub expanded : ℕ
  pub table : Search

-- the queue's states that are not expanded yet, the next one first
abbrev pub waiting : Progress → List ℕ
waiting u = drop u.expanded u.table.queue

-- begun: the goals have distance 0
unfoldable pub begun : ℕ → List ℕ → Progress
begun N goals = record { expanded = 0; table = loop (push 1) goals (blank N) }

module _ (expand : ℕ → ℕ → Search → Search) where
  -- the next state that waits, if any, is expanded: `expand w t` gives the predecessors of t the word w
  unfoldable pub advance : Progress → Progress
  advance u = elim (waiting u) [ [] ↦ u | t ∷ q ↦ record { expanded = suc u.expanded; table = expand (suc (get_or u.table.dist t 0)) t u.table } ]

  unfoldable pub advance_by : ℕ → Progress → Progress
  advance_by zero u = u
  advance_by (suc k) u = advance_by k (advance u)
