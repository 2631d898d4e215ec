-- Phase two as counting loops over the distances and a second table, whose queue holds all frontiers end to end and whose words mark the states in them,
-- for any `from_state` that puts the successors of a state by a line into the next frontier.
use Rattle.std.specs.Prelude.{eqb, get_or}
use Rattle.std.proofs.Math.Bool.{cond}
use mathlib.Core.List.{List, [], ◌∷◌}
use Rattle.std.proofs.Math.Option.{Option, none, some}
use Prim.Native.Nat.{ℕ, zero, suc, ◌+◌, ◌-◌, min}
use Rattle.std.proofs.Math.ListN.{length}
use Rattle.graph.specs.Loops.{loop, turns}
use Rattle.graph.specs.Table.{Search, push, blank}

-- ---- the nearest first state, by words: D has each state's distance and 1, or 0

-- the lesser of two words, where 0 stands for no distance
unfoldable pub lesser_word : ℕ → ℕ → ℕ
lesser_word v w = cond (eqb v 0) w (cond (eqb w 0) v (min v w))

unfoldable pub nearest_word : List ℕ → List ℕ → ℕ
nearest_word D S = loop (λ s v. lesser_word v (get_or D s 0)) S 0

-- ---- the loops

-- the state t comes into the frontier, if its word is w
unfoldable pub put : List ℕ → ℕ → ℕ → Search → Search
put D w t st = cond (eqb (get_or D t 0) w) (push 1 t st) st

-- the line that is chosen, and the table with the frontier to which it leads
pub record Tried : Type 0 where
  pub line : ℕ
  pub table : Search

-- `from_state w l s`: the states with the word w to which line l leads from s come into the frontier
module _ (from_state : ℕ → ℕ → ℕ → Search → Search) where
  -- line l from each state of the frontier, which stands in the queue from index lo on
  unfoldable pub gather : ℕ → ℕ → ℕ → Search → Search
  gather w l lo st = turns (λ j b. from_state w l (get_or b.queue j 0) b) lo (length st.queue - lo) st

  -- the lines l, l + 1, … are tried, n of them, until one gathers something
  unfoldable pub try : ℕ → ℕ → ℕ → ℕ → Search → Tried
  try w lo zero l st = record { line = l; table = st }
  try w lo (suc n) l st =
      let st' = gather w l lo st in
      cond (eqb (length st'.queue) (length st.queue)) (try w lo n (suc l) st') (record { line = l; table = st' })

  -- the k lines chosen, of m, one after the other: the next frontier begins where the queue ended
  unfoldable pub walk : ℕ → ℕ → ℕ → Search → List ℕ
  walk m zero lo st = []
  walk m (suc k) lo st = let r = try (suc k) lo m 0 st in r.line ∷ walk m k (length st.queue) r.table

-- from the word of the nearest first state
module _ (from_state : List ℕ → ℕ → ℕ → ℕ → Search → Search) (N m : ℕ) (S : List ℕ) (D : List ℕ) where
  unfoldable pub forward_by : ℕ → Option (List ℕ)
  forward_by zero = none
  forward_by (suc k) = some (walk (from_state D) m k 0 (loop (put D (suc k)) S (blank N)))

  unfoldable pub forward : Option (List ℕ)
  forward = forward_by (nearest_word D S)

-- ---- the length of the chain

-- one more than a chain's length; 0 for none
abbrev pub word_of : Option (List ℕ) → ℕ
word_of none = 0
word_of (some c) = suc (length c)
