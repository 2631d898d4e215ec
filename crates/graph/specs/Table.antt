-- A search as it stands in two stretches of words: a table of distances by state, and the queue.
use Rattle.std.specs.Prelude.{cond, ℕ, zero, suc, eqb, get_or, set, replicate}
use mathlib.Core.List.{List, [], ◌∷◌, ◌++◌}
use Rattle.std.proofs.Math.Option.{Option, none, some}

-- ---- the table

-- `dist` has one word for each state, its distance and 1, or 0 for none; `queue` the states that have one, in the order in which they got it
pub record Search : Type 0 where
  pub dist : List ℕ
  pub queue : List ℕ

-- the word for a distance, and back
abbrev pub mark : Option ℕ → ℕ
mark none = 0
mark (some d) = suc d

abbrev pub unmark : ℕ → Option ℕ
unmark zero = none
unmark (suc d) = some d

-- the distance that a table's words give the state s
abbrev pub distance_in : List ℕ → ℕ → Option ℕ
distance_in D s = unmark (get_or D s 0)

-- nothing found, of N states
unfoldable pub blank : ℕ → Search
blank N = record { dist = replicate N 0; queue = [] }

-- the state s gets the word w and comes into the queue, unless it has a word
unfoldable pub push : ℕ → ℕ → Search → Search
push w s st = cond (eqb (get_or st.dist s 0) 0) (record { dist = set st.dist s w; queue = st.queue ++ (s ∷ []) }) st
