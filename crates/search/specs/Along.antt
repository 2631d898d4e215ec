-- The states where a chain's run begins, and the goal where it ends.
use Rattle.std.specs.Prelude.{ℕ}
use mathlib.Core.List.{List, map}
use Rattle.search.specs.Product.{Setting, state}

-- ---- runs of states

-- the accepting state at b
abbrev pub goal : Setting → ℕ → ℕ
goal S b = state S b S.done 0

-- the states from which a run begins: one of the positions K at a, with an empty stack
abbrev pub starting : Setting → ℕ → List ℕ → List ℕ
starting S a K = map (λ k. state S a k 0) K
