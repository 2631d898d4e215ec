-- States taken up in amounts, one amount after the other, as a list of calls takes them up.
use mathlib.Core.List.{List, [], ◌∷◌}
use Prim.Native.Nat.{ℕ, ◌-◌}
use Rattle.graph.specs.Trace.{Reached}
use Rattle.graph.specs.Underway.{Underway, taken_by}

module _ (S : List ℕ) (m : ℕ) (trace : ℕ → ℕ → Reached → Reached) (succs : ℕ → ℕ → List ℕ) where
  unfoldable pub taken_each : List ℕ → Underway → Underway
  taken_each [] u = u
  taken_each (a ∷ rest) u = taken_each rest (taken_by S m trace succs a u)
