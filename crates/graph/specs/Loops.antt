-- Loops as definitions: over a list, and over a stretch of numbers. Their laws stand in proofs/, in the file of this name.
use mathlib.Core.List.{List, [], ◌∷◌}
use Prim.Native.Nat.{ℕ, zero, suc}

-- the members of the list in order
unfoldable pub loop : {A : Type 0} → (ℕ → A → A) → List ℕ → A → A
loop f [] a = a
loop f (x ∷ xs) a = loop f xs (f x a)

-- the n numbers from i on
unfoldable pub turns : {A : Type 0} → (ℕ → A → A) → ℕ → ℕ → A → A
turns f i zero a = a
turns f i (suc n) a = turns f (suc i) n (f i a)
