-- The order of chains in a graph, and that a search has one answer.
-- Claimed: `lex-antisym`, `answer-unique`, and `answer-members` (the first states may come in any order).
use Rattle.std.specs.Prelude.{◌≡◌, refl, ◌↔◌, ◌⊎◌, List, [], ◌∷◌, ℕ, ◌<◌, length}
use Rattle.std.proofs.Common.{ap, ap₂, inl, inr, arith}
use Rattle.std.proofs.Math.Option.{Option, none, some}
use Rattle.lists.specs.Listed.{◌∈◌}
use Rattle.graph.specs.Plain.{Lex, Answer}

-- ---- the order

lex-antisym : (c c' : List ℕ) → Lex c c' → Lex c' c → c ≡ c'
lex-antisym [] [] h k = refl
lex-antisym [] (b ∷ c') h k = absurd h
lex-antisym (a ∷ c) [] h k = absurd h
lex-antisym (a ∷ c) (b ∷ c') (inl h) (inl k) = absurd (omega arith)
lex-antisym (a ∷ c) (b ∷ c') (inl h) (inr k) = absurd (omega (arith, k.0))
lex-antisym (a ∷ c) (b ∷ c') (inr h) (inl k) = absurd (omega (arith, h.0))
lex-antisym (a ∷ c) (b ∷ c') (inr h) (inr k) = ap₂ {C = List ℕ} ◌∷◌ h.0 (lex-antisym c c' h.1 k.1)

-- ---- the answer

-- there is one: the order of predecessors, and the order inside sets of states, cannot change it
pub answer-unique : (goals : List ℕ) (succs : ℕ → ℕ → List ℕ) (m N : ℕ) (S : List ℕ) (o o' : Option (List ℕ))
    → Answer goals succs m N S o → Answer goals succs m N S o'
    → o ≡ o'
answer-unique goals succs m N S none none h k = refl
answer-unique goals succs m N S none (some c) h k = absurd (let (s, i, r) = k.1 in h s c i r)
answer-unique goals succs m N S (some c) none h k = absurd (let (s, i, r) = h.1 in k s c i r)
answer-unique goals succs m N S (some c) (some c') h k = ap {B = Option (List ℕ)} some (go (h.2 k.1.0 c' k.1.1 k.1.2) (k.2 h.1.0 c h.1.1 h.1.2))
  where
    go : (length c < length c') ⊎ ((length c ≡ length c') × Lex c c') → (length c' < length c) ⊎ ((length c' ≡ length c) × Lex c' c) → c ≡ c'
    go (inl a) (inl b) = absurd (omega arith)
    go (inl a) (inr b) = absurd (omega (arith, b.0))
    go (inr a) (inl b) = absurd (omega (arith, a.0))
    go (inr a) (inr b) = lex-antisym c c' a.1 b.1

-- and it goes by the members of the first states, in whatever order
pub answer-members : (goals : List ℕ) (succs : ℕ → ℕ → List ℕ) (m N : ℕ) (X Y : List ℕ) → ((s : ℕ) → (s ∈ X) ↔ (s ∈ Y)) → (o : Option (List ℕ))
    → Answer goals succs m N Y o → Answer goals succs m N X o
answer-members goals succs m N X Y e none h = λ s c i r. h s c ((e s).0 i) r
answer-members goals succs m N X Y e (some c) (short, (s, i, r), least) = (short, (s, (e s).1 i, r), λ s' c' j r'. least s' c' ((e s').0 j) r')
