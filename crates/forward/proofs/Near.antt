-- The nearest first state, turn by turn. Assumes nothing.
use mathlib.Core.Path.{◌≡◌, ◌∙◌}
use mathlib.Core.List.{List}
use Prim.Native.Nat.{ℕ}
use lib.ListN.{get_or}
use borrow.Author.Tests.{eq-eqb, ne_eqb}
use Rattle.positions.specs.Program.{bit_of}
use Rattle.request.specs.declared.Plan.{Plan}
use Rattle.graph.specs.PhaseTwo.{lesser_word}
use Rattle.search.specs.Front.{state_in}
use Rattle.forward.specs.Firsts.{near_turn}

module _ (plan : Plan) (D : List ℕ) (mask a k v : ℕ) where
  pub near-passed : (bit_of mask k ≡ 1 → ⊥) → v ≡ near_turn plan D mask a k v
  unfolding near_turn
  near-passed n = rw (ne_eqb _ _ n)

  pub near-taken : bit_of mask k ≡ 1 → (s w r : ℕ) → s ≡ state_in plan a k 0 → w ≡ get_or D s 0 → r ≡ lesser_word v w → r ≡ near_turn plan D mask a k v
  unfolding near_turn
  near-taken h s w r es ew er = er ∙ rw (eq-eqb _ _ h, ew, es)
