-- A state expanded, with how each state before it is reached: the line, and the state that is expanded.
use Rattle.std.specs.Prelude.{cond, ◌&&◌, eqb}
use Prim.Native.Nat.{ℕ}
use Rattle.std.proofs.Math.ListN.{length}
use Rattle.meaning.specs.Writing.{line_at}
use Rattle.graph.specs.Plain.{memb}
use Rattle.graph.specs.Loops.{turns}
use Rattle.graph.specs.Trace.{Reached, tag_of, tagged}
use Rattle.search.specs.Product.{Setting, place_of, pos_of, stack_of, cut}
use Rattle.search.specs.Moves.{over_stacks}

module _ (S : Setting) where
  -- each line into q of the kind of c: the states that it finds are reached by it, from t
  unfoldable pub over_traced : ℕ → ℕ → ℕ → ℕ → ℕ → ℕ → Reached → Reached
  over_traced d t c q e w =
      turns
      (λ i x. cond (eqb (line_at S.lines i).to q && eqb (line_at S.lines i).kind (S.node c).kind) (tagged (tag_of i t) (over_stacks S d c i e w) x) x)
      0
      (length S.lines)

  -- each position that the one of t may come after: the states before t get the word d
  unfoldable pub trace : ℕ → ℕ → Reached → Reached
  trace d t =
      let k = pos_of S t in
      let e = (S.node k).depth in
      turns (λ c x. cond (memb k (S.node c).follow) (over_traced d t c (place_of S t) e (cut S e (stack_of S t)) x) x) 0 S.done
