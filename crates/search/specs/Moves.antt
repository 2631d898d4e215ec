-- Both kinds of step as nested loops over a setting: what the code does for one state.
use Rattle.std.specs.Prelude.{◌&&◌, ◌||◌, List, length, get_or}
use Rattle.std.proofs.Math.Bool.{cond}
use Prim.Native.Nat.{ℕ, suc, ◌+◌, ◌*◌, ◌-◌, ◌^◌}
use Rattle.std.proofs.Math.Dec.{eqb}
use Rattle.meaning.specs.Writing.{line_at}
use Rattle.automaton.specs.Shape.{leaves}
use Rattle.graph.specs.Plain.{memb}
use Rattle.graph.specs.Loops.{turns}
use Rattle.graph.specs.Table.{Search, push}
use Rattle.graph.specs.PhaseTwo.{put}
use Rattle.search.specs.Product.{Setting, state, place_of, pos_of, stack_of, cut, takes, pushed, popped, undoes}

module _ (S : Setting) where
  -- ---- backward: the states before t get the word d

  -- each stack that the node at c can leave and that is w when cut to depth e, gone back over by line i
  unfoldable pub over_stacks : ℕ → ℕ → ℕ → ℕ → ℕ → Search → Search
  over_stacks d c i e w =
      turns
      (λ x st.
      let v = x * S.radix ^ e + w in
      cond (undoes S (S.node c) i v) (push d (state S (line_at S.lines i).from c (popped S (S.node c) v)) st) st)
      0
      (S.radix ^ (leaves (S.node c) - e))

  -- each line into q of the kind of c
  unfoldable pub over_lines : ℕ → ℕ → ℕ → ℕ → ℕ → Search → Search
  over_lines d c q e w =
      turns
      (λ i st. cond (eqb (line_at S.lines i).to q && eqb (line_at S.lines i).kind (S.node c).kind) (over_stacks d c i e w st) st)
      0
      (length S.lines)

  -- each position that the one of t may come after
  unfoldable pub expand : ℕ → ℕ → Search → Search
  expand d t =
      let k = pos_of S t in
      let e = (S.node k).depth in
      turns (λ c st. cond (memb k (S.node c).follow) (over_lines d c (place_of S t) e (cut S e (stack_of S t)) st) st) 0 S.done

  -- ---- forward: the states to which line i leads from s are visited

  module _ {A : Type 0} (visit : ℕ → A → A) where
    -- each position that may come after that of s
    unfoldable pub over_next : ℕ → ℕ → A → A
    over_next i s =
        let n = S.node (pos_of S s) in
        turns (λ k st. cond (memb k n.follow) (visit (state S (line_at S.lines i).to k (cut S (S.node k).depth (pushed S n (stack_of S s) i))) st) st) 0 (suc S.done)

    unfoldable pub onward : ℕ → ℕ → A → A
    onward i s st = cond (eqb (line_at S.lines i).from (place_of S s) && takes S (S.node (pos_of S s)) (stack_of S s) i) (over_next i s st) st

-- ---- what a visit does

-- the state t is pushed if D gives it the word w; the word 0 is any
unfoldable pub visit : List ℕ → ℕ → ℕ → Search → Search
visit D w t st = cond (eqb w 0 || eqb (get_or D t 0) w) (push 1 t st) st

-- for phase two: as `from_state`
unfoldable pub from_state : Setting → List ℕ → ℕ → ℕ → ℕ → Search → Search
from_state S D w i s = onward S (put D w) i s
