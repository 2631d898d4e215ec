-- The loops of `Moves` in specs/ do what the lists of successors and predecessors say.
-- Claimed: `expand-law` (three loops push the predecessors), for phase one; `onward-law` (one loop visits the successors by a line, whatever a
-- visit does), for phase two with `put` (`from-law`) and for the checker with `push 1` (`push-law`).
use Rattle.std.specs.Prelude.{◌≡◌, refl, ◌&&◌, List, map, length}
use Rattle.std.proofs.Common.{sym, ◌∙◌}
use Rattle.std.proofs.Math.Path.{ap}
use Rattle.std.proofs.Math.Bool.{Bool, cond}
use Prim.Native.Nat.{ℕ, suc, ◌+◌, ◌*◌, ◌-◌, ◌^◌}
use Rattle.std.proofs.Math.Dec.{eqb, eqb-suc-zero}
use Rattle.meaning.specs.Writing.{line_at}
use Rattle.automaton.specs.Shape.{leaves}
use Rattle.graph.specs.Plain.{memb, filt, flat, count}
use Rattle.graph.specs.Loops.{loop}
use Rattle.graph.proofs.Loops.{loop-map, loop-filt, loop-when, loop-count, loop-same, loop-for}
use Rattle.graph.specs.Table.{Search, push}
use Rattle.graph.specs.PhaseTwo.{put}
use Rattle.search.specs.Product.{Setting, state, place_of, pos_of, stack_of, cut, takes, pushed, popped, succs, uncut, undoes, lines_into, sources, preds}
use Rattle.search.specs.Moves.{visit, from_state}
use Rattle.search.specs.Moves

module _ (S : Setting) where
  -- ---- backward: the states before t get the word d

  abbrev over_stacks : ℕ → ℕ → ℕ → ℕ → ℕ → Search → Search
  over_stacks = Moves.over_stacks S

  abbrev over_lines : ℕ → ℕ → ℕ → ℕ → ℕ → Search → Search
  over_lines = Moves.over_lines S

  abbrev expand : ℕ → ℕ → Search → Search
  expand = Moves.expand S

  pub stacks-law : (d c i e w : ℕ) (st : Search) → loop (push d) (sources S c i (uncut S (S.node c) e w)) st ≡ over_stacks d c i e w st
  unfolding Moves.over_stacks
  stacks-law d c i e w st =
      let n = S.radix ^ (leaves (S.node c) - e) in
      let raise : ℕ → ℕ = λ x. x * S.radix ^ e + w in
      let source : ℕ → ℕ = λ v. state S (line_at S.lines i).from c (popped S (S.node c) v) in
      let ok = undoes S (S.node c) i in
      loop-map (push d) source (filt ok (map raise (count 0 n))) st
      ∙ (loop-filt (λ v. push d (source v)) ok (map raise (count 0 n)) st
      ∙ (loop-map (λ v b. cond (ok v) (push d (source v) b) b) raise (count 0 n) st
      ∙ loop-count _ 0 n st))

  lines-law : (d c q e w : ℕ) (st : Search)
      → loop (push d) (flat (λ i. sources S c i (uncut S (S.node c) e w)) (lines_into S q (S.node c).kind)) st ≡ over_lines d c q e w st
  unfolding Moves.over_lines
  lines-law d c q e w st = loop-for (push d) _ _ (λ i. over_stacks d c i e w) (λ i b. stacks-law d c i e w b) (length S.lines) st

  pub expand-law : (d t : ℕ) (st : Search) → loop (push d) (preds S t) st ≡ expand d t st
  unfolding preds Moves.expand
  expand-law d t st =
      let e = (S.node (pos_of S t)).depth in
      let w = cut S e (stack_of S t) in
      loop-for (push d) _ _ (λ c. over_lines d c (place_of S t) e w) (λ c b. lines-law d c (place_of S t) e w b) S.done st

  -- ---- forward: the states to which line i leads from s are visited

  module _ {A : Type 0} (visit : ℕ → A → A) where
    abbrev over_next : ℕ → ℕ → A → A
    over_next = Moves.over_next S visit

    abbrev onward : ℕ → ℕ → A → A
    onward = Moves.onward S visit

    pub onward-law : (i s : ℕ) (st : A) → loop visit (succs S s i) st ≡ onward i s st
    unfolding succs Moves.onward Moves.over_next
    onward-law i s st =
        let n = S.node (pos_of S s) in
        let after : ℕ → ℕ = λ k. state S (line_at S.lines i).to k (cut S (S.node k).depth (pushed S n (stack_of S s) i)) in
        let may : ℕ → Bool = λ k. memb k n.follow in
        let goes = eqb (line_at S.lines i).from (place_of S s) && takes S n (stack_of S s) i in
        let ks = count 0 (suc S.done) in
        loop-when visit goes (map after (filt may ks)) st
        ∙ ap (λ z. cond goes z st) (loop-map visit after (filt may ks) st ∙ (loop-filt (λ k. visit (after k)) may ks st ∙ loop-count _ 0 (suc S.done) st))

-- ---- what a visit does

pub visit-any : (D : List ℕ) (t : ℕ) (st : Search) → visit D 0 t st ≡ push 1 t st
unfolding visit
visit-any D t st = refl

pub visit-put : (D : List ℕ) (k t : ℕ) (st : Search) → visit D (suc k) t st ≡ put D (suc k) t st
unfolding visit put
visit-put D k t st = rw (eqb-suc-zero k)

pub from-law : (S : Setting) (D : List ℕ) (w i s : ℕ) (st : Search) → loop (put D w) (succs S s i) st ≡ from_state S D w i s st
unfolding from_state
from-law S D w i s st = onward-law S (put D w) i s st

-- what the code does with a word wanted is that; and with 0 it pushes every successor
pub onward-from : (S : Setting) (D : List ℕ) (k i s : ℕ) (st : Search) → onward S (visit D (suc k)) i s st ≡ from_state S D (suc k) i s st
unfolding from_state
onward-from S D k i s st =
    sym (onward-law S (visit D (suc k)) i s st)
    ∙ (loop-same (visit D (suc k)) (put D (suc k)) (visit-put D k) (succs S s i) st
    ∙ onward-law S (put D (suc k)) i s st)

pub push-law : (S : Setting) (D : List ℕ) (i s : ℕ) (st : Search) → onward S (visit D 0) i s st ≡ loop (push 1) (succs S s i) st
push-law S D i s st = sym (onward-law S (visit D 0) i s st) ∙ loop-same (visit D 0) (push 1) (visit-any D) (succs S s i) st
