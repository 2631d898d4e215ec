-- The states of a record and an automaton as numbers, and the steps between them, as plain definitions that compute.
-- A state is a place, a position and a stack of boat numbers: ((place · (done + 1)) + position) · R^deepest + stack.
-- `Steps` proves that both kinds of step agree, `Along` what a run of them says; the code's loops equal `succs` and `preds`.
use Rattle.std.specs.Prelude.{Bool, true, false, ◌&&◌, List, map, ℕ, suc, ◌+◌, ◌*◌, ◌-◌, ◌^◌, ◌/◌, ◌%◌, eqb, length}
use Rattle.meaning.specs.Record.{Line}
use Rattle.meaning.specs.Writing.{line_at}
use Rattle.meaning.specs.Language.{Compared, meets}
use Rattle.lists.specs.Listed.{when}
use Rattle.automaton.specs.Automaton.{Node, Test, never, always, against}
use Rattle.automaton.specs.Shape.{leaves}
use Rattle.graph.specs.Plain.{memb, filt, flat, count}
use Rattle.search.specs.Digits.{entry, push_on, pop_off}

-- what a search goes by: the lines, the number of each line's boat (below `radix`), what comparing two numbers tells,
-- and an automaton whose stacks are at most `deepest` deep
pub record Setting : Type 0 where
  pub lines : List Line
  pub code : ℕ → ℕ
  pub tells : ℕ → ℕ → Compared
  pub node : ℕ → Node
  pub done : ℕ
  pub radix : ℕ
  pub deepest : ℕ

module _ (S : Setting) where
  -- ---- a state

  -- how many stacks there are
  unfoldable pub stacks : ℕ
  stacks = S.radix ^ S.deepest

  -- the state at place q and position k with the stack v
  unfoldable pub state : ℕ → ℕ → ℕ → ℕ
  state q k v = (q * suc S.done + k) * stacks + v

  unfoldable pub place_of : ℕ → ℕ
  place_of s = s / stacks / suc S.done

  unfoldable pub pos_of : ℕ → ℕ
  pos_of s = s / stacks % suc S.done

  unfoldable pub stack_of : ℕ → ℕ
  stack_of s = s % stacks

  -- ---- a node and a line

  -- a stack cut to depth e
  abbrev pub cut : ℕ → ℕ → ℕ
  cut e v = v % S.radix ^ e

  -- the test of the boat x against the stack v
  abbrev pub passes : Test → ℕ → ℕ → Bool
  passes never v x = false
  passes always v x = true
  passes (against r j) v x = meets r (S.tells x (entry S.radix v j))

  -- does the node take line i, with the stack v?
  abbrev pub takes : Node → ℕ → ℕ → Bool
  takes n v i = eqb (line_at S.lines i).kind n.kind && passes n.test v (S.code i)

  -- the stack that it leaves; and the stack before it
  abbrev pub pushed : Node → ℕ → ℕ → ℕ
  pushed n v i = push_on S.radix n.push n.depth v (S.code i)

  abbrev pub popped : Node → ℕ → ℕ
  popped n v = pop_off S.radix n.push n.depth v

  -- ---- forward

  -- the positions that may come after a node
  abbrev pub following : Node → List ℕ
  following n = filt (λ k. memb k n.follow) (count 0 (suc S.done))

  -- the states to which line i leads from s
  unfoldable pub succs : ℕ → ℕ → List ℕ
  succs s i =
      let l = line_at S.lines i in
      let n = S.node (pos_of s) in
      let v = stack_of s in
      when (eqb l.from (place_of s) && takes n v i) (map (λ k. state l.to k (cut (S.node k).depth (pushed n v i))) (following n))

  -- ---- backward

  -- the stacks that the node can leave and that are w when cut to depth e
  abbrev pub uncut : Node → ℕ → ℕ → List ℕ
  uncut n e w = map (λ x. x * S.radix ^ e + w) (count 0 (S.radix ^ (leaves n - e)))

  -- is v what the node leaves, by line i, of the stack before it, and does it take the line with that stack?
  abbrev pub undoes : Node → ℕ → ℕ → Bool
  undoes n i v = let u = popped n v in eqb (pushed n u i) v && passes n.test u (S.code i)

  -- the positions that k may come after, and the lines of a kind that lead to q
  abbrev pub positions : ℕ → List ℕ
  positions k = filt (λ c. memb k (S.node c).follow) (count 0 S.done)

  abbrev pub lines_into : ℕ → ℕ → List ℕ
  lines_into q kind = filt (λ i. eqb (line_at S.lines i).to q && eqb (line_at S.lines i).kind kind) (count 0 (length S.lines))

  -- the states at position c from which line i leaves one of the stacks
  abbrev pub sources : ℕ → ℕ → List ℕ → List ℕ
  sources c i vs = map (λ v. state (line_at S.lines i).from c (popped (S.node c) v)) (filt (undoes (S.node c) i) vs)

  -- the states from which some line leads to t
  unfoldable pub preds : ℕ → List ℕ
  preds t =
      let k = pos_of t in
      let e = (S.node k).depth in
      flat (λ c. flat (λ i. sources c i (uncut (S.node c) e (cut e (stack_of t)))) (lines_into (place_of t) (S.node c).kind)) (positions k)
