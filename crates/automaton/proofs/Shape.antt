-- The shape of a pattern's automaton: what numbered states and code that walks its nodes may rely on.
-- Claimed: `shape` (followers are positions, never deeper than what the node leaves; stacks are no deeper than the
-- pattern's keeps; a test reads a level that the stack has), `start-within`, and of `Placed` `nodes-length`.
use Rattle.std.specs.Prelude.{◌≡◌, refl, List, [], ◌∷◌, ◌++◌, ℕ, suc, ◌+◌, ◌≤◌, ◌<◌, length}
use Rattle.std.proofs.Common.{sym, subst, ⊎_elim, le_of_eq, arith, length-append}
use mathlib.Core.List.Memᴰ
use Rattle.std.proofs.Math.Option.{Option, none, some}
use Rattle.std.proofs.Math.Decide.{dec_lt}
use Rattle.meaning.specs.Pattern.{Rule, Pattern, unfolded, keeps}
use Rattle.lists.specs.Listed.{◌∈◌, none_in, get_or-in}
use Rattle.automaton.specs.Automaton.{Node, Test, never, always, against, silent, test_of, level_of, nullable, heads, enter, compile, start, nodes, node_at}
use Rattle.automaton.proofs.Rounds.{rounds-nodes}
use Rattle.automaton.proofs.Scope.{Below, level-below}
use Rattle.automaton.proofs.Placed.{Placed, is-nothing, is-line, is-test, is-either, is-then, is-repeat, is-keep, is-counted, Within, within-heads, within-enter, within-inside, within-deeper, nodes-length, nodes-placed, end-silent, end-within, within-rounds}
use Rattle.automaton.specs.Shape.{leaves}

-- ---- what is claimed

-- the level that a test reads, where it reads one, is below d
abbrev pub Reads : Test → ℕ → Type 0
Reads never d = Unit {0}
Reads always d = Unit {0}
Reads (against r j) d = j < d

-- nodes with positions up to `done` and stacks no deeper than `deepest`
pub record Shape (node : ℕ → Node) (done deepest : ℕ) : Type 0 where
  pub end : node done ≡ silent
  pub goes : (c k : ℕ) → k ∈ (node c).follow → (c < done) × (k ≤ done) × ((node k).depth ≤ leaves (node c))
  pub depth : (c : ℕ) → leaves (node c) ≤ deepest
  pub reads : (c : ℕ) → Reads (node c).test (node c).depth

-- ---- of one node

reads-level : (r : Rule) (o : Option ℕ) (d : ℕ) → Below o d → Reads (test_of r o) d
reads-level r none d h = tt
reads-level r (some j) d h = h

module _ (node : ℕ → Node) (done : ℕ) where
  record Good (deepest : ℕ) (n : Node) : Type 0 where
    follows : Within node done n.follow (leaves n)
    depth : leaves n ≤ deepest
    reads : Reads n.test n.depth

module _ {node : ℕ → Node} {done : ℕ} where
  good-silent : {deepest : ℕ} → Good node done deepest silent
  good-silent = record { follows = record { at = λ k m. none_in m }; depth = omega arith; reads = tt }

  good-deeper : {m n : ℕ} {N : Node} → m ≤ n → Good node done m N → Good node done n N
  good-deeper h g = record { follows = g.follows; depth = omega (arith, h, g.depth); reads = g.reads }

  good-cons : {deepest : ℕ} {n x : Node} {ns : List Node} → Good node done deepest x → (n ∈ ns → Good node done deepest n) → n ∈ (x ∷ ns) → Good node done deepest n
  good-cons {deepest} g f m = ⊎_elim (λ e. subst (Good node done deepest) (sym e) g) f (Memᴰ.cases_cons m)

  -- ---- of every node of a pattern

  nodes-good : {p : Pattern} {b : ℕ} {scope K : List ℕ} → Placed node done p b scope K → Within node done K (length scope)
      → (n : Node) → n ∈ compile p b scope K → Good node done (length scope + keeps p) n
  nodes-good is-nothing d n m = good-cons good-silent none_in m
  nodes-good (is-line s) d n m = good-cons (record { follows = d; depth = omega arith; reads = tt }) none_in m
  nodes-good (is-test {r = r} {s = slot} {scope = scope} s) d n m =
      good-cons (record { follows = d; depth = omega arith; reads = reads-level r (level_of slot scope) (length scope) (level-below slot scope) }) none_in m
  nodes-good (is-either {p = p} {q = q} {b = b} {scope = scope} {K = K} hp hq) d n m =
      good-cons good-silent
      (λ i. ⊎_elim (λ j. good-deeper (omega arith) (nodes-good hp d n j)) (λ j. good-deeper (omega arith) (nodes-good hq d n j)) (Memᴰ.append_cases (compile p (suc b) scope K) i))
      m
  nodes-good (is-then {p = p} {q = q} {b = b} {scope = scope} {K = K} hp hq) d n m =
      good-cons good-silent
      (λ i.
      ⊎_elim
      (λ j. good-deeper (omega arith) (nodes-good hp (within-enter hq d) n j))
      (λ j. good-deeper (omega arith) (nodes-good hq d n j))
      (Memᴰ.append_cases (compile p (suc b) scope (enter q (suc b + unfolded p) K)) i))
      m
  nodes-good (is-repeat hp) d n m = good-cons good-silent (nodes-good hp (within-heads hp d) n) m
  nodes-good (is-keep {s = slot} {scope = scope} s hp) d n m =
      let inside : length (scope ++ (slot ∷ [])) ≡ suc (length scope) = omega (arith, length-append scope (slot ∷ [])) in
      good-cons (record { follows = within-deeper (le_of_eq inside) (within-enter hp (within-inside scope slot d)); depth = omega arith; reads = tt })
      (λ i. good-deeper (omega (arith, inside)) (nodes-good hp (within-inside scope slot d) n i))
      m
  nodes-good (is-counted {low = low} {high = high} {p = p} {b = b} {scope = scope} {K = K} h) d n m =
      good-cons good-silent
      (rounds-nodes (λ a. heads p a) (nullable p) (unfolded p) (λ a J. compile p a scope J) K low high (suc b)
      (λ m' n' a r. nodes-good (h m' n' a r) (within-rounds p h d m' n' a r) n))
      m

-- ---- of the whole automaton

module _ (p : Pattern) (scope : List ℕ) where
  abbrev node : ℕ → Node
  node = node_at (nodes p scope)

  pub shape : {deepest : ℕ} → length scope + keeps p ≤ deepest → Shape (node_at (nodes p scope)) (unfolded p) deepest
  shape {deepest} h = record {
    end = end-silent p scope (unfolded p) (le_of_eq refl);
    goes = goes;
    depth = λ c. omega (arith, h, (good c).depth);
    reads = λ c. (good c).reads;
  }
    where
      good : (c : ℕ) → Good node (unfolded p) (length scope + keeps p) (node c)
      good c = elim (dec_lt c (unfolded p)) [
        | yes l ↦ nodes-good (nodes-placed p scope) (end-within p scope) (node c) (get_or-in (nodes p scope) c silent (omega (arith, nodes-length p scope)))
        | no l ↦ subst (Good node (unfolded p) (length scope + keeps p)) (sym (end-silent p scope c (omega arith))) good-silent
      ]

      goes : (c k : ℕ) → k ∈ (node c).follow → (c < unfolded p) × (k ≤ unfolded p) × ((node k).depth ≤ leaves (node c))
      goes c k m = elim (dec_lt c (unfolded p)) [
        | yes l ↦ (l, ((good c).follows.at k m).0, ((good c).follows.at k m).1)
        | no l ↦ none_in (subst (λ n. k ∈ n.follow) (end-silent p scope c (omega arith)) m)
      ]

  pub start-within : Within (node_at (nodes p scope)) (unfolded p) (start p) (length scope)
  start-within = within-enter (nodes-placed p scope) (end-within p scope)
