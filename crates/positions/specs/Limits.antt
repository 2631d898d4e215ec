-- What code that reads a compiled program may rely on, from `Compiled` and the shape of every pattern's automaton.
-- Claimed: `compiled-depth`, `compiled-start`. Bounds that `Compiled` leaves open (kinds, pushes,
-- levels of commands without a test) are the second promise of `compile`. Assumes nothing.
use Rattle.std.specs.Prelude.{◌≡◌, Bool, true, false, List, [], ℕ, ◌≤◌}
use Rattle.std.proofs.Common.{zero-add, le_of_eq, arith}
use Rattle.meaning.specs.Pattern.{Pattern, unfolded, keeps}
use Rattle.lists.specs.Listed.{◌∈◌}
use Rattle.automaton.specs.Automaton.{Node, nodes, node_at}
use Rattle.automaton.specs.Shape.{deeper, leaves}
use Rattle.automaton.proofs.Shape.{Shape, shape, start-within}
use Rattle.positions.specs.Program.{members, depth_at, leaves_at, node_in, Compiled}

depth-leaves : (n : Node) → n.depth ≤ leaves n
depth-leaves n = go n.push
  where
    go : (t : Bool) → n.depth ≤ deeper t n.depth
    go true = omega arith
    go false = omega arith

module _ {p : Pattern} {a : List ℕ} {begin : ℕ} (h : Compiled p a begin) where
  abbrev node : ℕ → Node
  node = node_at (nodes p [])

  shaped : Shape (node_at (nodes p [])) (unfolded p) (keeps p)
  shaped = shape p [] (le_of_eq (zero-add (keeps p)))

  module _ (c : ℕ) (l : c ≤ unfolded p) where
    depth_is : depth_at a c ≡ (node c).depth
    unfolding node_in
    depth_is = (h.nodes-are c l).depth

    leaves-are : leaves_at a c ≡ leaves (node c)
    unfolding node_in
    leaves-are = λ i. deeper ((h.nodes-are c l).push i) ((h.nodes-are c l).depth i)

    -- no stack is deeper than the pattern's keeps, before a position and after it
    pub compiled-depth : (depth_at a c ≤ keeps p) × (leaves_at a c ≤ keeps p)
    compiled-depth = (omega (arith, depth_is, depth-leaves (node c), shaped.depth c), omega (arith, leaves-are, shaped.depth c))

  -- runs begin at positions outside of every keep
  pub compiled-start : (k : ℕ) → k ∈ members begin → (k ≤ unfolded p) × (depth_at a k ≡ 0)
  compiled-start k m = let w = (start-within p []).at k ((h.start_is k).0 m) in (w.0, omega (arith, depth_is k w.0, w.1))
