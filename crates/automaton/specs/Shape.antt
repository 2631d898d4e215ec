-- What a test reads of the stack, and what a position leaves of it, by the numbers of a node.
use Rattle.std.specs.Prelude.{Bool, true, false, ℕ, suc}
use Rattle.automaton.specs.Automaton.{Node}

abbrev pub deeper : Bool → ℕ → ℕ
deeper true d = suc d
deeper false d = d

-- how deep the stack is after a node
abbrev pub leaves : Node → ℕ
leaves n = deeper n.push n.depth
