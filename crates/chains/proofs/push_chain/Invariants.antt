-- `chains::push_chain`: each turn adds at most 6 bytes to the line.
use Rattle.std.proofs.Common.{◌+◌, ◌*◌, ◌≤◌}
use Rattle.arrayvec.specs.ArrayString.{array_string_len}
use Rattle.chains.proofs.push_chain.Given as goal

abbrev pub invariant-loop-n : goal.invariant-loop-n
invariant-loop-n l = array_string_len l.line ≤ array_string_len l.fn.line + 6 * l.n-index
