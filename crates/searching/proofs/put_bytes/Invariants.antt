-- `put_bytes` meets its contract: after i turns the first i words are the pattern's bytes. Assumes nothing.
use mathlib.Core.Path.{◌≡◌}
use Rattle.lists.specs.Filled.{filled}
use Rattle.searching.proofs.put_bytes.Given as goal

abbrev pub invariant-loop-i : goal.invariant-loop-i
invariant-loop-i l = l.part ≡ filled l.pattern l.i l.initial.part
