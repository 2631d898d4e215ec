-- `holding::pattern_bytes`: the first i bytes are the pattern's.
use Rattle.std.proofs.Common.{ℕ, ◌≡◌, ◌+◌, ◌%◌, ◌<◌, get_or}
use Rattle.holding.proofs.pattern_bytes.Given as goal

abbrev pub invariant-loop-i : goal.invariant-loop-i
invariant-loop-i l = (k : ℕ) → k < l.i → get_or l.front k 0 ≡ get_or l.work (17 + k) 0 % 256
