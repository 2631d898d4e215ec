-- The bytes left fall with each call, and the rounds left where the place stays: each byte counts for more than there are rounds of a
-- command.
use Rattle.std.proofs.Common.{◌+◌, ◌*◌, ◌-◌, length}
use Rattle.compiler.proofs.+compile_at_compile_rounds.Given as goal

abbrev pub decreases-compile_at : goal.decreases-compile_at
decreases-compile_at l = 32 * (length l.src.now - l.task.at)

abbrev pub decreases-compile_rounds : goal.decreases-compile_rounds
decreases-compile_rounds l = 32 * (length l.src.now - l.rounds.task.at) + (l.rounds.left + 1)
