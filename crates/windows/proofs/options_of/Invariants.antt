-- `windows::options_of`: the windows of the first k kinds are those of the words.
use Rattle.std.proofs.Common.{ℕ, ◌≡◌, ◌<◌, length, get_or}
use Rattle.windows.specs.declared.Window.{Window}
use Rattle.windows.specs.Promise.{open_of, close_of}
use Rattle.windows.proofs.options_of.Given as goal

abbrev pub invariant-loop-k : goal.invariant-loop-k
invariant-loop-k l = (length l.window-items ≡ 15) × ((i : ℕ) → i < l.k → ◌≡◌ {A = Window} (get_or l.window-items i (record { opens = 0; closes = 0 })) (record { opens = open_of l.words i; closes = close_of l.words i }))
