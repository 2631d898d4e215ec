-- `request::load_codes`: after i turns the first i words are the first i numbers.
use Rattle.std.proofs.Common.{◌≡◌, ◌≤◌, length, take}
use Rattle.lists.specs.Filled.{filled}
use Rattle.request.proofs.load_codes.Given as goal

abbrev pub invariant-loop-i : goal.invariant-loop-i
invariant-loop-i l = (length l.part ≡ length l.initial.part) × (l.part ≡ filled (take (length l.initial.part) l.numbers) l.i l.initial.part) × (length l.initial.part ≤ length l.numbers)
