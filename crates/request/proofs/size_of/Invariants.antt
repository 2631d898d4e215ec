-- `request::size_of`: the size with so many of the keeps counted is at most the limit.
use Rattle.std.proofs.Common.{◌≡◌, suc, ◌*◌, ◌^◌, ◌≤◌}
use Rattle.request.specs.Layout.{largest}
use Rattle.request.proofs.size_of.Given as goal

abbrev pub invariant-loop : goal.invariant-loop
invariant-loop l = (l.size ≡ l.places * suc l.unfolded * l.radix ^ l.counter) × (l.size ≤ largest)
