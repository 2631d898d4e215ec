-- `starts::write_lengths` meets its contract: after i turns the first i words are the lengths of the first i places. Assumes nothing.
use mathlib.Core.Path.{◌≡◌, sym, ap, ◌∙◌}
use mathlib.Core.List.{map}
use Prim.Native.Nat.{ℕ, ◌<◌}
use native.Mathlib.Omega.{arith}
use lib.ListN.{length, get_or, length-map}
use Rattle.area.specs.Area.{stretch}
use Rattle.lists.specs.Filled.{fill-next}
use Rattle.starts.specs.Highest.{all-below}
use Rattle.starts.specs.Lengths.{length_at}
use Rattle.starts.proofs.Theorems.{entry_in, entry-map}
use Rattle.starts.proofs.write_lengths.Goals as goal

pub length_at-requires-clause-from_lt_places : goal.length_at-requires-clause-from_lt_places
length_at-requires-clause-from_lt_places c =
    rw c.from.ensures (all-below c.args.plan.places c.args.starts.now c.requires.starts_value.0 _ (entry_in c.args.starts.now c.loop-i.i c.loop-i-test.true))

pub loop-i-preserved : goal.loop-i-preserved
loop-i-preserved c =
    let f : ℕ → ℕ = length_at c.args.plan c.args.begin (stretch c.args.plan.base c.args.plan.size c.args.work.now) in
    let less : c.loop-i.i < length c.args.starts.now = c.loop-i-test.true in
    let word : c.length_at.result ≡ get_or (map f c.args.starts.now) c.loop-i.i 0 = c.length_at.ensures ∙ (ap f c.from.ensures ∙ sym (entry-map f c.args.starts.now c.loop-i.i less)) in
    rw (c.loop-i.invariant, word) (fill-next (map f c.args.starts.now) c.args.lengths.now c.loop-i.i (omega (arith, less, length-map c.args.starts.now f)) (omega (arith, less, c.requires.starts_value.1)))
