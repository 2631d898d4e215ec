-- `thinned::clear_marks` meets its contract: no key is done, no mark has a stamp, and the words begin after the keys' words. Assumes nothing.
use mathlib.Core.Path.{◌≡◌, sym, ◌∙◌, subst}
use Prim.Native.Nat.{◌+◌, ◌-◌}
use native.Mathlib.Omega.{arith}
use lib.ListN.{set}
use Rattle.sorted.specs.Sorting.{lines_from, Kept}
use Rattle.sorted.specs.declared.Order.TheVariants as Order
use Rattle.states.specs.Spots.{boats_in}
use Rattle.thinned.specs.Thinning.{groups, thin_end}
use Rattle.thinned.specs.Marks.{Made}
use Rattle.thinned.proofs.Running.{made_none, none_kept}
use Rattle.thinned.proofs.clear_marks.Goals as goal

pub returns : goal.returns
returns c =
    let plan = c.args.plan in
    let table = c.args.table in
    let (d, t) = c.requires in
    let u = table.marks - plan.lines in
    let eu : u ≡ lines_from Order.Kind plan table.at = omega (arith, t.marks-at) in
    let en : table.groups + table.groups ≡ groups table.sieve plan + groups table.sieve plan = λ i. t.groups-are i + t.groups-are i in
    let head : table.at + 0 ≡ table.at = omega arith in
    let back = sym (c.write.ensures ∙ (λ i. set (c.clear_stretch.ensures i) (head i) u)) in
    record {
      made = subst (Made table.sieve plan plan.bykind table.at (boats_in plan c.args.work.now) 0) back (made_none d t.marks-at en eu (boats_in plan c.args.work.now));
      kept = subst (Kept table.at (thin_end table.sieve plan table.at) c.args.work.now) back (none_kept d t.marks-at en eu);
    }
