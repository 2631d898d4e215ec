-- `thinned::thin_lines` meets its contract: the keys below k are done. Assumes nothing.
use mathlib.Core.Path.{◌≡◌, sym, ap, ◌∙◌, subst₂}
use mathlib.Core.List.{List}
use Prim.Native.Nat.{ℕ, suc, ◌+◌, ◌≤◌}
use native.Mathlib.Omega.{arith}
use lib.ListN.{length}
use Rattle.request.specs.Layout.{Laid}
use Rattle.request.specs.declared.Plan.{Plan}
use Rattle.sorted.specs.Sorting.{Sorted}
use Rattle.sorted.specs.Runs.{table-behind, kinds-end}
use Rattle.sorted.specs.declared.Order.TheVariants as Order
use Rattle.sorted.proofs.Turns.{kept_then}
use Rattle.states.specs.declared.Sieve.{Sieve}
use Rattle.thinned.specs.declared.Table.{Table}
use Rattle.thinned.specs.Thinning.{thin_at, thin_end, FromPlaces, Thinned}
use Rattle.thinned.specs.Marks.{Tabled, Ground, Made}
use Rattle.thinned.specs.Runs.{boats-kept, stamps-are, stamps-small, base-before}
use Rattle.thinned.proofs.Running.{ground-kept}
use Rattle.thinned.proofs.Sieves.{at-past, end-few}
use Rattle.thinned.proofs.thin_lines.Goals as goal

-- the table of the sieve, by the lines sorted by kind
module _ (plan : Plan) (sieve : Sieve) (table : Table) (is : (table.sieve ≡ sieve) × Tabled plan table) where
  at-is : table.at ≡ thin_at sieve plan
  at-is = is.1.at-is ∙ ap (λ (z : Sieve). thin_at z plan) is.0

  ground : (w : List ℕ) → Laid plan (length w) → Sorted Order.Kind plan plan.bykind w × FromPlaces plan w × (thin_end sieve plan (thin_at sieve plan) ≤ length w)
      → Ground table.sieve plan plan.bykind table.at w
  ground w laid (sorted, places, room) =
      let end : thin_end table.sieve plan table.at ≡ thin_end sieve plan (thin_at sieve plan) = λ i. thin_end (is.0 i) plan (at-is i) in
      record {
        laid = laid;
        sorted = sorted;
        places = places;
        past = omega (arith, table-behind laid Order.Kind);
        apart = omega (arith, at-is, at-past plan (stamps-are laid) sieve, kinds-end laid, laid.thin_at);
        room = omega (arith, end, room);
        small = omega (arith, end, end-few plan (stamps-are laid) (stamps-small laid) laid.few-places sieve);
      }

pub table_of-table-requires : goal.table_of-table-requires
table_of-table-requires c = (stamps-are c.requires.laid, stamps-small c.requires.laid, c.requires.laid.few-places)

pub clear_marks-requires : goal.clear_marks-requires
clear_marks-requires c = (ground c.args.plan c.args.sieve _ c.table_of-table.ensures c.args.work.now c.requires.laid c.requires.sorted, c.table_of-table.ensures.1)

pub thin_key-requires-clause-ground : goal.thin_key-requires-clause-ground
thin_key-requires-clause-ground c =
    (ground-kept (ground c.args.plan c.args.sieve _ c.table_of-table.ensures c.args.work.now c.requires.laid c.requires.sorted) c.loop-k.invariant.kept, c.table_of-table.ensures.1)

-- the marks are made by the boats' table as it stands there now
pub loop-k-preserved : goal.loop-k-preserved
loop-k-preserved c =
    let plan = c.args.plan in
    let table = c.table_of-table.result in
    let v = c.thin_key.new.work in
    let is = at-is plan c.args.sieve table c.table_of-table.ensures in
    let past : plan.base ≤ table.at = omega (arith, is, at-past plan (stamps-are c.requires.laid) c.args.sieve, base-before c.requires.laid) in
    let next : suc c.loop-k.k ≡ c.loop-k.k + 1 = omega arith in
    record {
      kept = kept_then c.loop-k.invariant.kept c.thin_key.ensures.kept;
      made = subst₂ (λ (B : ℕ → ℕ) (n : ℕ). Made table.sieve plan plan.bykind table.at B n v) (sym (boats-kept plan c.thin_key.ensures.kept past)) next c.thin_key.ensures.made;
    }

pub returns-clause-thinned : goal.returns-clause-thinned
returns-clause-thinned c =
    let plan = c.args.plan in
    let runs : Thinned c.table_of-table.result.sieve plan plan.bykind c.table_of-table.result.at c.loop-k.work = λ k h. c.loop-k.invariant.made.runs k (omega (arith, h, c.keys_of-k-end.ensures)) in
    subst₂ (λ (z : Sieve) (at : ℕ). Thinned z plan plan.bykind at c.loop-k.work) c.table_of-table.ensures.0 (at-is plan c.args.sieve _ c.table_of-table.ensures) runs
