-- `thinned::thin_key` meets its contract: its run is thinned by marks that no key before it has stamped so, and ends where its next word says.
-- Assumes nothing.
use mathlib.Core.Path.{◌≡◌, sym, subst}
use Prim.Native.Nat.{suc, ◌+◌}
use native.Mathlib.Omega.{arith}
use Rattle.sorted.specs.Sorting.{Kept}
use Rattle.states.specs.Spots.{boats_in}
use Rattle.thinned.specs.Thinning.{thin_end}
use Rattle.thinned.specs.Marks.{Ahead, Going, Made}
use Rattle.thinned.proofs.Running.{made-ahead, made-key, kept-key}
use Rattle.thinned.proofs.thin_key.Goals as goal

pub thin_run-end-requires-clause-ahead : goal.thin_run-end-requires-clause-ahead
thin_run-end-requires-clause-ahead c =
    let x = c.args in
    let (d, t) = c.requires.ground in
    let (under, made) = c.requires.k_bound in
    let run = c.run_of-run in
    let stamp : x.k + 1 ≡ suc x.k = omega arith in
    subst (λ n. Ahead x.table.marks n x.plan.places (x.k + 1) run.result.lo run.result.hi c.word-start.result x.work.now) (sym t.groups-are)
    (made-ahead d under made t.marks-at stamp run.ensures.0 run.ensures.1 c.word-start.ensures)

pub returns : goal.returns
returns c =
    let x = c.args in
    let (d, t) = c.requires.ground in
    let (under, made) = c.requires.k_bound in
    let run = c.run_of-run in
    let B = boats_in x.plan x.work.now in
    let at = x.table.at in
    let going = subst (λ n. Going x.table.sieve B x.table.marks n (x.k + 1) run.result.lo c.word-start.result run.result.hi c.thin_run-end.result x.work.now c.thin_run-end.new.work) t.groups-are c.thin_run-end.ensures in
    let stamp : x.k + 1 ≡ suc x.k = omega arith in
    let here : at + (x.k + 1) ≡ at + suc x.k = omega arith in
    let back = sym c.write.ensures in
    record {
      made = subst (Made x.table.sieve x.plan x.plan.bykind at B (suc x.k)) back (made-key d under made t.marks-at stamp run.ensures.0 run.ensures.1 c.word-start.ensures here going);
      kept = subst (Kept at (thin_end x.table.sieve x.plan at) x.work.now) back (kept-key d under made t.marks-at stamp run.ensures.0 run.ensures.1 c.word-start.ensures here going);
    }
