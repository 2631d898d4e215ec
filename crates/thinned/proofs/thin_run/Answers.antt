-- `thinned::thin_run` meets its contract: each word read leaves the run under way, one word on. Assumes nothing.
use mathlib.Core.Path.{sym, subst}
use Prim.Native.Nat.{ℕ, ◌<◌}
use native.Mathlib.Omega.{arith}
use Rattle.states.specs.Spots.{boats_in}
use Rattle.thinned.specs.Marks.{Read}
use Rattle.thinned.specs.Runs.{boats-kept}
use Rattle.thinned.specs.Thinning.{group, Sifts}
use Rattle.thinned.proofs.Marking.{going-none, going-read, next_low, read_low}
use Rattle.thinned.proofs.thin_run.Goals as goal

pub loop-p-init : goal.loop-p-init
loop-p-init c = going-none c.requires.ahead

pub thin_word-next-requires-clause-at_le_i : goal.thin_word-next-requires-clause-at_le_i
thin_word-next-requires-clause-at_le_i c =
    let ahead = c.requires.ahead in
    let so_far = c.loop-p.invariant in
    let low = read_low ahead so_far c.loop-p-test.true c.word-x.ensures in
    (omega (arith, c.requires.laid.2, so_far.rising), next_low ahead so_far c.loop-p-test.true, low.0, low.1, ahead.stamp-low)

pub loop-p-preserved : goal.loop-p-preserved
loop-p-preserved c =
    let x = c.args in
    let boats = boats-kept x.plan c.loop-p.invariant.kept c.requires.laid.3 in
    let read = subst (λ (B : ℕ → ℕ). Read x.table.sieve B x.table.marks x.table.groups x.stamp c.word-x.result c.loop-p.next c.loop-p.work c.thin_word-next.result c.thin_word-next.new.work) boats c.thin_word-next.ensures.0 in
    let sifts = subst (λ (B : ℕ → ℕ). Sifts x.table.sieve B x.plan c.word-x.result) boats c.thin_word-next.ensures.1 in
    let low = subst (group x.table.sieve (boats_in x.plan x.work.now) c.word-x.result <◌) (sym c.requires.laid.1.groups-are) sifts.group-low in
    going-read c.requires.ahead c.loop-p.invariant c.loop-p-test.true c.word-x.ensures low sifts.kin-low read
