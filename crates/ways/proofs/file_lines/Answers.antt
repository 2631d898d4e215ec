-- `ways::file_lines` meets its contract: the tables that every search has, and those that some have after them. Assumes nothing.
use mathlib.Core.Path.{sym, ◌∙◌, subst}
use Prim.Native.Nat.{◌≤◌}
use native.Mathlib.Omega.{arith}
use lib.ListN.{length}
use borrow.Author.Tests.{leb-true}
use Rattle.request.specs.Layout.{Laid, filed_end}
use Rattle.sorted.proofs.Turns.{kept-take, kept-wider, kept_then}
use Rattle.ways.specs.Ways.{Told}
use Rattle.ways.proofs.file_lines.Goals as goal

pub thin_others-requires : goal.thin_others-requires
thin_others-requires c =
    let plan = c.args.plan in
    (subst (Laid plan) (sym c.file_basic.ensures.kept.long) c.requires.laid, subst (Told plan) (sym (kept-take c.file_basic.ensures.kept plan.base (omega (arith, c.requires.laid.kinds-at)))) c.requires.told, c.file_basic.ensures.basic)

pub returns-then-plan-clause-kept : goal.returns-then-plan-clause-kept
returns-then-plan-clause-kept c =
    let room : filed_end c.args.plan ≤ length c.args.work.now = leb-true (filed_end c.args.plan) (length c.args.work.now) (sym c.requires.laid.filed-is ∙ c.if-plan.true) in
    kept_then (kept-wider _ _ (omega arith) room c.file_basic.ensures.kept) (kept-wider _ _ (omega (arith, c.requires.laid.boats-at, c.requires.laid.thin_at, c.requires.laid.stamps-at)) (omega (arith, c.file_basic.ensures.kept.long)) c.thin_others.ensures.kept)
