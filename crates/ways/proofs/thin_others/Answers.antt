-- `ways::thin_others` meets its contract: each table stands after those before, which stay. Assumes nothing.
use mathlib.Core.Path.{sym, subst}
use Prim.Native.Nat.{◌≤◌}
use native.Mathlib.Omega.{arith}
use lib.ListN.{length}
use Rattle.request.specs.Layout.{Laid, filed_end}
use Rattle.sorted.proofs.Turns.{kept-take, kept-wider, kept_then}
use Rattle.states.specs.declared.Sieve.TheVariants as Sieve
use Rattle.thinned.specs.Runs.{stamps-are, stamps-small, filed-end, base-before}
use Rattle.thinned.specs.Thinning.{thin_at, thin_end}
use Rattle.ways.specs.Ways.{Told}
use Rattle.ways.proofs.Filing.{others-asked, no_room, basic-stays, said-stays}
use Rattle.ways.proofs.thin_others.Goals as goal

pub thin_end-requires : goal.thin_end-requires
thin_end-requires c = (stamps-are c.requires.0, stamps-small c.requires.0, c.requires.0.few-places)

pub thin_more-requires-clause-sorted : goal.thin_more-requires-clause-sorted
thin_more-requires-clause-sorted c = (others-asked Sieve.Classes c.requires.0 c.requires.1 c.requires.2 (omega (arith, c.thin_end.ensures, c.if-work-thin_end.false))).1

pub thin_end-requires-2 : goal.thin_end-requires-2
thin_end-requires-2 c = (stamps-are c.requires.0, stamps-small c.requires.0, c.requires.0.few-places)

pub returns-then-work-thin_end-2-clause-filed : goal.returns-then-work-thin_end-2-clause-filed
returns-then-work-thin_end-2-clause-filed c =
    record {
      basic = basic-stays c.requires.0 Sieve.Classes (omega (arith, c.thin_end.ensures, c.if-work-thin_end.false)) (omega (arith, filed-end c.requires.0)) c.thin_more.ensures.kept c.requires.2;
      classes = c.thin_more.ensures.thinned;
      sisters = no_room Sieve.Sisters (omega (arith, c.thin_end-2.ensures, c.if-work-thin_end-2.true));
    }

pub returns-then-work-thin_end-2-clause-kept : goal.returns-then-work-thin_end-2-clause-kept
returns-then-work-thin_end-2-clause-kept c = kept-wider _ _ (omega (arith, filed-end c.requires.0)) (omega (arith, c.thin_end.ensures, c.if-work-thin_end.false)) c.thin_more.ensures.kept

pub thin_more-requires-2-clause-sorted : goal.thin_more-requires-2-clause-sorted
thin_more-requires-2-clause-sorted c =
    let plan = c.args.plan in
    let kept = c.thin_more.ensures.kept in
    let same = kept-take kept plan.base (omega (arith, base-before c.requires.0, filed-end c.requires.0, stamps-are c.requires.0)) in
    let basic = basic-stays c.requires.0 Sieve.Classes (omega (arith, c.thin_end.ensures, c.if-work-thin_end.false)) (omega (arith, filed-end c.requires.0)) c.thin_more.ensures.kept c.requires.2 in
    (others-asked Sieve.Sisters (subst (Laid plan) (sym kept.long) c.requires.0) (subst (Told plan) (sym same) c.requires.1) basic (omega (arith, c.thin_end-2.ensures, c.if-work-thin_end-2.false))).1

pub returns-clause-filed : goal.returns-clause-filed
returns-clause-filed c =
    let plan = c.args.plan in
    let past : filed_end plan ≤ thin_at Sieve.Sisters plan = omega (arith, filed-end c.requires.0) in
    let room : thin_end Sieve.Sisters plan (thin_at Sieve.Sisters plan) ≤ length c.thin_more.new.work = omega (arith, c.thin_end-2.ensures, c.if-work-thin_end-2.false) in
    let laid = subst (Laid plan) (sym c.thin_more.ensures.kept.long) c.requires.0 in
    let basic = basic-stays c.requires.0 Sieve.Classes (omega (arith, c.thin_end.ensures, c.if-work-thin_end.false)) (omega (arith, filed-end c.requires.0)) c.thin_more.ensures.kept c.requires.2 in record {
      basic = basic-stays laid Sieve.Sisters room past c.thin_more-2.ensures.kept basic;
      classes = said-stays laid Sieve.Sisters room past c.thin_more-2.ensures.kept Sieve.Classes basic (omega arith) c.thin_more.ensures.thinned;
      sisters = c.thin_more-2.ensures.thinned;
    }

pub returns-clause-kept : goal.returns-clause-kept
returns-clause-kept c =
    kept_then (kept-wider _ _ (omega (arith, filed-end c.requires.0)) (omega (arith, c.thin_end.ensures, c.if-work-thin_end.false)) c.thin_more.ensures.kept)
    (kept-wider _ _ (omega (arith, filed-end c.requires.0)) (omega (arith, c.thin_end-2.ensures, c.if-work-thin_end-2.false, c.thin_more.ensures.kept.long)) c.thin_more-2.ensures.kept)
