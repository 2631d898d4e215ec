-- `pattern::read_given`: what `read_at` promises at the first byte, and questions 14 and 25 (`told-read`).
use Rattle.std.proofs.Common.{length, ap, ◌∙◌, arith, eq-eqb, ne_eqb, le-leb}
use Rattle.std.proofs.lemmas.Bool.{lt-leb}
use Rattle.refusals.specs.Refusal.{reply_mapped}
use Rattle.refusals.proofs.Handed.{reply-handed}
use Rattle.pattern.specs.Reading.{extent_at}
use Rattle.pattern.specs.Promise.{counts_shown}
use Rattle.pattern.proofs.Extents.{bounded, told-read}
use Rattle.pattern.proofs.read_given.Goals as goal

pub returns-in_err-e-clause-reply : goal.returns-in_err-e-clause-reply
returns-in_err-e-clause-reply c =
    ap (reply_mapped counts_shown) (reply-handed _ _ c.from_residual.ensures.1) ∙ told-read c.args.pattern.now c.args.given _ c.in_err-e.ensures c.outermost.ensures

pub returns-then-e-pattern-clause-reply : goal.returns-then-e-pattern-clause-reply
returns-then-e-pattern-clause-reply c =
    let s = c.args.pattern.now in
    rw (ne_eqb c.in_ok-e.e.next (length s) c.if-e-pattern.true) at (told-read s c.args.given _ c.in_ok-e.ensures c.outermost.ensures)

pub returns-then-e-gt63-clause-reply : goal.returns-then-e-gt63-clause-reply
returns-then-e-gt63-clause-reply c =
    let s = c.args.pattern.now in
    let e = c.in_ok-e.e in
    rw (eq-eqb e.next (length s) c.if-e-pattern.false, lt-leb e.unfolded 63 c.if-e-gt63.true) at (told-read s c.args.given _ c.in_ok-e.ensures c.outermost.ensures)

pub returns-clause-reply : goal.returns-clause-reply
returns-clause-reply c =
    let s = c.args.pattern.now in
    let e = c.in_ok-e.e in
    rw (eq-eqb e.next (length s) c.if-e-pattern.false, le-leb e.unfolded 63 c.if-e-gt63.false) at (told-read s c.args.given _ c.in_ok-e.ensures c.outermost.ensures)

pub returns-clause-small : goal.returns-clause-small
returns-clause-small c =
    let s = c.args.pattern.now in
    let b = bounded s 0 0 _ c.in_ok-e.e (omega arith) (c.in_ok-e.ensures ∙ ap (extent_at s 0 0) c.outermost.ensures) in
    (omega (arith, b.few), c.if-e-gt63.false, omega (arith, b.shallow))
