use Rattle.std.proofs.Common.{◌≡◌, suc, ◌+◌, sym, ap, ◌∙◌, arith}
use Rattle.record.specs.Whole.{lines_of}
use Rattle.record.specs.Cursor.{start_of, start_first}
use Rattle.record.proofs.line_at.Goals as goal

pub loop-k-init : goal.loop-k-init
loop-k-init c = (omega arith, c.requires, sym (start_first (lines_of c.args.day.now)))

pub pass_line-at-requires : goal.pass_line-at-requires
pass_line-at-requires c = (omega (arith, c.loop-k-test.true, c.loop-k.invariant.1), c.loop-k.invariant.2)

pub loop-k-preserved : goal.loop-k-preserved
loop-k-preserved c =
    let next : suc c.loop-k.k ≡ c.loop-k.k + 1 = omega arith in
    (omega (arith, c.loop-k-test.true), c.loop-k.invariant.1, c.pass_line-at.ensures.next ∙ ap (start_of (lines_of c.args.day.now)) next)

pub pass_line-requires : goal.pass_line-requires
pass_line-requires c =
    let all : c.loop-k.k ≡ c.args.i = omega (arith, c.loop-k-test.false, c.loop-k.invariant.0) in
    (c.loop-k.invariant.1, c.loop-k.invariant.2 ∙ ap (start_of (lines_of c.args.day.now)) all)
