-- `writing::is_new`: a line that is the same decides at once; one that is not leaves it to those after it, and after the last there is none.
use Rattle.std.proofs.Common.{◌≡◌, false, cond, suc, ◌+◌, ◌<◌, refl, sym, ap, ◌∙◌, drop, length, arith}
use Rattle.meaning.specs.Writing.{is_new}
use Rattle.record.specs.Reading.{written_shown}
use Rattle.record.specs.Whole.{lines_of}
use Rattle.record.specs.Cursor.{start_of, start_first}
use Rattle.record.specs.Same.{new-end}
use Rattle.writing.proofs.Writes.{new-by}
use Rattle.writing.proofs.is_new.Goals as goal

pub loop-i-init : goal.loop-i-init
loop-i-init c = (omega arith, c.requires, sym (start_first (lines_of c.args.day.now)), refl)

pub returns-then-b : goal.returns-then-b
returns-then-b c =
    let less : c.loop-i.i < length (lines_of c.args.day.now) = omega (arith, c.loop-i-test.true, c.loop-i.invariant.1) in
    let this = new-by (written_shown c.args.w) (lines_of c.args.day.now) c.loop-i.i c.line_beside-b.result.same less c.line_beside-b.ensures.same in
    sym (c.loop-i.invariant.3 ∙ (this ∙ ap (λ x. cond x false (is_new (written_shown c.args.w) (drop (suc c.loop-i.i) (lines_of c.args.day.now)))) c.if-b.true))

pub loop-i-preserved : goal.loop-i-preserved
loop-i-preserved c =
    let all = lines_of c.args.day.now in
    let left = is_new (written_shown c.args.w) in
    let less : c.loop-i.i < length all = omega (arith, c.loop-i-test.true, c.loop-i.invariant.1) in
    let next : suc c.loop-i.i ≡ c.loop-i.i + 1 = omega arith in
    let this = new-by (written_shown c.args.w) all c.loop-i.i c.line_beside-b.result.same less c.line_beside-b.ensures.same in (
      omega (arith, c.loop-i-test.true),
      c.loop-i.invariant.1,
      c.line_beside-b.ensures.next ∙ ap (start_of all) next,
      c.loop-i.invariant.3 ∙ (this ∙ (ap (λ x. cond x false (left (drop (suc c.loop-i.i) all))) c.if-b.false ∙ ap (λ n. left (drop n all)) next)),
    )

pub returns : goal.returns
returns c =
    let end : c.loop-i.i ≡ length (lines_of c.args.day.now) = omega (arith, c.loop-i-test.false, c.loop-i.invariant.0, c.loop-i.invariant.1) in
    sym (c.loop-i.invariant.3 ∙ (ap (λ n. is_new (written_shown c.args.w) (drop n (lines_of c.args.day.now))) end ∙ new-end (written_shown c.args.w) (lines_of c.args.day.now)))
