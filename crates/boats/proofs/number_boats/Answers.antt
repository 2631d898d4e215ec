-- `boats::number_boats`: each line has room and is counted, and after the last all are.
use Rattle.std.proofs.Common.{◌≡◌, refl, take, sym, ap, ◌∙◌, arith}
use Rattle.record.specs.Whole.{lines_of, lines-short}
use Rattle.boats.proofs.Tallying.{tally-none, tally-few, tally-all}
use Rattle.boats.proofs.number_boats.Goals as goal

pub loop-i-init : goal.loop-i-init
loop-i-init c = (refl, tally-none _ _ _ _ refl refl refl)

pub number_line-t-requires-clause-line_in_bounds :
    goal.number_line-t-requires-clause-line_in_bounds
number_line-t-requires-clause-line_in_bounds c =
    let low = lines-short c.args.day.now in
    (omega arith, omega arith, omega arith)

pub returns-clause-count : goal.returns-clause-count
returns-clause-count c =
    let lines = lines_of c.args.day.now in
    let all : c.loop-i.i ≡ c.args.lines = omega arith in
    let (boats, reads, codes) = tally-all lines c.loop-i.invariant.1 (all ∙ c.requires) in
    (boats, omega (arith, tally-few lines c.loop-i.invariant.1, lines-short c.args.day.now), reads)

pub returns-clause-numbered : goal.returns-clause-numbered
returns-clause-numbered c =
    let lines = lines_of c.args.day.now in
    let all : c.loop-i.i ≡ c.args.lines = omega arith in
    ap (λ n. take n c.loop-i.numbers) (sym all) ∙ (tally-all lines c.loop-i.invariant.1 (all ∙ c.requires)).2
