-- `boats::number_line`: a line whose boat an earlier line has gets that line's number, another the next one.
use Rattle.std.proofs.Common.{◌≡◌, ◌<◌, sym, ap, ◌∙◌, subst, arith, slice_index_or}
use native.Mathlib.Numerals.{add-one}
use Rattle.meaning.specs.Record.{Line}
use Rattle.meaning.specs.Writing.{line_at}
use Rattle.meaning.specs.Count.{first_same}
use Rattle.record.specs.Whole.{lines_of, lines-short}
use Rattle.boats.specs.Boats.{BoatIs}
use Rattle.boats.proofs.Counting.{first-noted}
use Rattle.boats.proofs.Tallying.{tally-few, tally-low, tally-met, tally-new, tally-next}
use Rattle.boats.proofs.number_line.Goals as goal

pub overflow_add-reads : goal.overflow_add-reads
overflow_add-reads c =
    let lines = lines_of c.args.day.now in
    let low : c.args.i < 4096 = omega (arith, c.requires.line_in_bounds.0, lines-short c.args.day.now) in
    omega (arith, tally-low lines c.requires.counted (omega (arith, low)), low, c.if-first-i.true)

pub returns-then-first-i : goal.returns-then-first-i
returns-then-first-i c =
    let lines = lines_of c.args.day.now in
    let i = c.args.i in
    let room = c.requires.line_in_bounds in
    let boat-is : BoatIs (line_at lines i).boat c.boat_of-boat.result = subst (λ (l : Line). BoatIs l.boat c.boat_of-boat.result) c.pass_line-met.ensures.line.0 c.boat_of-boat.ensures in
    let first-is : c.first_same-first.result ≡ first_same lines i = first-noted lines i room.0 c.args.noted.now (omega (arith, room.1)) c.requires.counted.words _ _ boat-is c.first_same-first.ensures in
    let (same, number, read) = tally-met lines c.requires.counted room.0 (omega (arith, sym first-is, c.if-first-i.true)) in
    tally-next lines c.requires.counted room.0 _ _ _ boat-is (ap (λ f. slice_index_or c.args.numbers.now f 0) first-is ∙ number) room.1 room.2 c.pass_line-met.ensures.next same (omega (arith, first-is, read))

pub overflow_add-boats : goal.overflow_add-boats
overflow_add-boats c =
    let lines = lines_of c.args.day.now in
    omega (arith, tally-few lines c.requires.counted (omega (arith, c.requires.line_in_bounds.0)), c.requires.line_in_bounds.0, lines-short c.args.day.now)

pub overflow_cast-numbers : goal.overflow_cast-numbers
overflow_cast-numbers c =
    let lines = lines_of c.args.day.now in
    omega (arith, tally-few lines c.requires.counted (omega (arith, c.requires.line_in_bounds.0)), c.requires.line_in_bounds.0, lines-short c.args.day.now)

pub overflow_add-reads-2 : goal.overflow_add-reads-2
overflow_add-reads-2 c =
    let lines = lines_of c.args.day.now in
    let low : c.args.i < 4096 = omega (arith, c.requires.line_in_bounds.0, lines-short c.args.day.now) in
    omega (arith, tally-low lines c.requires.counted (omega (arith, low)), low)

pub returns : goal.returns
returns c =
    let lines = lines_of c.args.day.now in
    let i = c.args.i in
    let room = c.requires.line_in_bounds in
    let boat-is : BoatIs (line_at lines i).boat c.boat_of-boat.result = subst (λ (l : Line). BoatIs l.boat c.boat_of-boat.result) c.pass_line-met.ensures.line.0 c.boat_of-boat.ensures in
    let first-is : c.first_same-first.result ≡ first_same lines i = first-noted lines i room.0 c.args.noted.now (omega (arith, room.1)) c.requires.counted.words _ _ boat-is c.first_same-first.ensures in
    let (more, number, read) = tally-new lines c.requires.counted room.0 (λ less. omega (arith, c.if-first-i.false, first-is, less)) in
    let next = add-one c.args.t.boats in
    tally-next lines c.requires.counted room.0 _ _ _ boat-is (next ∙ number) room.1 room.2 c.pass_line-met.ensures.next (next ∙ more) (omega (arith, read))
