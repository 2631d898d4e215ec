-- `record::pass_line`: line i stands where the lines before it end.
use Rattle.std.proofs.Common.{◌∙◌, arith}
use Rattle.record.proofs.Passing.{Begins, command-lent, bytes-there, line-lent, width-lent, next-is, next_low}
use Rattle.record.proofs.pass_line.Goals as goal

pub bounds-day-at : goal.bounds-day-at
bounds-day-at c =
    let b : Begins c.args.day.now c.args.i c.args.at = record { less = c.requires.0; starts = c.requires.1 } in
    omega (arith, bytes-there b)

pub slice_bounds-written_of-count : goal.slice_bounds-written_of-count
slice_bounds-written_of-count c =
    let b : Begins c.args.day.now c.args.i c.args.at = record { less = c.requires.0; starts = c.requires.1 } in
    omega (arith, bytes-there b)

pub slice_bounds-written_of-start : goal.slice_bounds-written_of-start
slice_bounds-written_of-start c =
    let b : Begins c.args.day.now c.args.i c.args.at = record { less = c.requires.0; starts = c.requires.1 } in
    omega (arith, bytes-there b)

pub written_of-written-requires : goal.written_of-written-requires
written_of-written-requires c =
    let b : Begins c.args.day.now c.args.i c.args.at = record { less = c.requires.0; starts = c.requires.1 } in
    (command-lent c.args.day.now c.args.at, width-lent b)

pub overflow_add-next : goal.overflow_add-next
overflow_add-next c =
    let b : Begins c.args.day.now c.args.i c.args.at = record { less = c.requires.0; starts = c.requires.1 } in
    omega (arith, next_low b _ c.width_of.ensures)

pub returns-clause-line : goal.returns-clause-line
returns-clause-line c =
    let b : Begins c.args.day.now c.args.i c.args.at = record { less = c.requires.0; starts = c.requires.1 } in
    (c.written_of-written.ensures.0 ∙ line-lent b, c.written_of-written.ensures.1)

pub returns-clause-next : goal.returns-clause-next
returns-clause-next c =
    let b : Begins c.args.day.now c.args.i c.args.at = record { less = c.requires.0; starts = c.requires.1 } in
    next-is b _ c.width_of.ensures
