-- `record::line_beside`: line i stands where the lines before it end, and is compared there.
use Rattle.std.proofs.Common.{◌∙◌, ap, arith}
use Rattle.meaning.specs.Record.{Line}
use Rattle.meaning.specs.Writing.{same_line}
use Rattle.record.specs.Reading.{written_shown}
use Rattle.record.proofs.Passing.{Begins, command-lent, bytes-there, line-lent, width-lent, next-is, next_low}
use Rattle.record.proofs.line_beside.Goals as goal

pub bounds-day-at : goal.bounds-day-at
bounds-day-at c =
    let b : Begins c.args.day.now c.args.i c.args.at = record { less = c.requires.0; starts = c.requires.1 } in
    omega (arith, bytes-there b)

pub slice_bounds-same_line-count : goal.slice_bounds-same_line-count
slice_bounds-same_line-count c =
    let b : Begins c.args.day.now c.args.i c.args.at = record { less = c.requires.0; starts = c.requires.1 } in
    omega (arith, bytes-there b)

pub slice_bounds-same_line-start : goal.slice_bounds-same_line-start
slice_bounds-same_line-start c =
    let b : Begins c.args.day.now c.args.i c.args.at = record { less = c.requires.0; starts = c.requires.1 } in
    omega (arith, bytes-there b)

pub same_line-same-requires : goal.same_line-same-requires
same_line-same-requires c =
    let b : Begins c.args.day.now c.args.i c.args.at = record { less = c.requires.0; starts = c.requires.1 } in
    (command-lent c.args.day.now c.args.at, width-lent b)

pub overflow_add-next : goal.overflow_add-next
overflow_add-next c =
    let b : Begins c.args.day.now c.args.i c.args.at = record { less = c.requires.0; starts = c.requires.1 } in
    omega (arith, next_low b _ c.width_of.ensures)

pub returns-clause-same : goal.returns-clause-same
returns-clause-same c =
    let b : Begins c.args.day.now c.args.i c.args.at = record { less = c.requires.0; starts = c.requires.1 } in
    c.same_line-same.ensures ∙ ap (λ (l : Line). same_line (written_shown c.args.w) l) (line-lent b)

pub returns-clause-next : goal.returns-clause-next
returns-clause-next c =
    let b : Begins c.args.day.now c.args.i c.args.at = record { less = c.requires.0; starts = c.requires.1 } in
    next-is b _ c.width_of.ensures
