-- `checker::next_line`: the states that waited are set aside, nothing is marked then, and what is gathered is their step.
use Rattle.checker.proofs.Moving.{aside-ready, aside-listed, advanced}
use Rattle.checker.proofs.next_line.Goals as goal

pub gather-requires-clause-ready_forth : goal.gather-requires-clause-ready_forth
gather-requires-clause-ready_forth c = aside-ready c.requires.alive c.settle.ensures

pub gather-requires-clause-line_lt_lines : goal.gather-requires-clause-line_lt_lines
gather-requires-clause-line_lt_lines c =
    (c.requires.line_lt_lines, c.requires.alive.ready.fits, aside-listed c.requires.alive c.settle.ensures)

pub returns : goal.returns
returns c = advanced c.requires.fit c.requires.alive c.settle.ensures _ c.requires.line_lt_lines c.gather.ensures
