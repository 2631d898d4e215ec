-- `checker::run_chain`: each turn moves the set along one line of what is left of the chain, and every number of it is that of a line.
use Rattle.std.proofs.Common.{arith}
use Rattle.checker.proofs.Moving.{left-none, left-line, left-turn}
use Rattle.checker.proofs.run_chain.Goals as goal

pub next_line-t-requires-clause-line_lt_lines : goal.next_line-t-requires-clause-line_lt_lines
next_line-t-requires-clause-line_lt_lines c = rw c.from.ensures (left-line _ _ _ c.loop-line.invariant c.loop-line-test.true)

pub loop-line-preserved : goal.loop-line-preserved
loop-line-preserved c =
    let done = rw (c.from.ensures, c.loop-line.invariant.front) at c.next_line-t.ensures in
    left-turn _ _ _ c.loop-line.invariant c.loop-line-test.true done

pub returns : goal.returns
returns c = left-none _ _ _ c.loop-line.invariant (omega arith)
