-- `expanding::over_lines` meets its contract, by what is left of its turns; the lines stand before the search and stay. Assumes nothing.
use mathlib.Core.Path.{sym, subst}
use native.Mathlib.Omega.{arith}
use Rattle.states.specs.Spots.{Starts}
use Rattle.area.proofs.Anyhow.{loop-turn, loop-end, under-front}
use Rattle.expanding.proofs.over_lines.Goals as goal

pub one_line-t-requires-clause-starts : goal.one_line-t-requires-clause-starts
one_line-t-requires-clause-starts c =
    (subst (Starts c.args.plan) (sym (under-front c.loop-i.invariant.1 c.args.plan.base (omega arith))) c.requires.starts, c.loop-i-test.true)

pub loop-i-preserved : goal.loop-i-preserved
loop-i-preserved c =
    let step = rw (under-front c.loop-i.invariant.1 c.args.plan.base (omega arith)) at c.one_line-t.ensures in
    (omega arith, loop-turn _ _ _ c.loop-i.invariant.1 (omega arith) step)

pub returns : goal.returns
returns c = loop-end _ _ _ c.loop-i.invariant.1 (omega arith)
