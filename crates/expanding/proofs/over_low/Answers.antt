-- `expanding::over_low` meets its contract, by what is left of its turns. Assumes nothing.
use native.Mathlib.Omega.{arith}
use Rattle.area.proofs.Anyhow.{loop-turn, loop-end}
use Rattle.expanding.proofs.over_low.Goals as goal

pub loop-l-preserved : goal.loop-l-preserved
loop-l-preserved c = (omega arith, loop-turn _ _ _ c.loop-l.invariant.1 c.loop-l-test.true c.push_if_new-t.ensures)

pub returns : goal.returns
returns c = loop-end _ _ _ c.loop-l.invariant.1 (omega arith)
