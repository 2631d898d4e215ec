-- `Going::moved` meets its contract: the turns of the two phases one after the other; where some of the amount is left, phase one has ended and
-- then phase two. Assumes nothing.
use mathlib.Core.Path.{ap}
use native.Mathlib.Omega.{arith}
use Rattle.request.specs.declared.Plan.{Plan}
use Rattle.stepping.specs.Stepping.{underway_in, index_end}
use Rattle.stepping.proofs.Moving.{held-fit, turned_then}
use Rattle.stepping.proofs.Going.moved.Goals as goal

pub forth-requires : goal.forth-requires
forth-requires c =
    (c.back-met.ensures.held.standing, held-fit c.back-met.ensures.held c.requires.1)

pub returns : goal.returns
unfolding underway_in
returns c =
    let same = ap (λ (p : Plan). index_end p) c.back-met.ensures.held.plan-same in
    turned_then c.back-met.ensures c.forth.ensures _ (omega arith) (omega (arith, same))
    (λ l. c.forth.ensures.done l (c.back-met.ensures.done (omega (arith, l, c.forth.ensures.few))))
