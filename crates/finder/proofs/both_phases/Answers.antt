-- `finder::both_phases` meets its contract: what phase one leaves in the area is what phase two goes by. Assumes nothing.
use mathlib.Core.Path.{◌∙◌}
use native.Mathlib.Omega.{arith}
use Rattle.sorted.proofs.Turns.{kept-take}
use Rattle.states.proofs.Bounds.{fit_same}
use Rattle.finder.proofs.Written.{tables-same, told_none, told-long, told-written}
use Rattle.finder.proofs.both_phases.Goals as goal

pub distances-requires-clause-backing : goal.distances-requires-clause-backing
distances-requires-clause-backing c =
    let same = kept-take c.file_lines.ensures.kept c.args.plan.base (omega arith) in
    record { fit = fit_same c.file_lines.ensures.kept.long same c.requires.fit; tables = c.file_lines.ensures.filed }

pub returns-in_err-length : goal.returns-in_err-length
returns-in_err-length c =
    let same = kept-take c.file_lines.ensures.kept c.args.plan.base (omega arith) in
    let one = rw same at c.distances.ensures in
    rw c.from_residual.ensures (told_none _ c.args.plan _ c.args.to one _ c.nearest-nearest.ensures c.args.out.now (omega (arith, c.in_err-length.ensures)))

pub returns-then-out-length : goal.returns-then-out-length
returns-then-out-length c =
    let same = kept-take c.file_lines.ensures.kept c.args.plan.base (omega arith) in
    let one = rw same at c.distances.ensures in
    let (some, long) = c.in_ok-length.ensures in
    rw long (told-long _ c.args.plan _ c.args.to one _ c.nearest-nearest.ensures c.args.out.now some (omega (arith, long, c.if-out-length.true)))

pub chain_into-requires-clause-fit : goal.chain_into-requires-clause-fit
chain_into-requires-clause-fit c =
    let same = kept-take c.file_lines.ensures.kept c.args.plan.base (omega arith) in
    let one = rw same at c.distances.ensures in
    let kept = tables-same _ c.args.plan _ c.args.to one _ c.nearest-nearest.ensures c.args.out.now in
    fit_same one.step.long kept (fit_same c.file_lines.ensures.kept.long same c.requires.fit)

pub returns : goal.returns
returns c =
    let same = kept-take c.file_lines.ensures.kept c.args.plan.base (omega arith) in
    let one = rw same at c.distances.ensures in
    let kept = tables-same _ c.args.plan _ c.args.to one _ c.nearest-nearest.ensures c.args.out.now ∙ same in
    let (some, long) = c.in_ok-length.ensures in
    rw long (told-written _ c.args.plan _ c.args.to one _ c.nearest-nearest.ensures c.args.out.now some (omega (arith, long, c.if-out-length.false)) _ (rw kept at c.chain_into.ensures))
