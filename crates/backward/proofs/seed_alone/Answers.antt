-- `backward::seed_alone` meets its contract: one step after the other. Assumes nothing.
use mathlib.Core.Path.{sym, subst}
use Rattle.request.specs.Layout.{Laid}
use Rattle.area.proofs.Changes.{step_then}
use Rattle.backward.proofs.seed_alone.Goals as goal

pub forget-requires : goal.forget-requires
forget-requires c = c.requires.0

pub seed-requires : goal.seed-requires
seed-requires c =
    record { ready_back = c.forget.ensures.ready; laid = (subst (Laid c.args.plan) (sym c.forget.ensures.long) c.requires.0, c.requires.1) }

pub returns : goal.returns
returns c = step_then c.forget.ensures c.seed.ensures
