-- `backward::first_met` meets its contract, case by case. Assumes nothing.
use mathlib.Core.Path.{sym, ap, ◌∙◌}
use lib.Dec.{leb}
use Rattle.backward.proofs.Stopping.{met-before, met-none, met-asked}
use Rattle.backward.proofs.first_met.Goals as goal

pub returns-then-d-last : goal.returns-then-d-last
returns-then-d-last c = met-before _ _ _ c.if-d-last.true

pub returns-then-near-eq0 : goal.returns-then-near-eq0
returns-then-near-eq0 c = met-none _ _ _ c.if-d-last.false (sym c.nearest-near.ensures ∙ c.if-near-eq0.true)

pub returns : goal.returns
returns c =
    ap (λ n. leb n c.args.d) c.nearest-near.ensures ∙ met-asked _ _ _ c.if-d-last.false (λ e. c.if-near-eq0.false (c.nearest-near.ensures ∙ e))
