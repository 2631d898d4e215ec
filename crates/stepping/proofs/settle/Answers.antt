-- `stepping::settle` meets its contract: in each of the three cases the search is as it is settled. Assumes nothing.
use mathlib.Core.Path.{sym, ◌∙◌}
use Rattle.stepping.proofs.Settling.{settle-on, settle-up, settle-turned}
use Rattle.stepping.proofs.settle.Goals as goal

pub returns-then-goes_on : goal.returns-then-goes_on
returns-then-goes_on c = settle-on _ _ c.requires _ (λ g. sym c.if-goes_on.true ∙ c.goes_on.ensures g)

pub returns-then-near-eq0 : goal.returns-then-near-eq0
returns-then-near-eq0 c =
    settle-up _ _ c.requires _ _ c.nearest-near.ensures (λ g. sym c.if-goes_on.false ∙ c.goes_on.ensures g) c.if-near-eq0.true

pub returns : goal.returns
returns c =
    settle-turned _ _ c.requires _ _ c.nearest-near.ensures (λ g. sym c.if-goes_on.false ∙ c.goes_on.ensures g) _ c.mark_firsts.ensures c.if-near-eq0.false
