-- `states::passes` meets its contract: everybody passes, or the comparison of the two numbers says it. Assumes nothing.
use mathlib.Core.Path.{sym, ap, ◌∙◌}
use Rattle.boats.specs.Table.{told_by}
use Rattle.search.specs.Loaded.{boat_at}
use Rattle.states.specs.Spots.{front}
use Rattle.states.proofs.Comparing.{same_rule, okay-any, okay-told}
use Rattle.states.proofs.passes.Goals as goal

pub returns-then-eq : goal.returns-then-eq
returns-then-eq c = sym (okay-any _ _ _ _ _ (same_rule _ _ _ c.eq.ensures c.if-eq.true))

pub returns : goal.returns
returns c =
    let a = c.args in
    let B = boat_at a.plan (front a.plan a.work.now) in
    c.meets.ensures ∙ okay-told B _ _ a.code _ _ (c.compared.ensures ∙ ap (told_by B a.code) c.entry_at-kept.ensures.0)
