-- `states::passes_at` meets its contract: everybody passes, or the comparison says it. Assumes nothing.
use mathlib.Core.Path.{sym, ap, ◌∙◌}
use Rattle.positions.specs.Program.{level-few}
use Rattle.positions.specs.declared.Row.{Row}
use Rattle.states.specs.Spots.{spot_in, okay}
use Rattle.states.proofs.Comparing.{same_rule, okay-any}
use Rattle.states.proofs.passes_at.Goals as goal

pub returns-then-eq : goal.returns-then-eq
unfolding spot_in
returns-then-eq c = sym (okay-any _ _ _ _ _ (ap (λ (x : Row). x.rule) (sym c.row_at-row.ensures) ∙ same_rule _ _ _ c.eq.ensures c.if-eq.true))

pub kept_in-kept-requires : goal.kept_in-kept-requires
kept_in-kept-requires c = let a = c in rw (c.from.ensures, c.row_at-row.ensures) (a.requires.0.some-radix, level-few _ _)

pub returns : goal.returns
unfolding okay spot_in
returns c = rw (c.meets.ensures, c.compared.ensures, c.kept_in-kept.ensures.0, c.from.ensures, c.row_at-row.ensures)
