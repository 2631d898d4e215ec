-- `states::kin_taken` meets its contract, rule by rule. Assumes nothing.
use mathlib.Core.Path.{◌≡◌, sym, ap, ◌∙◌}
use Prim.Native.Nat.{◌/◌, ◌%◌}
use Rattle.states.specs.Spots.{boats_in, sister_of, foreign_to}
use Rattle.states.proofs.Comparing.{okay-sister-read, okay-foreign-read}
use Rattle.states.proofs.kin_taken.Goals as goal
use Rattle.states.proofs.kin_taken.Goals.{Else-boat_of-eq0}

-- the kept boat is read
some : (c : Else-boat_of-eq0) → let a = c.args in boats_in a.plan a.work.now (a.target.stack / a.spot.level % a.plan.radix) ≡ 0 → ⊥
some c e = let a = c.args in c.if-boat_of-eq0.false (c.boat_of.ensures ∙ (ap (boats_in a.plan a.work.now) c.kept_at-kept.ensures.0 ∙ e))

pub returns-in-Sister : goal.returns-in-Sister
returns-in-Sister c =
    let a = c.args in
    let read = some (goal.at.returns-in-Sister c).Else-boat_of-eq0 in
    (c.kept_at-kept.ensures.1, λ x. okay-sister-read _ _ _ x _ c.in-Sister.is read ∙ ap (λ y. sister_of (boats_in a.plan a.work.now) y x) (sym c.kept_at-kept.ensures.0))

pub returns-in-Foreign : goal.returns-in-Foreign
returns-in-Foreign c =
    let a = c.args in
    let read = some (goal.at.returns-in-Foreign c).Else-boat_of-eq0 in
    (c.kept_at-kept.ensures.1, λ x. okay-foreign-read _ _ _ x _ c.in-Foreign.is read ∙ ap (λ y. foreign_to (boats_in a.plan a.work.now) y x) (sym c.kept_at-kept.ensures.0))
