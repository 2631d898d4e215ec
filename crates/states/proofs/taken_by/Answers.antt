-- `states::taken_by` meets its contract, rule by rule. Assumes nothing.
use mathlib.Core.Path.{◌≡◌, sym, ap, ◌∙◌}
use Prim.Native.Nat.{◌/◌, ◌%◌}
use lib.Dec.{eqb}
use Rattle.states.specs.Spots.{boats_in, read_but}
use Rattle.states.proofs.Comparing.{same_rule, other_rule, okay-any, okay-never, okay-unkept, okay-same-read, okay-other-read}
use Rattle.states.proofs.taken_by.Goals as goal
use Rattle.states.proofs.taken_by.Goals.{After-boat_of}

-- the word that is read is that of the kept boat
word-is : (c : After-boat_of) → let a = c.args in c.boat_of.result ≡ boats_in a.plan a.work.now (a.target.stack / a.spot.level % a.plan.radix)
word-is c = let a = c.args in c.boat_of.ensures ∙ ap (boats_in a.plan a.work.now) c.kept_at-kept.ensures.0

pub returns-then-eq : goal.returns-then-eq
returns-then-eq c = λ x. okay-any _ _ _ x _ (same_rule _ _ _ c.eq.ensures c.if-eq.true)

pub returns-then-eq-2 : goal.returns-then-eq-2
returns-then-eq-2 c = λ x. okay-never _ _ _ x _ (same_rule _ _ _ c.eq-2.ensures c.if-eq-2.true)

pub returns-then-boat_of-eq0 : goal.returns-then-boat_of-eq0
returns-then-boat_of-eq0 c =
    λ x. okay-unkept _ _ _ x _ (other_rule _ _ _ c.eq.ensures c.if-eq.false) (sym (word-is (goal.at.returns-then-boat_of-eq0 c).After-boat_of) ∙ c.if-boat_of-eq0.true)

pub returns-in-Same : goal.returns-in-Same
returns-in-Same c =
    let some = word-is (goal.at.returns-in-Same c).After-boat_of in
    (c.kept_at-kept.ensures.1, λ x. okay-same-read _ _ _ x _ c.in-Same.is (λ z. c.if-boat_of-eq0.false (some ∙ z)) ∙ ap (eqb x) (sym c.kept_at-kept.ensures.0))

pub returns-in-Other : goal.returns-in-Other
returns-in-Other c =
    let a = c.args in
    let some = word-is (goal.at.returns-in-Other c).After-boat_of in
    (c.kept_at-kept.ensures.1, λ x. okay-other-read _ _ _ x _ c.in-Other.is (λ z. c.if-boat_of-eq0.false (some ∙ z)) ∙ ap (λ y. read_but (boats_in a.plan a.work.now) y x) (sym c.kept_at-kept.ensures.0))
