-- What is said of the search by a plan, where the plan is that of the pattern (`taken-right`): the pattern reads as one tree, and its plan is one plan.
-- Assumes nothing.
use mathlib.Core.Path.{◌≡◌, sym, ◌∙◌, subst}
use mathlib.Core.List.{List}
use Prim.Native.Nat.{ℕ}
use Rattle.meaning.specs.Outcome.{passed}
use Rattle.meaning.specs.Pattern.{Pattern, unfolded, keeps, read_pattern, none_given}
use Rattle.request.specs.declared.Plan.{Plan}
use Rattle.holding.specs.Holding.{InRange, PlanIs, PlanOf, StateIs, StateRight, TakenRight}
use Rattle.holding.specs.Plans.{plan-only}
use Rattle.std.specs.Prelude.{Option, None, Some}
use Rattle.holding.specs.declared.SearchState.{SearchState}

module _ (w pat : List ℕ) where
  same-tree : (p q : Pattern) → read_pattern none_given pat ≡ passed p → read_pattern none_given pat ≡ passed q → p ≡ q
  same-tree p q e f = let both : passed p ≡ passed q = sym e ∙ f in cc

  same-plan : (a b : Plan) → PlanOf w pat a → PlanOf w pat b → a ≡ b
  same-plan a b x y =
      let tree : x.tree ≡ y.tree = same-tree x.tree y.tree x.reads y.reads in
      let moved : PlanIs w (unfolded y.tree) (keeps y.tree) a = subst (λ q. PlanIs w (unfolded q) (keeps q) a) tree x.is in
      plan-only w (unfolded y.tree) (keeps y.tree) a moved ∙ sym (plan-only w (unfolded y.tree) (keeps y.tree) b y.is)

  -- the search by the plan is the search that the area holds
  pub taken-right : (plan : Plan) → InRange w → PlanOf w pat plan → (r : Option SearchState) → StateRight plan w r → TakenRight w pat r
  taken-right plan range o (Some s) h = record {
    range = range;
    planned = subst (PlanOf w pat) (sym h.plan-is) o;
    state = subst (λ x. StateIs x w s) (sym h.plan-is) h;
  }
  taken-right plan range o None h = λ s p. h s (subst (λ x. StateIs x w s) (same-plan s.plan plan p.planned o) p.state)
