-- `sweeping::sweep_state`: the two words say whether the level goes on.
use Rattle.std.proofs.Common.{refl, ap, ◌∙◌, ℕ, arith}
use Rattle.std.specs.Prelude.{get_or}
use Rattle.area.specs.Area.{found}
use Rattle.states.specs.Pairs.{distances}
use Rattle.sweeping.specs.Sweeping.{sweep_in}
use Rattle.sweeping.proofs.Taken.{back-same, back-other}
use Rattle.sweeping.proofs.sweep_state.Goals as goal

pub returns-then-level-w : goal.returns-then-level-w
unfolding found
returns-then-level-w c =
    let D = distances c.args.plan c.args.work.now in
    let taken = c.take_up-noted.ensures in
    record {
      now-swept = λ g.
          let level = c.dist_at-level.ensures.0 ∙ ap (λ (t : ℕ). get_or D t 0) (c.waiting_checked-before.ensures.1 g) in
          back-same _ _ _ _ (sweep_in c.args.plan c.args.at c.args.work.now) _ _ _ _ refl (c.waiting_checked-s.ensures.1 g) c.dist_at-w.ensures.0 level _ taken.now-noted c.if-level-w.true;
      rest-is = omega (arith, c.requires.lt_rest.0);
      chosen-low = c.requires.lt_rest.2;
      noted-low = taken.low;
      only = taken.only;
    }

-- the level ends, and its least line is chosen
pub returns : goal.returns
unfolding found
returns c =
    let D = distances c.args.plan c.args.work.now in
    let taken = c.take_up-noted.ensures in
    record {
      now-swept = λ g.
          let level = c.dist_at-level.ensures.0 ∙ ap (λ (t : ℕ). get_or D t 0) (c.waiting_checked-before.ensures.1 g) in
          back-other _ _ _ _ (sweep_in c.args.plan c.args.at c.args.work.now) _ _ _ _ refl (c.waiting_checked-s.ensures.1 g) c.dist_at-w.ensures.0 level _ taken.now-noted c.if-level-w.false;
      rest-is = omega (arith, c.requires.lt_rest.0);
      chosen-low = taken.low;
      noted-low = omega arith;
      only = taken.only;
    }
