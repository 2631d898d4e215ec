-- `states::enough` meets its contract, rule by rule. Assumes nothing.
use Rattle.std.proofs.Common.{⊎_elim}
use Rattle.states.specs.Served.{everybody, nobody}
use Rattle.states.proofs.Comparing.{okay-any, okay-never, other-served, sister-always, foreign-always}
use Rattle.states.proofs.enough.Goals as goal

pub returns-in-Never : goal.returns-in-Never
returns-in-Never c = record {
  plain = c.if-spot.false;
  served = λ B R v.
      ⊎_elim (λ e. nobody (λ x. okay-never B R _ x v e))
      (⊎_elim (λ e. everybody (λ x. okay-any B R _ x v e)) (other-served B R c.args.spot v))
      c.in-Never.is;
}

pub returns-in-Sister : goal.returns-in-Sister
returns-in-Sister c = record { plain = c.if-spot.false; served = λ B R v. sister-always B R c.args.spot v c.in-Sister.is }

pub returns-in-Foreign : goal.returns-in-Foreign
returns-in-Foreign c = record { plain = c.if-spot.false; served = λ B R v. foreign-always B R c.args.spot v c.in-Foreign.is }
