-- `ways::thin_lane` meets its contract: without weight, and all words are taken, or those of read boats but one. Assumes nothing.
use mathlib.Core.Path.{ap}
use mathlib.Core.Logic.{inl, inr}
use native.Mathlib.Omega.{arith}
use Rattle.states.specs.Served.{everybody}
use Rattle.states.proofs.Comparing.{read-served}
use Rattle.ways.specs.Ways.{taken_by}
use Rattle.ways.specs.declared.Taking.{Taking}
use Rattle.ways.proofs.thin_lane.Goals as goal

pub returns-in-All : goal.returns-in-All
returns-in-All c = λ _ B. elim c.in-All.is [
  | inl e ↦ record { flat = omega arith; served = everybody (λ y. ap (λ (t : Taking). taken_by B t y) e) }
  | inr w ↦ record { flat = omega arith; served = read-served B w.0 _ (λ y. ap (λ (t : Taking). taken_by B t y) w.1) }
]
