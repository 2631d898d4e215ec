-- `forward::nearest`: what the turns left make of the word so far stays the same, and at the end no turn is left.
use Rattle.std.proofs.Common.{◌≡◌, sym, ap, ◌∙◌, ◌+◌, ◌-◌, arith}
use native.Mathlib.Nat.{sub-zero}
use Rattle.graph.specs.Loops.{turns}
use Rattle.states.specs.Pairs.{distances}
use Rattle.states.proofs.Bounds.{stacks-pos}
use Rattle.area.proofs.Stretches.{stretch-get}
use Rattle.area.proofs.Changes.{turns-none, turns_next}
use Rattle.forward.specs.Firsts.{near_turn, nearest-law}
use Rattle.forward.proofs.Near.{near-taken, near-passed}
use Rattle.forward.proofs.nearest.Goals as goal
use Rattle.forward.proofs.nearest.Goals.{then-begin-k-eq1, else-begin-k-eq1}

pub loop-k-init : goal.loop-k-init
loop-k-init c = rw sub-zero

pub state_at-s-requires-clause-place_lt_places : goal.state_at-s-requires-clause-place_lt_places
state_at-s-requires-clause-place_lt_places c = (c.requires.from_lt_places, omega arith, stacks-pos c.requires.laid)

pub loop-k-preserved : goal.loop-k-preserved
loop-k-preserved c =
    let a = c.args in
    let f = near_turn a.plan (distances a.plan a.work.now) a.begin a.from in
    let n = a.plan.done + 1 in
    let k = c.loop-k.k in
    let own = stretch-get a.plan.base a.plan.size a.work.now in
    let turned : c.if-begin-k-eq1.v ≡ f k c.loop-k.v =
    elim c.if-begin-k-eq1.branch [
      | then-begin-k-eq1 w ↦ w.v-is
          ∙ near-taken _ _ _ _ _ _ w.if-begin-k-eq1.true _ _ _ w.state_at-s.ensures.0 (w.word.ensures ∙ sym (own _ w.state_at-s.ensures.1)) w.lesser-v.ensures
      | else-begin-k-eq1 w ↦ w.v-is ∙ near-passed _ _ _ _ _ _ w.if-begin-k-eq1.false
    ] in
    ap (turns f (k + 1) (n - (k + 1))) turned ∙ (turns_next f k n c.loop-k.v c.loop-k-test.true ∙ c.loop-k.invariant)

pub returns : goal.returns
returns c = sym (turns-none _ _ _ _ (omega arith)) ∙ (c.loop-k.invariant ∙ sym (nearest-law _ _ _ _))
