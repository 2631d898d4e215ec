-- `readout::note_marks`: what the turns left make of the output so far stays the same, and at the end no turn is left.
use Rattle.std.proofs.Common.{refl, sym, ap, ◌∙◌, ◌+◌, ◌-◌, arith}
use native.Mathlib.Nat.{sub-zero}
use Rattle.graph.specs.Loops.{turns}
use Rattle.area.proofs.Changes.{turns-none, turns_next}
use Rattle.readout.specs.Readout.{note_turn, noted}
use Rattle.readout.proofs.note_marks.Goals as goal

pub loop-j-init : goal.loop-j-init
loop-j-init c = λ _. rw sub-zero (unfold noted in refl)

pub loop-j-preserved : goal.loop-j-preserved
loop-j-preserved c =
    let a = c.args in
    let f = note_turn a.plan a.tail a.far a.work.now in
    let next = turns_next f c.loop-j.j a.tail c.loop-j.out c.loop-j-test.true in
    λ g. ap (turns f (c.loop-j.j + 1) (a.tail - (c.loop-j.j + 1))) (c.note_mark.ensures g) ∙ (next ∙ c.loop-j.invariant g)

pub returns : goal.returns
returns c g = sym (turns-none _ _ _ _ (omega (arith, c.loop-j-test.false))) ∙ c.loop-j.invariant g
