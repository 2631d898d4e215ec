-- `readout::note_mark`: a state of a level below `far` is noted at its level's entry, and no other is.
use Rattle.std.proofs.Common.{refl, sym, ap, ◌∙◌, ◌%◌, arith}
use Rattle.readout.proofs.Marks.{mark-low, note-none, note-far, note-here}
use Rattle.readout.proofs.note_mark.Goals as goal

pub returns-then-w-eq0 : goal.returns-then-w-eq0
returns-then-w-eq0 c = λ g. note-none c.args.plan _ _ _ _ _ _ _ (c.waiting_checked-s.ensures.1 g) c.dist_at-w.ensures.0 c.if-w-eq0.true

pub returns-then-far-w : goal.returns-then-far-w
returns-then-far-w c = λ g. note-far c.args.plan _ _ _ _ _ _ _ (c.waiting_checked-s.ensures.1 g) c.dist_at-w.ensures.0 c.if-far-w.true

pub returns : goal.returns
returns c =
    let plan = c.args.plan in
    let low = sym (mark-low plan _ _ c.waiting_checked-s.ensures.0) in
    λ g.
    let here = note-here plan _ _ _ _ _ _ _ (c.waiting_checked-s.ensures.1 g) c.dist_at-w.ensures.0 in
    here c.if-w-eq0.false (omega (arith, c.if-far-w.false)) _ (ap (λ x. x % 65536) c.word.ensures ∙ low) _ _ refl c.lesser.ensures
