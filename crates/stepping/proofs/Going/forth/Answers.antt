-- `Going::forth` meets its contract: nothing is done, or the lines are put in order and the turns follow. Assumes nothing.
use mathlib.Core.Path.{refl}
use native.Mathlib.Omega.{arith}
use Rattle.stepping.specs.Stepping.{underway_in}
use Rattle.stepping.proofs.Moving.{held_none, held-fit, turned_none, turned_then, other-over, start-ground, start-held, start-ordered}
use Rattle.stepping.proofs.Going.forth.Goals as goal

pub returns-then-s : goal.returns-then-s
unfolding underway_in
returns-then-s c =
    turned_none (held_none (λ u. u) _ c.requires.0 refl) (λ _ n. other-over _ n c.if-s.true)

pub returns-then-self-eq0 : goal.returns-then-self-eq0
returns-then-self-eq0 c =
    turned_none (held_none (λ u. u) _ c.requires.0 refl) (λ l. absurd (omega (arith, l, c.if-self-eq0.true)))

pub overflow_mul-plan : goal.overflow_mul-plan
overflow_mul-plan c = omega (arith, c.requires.0.laid.small)

pub overflow_add-plan : goal.overflow_add-plan
overflow_add-plan c =
    omega (arith, c.requires.0.laid.small, c.requires.0.laid.few_words)

pub sort_at-requires : goal.sort_at-requires
sort_at-requires c =
    start-ground c.requires.0 c.requires.1

pub forth_by-requires : goal.forth_by-requires
forth_by-requires c =
    let h = start-held c.requires.0 c.sort_at.ensures.kept in
    record { standing = (h.standing, record { fit = held-fit h c.requires.1; index = start-ordered h.standing c.sort_at.ensures.sorted }); phase_value = c.if-s.false }

pub returns : goal.returns
returns c =
    let h = start-held c.requires.0 c.sort_at.ensures.kept in
    turned_then (turned_none {Done = λ _. Unit {0}} h (λ _. tt)) c.forth_by.ensures _ (omega arith) (omega arith) (λ l _. c.forth_by.ensures.done l)
