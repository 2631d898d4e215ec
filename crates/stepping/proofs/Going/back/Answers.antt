-- `Going::back` meets its contract: nothing is done, or the lines are put in order and the turns follow. Assumes nothing.
use mathlib.Core.Path.{refl}
use native.Mathlib.Omega.{arith}
use Rattle.stepping.specs.Stepping.{underway_in}
use Rattle.stepping.proofs.Moving.{held_none, held-fit, turned_none, turned_then, end-ground, end-held, end-indexed}
use Rattle.stepping.proofs.Going.back.Goals as goal

pub returns-then-s : goal.returns-then-s
unfolding underway_in
returns-then-s c =
    turned_none (held_none (λ u. u) _ c.requires.0 refl) (λ _. c.if-s.true)

pub returns-then-self-eq0 : goal.returns-then-self-eq0
returns-then-self-eq0 c =
    turned_none (held_none (λ u. u) _ c.requires.0 refl) (λ l. absurd (omega (arith, l, c.if-self-eq0.true)))

pub overflow_mul-plan : goal.overflow_mul-plan
overflow_mul-plan c = omega (arith, c.requires.0.laid.small)

pub overflow_add-plan : goal.overflow_add-plan
overflow_add-plan c =
    omega (arith, c.requires.0.laid.small, c.requires.0.laid.few_words)

pub sort_at-requires : goal.sort_at-requires
sort_at-requires c =
    end-ground c.requires.0 c.requires.1

pub back_by-requires : goal.back_by-requires
back_by-requires c =
    let h = end-held c.requires.0 c.sort_at.ensures.kept in
    (h.standing, record { fit = held-fit h c.requires.1; index = end-indexed h.standing c.sort_at.ensures.sorted })

pub returns : goal.returns
returns c =
    let h = end-held c.requires.0 c.sort_at.ensures.kept in
    turned_then (turned_none {Done = λ _. Unit {0}} h (λ _. tt)) c.back_by.ensures _ (omega arith) (omega arith) c.back_by.ensures.done
