-- `stepping::forth_one` meets its contract: the sweep's turn is one state taken up (`swept-held`), and its numbers fit their words. Assumes nothing.
use native.Mathlib.Omega.{arith}
use Rattle.stepping.proofs.Moving.{swept-held}
use Rattle.stepping.proofs.forth_one.Goals as goal

pub sweep_state-next-requires : goal.sweep_state-next-requires
sweep_state-next-requires c =
    record { room_back = c.requires.standing.0.ready; fit = (c.requires.standing.1.fit, c.requires.standing.1.index); lt_rest = (c.requires.phase_value.1, c.requires.standing.0.order.rest-low, c.requires.standing.0.fits.chosen-low, c.requires.standing.0.fits.noted-low) }

pub overflow_cast-at-3 : goal.overflow_cast-at-3
overflow_cast-at-3 c =
    omega (arith, c.sweep_state-next.ensures.chosen-low, c.requires.standing.0.laid.few-lines)

pub overflow_cast-at-4 : goal.overflow_cast-at-4
overflow_cast-at-4 c =
    omega (arith, c.sweep_state-next.ensures.noted-low, c.requires.standing.0.laid.few-lines)

pub returns : goal.returns
returns c =
    (swept-held c.args.program.now c.args.begin c.requires.standing.0 c.requires.phase_value.0 c.requires.phase_value.1 c.sweep_state-next.ensures, c.requires.phase_value.0)
