-- `ways::over_run` meets its contract: the loop over all lines is the loop over the run's words, and each gives a state. Assumes nothing.
use mathlib.Core.Path.{◌≡◌, sym, ◌∙◌, subst}
use Prim.Native.Nat.{ℕ, suc, ◌+◌, ◌-◌, ◌<◌}
use native.Mathlib.Omega.{arith}
use lib.ListN.{get_or}
use Rattle.graph.specs.Loops.{turns}
use Rattle.graph.specs.Table.{Search}
use Rattle.sorted.specs.Runs.{turns-run}
use Rattle.sorted.specs.Sorting.{table_at}
use Rattle.area.specs.Area.{found}
use Rattle.states.specs.Spots.{boats_in}
use Rattle.area.proofs.Changes.{step-as}
use Rattle.ways.specs.Ways.{lane_state, lane_turn}
use Rattle.ways.proofs.Lanes.{run-word, run-turn}
use Rattle.ways.proofs.over_run.Goals as goal

pub over_words-requires-clause-within : goal.over_words-requires-clause-within
over_words-requires-clause-within g c =
    let (laid, low) = c.requires.laid in
    let (s, room) = c.requires.sorted in
    let (narrow, gives, simple, some, near) = c.requires.narrow in
    let (lo, hi, rising, inside) = c.run_of-run.ensures in
    λ p from less.
    let (i, li, is) = run-word _ _ _ _ _ (s c.args.k low) room p (omega (arith, lo, from)) (omega (arith, hi, less)) in
    subst (λ e. lane_state c.args.lane e < c.args.plan.size) is (gives i li)

pub returns : goal.returns
returns g c =
    let x = c.args in
    let (s, room) = c.requires.sorted in
    let (lo, hi, rising, inside) = c.run_of-run.ensures in
    let w = x.work.now in
    let at = table_at x.order x.plan in
    let st = found x.plan.base x.plan.size x.tail w in
    let all = turns-run x.order x.plan at w x.k (s x.k c.requires.laid.1) room _ (lane_turn (boats_in x.plan x.work.now) x.d x.lane) (λ i less b. run-turn _ _ _ _ _ i b) st in
    let turn : ℕ → Search → Search = λ p. lane_turn (boats_in x.plan x.work.now) x.d x.lane (get_or w p 0) in
    let bounds : turns turn c.run_of-run.result.lo (c.run_of-run.result.hi - c.run_of-run.result.lo) st ≡ turns turn (get_or w (at + x.k) 0) (get_or w (at + suc x.k) 0 - get_or w (at + x.k) 0) st = λ t. turns turn (lo t) (hi t - lo t) st in
    step-as _ c.over_words.ensures (all ∙ sym bounds)
