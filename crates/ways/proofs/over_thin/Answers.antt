-- `ways::over_thin` meets its contract: the thin words of the run do what all of its words do. Assumes nothing.
use mathlib.Core.Path.{◌≡◌, sym, ◌∙◌, subst}
use Prim.Native.Nat.{ℕ, suc, ◌+◌, ◌-◌, ◌<◌}
use native.Mathlib.Omega.{arith}
use lib.ListN.{length, get_or}
use Rattle.graph.specs.Loops.{turns}
use Rattle.graph.specs.Table.{Search}
use Rattle.area.specs.Area.{found}
use Rattle.states.specs.Spots.{boats_in}
use Rattle.area.proofs.Changes.{step-as}
use Rattle.ways.specs.Ways.{lane_state, lane_turn}
use Rattle.ways.proofs.Filing.{kinds-fit}
use Rattle.thinned.specs.Thinning.{thin_at}
use Rattle.ways.proofs.Lanes.{found-long}
use Rattle.ways.proofs.Thin.{flat-state, lane-pushing, thin-word, thin-turns, run-gives}
use Rattle.ways.proofs.over_thin.Goals as goal

pub over_words-requires-clause-within : goal.over_words-requires-clause-within
over_words-requires-clause-within g c =
    let x = c.args in
    let w = x.work.now in
    let of = x.plan.bykind in
    let at = thin_at x.sieve x.plan in
    let (laid, filed, made, low) = c.requires.laid in
    let (narrow, gives, enough, simple, some, near) = c.requires.narrow in
    let (lo, hi, rising, inside) = c.thin_of-run.ensures in
    let run = filed.basic.kinds x.k low in
    let t = made.thin x.k low in
    λ p from less. run-gives x.plan of w x.k run x.lane gives (get_or w p 0) (thin-word x.sieve (boats_in x.plan w) x.plan of at w x.k run t made.room p (omega (arith, lo, from)) (omega (arith, hi, less)))

pub returns : goal.returns
returns g c =
    let x = c.args in
    let w = x.work.now in
    let of = x.plan.bykind in
    let at = thin_at x.sieve x.plan in
    let (laid, filed, made, low) = c.requires.laid in
    let (narrow, gives, enough, simple, some, near) = c.requires.narrow in
    let (lo, hi, rising, inside) = c.thin_of-run.ensures in
    let run = filed.basic.kinds x.k low in
    let st = found x.plan.base x.plan.size x.tail w in
    let turn : ℕ → Search → Search = lane_turn (boats_in x.plan w) x.d x.lane in
    let long = found-long x.plan.base x.plan.size x.tail w c.requires.ready_back in
    let first = get_or w (at + x.k) 0 in
    let few = get_or w (at + suc x.k) 0 - first in
    let all = thin-turns x.sieve (boats_in x.plan w) x.plan of at w x.k run (made.thin x.k low) made.room (kinds-fit laid filed.basic) (lane-pushing x.sieve (boats_in x.plan w) x.lane enough x.d some) st
    (λ y m s gets. subst (◌< length st.dist) (sym (gets.3 ∙ sym (flat-state x.sieve (boats_in x.plan w) x.lane enough y))) (subst (lane_state x.lane y <◌) (sym long) (run-gives x.plan of w x.k run x.lane gives y m))) in
    let bounds : turns (λ p. turn (get_or w p 0)) c.thin_of-run.result.lo (c.thin_of-run.result.hi - c.thin_of-run.result.lo) st ≡ turns (λ p. turn (get_or w p 0)) first few st = λ i. turns (λ p. turn (get_or w p 0)) (lo i) (hi i - lo i) st in
    step-as _ c.over_words.ensures (all ∙ sym bounds)
