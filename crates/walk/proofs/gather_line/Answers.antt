-- `walk::gather_line`: by what is left of the frontier, which the line itself only appends to. The line's words and the distances stand before
-- the pair and stay.
use Rattle.std.proofs.Common.{◌≡◌, sym, ap, ◌∙◌, arith}
use Rattle.states.specs.Spots.{front}
use Rattle.states.proofs.Bounds.{fit_same}
use Rattle.forward.specs.Leads.{lead_in}
use Rattle.walk.proofs.Ahead.{gather-turns, gather-at}
use Rattle.area.proofs.Changes.{under-as, loop-turn, loop-end, under-front, under-stretch, ready-long, step-as}
use Rattle.walk.proofs.gather_line.Goals as goal

pub loop-j-init : goal.loop-j-init
loop-j-init c = under-as _ _ c.requires.ready_forth (gather-turns _ _ _ _ _ _ (ready-long c.requires.ready_forth))

pub from_state-t-requires : goal.from_state-t-requires
from_state-t-requires c =
    let u = c.loop-j.invariant in
    let p = c.args.plan in
    let front_same = under-front u p.base (omega arith) in
    let lead_is : c.lead_of-lead.result ≡ lead_in p (front p c.loop-j.work) c.args.i = c.lead_of-lead.ensures ∙ ap (λ g. lead_in p g c.args.i) (sym front_same) in
    record { ready_forth = u.ready; fit = fit_same u.long front_same c.requires.fit; some_lead = ((c.args.i, c.requires.want_nonzero.1, lead_is), c.waiting-s.ensures.1) }

pub loop-j-preserved : goal.loop-j-preserved
loop-j-preserved c =
    let u = c.loop-j.invariant in
    let p = c.args.plan in
    let front_same = under-front u p.base (omega arith) in
    let lead_is : c.lead_of-lead.result ≡ lead_in p (front p c.loop-j.work) c.args.i = c.lead_of-lead.ensures ∙ ap (λ g. lead_in p g c.args.i) (sym front_same) in
    let step = rw (front_same, under-stretch u p.base p.size (omega arith)) at (c.from_state-t.ensures c.args.i c.requires.want_nonzero.1 lead_is) in
    let own = gather-at _ _ c.args.want c.args.i c.loop-j.j c.waiting-s.result _ c.requires.want_nonzero.0 c.waiting-s.ensures.0 in
    loop-turn _ _ _ u c.loop-j-test.true (step-as _ step own)

pub returns : goal.returns
returns c = loop-end _ _ _ c.loop-j.invariant (omega (arith, c.loop-j-test.false))
