-- `checker::gather`: list and tables stand before the pair and stay, so each state of the list makes its turn.
use Rattle.std.proofs.Common.{◌≡◌, sym, ap, ◌∙◌, subst, List, ℕ, ◌+◌, ◌<◌, ◌≤◌, arith}
use Rattle.graph.specs.Table.{Search}
use Rattle.area.specs.Area.{Under}
use Rattle.request.specs.declared.Plan.{Plan}
use Rattle.states.specs.Spots.{front}
use Rattle.states.proofs.Bounds.{fit_same}
use Rattle.area.proofs.Changes.{loop-turn, loop-end, under-stretch, under-front}
use Rattle.forward.specs.Leads.{lead_in}
use Rattle.forward.specs.declared.Lead.{Lead}
use Rattle.checker.specs.Walk.{list_turn}
use Rattle.checker.proofs.Moving.{front-word}
use Rattle.checker.proofs.gather.Goals as goal

-- the line as it was loaded before the loop is that of the area now
lead-stays : (plan : Plan) {size : ℕ} {F G : Search → Search} {t u : ℕ} {w v : List ℕ} (i : ℕ) (lead : Lead) → plan.base ≤ plan.marks
    → lead ≡ lead_in plan (front plan w) i → Under plan.marks size F t w G u v → lead ≡ lead_in plan (front plan v) i
lead-stays plan i lead le e under = e ∙ ap (λ g. lead_in plan g i) (sym (under-front under plan.base le))

pub from_state-t-requires-clause-fit : goal.from_state-t-requires-clause-fit
from_state-t-requires-clause-fit c =
    let under = c.loop-j.invariant in
    fit_same under.long (under-front under c.args.plan.base (omega (arith, c.requires.fit.laid.marks-at))) c.requires.fit

pub from_state-t-requires-clause-some_lead : goal.from_state-t-requires-clause-some_lead
from_state-t-requires-clause-some_lead c =
    let plan = c.args.plan in
    let under = c.loop-j.invariant in
    let (low, few, listed) = c.requires.line_lt_lines in
    let marks : plan.marks ≡ plan.base + plan.size = c.requires.fit.laid.marks-at in
    let less : c.loop-j.j < c.args.count = c.loop-j-test.true in
    let is = c.word-s.ensures ∙ front-word _ under (plan.base + c.loop-j.j) (omega arith) in
    ((c.args.line, low, lead-stays plan _ _ (omega arith) c.lead_of-lead.ensures under), subst (◌< plan.size) (sym is) (listed c.loop-j.j less))

pub loop-j-preserved : goal.loop-j-preserved
unfolding list_turn
loop-j-preserved c =
    let plan = c.args.plan in
    let under = c.loop-j.invariant in
    let (low, few, listed) = c.requires.line_lt_lines in
    let marks : plan.marks ≡ plan.base + plan.size = c.requires.fit.laid.marks-at in
    let less : c.loop-j.j < c.args.count = c.loop-j-test.true in
    let is = c.word-s.ensures ∙ front-word _ under (plan.base + c.loop-j.j) (omega arith) in
    let lead = lead-stays plan _ _ (omega arith) c.lead_of-lead.ensures under in
    let step = rw (under-stretch under plan.base plan.size (omega arith), under-front under plan.base (omega arith), is) at (c.from_state-t.ensures c.args.line low lead) in
    loop-turn _ _ _ under less step

pub returns : goal.returns
returns c = loop-end _ _ _ c.loop-j.invariant (omega arith)
