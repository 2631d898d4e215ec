-- A line that leads from a state: its places, and the position and the stack that the state stands at, are in range. Assumes nothing.
use Rattle.std.proofs.Common.{◌≡◌, sym, ap, subst, List, ℕ, ◌+◌, ◌%◌, ◌<◌, ◌≤◌, mod-lt, arith}
use Rattle.request.specs.Layout.{Laid}
use Rattle.request.specs.declared.Plan.{Plan}
use Rattle.states.specs.Spots.{front, Fit}
use Rattle.states.proofs.Bounds.{stacks-pos, stacks-small}
use Rattle.forward.specs.Leads.{SomeLead}
use Rattle.forward.specs.declared.Lead.{Lead}

-- the line's places are places
pub ends_low : {plan : Plan} {a w : List ℕ} {lead : Lead} → Fit plan a w → SomeLead plan (front plan w) lead → (lead.from < 1024) × (lead.to < plan.places)
ends_low {plan = plan} {lead = lead} f (i, less, is) =
    let from : lead.from < plan.places = subst (◌< plan.places) (sym (ap (λ (l : Lead). l.from) is)) (f.starts i less) in
    (omega (arith, from, f.laid.few-places), subst (◌< plan.places) (sym (ap (λ (l : Lead). l.to) is)) (f.ends i less))

-- the position and the stack that a state stands at are in range
pub position-low : (n m k : ℕ) → k ≡ n % (m + 1) → k ≤ m
position-low n m k e = omega (arith, e, mod-lt n {m = m + 1} (omega arith))

pub stack-small : {plan : Plan} {n : ℕ} (laid : Laid plan n) (s v : ℕ) → v ≡ s % plan.stacks → v < 4294967296
stack-small {plan = plan} laid s v e = omega (arith, e, mod-lt s {m = plan.stacks} (stacks-pos laid), stacks-small laid, laid.small)
