-- `ways::thin_more` meets its contract: the table is made, or its first word says that it is not. Assumes nothing.
use mathlib.Core.Path.{◌≡◌, ap, ◌∙◌}
use Prim.Native.Nat.{◌+◌}
use native.Mathlib.Omega.{arith}
use lib.ListN.{get_or, set}
use lib.Seq.{get_or-set_same}
use Rattle.thinned.specs.Runs.{stamps-are, stamps-small}
use Rattle.thinned.specs.Thinning.{thin_at}
use Rattle.ways.proofs.thin_more.Goals as goal

pub thin_at-requires : goal.thin_at-requires
thin_at-requires c =
    (stamps-are c.requires.laid, stamps-small c.requires.laid, c.requires.laid.few-places)

pub returns-else-asked-clause-thinned : goal.returns-else-asked-clause-thinned
returns-else-asked-clause-thinned c =
    let x = c.args in
    let at = thin_at x.sieve x.plan in
    let place : c.thin_at.result + 0 ≡ at = omega (arith, c.thin_at.ensures) in
    let written = c.write.ensures ∙ ap (λ n. set x.work.now n 0) place in
    λ said. absurd (said.some (ap (λ l. get_or l at 0) written ∙ get_or-set_same x.work.now at 0 0 (omega (arith, c.requires.sorted.2))))
