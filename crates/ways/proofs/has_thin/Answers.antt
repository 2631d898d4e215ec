-- `ways::has_thin` meets its contract: the boats' table is there, and another where its first word says so. Assumes nothing.
use mathlib.Core.Path.{sym, subst}
use native.Mathlib.Omega.{arith}
use Rattle.states.specs.declared.Sieve.{Sieve}
use Rattle.thinned.specs.Runs.{stamps-are}
use Rattle.ways.specs.Filed.{Sieved}
use Rattle.ways.proofs.has_thin.Goals as goal

pub returns-in-Boats : goal.returns-in-Boats
returns-in-Boats c = λ _.
    let (l, f) = c.requires in
    subst (λ (v : Sieve). Sieved v c.args.plan c.args.work.now) (sym c.in-Boats.is) (record { room = omega (arith, stamps-are l, f.basic.room); thin = f.basic.thin })
