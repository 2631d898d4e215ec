-- `chains::asked`: what the finder promises of its reply is what the line is made of.
use Rattle.std.proofs.Common.{ℕ, ◌<◌, arith, get_or, subst, sym}
use Rattle.meaning.specs.Windows.{plain}
use Rattle.finder.specs.Demand.{Bounds}
use Rattle.finder.proofs.Demand.{find-bounds}
use Rattle.chains.proofs.asked.Goals as goal

pub render-requires-clause-bounds : goal.render-requires-clause-bounds
render-requires-clause-bounds c =
    let low : (i : ℕ) → get_or c.args.day.now i 0 < 256 = λ i. omega (arith, c.type_inv.day i) in
    let small = subst (Bounds 2048) (sym c.find-reply.ensures.reply) (find-bounds c.args.day.now c.args.pattern.now c.args.from c.args.to plain 16384 2048 low) in
    rw c.find-reply.auto.out small
