-- `walk::chain_into`: the lines are put in order after all that the search uses, the first states are put into the cleared pair, and the walk goes on
-- from there.
use Rattle.std.proofs.Common.{sym, ◌∙◌, subst, ◌+◌, ◌≤◌, ◌<◌, length, arith}
use Rattle.request.specs.Layout.{Laid}
use Rattle.graph.specs.Table.{blank}
use Rattle.states.specs.Pairs.{distances}
use Rattle.states.specs.Spots.{front}
use Rattle.area.proofs.Changes.{cleared-under, step-cleared, step-under, under-front, under-stretch}
use Rattle.forward.specs.Firsts.{start-law}
use Rattle.walk.specs.Leading.{Leading}
use Rattle.walk.proofs.Places.{ordered-front, ordered-dist, ordered-leading, leading-under, first-together}
use Rattle.walk.proofs.chain_into.Goals as goal

pub over_next-tail-requires : goal.over_next-tail-requires
over_next-tail-requires c =
    let f = c.requires.fit in
    let p = c.args.plan in
    let (before, long) = c.order_lines.ensures.work_unchanged in
    let v = c.order_lines.new.work in
    let room : p.marks + p.size + p.size ≤ length v = omega (arith, f.laid.room, f.laid.marks-at, long) in
    let small : p.size < 4294967296 = omega (arith, f.laid.small) in
    let u = cleared-under p.marks p.size v room small in
    rw c.clear_stretch.ensures
    (record { ready_forth = u.ready; laid = subst (Laid p) (sym long ∙ sym u.long) f.laid; to_lt_places = (c.requires.from_lt_places.0, f.depths-low) })

pub walk_lines-requires : goal.walk_lines-requires
walk_lines-requires c =
    let f = c.requires.fit in
    let p = c.args.plan in
    let (before, long) = c.order_lines.ensures.work_unchanged in
    let v = c.order_lines.new.work in
    let leading : Leading p c.args.program.now v = ordered-leading f.laid c.args.work.now v before long c.order_lines.ensures.ordered f in
    let room : p.marks + p.size + p.size ≤ length v = omega (arith, f.laid.room, f.laid.marks-at, long) in
    let first = rw c.clear_stretch.ensures at c.over_next-tail.ensures in
    let step = step-cleared p.marks p.size v room _ _ _ first in
    let begun = start-law p c.args.program.now c.args.begin _ c.args.nearest c.args.from (blank p.size) c.requires.from_lt_places.1 in
    let together = first-together f (front p v) _ c.args.nearest c.args.begin c.args.from p.size step.ready (step.now-found ∙ sym begun) in
    record { ready_forth = step.ready; leading = leading-under (step-under step) leading; far_in_bounds = (omega (arith, c.requires.from_lt_places.2), together) }

-- the distances are as they were when the lines were put in order, so the first frontier is that of the old words
pub returns : goal.returns
returns c =
    let f = c.requires.fit in
    let p = c.args.plan in
    let (before, long) = c.order_lines.ensures.work_unchanged in
    let v = c.order_lines.new.work in
    let room : p.marks + p.size + p.size ≤ length v = omega (arith, f.laid.room, f.laid.marks-at, long) in
    let small : p.size < 4294967296 = omega (arith, f.laid.small) in
    let d = distances p c.args.work.now in
    let dist-kept = ordered-dist f.laid c.args.work.now v before (omega (arith, f.laid.room, f.laid.starts-at)) (omega (arith, f.laid.room, f.laid.starts-at, long)) in
    let u = cleared-under p.marks p.size v room small in
    let first = rw (c.clear_stretch.ensures, under-stretch u p.base p.size (omega (arith, f.laid.marks-at)), dist-kept) at c.over_next-tail.ensures in
    let step = step-cleared p.marks p.size v room _ _ _ first in
    let begun = start-law p c.args.program.now c.args.begin d c.args.nearest c.args.from (blank p.size) c.requires.from_lt_places.1 in
    let table = step.now-found ∙ sym begun in
    let dist_same = under-stretch (step-under step) p.base p.size (omega (arith, f.laid.marks-at)) in
    rw (under-front (step-under step) p.base (omega (arith, f.laid.marks-at)), dist_same, ordered-front f.laid c.args.work.now v before, dist-kept, table) at c.walk_lines.ensures
