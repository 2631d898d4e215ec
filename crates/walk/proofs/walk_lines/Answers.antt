-- `walk::walk_lines`: each line is written behind those before it, and the walk goes on from the frontier that it leads to, which stands at one place.
use Rattle.std.proofs.Common.{ap, ◌++◌, ◌<◌, ◌≤◌, drop, arith}
use Rattle.std.proofs.lemmas.List.{length-take-le}
use Rattle.states.specs.Spots.{front}
use Rattle.walk.specs.Chosen.{anything}
use Rattle.walk.proofs.Places.{leading-under, try-together}
use Rattle.walk.proofs.Ahead.{anything-same, walk-on, walk_end}
use Rattle.area.proofs.Changes.{under-step, under-front, under-stretch, ready-long}
use Rattle.walk.proofs.walk_lines.Goals as goal

pub choose_line-chosen-requires-clause-leading : goal.choose_line-chosen-requires-clause-leading
choose_line-chosen-requires-clause-leading c = leading-under c.loop-j.invariant.under c.requires.leading

pub loop-j-preserved : goal.loop-j-preserved
loop-j-preserved c =
    let so_far = c.loop-j.invariant in
    let u = so_far.under in
    let p = c.args.plan in
    let front_same = under-front u p.base (omega arith) in
    let dist_same = under-stretch u p.base p.size (omega arith) in
    let line = rw (front_same, dist_same) at c.choose_line-chosen.ensures.line-is in
    let step = rw (front_same, dist_same) at c.choose_line-chosen.ensures.step in
    let long = length-take-le c.args.far c.args.out.now c.requires.far_in_bounds.0 in
    let some : c.loop-j.j < c.args.far = omega (arith, c.loop-j-test.true, long) in
    record {
      rising = omega (arith, step.grows);
      whole = walk-on _ _ _ _ _ _ _ _ _ _ _ some (omega (arith, c.loop-j-test.true, c.loop-j.auto.x-items)) line step.now-found (ready-long u.ready) so_far.whole;
      together = try-together c.requires.leading.fit (front p c.args.work.now) _ _ c.loop-j.lo p.lines u.ready step;
      under = under-step u anything step (anything-same _ _);
    }

pub returns : goal.returns
returns c =
    let long = length-take-le c.args.far c.args.out.now c.requires.far_in_bounds.0 in
    let all : c.args.far ≤ c.loop-j.j = omega (arith, c.loop-j-test.false, long) in
    ap (◌++ drop c.args.far c.args.out.now) (walk_end _ _ _ _ _ _ _ _ all (omega (arith, c.loop-j-test.false, c.loop-j.auto.x-items)) c.loop-j.invariant.whole)
