-- `put_front` meets its contract: five words are put in front, and the part that is lent comes back with the pattern's bytes. Assumes nothing.
use Rattle.std.proofs.Common.{◌≡◌, ◌+◌, ◌-◌, length, arith}
use Rattle.area.specs.Area.{patch}
use Rattle.searching.proofs.Writing.{front-written}
use Rattle.searching.proofs.put_front.Goals as goal

pub returns : goal.returns
unfolding patch
returns c =
    let a = c.args in
    let same : 17 + length a.pattern.now - 17 ≡ length a.pattern.now = omega arith in
    rw (c.put_bytes.ensures, same, c.copy_from_slice.ensures.after) (front-written a.plan a.from a.pattern.now a.work.now (omega (arith, c.requires.tables_at_in_bounds.0, c.requires.tables_at_in_bounds.1)))
