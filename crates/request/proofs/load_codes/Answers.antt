-- `request::load_codes`: each turn writes the next number after those that stand.
use Rattle.std.proofs.Common.{sym, ◌∙◌, arith, length, take, length-set, length-take-le, get_or-take}
use Rattle.lists.specs.Filled.{fill-next}
use Rattle.request.proofs.load_codes.Goals as goal

pub loop-i-preserved : goal.loop-i-preserved
loop-i-preserved c =
    let a = c.args in
    let inv = c.loop-i.invariant in
    let i = c.loop-i.i in
    let m = length a.part.now in
    let word = c.from.ensures ∙ sym (get_or-take m a.numbers.now i 0 (omega arith)) in (
      simp length-set inv.0,
      rw (inv.1, word) (fill-next (take m a.numbers.now) _ i (omega (arith, length-take-le m a.numbers.now inv.2)) (omega arith)),
      inv.2,
    )
