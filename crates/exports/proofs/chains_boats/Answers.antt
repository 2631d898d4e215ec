-- `exports::chains_boats` meets its contract: both numbers that `count_boats` gives, where there is room for them.
-- Assumes nothing.
use mathlib.Core.Path.{refl, sym, ap, ◌∙◌, subst}
use native.Mathlib.Omega.{arith}
use borrow.Author.Tests.{le-leb, lt-leb}
use Rattle.meaning.specs.Count.{count_of}
use Rattle.boats.specs.Promise.{count_shown, count_reply}
use Rattle.boats.proofs.Scans.{Low, count_low}
use Rattle.exports.proofs.Numbers.{refused-is, told-refused, told-passed}
use Rattle.exports.proofs.chains_boats.Goals as goal

pub returns-then-room-lt2 : goal.returns-then-room-lt2
returns-then-room-lt2 c =
    let a = c.args in
    rw (told-passed (count_of a.rec.now) _ (ap count_reply (sym c.in-Ok.is) ∙ c.count_boats.ensures), lt-leb _ _ c.if-room-lt2.true) (record { reply = refl; words = refl })

pub put_two-requires : goal.put_two-requires
put_two-requires c =
    let low = subst Low (told-passed (count_of c.args.rec.now) (count_shown c.in-Ok.n) (ap count_reply (sym c.in-Ok.is) ∙ c.count_boats.ensures)) (count_low c.args.rec.now) in
    (c.if-room-lt2.false, omega (arith, low.0), omega (arith, low.1))

pub returns-in-Err : goal.returns-in-Err
returns-in-Err c =
    let a = c.args in
    rw (told-refused (count_of a.rec.now) _ _ (ap count_reply (sym c.in-Err.is) ∙ c.count_boats.ensures)) (record { reply = refused-is _ _ (omega (arith, c.refusal.ensures, c.number.ensures)); words = refl })

pub returns-else-room-lt2 : goal.returns-else-room-lt2
returns-else-room-lt2 c =
    let a = c.args in
    rw (told-passed (count_of a.rec.now) _ (ap count_reply (sym c.in-Ok.is) ∙ c.count_boats.ensures), le-leb _ _ c.if-room-lt2.false) (record { reply = refl; words = c.put_two.ensures })
