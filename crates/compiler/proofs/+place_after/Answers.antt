-- `compiler::place_after`: the command at the place passed its questions, and what stands after it was read (`Parts`).
use Rattle.std.proofs.Common.{ap, ◌∙◌, arith}
use Rattle.meaning.specs.Pattern.{inside}
use Rattle.pattern.specs.Reading.{byte_of}
use Rattle.compiler.proofs.Parts.{commands-there, led, none_after, one-after, two-after, over-next, over-stands, over-second, second-stands, over-place}
use Rattle.compiler.proofs.+place_after.Goals as goal

pub step_at-c-requires : goal.step_at-c-requires
step_at-c-requires t c = commands-there c.requires.is

pub returns-then-c-eq0 : goal.returns-then-c-eq0
returns-then-c-eq0 t c = record { ends = λ o x e. ap (λ y. y.next) (none_after (led e c.step_at-c.ensures) c.if-c-eq0.true) }

pub place_after-then-requires : goal.place_after-then-requires
place_after-then-requires t c =
    let place = over-next c.step_at-c.ensures c.requires.is in
    (omega (arith, c.decreases, place.0, place.1), over-stands c.step_at-c.ensures c.requires.is c.if-c-eq0.false)

pub returns-then-c-eq1 : goal.returns-then-c-eq1
returns-then-c-eq1 t c = record {
  ends = λ o x e.
      let q = one-after (led e c.step_at-c.ensures) c.if-c-eq1.true in
      c.place_after-then.ensures.ends (inside (byte_of c.step_at-c.result.op) c.step_at-c.result.second o) q.inner q.reads ∙ ap (λ y. y.next) q.is;
}

pub place_after-requires : goal.place_after-requires
place_after-requires t c =
    let place = over-place c.step_at-c.ensures c.requires.is c.if-c-eq0.false c.if-c-eq1.false c.place_after-then.ensures in
    (omega (arith, c.decreases, place.0, place.1), second-stands c.step_at-c.ensures c.requires.is c.if-c-eq0.false c.if-c-eq1.false c.place_after-then.ensures)

pub returns : goal.returns
returns t c = record {
  ends = λ o x e.
      let q = two-after (led e c.step_at-c.ensures) c.if-c-eq0.false c.if-c-eq1.false in
      c.place_after.ensures.ends o q.second (over-second c.step_at-c.ensures e c.if-c-eq0.false c.if-c-eq1.false c.place_after-then.ensures q) ∙ ap (λ y. y.next) q.is;
}
