-- `record::entry_at`: each return is the case of `entry_at` that its tests decide.
use Rattle.std.proofs.Common.{◌≡◌, sym, ap, ◌∙◌, length, arith}
use Rattle.refusals.specs.Refusal.{mapped}
use Rattle.record.specs.Reading.{entry_width}
use Rattle.record.proofs.Tests.{entry_none, entry_end, entry-after, entry-untimed, entry-timed, entry-other}
use Rattle.record.proofs.entry_at.Goals as goal

pub returns-then-is_empty : goal.returns-then-is_empty
returns-then-is_empty c =
    let none : length c.args.s.now ≡ 0 = grind (arith, c.if-is_empty.ensures) in
    ap (mapped entry_width) (sym (entry_none c.args.places c.args.lines c.args.s.now none))

pub returns-then-s-eq1 : goal.returns-then-s-eq1
returns-then-s-eq1 c = ap (mapped entry_width) (sym (entry_end c.args.places c.args.lines c.args.s.now c.if-s-eq1.true c.if-command-eq-END.true))

pub returns-then-command-eq-END : goal.returns-then-command-eq-END
returns-then-command-eq-END c =
    let some : length c.args.s.now ≡ 0 → ⊥ = λ h. grind (arith, c.if-is_empty.ensures) in
    ap (mapped entry_width) (sym (entry-after c.args.places c.args.lines c.args.s.now some c.if-s-eq1.false c.if-command-eq-END.true))

pub returns-then-command-eq-LINE : goal.returns-then-command-eq-LINE
returns-then-command-eq-LINE c =
    let some : length c.args.s.now ≡ 0 → ⊥ = λ h. grind (arith, c.if-is_empty.ensures) in
    c.line_entry.ensures ∙ ap (mapped entry_width) (sym (entry-untimed c.args.places c.args.lines c.args.s.now some c.if-command-eq-LINE.true))

pub returns-then-command-eq-TIMED : goal.returns-then-command-eq-TIMED
returns-then-command-eq-TIMED c =
    let some : length c.args.s.now ≡ 0 → ⊥ = λ h. grind (arith, c.if-is_empty.ensures) in
    c.line_entry-then-command-eq-TIMED.ensures ∙ ap (mapped entry_width) (sym (entry-timed c.args.places c.args.lines c.args.s.now some c.if-command-eq-TIMED.true))

pub returns : goal.returns
returns c =
    let some : length c.args.s.now ≡ 0 → ⊥ = λ h. grind (arith, c.if-is_empty.ensures) in
    ap (mapped entry_width) (sym (entry-other c.args.places c.args.lines c.args.s.now some c.if-command-eq-END.false c.if-command-eq-LINE.false c.if-command-eq-TIMED.false))
