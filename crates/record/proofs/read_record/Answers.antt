-- `record::read_record`: questions 1 and 2 by its tests, the rest by what `lines_from` ensures.
use Rattle.std.proofs.Common.{ℕ, length, drop, ap, ◌∙◌, le-leb}
use Rattle.std.proofs.lemmas.Bool.{lt-leb}
use Rattle.meaning.specs.Outcome.{refused}
use Rattle.meaning.specs.Record.{two, lines_from, read_record}
use Rattle.refusals.specs.Refusal.{mapped}
use Rattle.refusals.proofs.Handed.{handed}
use Rattle.record.specs.Whole.{head-long}
use Rattle.record.proofs.Loop.{head-wrong, head-right, counted_right, counted_wrong}
use Rattle.record.proofs.read_record.Goals as goal

pub returns-then-day-gt-LONGEST : goal.returns-then-day-gt-LONGEST
unfolding read_record
returns-then-day-gt-LONGEST c = simp (lt-leb _ _ c.if-day-gt-LONGEST.true)

pub returns-in_err-places : goal.returns-in_err-places
unfolding read_record
returns-in_err-places c =
    let h = head-wrong c.args.day.now _ c.in_err-places.ensures in
    handed _ _ c.from_residual.ensures.1 ∙ (ap refused h.1 ∙ simp (le-leb _ _ c.if-day-gt-LONGEST.false, h.0))

pub lines_from-requires : goal.lines_from-requires
lines_from-requires c = (head-long c.args.day.now (head-right c.args.day.now _ c.in_ok-places.ensures).0, c.if-day-gt-LONGEST.false)

pub returns-in_err-lines : goal.returns-in_err-lines
unfolding read_record
returns-in_err-lines c =
    let s = c.args.day.now in
    let h = head-right s _ c.in_ok-places.ensures in
    handed _ _ c.from_residual-in_err-lines.ensures.1
    ∙ simp (le-leb _ _ c.if-day-gt-LONGEST.false, h.0) (counted_wrong (two s 1) _ _ (c.in_err-lines.ensures ∙ ap (λ (n : ℕ). mapped length (lines_from (length s) n 0 (drop 3 s))) h.1))

pub returns : goal.returns
unfolding read_record
returns c =
    let s = c.args.day.now in
    let h = head-right s _ c.in_ok-places.ensures in
    simp (le-leb _ _ c.if-day-gt-LONGEST.false, h.0) (counted_right _ (two s 1) _ _ h.1 (c.in_ok-lines.ensures ∙ ap (λ (n : ℕ). mapped length (lines_from (length s) n 0 (drop 3 s))) h.1))
