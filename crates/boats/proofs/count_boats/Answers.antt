-- `boats::count_boats`: the record's questions by what reading it ensures, the numbers by what numbering its boats does.
use Rattle.std.proofs.Common.{◌≡◌, length, ap, sym, ◌∙◌}
use Rattle.meaning.specs.Outcome.{told, value}
use Rattle.meaning.specs.Count.{Count, tallied}
use Rattle.meaning.specs.Record.{read_record}
use Rattle.refusals.specs.Refusal.{reply_mapped}
use Rattle.refusals.proofs.Handed.{reply-handed}
use Rattle.record.specs.Whole.{lines_in, lines_of, reading-refused, reading-passed}
use Rattle.boats.specs.Promise.{count_shown}
use Rattle.boats.proofs.Scans.{count-refused, count-passed}
use Rattle.boats.proofs.count_boats.Goals as goal

pub returns-in_err-counts : goal.returns-in_err-counts
returns-in_err-counts c =
    let s = c.args.day.now in
    let e = reading-refused (read_record s) _ c.in_err-counts.ensures in
    ap (reply_mapped count_shown) (reply-handed _ _ c.from_residual.ensures.1) ∙ sym (ap told (count-refused s _ e))

pub number_boats-requires : goal.number_boats-requires
number_boats-requires c =
    let (day, e, places, lines) = reading-passed (read_record c.args.day.now) _ c.in_ok-counts.ensures in
    lines ∙ sym (ap length (ap lines_in e))

pub returns : goal.returns
returns c =
    let s = c.args.day.now in
    let (day, e, places, lines) = reading-passed (read_record s) _ c.in_ok-counts.ensures in
    let (boats, low, reads) = c.number_boats.ensures.count in
    let both : ◌≡◌ {A = Count} (count_shown c.number_boats.result) (tallied (lines_of s)) = λ t. record { boats = boats t; reads = reads t } in
    ap value both ∙ (ap (λ o. value (tallied (lines_in o))) e ∙ sym (ap told (count-passed s day e)))
