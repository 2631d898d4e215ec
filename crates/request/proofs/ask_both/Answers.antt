-- `request::ask_both`: the counts of what passes are small by what reading the record and the pattern ensure.
use Rattle.std.proofs.Common.{arith}
use Rattle.meaning.specs.Record.{read_record}
use Rattle.record.specs.Whole.{reading-passed, places-few, lines-few}
use Rattle.request.proofs.ask_both.Goals as goal

pub returns-clause-small : goal.returns-clause-small
returns-clause-small c =
    let rec = c.args.day.now in
    let (day, e, places, lines) = reading-passed (read_record rec) _ c.in_ok-record.ensures in
    let few = places-few rec day e in
    let small = c.in_ok-tree.ensures.small in
    (omega (arith, places, few.0), omega (arith, places, few.1), omega (arith, lines, lines-few rec day e), small.1, small.2)
