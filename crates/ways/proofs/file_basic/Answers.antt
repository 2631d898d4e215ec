-- `ways::file_basic` meets its contract: each table stands after the one before, which stays. Assumes nothing.
use Rattle.ways.proofs.Filing.{kinds-asked, boats-asked, thin-asked, basic-all, basic-kept}
use Rattle.ways.proofs.file_basic.Goals as goal

pub sort_lines-requires-clause-keyed : goal.sort_lines-requires-clause-keyed
sort_lines-requires-clause-keyed c = (kinds-asked c.args.plan c.args.work.now c.requires.laid c.requires.told.0 c.requires.told.1).1

pub sort_boats-requires-clause-keyed : goal.sort_boats-requires-clause-keyed
sort_boats-requires-clause-keyed c =
    (boats-asked c.args.plan c.args.work.now c.requires.laid c.requires.told.0 c.requires.told.1 c.sort_lines.new.work c.sort_lines.ensures.sorted c.sort_lines.ensures.kept).1

pub thin_lines-requires-clause-sorted : goal.thin_lines-requires-clause-sorted
thin_lines-requires-clause-sorted c =
    (thin-asked c.args.plan c.args.work.now c.requires.laid c.requires.told.0 c.requires.told.1 c.sort_lines.new.work c.sort_lines.ensures.sorted c.sort_lines.ensures.kept c.sort_boats.new.work c.sort_boats.ensures.sorted c.sort_boats.ensures.kept).1

pub returns-clause-basic : goal.returns-clause-basic
returns-clause-basic c =
    basic-all c.args.plan c.args.work.now c.requires.laid c.requires.told.0 c.requires.told.1 c.sort_lines.new.work c.sort_lines.ensures.sorted c.sort_lines.ensures.kept c.sort_boats.new.work c.sort_boats.ensures.sorted c.sort_boats.ensures.kept c.thin_lines.new.work c.thin_lines.ensures.thinned c.thin_lines.ensures.kept

pub returns-clause-kept : goal.returns-clause-kept
returns-clause-kept c =
    basic-kept c.args.plan c.args.work.now c.requires.laid c.requires.told.0 c.requires.told.1 c.sort_lines.new.work c.sort_lines.ensures.sorted c.sort_lines.ensures.kept c.sort_boats.new.work c.sort_boats.ensures.sorted c.sort_boats.ensures.kept c.thin_lines.new.work c.thin_lines.ensures.thinned c.thin_lines.ensures.kept
