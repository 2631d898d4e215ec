-- `walk::order_lines`: where there is no room nothing is promised but that all words stay.
use Rattle.walk.proofs.Places.{start-keyed, start-room}
use Rattle.walk.proofs.order_lines.Goals as goal

pub sort_lines-requires-clause-keyed : goal.sort_lines-requires-clause-keyed
sort_lines-requires-clause-keyed c = (start-keyed c.args.work.now c.requires.laid c.requires.starts, start-room c.requires.laid c.if-plan.true)
