-- `searching::move_search` meets its contract: an area shorter than the words in front, and one of which no search can be taken out, was left by no begin;
-- a search that is taken out is moved on. Assumes nothing.
use Rattle.std.proofs.Common.{sym}
use Rattle.refusals.proofs.Handed.{reply-handed}
use Rattle.searching.proofs.Replying.{none-short, none-sound, none-taken, move-none, move_some}
use Rattle.searching.proofs.move_search.Goals as goal

pub returns-then-work-lt-TABLES : goal.returns-then-work-lt-TABLES
returns-then-work-lt-TABLES c = move-none c.args.amount c.args.work.now (none-short c.args.work.now c.if-work-lt-TABLES.true)

pub returns-in_err-s : goal.returns-in_err-s
returns-in_err-s c =
    let (none, is) = none-taken _ _ (sym c.in_err-s.ensures.value) in
    let never = rw none at c.taken_out.ensures in
    rw (reply-handed _ _ c.from_residual.ensures.1, is) (move-none c.args.amount c.args.work.now (none-sound c.args.work.now _ c.pattern_bytes-long.ensures.1 never))

pub returns : goal.returns
returns c =
    let sound = rw c.in_ok-s.ensures.ok_part at c.taken_out.ensures in
    move_some c.args.amount c.args.work.now _ c.pattern_bytes-long.ensures.1 _ sound _ _ c.move_taken.ensures
