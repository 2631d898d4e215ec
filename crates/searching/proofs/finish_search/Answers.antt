-- `searching::finish_search` meets its contract: an area shorter than the words in front, and one of which no search can be taken out, was left by no
-- begin; a search that is taken out is finished, and the area cleared. Assumes nothing.
use Rattle.std.proofs.Common.{◌≡◌, sym, ap, ◌∙◌, length, arith}
use Rattle.request.specs.Told.{all-zero}
use Rattle.finder.specs.Searching.{told_by}
use Rattle.finder.proofs.Handed.{output-handed}
use Rattle.searching.proofs.Replying.{none-short, none-sound, none-taken, finish-none, finish-some}
use Rattle.searching.proofs.finish_search.Goals as goal

pub returns-then-work-lt-TABLES : goal.returns-then-work-lt-TABLES
returns-then-work-lt-TABLES c = finish-none c.args.work.now c.args.out.now (none-short c.args.work.now c.if-work-lt-TABLES.true)

pub returns-in_err-s : goal.returns-in_err-s
returns-in_err-s c =
    let (none, is) = none-taken _ _ (sym c.in_err-s.ensures.value) in
    let never = rw none at c.taken_out.ensures in
    rw (output-handed _ _ c.from_residual.ensures.1, is) (finish-none c.args.work.now c.args.out.now (none-sound c.args.work.now _ c.pattern_bytes-long.ensures.1 never))

pub returns : goal.returns
returns c =
    let sound = rw c.in_ok-s.ensures.ok_part at c.taken_out.ensures in
    let cleared = all-zero (length c.finish_taken-length.new.work) (length c.args.work.now) _ c.clear.ensures (omega arith) in
    let long : length c.finish_taken-length.new.out ≡ length c.args.out.now = omega arith in
    let reply = c.answered.ensures ∙ ap (told_by c.finish_taken-length.result) long in
    finish-some c.args.work.now c.args.out.now _ c.pattern_bytes-long.ensures.1 _ sound _ _ c.finish_taken-length.ensures _ cleared _ reply
