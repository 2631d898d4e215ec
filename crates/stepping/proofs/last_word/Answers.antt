-- `stepping::last_word` meets its contract: the state expanded last is the queue's before the next. Assumes nothing.
use Rattle.std.proofs.Common.{◌≡◌, suc, ◌∙◌, arith}
use Rattle.stepping.proofs.Settling.{last_none, last_some}
use Rattle.stepping.proofs.last_word.Goals as goal

pub returns-in_default : goal.returns-in_default
returns-in_default c _ = last_none _ _ (omega (arith, c.in_default.ensures))

pub queued_word-requires : goal.queued_word-requires
queued_word-requires c = (c.requires, omega (arith, c.in-Some.ensures.0, c.in-Some.ensures.1, c.requires.order.expanded-low))

pub returns : goal.returns
returns c g =
    let next : c.args.s.at.expanded ≡ suc c.in-Some.last = omega (arith, c.in-Some.ensures.0, c.in-Some.ensures.1) in
    c.queued_word.ensures g ∙ last_some _ _ _ next
