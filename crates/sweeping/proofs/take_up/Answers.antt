-- `sweeping::take_up`: the state looks for its least line, or nothing is done, as its mark says.
use Rattle.std.proofs.Common.{sym, ◌∙◌, arith}
use Rattle.sweeping.proofs.Marks.{mark_of, only_none}
use Rattle.sweeping.proofs.Taken.{taken-front, taken-other}
use Rattle.sweeping.proofs.take_up.Goals as goal

pub returns-then-word-at : goal.returns-then-word-at
returns-then-word-at c =
    let led = rw c.saturating_sub.ensures at c.lead_on.ensures in
    let own = c.word.ensures ∙ mark_of c.args.plan c.args.work.now c.args.s c.requires.s_lt_size.0 in
    record { now-noted = led.now-noted ∙ sym (taken-front _ _ _ _ _ _ _ (omega (arith, own, c.if-word-at.true))); low = led.low; only = led.only }

pub returns : goal.returns
returns c =
    let own = c.word.ensures ∙ mark_of c.args.plan c.args.work.now c.args.s c.requires.s_lt_size.0 in
    record { now-noted = sym (taken-other _ _ _ _ _ _ _ (λ e. c.if-word-at.false (omega (arith, own, e)))); low = c.requires.s_lt_size.2; only = only_none }
