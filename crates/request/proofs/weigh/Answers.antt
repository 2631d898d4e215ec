-- `request::weigh`: questions 1 to 14, 24 and 25 by what asking them ensures, 16 by the size.
use Rattle.std.proofs.Common.{sym, ap, ◌∙◌, ℕ, length, leb}
use Rattle.meaning.specs.Outcome.{refused, passed}
use Rattle.meaning.specs.Windows.{plain}
use Rattle.meaning.specs.Request.{ask_both}
use Rattle.refusals.specs.Refusal.{number}
use Rattle.refusals.specs.declared.Refusal.{Refusal}
use Rattle.refusals.proofs.Handed.{handed}
use Rattle.request.specs.Layout.{largest}
use Rattle.request.specs.Asking.{both_of}
use Rattle.request.proofs.Asking.{mapped-refused, both-counted, counted-size, size-refused, size-passed, weight-refused, weight-above, weight_is}
use Rattle.request.proofs.weigh.Goals as goal

pub returns-in_err-both-clause-weighed : goal.returns-in_err-both-clause-weighed
returns-in_err-both-clause-weighed c =
    let a = c.args in
    let e = mapped-refused both_of (ask_both a.day.now a.pattern.now plain) _ (c.in_err-both.ensures.both plain) in
    rw (weight-refused a.day.now a.pattern.now _ e) (handed _ _ c.from_residual.ensures.1)

pub sized-requires : goal.sized-requires
sized-requires c =
    let h = both-counted c.args.day.now c.args.pattern.now plain c.in_ok-both.both (c.in_ok-both.ensures.both plain) in
    let s = c.in_ok-both.ensures.small in
    (h.lines_are ∙ sym (ap length h.lines-of), s.1, s.3)

pub returns-in_err-size-clause-weighed : goal.returns-in_err-size-clause-weighed
returns-in_err-size-clause-weighed c =
    let a = c.args in
    let h = both-counted a.day.now a.pattern.now plain c.in_ok-both.both (c.in_ok-both.ensures.both plain) in
    let (above, why) = size-refused _ _ _ _ c.sized.ensures c.in_err-size.ensures.value in
    rw (weight-above a.day.now a.pattern.now h.asked h.both (ap (λ (n : ℕ). leb n largest) (sym (counted-size h)) ∙ above))
    (handed _ _ c.from_residual-in_err-size.ensures.1 ∙ ap (λ (e : Refusal). refused (number e)) why)

pub returns-clause-weighed : goal.returns-clause-weighed
returns-clause-weighed c =
    let a = c.args in
    let h = both-counted a.day.now a.pattern.now plain c.in_ok-both.both (c.in_ok-both.ensures.both plain) in
    let (within, is, low) = size-passed _ _ _ _ c.sized.ensures c.in_ok-size.ensures.value in
    rw (weight_is a.day.now a.pattern.now h.asked h.both (ap (λ (n : ℕ). leb n largest) (sym (counted-size h)) ∙ within))
    (ap passed (λ i. record { lines = h.lines_are i; size = (is ∙ counted-size h) i }))
