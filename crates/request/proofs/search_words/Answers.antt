-- `request::search_words`: by what weighing ensures.
use Rattle.std.proofs.Common.{◌+◌, ◌*◌, sym, ap, ◌∙◌}
use Rattle.meaning.specs.Outcome.{told, value}
use Rattle.meaning.specs.Request.{need}
use Rattle.refusals.proofs.Handed.{reply-handed}
use Rattle.request.specs.Asking.{ask_weight, weight_of}
use Rattle.request.specs.declared.Weight.{Weight}
use Rattle.request.proofs.Asking.{search-words-refused, search-words-are, mapped-refused, mapped-passed}
use Rattle.request.proofs.search_words.Goals as goal

pub returns-in_err-weight : goal.returns-in_err-weight
returns-in_err-weight c =
    let a = c.args in
    let e = mapped-refused weight_of (ask_weight a.day.now a.pattern.now) _ c.in_err-weight.ensures.weighed in
    reply-handed _ _ c.from_residual.ensures.1 ∙ sym (ap told (search-words-refused a.day.now a.pattern.now _ e))

pub returns : goal.returns
returns c =
    let a = c.args in
    let (q, e, w) = mapped-passed weight_of (ask_weight a.day.now a.pattern.now) _ c.in_ok-weight.ensures.weighed in
    ap value (c.search_words_for.ensures ∙ ap (λ (x : Weight). need x.size + 3 * x.lines) w) ∙ sym (ap told (search-words-are a.day.now a.pattern.now q e))
