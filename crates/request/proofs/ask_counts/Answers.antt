-- `request::ask_counts`: record and pattern by what asking them ensures, 15 by its test, 27 by what the windows ensure, 16 by the size.
use Rattle.std.proofs.Common.{◌≡◌, refl, sym, ap, ◌∙◌, ℕ, suc, leb, length, add-one, arith}
use Rattle.meaning.specs.Outcome.{refused}
use Rattle.meaning.specs.Record.{boats}
use Rattle.meaning.specs.Request.{ask_both}
use Rattle.refusals.specs.Refusal.{number}
use Rattle.refusals.specs.declared.Refusal.{Refusal}
use Rattle.refusals.proofs.Handed.{handed}
use Rattle.windows.specs.Promise.{options_shown}
use Rattle.request.specs.Layout.{largest}
use Rattle.request.specs.Asking.{both_of, ask_sized}
use Rattle.request.proofs.Asking.{mapped-refused, both-counted, stepped-size, size-refused, size-passed, sized-refused, sized-from, sized-to, sized-windows, sized-above, sized-all}
use Rattle.request.proofs.ask_counts.Goals as goal
use Rattle.request.proofs.ask_counts.Goals.{then-both-from-via-then-both-from, then-both-from-via-else-both-from+then-both-from-2}

pub returns-in_err-both-clause-counts : goal.returns-in_err-both-clause-counts
returns-in_err-both-clause-counts c =
    let a = c.args in
    let options = options_shown a.options in
    let e = mapped-refused both_of (ask_both a.day.now a.pattern.now options) _ (c.in_err-both.ensures.both options) in
    rw (sized-refused a.day.now a.pattern.now a.from a.to options _ e) (handed _ _ c.from_residual.ensures.1)

pub returns-then-both-from-clause-counts : goal.returns-then-both-from-clause-counts
returns-then-both-from-clause-counts c =
    let a = c.args in
    let options = options_shown a.options in
    let h = both-counted a.day.now a.pattern.now options c.in_ok-both.both (c.in_ok-both.ensures.both options) in
    let no : ask_sized a.day.now a.pattern.now a.from a.to options ≡ refused 15 = elim c.then-both-from.branch [
      | then-both-from-via-then-both-from w ↦ sized-from h a.from a.to (omega arith)
      | then-both-from-via-else-both-from+then-both-from-2 w ↦ sized-to h a.from a.to (omega arith) (omega arith)
    ] in
    rw no refl

pub returns-then-not-allowed-clause-counts : goal.returns-then-not-allowed-clause-counts
returns-then-not-allowed-clause-counts c =
    let a = c.args in
    let options = options_shown a.options in
    let h = both-counted a.day.now a.pattern.now options c.in_ok-both.both (c.in_ok-both.ensures.both options) in
    rw (sized-windows h a.from a.to (omega arith) (omega arith) (sym c.allowed.ensures ∙ c.if-not-allowed.true)) refl

pub number_boats-count-requires : goal.number_boats-count-requires
number_boats-count-requires c =
    let a = c.args in
    let options = options_shown a.options in
    let h = both-counted a.day.now a.pattern.now options c.in_ok-both.both (c.in_ok-both.ensures.both options) in
    h.lines_are ∙ sym (ap length h.lines-of)

pub returns-in_err-size-clause-counts : goal.returns-in_err-size-clause-counts
returns-in_err-size-clause-counts c =
    let a = c.args in
    let options = options_shown a.options in
    let h = both-counted a.day.now a.pattern.now options c.in_ok-both.both (c.in_ok-both.ensures.both options) in
    let size = stepped-size h c.number_boats-count.result.boats c.number_boats-count.ensures.count.0 in
    let (above, why) = size-refused _ _ _ _ c.size_of-sizing.ensures c.in_err-size.ensures.value in
    rw (sized-above h a.from a.to (omega arith) (omega arith) (sym c.allowed.ensures ∙ c.if-not-allowed.false) (ap (λ (n : ℕ). leb n largest) (sym size) ∙ above))
    (handed _ _ c.from_residual-in_err-size.ensures.1 ∙ ap (λ (e : Refusal). refused (number e)) why)

pub returns-clause-counts : goal.returns-clause-counts
returns-clause-counts c =
    let a = c.args in
    let options = options_shown a.options in
    let h = both-counted a.day.now a.pattern.now options c.in_ok-both.both (c.in_ok-both.ensures.both options) in
    let s = c.in_ok-both.ensures.small in
    let count = c.number_boats-count.ensures.count in
    let size = stepped-size h c.number_boats-count.result.boats count.0 in
    let (within, is, low) = size-passed _ _ _ _ c.size_of-sizing.ensures c.in_ok-size.ensures.value in
    rw (sized-all h a.from a.to (omega arith) (omega arith) (sym c.allowed.ensures ∙ c.if-not-allowed.false) (ap (λ (n : ℕ). leb n largest) (sym size) ∙ within)) (
      _,
      refl,
      record {
        places-are = h.places-are;
        lines_are = h.lines_are;
        unfolded_is = h.unfolded_is;
        keeps-are = h.keeps-are;
        radix-is = add-one _ ∙ ap suc (count.0 ∙ ap (λ ls. length (boats ls)) h.lines-of);
        size_is = is ∙ size;
        some-place = s.0;
        few-places = s.1;
        few-lines = s.2;
        few-positions = s.3;
        few-keeps = s.4;
        few-boats = omega (arith, count.1);
        small = low;
      },
    )
