-- `request::planned`: the stacks are what is left of the size, and each table begins where the one before it ends.
use Rattle.std.proofs.Common.{◌≡◌, ℕ, refl, sym, ap, ◌∙◌, ◌+◌, ◌*◌, ◌^◌, ◌/◌, ◌<◌, arith}
use native.Mathlib.Nat.{mul-le-mul, mul-div_cancel_left, one-le-pow}
use Rattle.request.proofs.planned.Goals as goal

pub nonzero_div-inverse : goal.nonzero_div-inverse
nonzero_div-inverse c =
    let a = c.args in
    let some : 0 < a.places * (a.done + 1) = mul-le-mul {n₁ = 1} {m₁ = 1} c.requires.some-place (omega arith) in
    let stacks-are : a.size / (a.places * (a.done + 1)) ≡ a.radix ^ a.keeps = ap (λ (n : ℕ). n / (a.places * (a.done + 1))) c.requires.size_is ∙ mul-div_cancel_left _ some in
    omega (arith, one-le-pow a.keeps a.radix c.requires.some-radix, stacks-are)

pub returns-clause-laid : goal.returns-clause-laid
returns-clause-laid c =
    let some : 0 < c.args.places * (c.args.done + 1) = mul-le-mul {n₁ = 1} {m₁ = 1} c.requires.some-place (omega arith) in
    let stacks-are : c.args.size / (c.args.places * (c.args.done + 1)) ≡ c.args.radix ^ c.args.keeps = let a = c.args in ap (λ (n : ℕ). n / (a.places * (a.done + 1))) c.requires.size_is ∙ mul-div_cancel_left _ some in
    let p = c.requires in
    let boat-words = c.boat_words.ensures in
    let kinds = c.table_words.ensures in
    let boats = c.table_words-2.ensures in
    let thin = c.table_words-3.ensures in
    let starts = c.table_words-4.ensures in
    record {
      some-place = p.some-place;
      few-places = p.few-places;
      few-lines = p.few-lines;
      few-positions = p.few-positions;
      few-keeps = p.few-keeps;
      some-radix = p.some-radix;
      few-boats = p.few-boats;
      stacks-is = stacks-are;
      inverse-is = refl;
      size_is = p.size_is ∙ ap (λ (n : ℕ). c.args.places * (c.args.done + 1) * n) (sym stacks-are);
      small = p.small;
      codes_at = omega (arith, boat-words);
      words-at = refl;
      base-at = refl;
      few_words = omega (arith, p.few_words, boat-words);
      marks-at = refl;
      room = omega (arith, p.room, boat-words);
      kinds-at = refl;
      boats-at = omega (arith, kinds);
      thin_at = omega (arith, boats);
      stamps-at = omega (arith, thin);
      filed-is = refl;
      starts-at = omega arith;
      ordered-is = cc;
    }
