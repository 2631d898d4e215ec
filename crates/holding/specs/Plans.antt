-- The plan as a definition: what `request::planned` computes (`planned-is`). It is laid out in the area (`laid_from`), and a plan that is laid
-- out is that of its numbers (`laid-plan`): the numbers in front say one plan (`plan-only`).
use Rattle.std.specs.Prelude.{◌≡◌, List, ℕ, suc, ◌+◌, ◌*◌, ◌^◌, ◌/◌, length}
use Rattle.std.proofs.Math.Path.{refl, ap}
use Rattle.std.proofs.Common.{sym, ◌∙◌, add-one, arith}
use Rattle.std.proofs.Math.Dec.{leb}
use Rattle.request.specs.Layout.{scale, table_words, boat_words, Laid, Fitting}
use Rattle.request.specs.declared.Plan.{Plan}
use Rattle.holding.specs.Holding.{tables_at, radix_in, places_in, lines_in, PlanIs}

module _ (places lines done keeps radix size at area : ℕ) where
  unfoldable pub plan_from : Plan
  plan_from =
      let codes = at + boat_words keeps radix in
      let words = codes + lines in
      let base = words + lines in
      let bykind = base + 2 * size in
      let byboat = bykind + table_words (places * 16) lines in
      let thin = byboat + table_words (places * radix) lines in
      let stamps = thin + table_words (places * 16) lines in
      let bystart = base + 3 * size in
      record {
        places = places;
        lines = lines;
        done = done;
        radix = radix;
        stacks = radix ^ keeps;
        inverse = scale / radix ^ keeps + 1;
        size = size;
        codes = codes;
        words = words;
        base = base;
        marks = base + size;
        thin = thin;
        stamps = stamps;
        bykind = bykind;
        byboat = byboat;
        bystart = bystart;
        boats = at;
        keeps = keeps;
        filed = leb (stamps + 2 * places) area;
        ordered = leb (bystart + table_words places lines) area;
      }

  -- its numbers
  pub from-numbers : (plan_from.places ≡ places) × (plan_from.lines ≡ lines) × (plan_from.done ≡ done) × (plan_from.keeps ≡ keeps) × (plan_from.radix ≡ radix) × (plan_from.size ≡ size) × (plan_from.boats ≡ at)
  unfolding plan_from
  from-numbers = (refl, refl, refl, refl, refl, refl, refl)

  pub laid_from : Fitting places lines done keeps radix size at area → Laid plan_from area
  unfolding plan_from
  laid_from f = record {
    some-place = f.some-place;
    few-places = f.few-places;
    few-lines = f.few-lines;
    few-positions = f.few-positions;
    few-keeps = f.few-keeps;
    some-radix = f.some-radix;
    few-boats = f.few-boats;
    stacks-is = refl;
    inverse-is = refl;
    size_is = f.size_is;
    small = f.small;
    codes_at = refl;
    words-at = refl;
    base-at = refl;
    few_words = f.few_words;
    marks-at = refl;
    room = f.room;
    kinds-at = refl;
    boats-at = refl;
    thin_at = refl;
    stamps-at = refl;
    filed-is = refl;
    starts-at = refl;
    ordered-is = refl;
  }

-- a plan that is laid out is that of its numbers
module _ (plan : Plan) (area : ℕ) (l : Laid plan area) where
  abbrev same : Plan
  same = plan_from plan.places plan.lines plan.done plan.keeps plan.radix plan.size plan.boats area

  codes_same : plan.codes ≡ same.codes
  unfolding plan_from
  codes_same = l.codes_at

  words_same : plan.words ≡ same.words
  unfolding plan_from
  words_same = l.words-at ∙ ap (λ (n : ℕ). n + plan.lines) codes_same

  base_same : plan.base ≡ same.base
  unfolding plan_from
  base_same = l.base-at ∙ ap (λ (n : ℕ). n + plan.lines) words_same

  kinds-same : plan.bykind ≡ same.bykind
  unfolding plan_from
  kinds-same = l.kinds-at ∙ ap (λ (n : ℕ). n + 2 * plan.size) base_same

  boats-same : plan.byboat ≡ same.byboat
  unfolding plan_from
  boats-same = l.boats-at ∙ ap (λ (n : ℕ). n + table_words (plan.places * 16) plan.lines) kinds-same

  thin-same : plan.thin ≡ same.thin
  unfolding plan_from
  thin-same = l.thin_at ∙ ap (λ (n : ℕ). n + table_words (plan.places * plan.radix) plan.lines) boats-same

  stamps-same : plan.stamps ≡ same.stamps
  unfolding plan_from
  stamps-same = l.stamps-at ∙ ap (λ (n : ℕ). n + table_words (plan.places * 16) plan.lines) thin-same

  starts-same : plan.bystart ≡ same.bystart
  unfolding plan_from
  starts-same = l.starts-at ∙ ap (λ (n : ℕ). n + 3 * plan.size) base_same

  marks-same : plan.marks ≡ same.marks
  unfolding plan_from
  marks-same = l.marks-at ∙ ap (λ (n : ℕ). n + plan.size) base_same

  inverse-same : plan.inverse ≡ same.inverse
  unfolding plan_from
  inverse-same = l.inverse-is ∙ ap (λ (n : ℕ). scale / n + 1) l.stacks-is

  filed-same : plan.filed ≡ same.filed
  unfolding plan_from
  filed-same = l.filed-is ∙ ap (λ (n : ℕ). leb (n + 2 * plan.places) area) stamps-same

  ordered_same : plan.ordered ≡ same.ordered
  unfolding plan_from
  ordered_same = l.ordered-is ∙ ap (λ (n : ℕ). leb (n + table_words plan.places plan.lines) area) starts-same

  pub laid-plan : plan ≡ same
  unfolding plan_from
  laid-plan i = record {
    places = plan.places;
    lines = plan.lines;
    done = plan.done;
    radix = plan.radix;
    stacks = l.stacks-is i;
    inverse = inverse-same i;
    size = plan.size;
    codes = codes_same i;
    words = words_same i;
    base = base_same i;
    marks = marks-same i;
    thin = thin-same i;
    stamps = stamps-same i;
    bykind = kinds-same i;
    byboat = boats-same i;
    bystart = starts-same i;
    boats = plan.boats;
    keeps = plan.keeps;
    filed = filed-same i;
    ordered = ordered_same i;
  }

-- what `request::planned` promises says which plan it is
pub planned-is : (places lines done keeps radix size at area : ℕ) → Fitting places lines done keeps radix size at area → (plan : Plan) → Laid plan area
    → (plan.places ≡ places) × (plan.lines ≡ lines) × (plan.done ≡ done) × (plan.keeps ≡ keeps) × (plan.radix ≡ radix) × (plan.boats ≡ at)
    → plan ≡ plan_from places lines done keeps radix size at area
planned-is places lines done keeps radix size at area f plan l (p, n, d, k, r, b) =
    let whole : plan.size ≡ size = l.size_is ∙ (cc (l.stacks-is, p, d, k, r) ∙ sym f.size_is) in
    laid-plan plan area l ∙ (λ i. plan_from (p i) (n i) (d i) (k i) (r i) (whole i) (b i) area)

-- ---- the plan by the numbers in front

module _ (w : List ℕ) (done keeps : ℕ) where
  -- the size and the base of a plan that fits
  abbrev pub size_for : ℕ
  size_for = places_in w * suc done * radix_in w ^ keeps

  abbrev pub base_for : ℕ
  base_for = tables_at + boat_words keeps (radix_in w) + lines_in w + lines_in w

  abbrev pub plan_for : Plan
  plan_for = plan_from (places_in w) (lines_in w) done keeps (radix_in w) size_for tables_at (length w)

  module _ (plan : Plan) (p : PlanIs w done keeps plan) where
    pub size-for : plan.size ≡ size_for
    size-for = p.laid.size_is ∙ cc (p.laid.stacks-is, p.places-are, p.radix-is, p.done-is, p.keeps-are, add-one plan.done)

    pub base-for : plan.base ≡ base_for
    base-for =
        let boats : boat_words plan.keeps plan.radix ≡ boat_words keeps (radix_in w) = cc (p.keeps-are, p.radix-is) in
        omega (arith, p.laid.base-at, p.laid.words-at, p.laid.codes_at, p.boats-at, boats, p.lines_are)

    pub plan-only : plan ≡ plan_for
    plan-only = laid-plan plan (length w) p.laid ∙ (λ i. plan_from (p.places-are i) (p.lines_are i) (p.done-is i) (p.keeps-are i) (p.radix-is i) (size-for i) (p.boats-at i) (length w))
