-- The plan by the numbers in front: where these are in range, the size is not above the limit and the area has the words, a plan can be made
-- (`fitting-read`), and one with these numbers is the plan (`plan-is`). Assumes nothing.
use mathlib.Core.Path.{◌≡◌, sym, ◌∙◌, subst, subst₂}
use mathlib.Core.List.{List}
use Prim.Native.Nat.{ℕ, ◌+◌, ◌*◌, ◌≤◌}
use native.Mathlib.Numerals.{add-one}
use native.Mathlib.Omega.{arith}
use lib.ListN.{length}
use Rattle.request.specs.Layout.{largest, boat_words, Laid, Fitting}
use Rattle.request.specs.declared.Plan.{Plan}
use Rattle.request.proofs.Sizes.{boats-in-radix}
use Rattle.holding.specs.Holding.{tables_at, radix_in, places_in, lines_in, InRange, PlanIs}
use Rattle.holding.specs.Plans.{size_for, base_for}

module _ (w : List ℕ) (done keeps : ℕ) where
  module _ (range : InRange w) (few : done ≤ 63) (deep : keeps ≤ 3) (size : ℕ) (is : size ≡ size_for w done keeps) (small : size ≤ largest) (room : base_for w done keeps + 4 * size + (places_in w + 1 + lines_in w) ≤ length w) where
    fitting : Fitting (places_in w) (lines_in w) done keeps (radix_in w) size tables_at (length w)
    fitting =
        let n = range.counts in
        record {
          some-place = n.some-place;
          few-places = n.few-places;
          few-lines = n.few-lines;
          few-positions = few;
          few-keeps = deep;
          some-radix = n.some-radix;
          few-boats = n.few-boats;
          size_is = is ∙ cc (add-one done);
          small = small;
          few_words = omega (arith, n.few-lines, n.few-boats, boats-in-radix (radix_in w) keeps);
          room = omega (arith, room);
        }

    -- by the numbers as they were read
    pub fitting-read : (places lines radix : ℕ) → places ≡ places_in w → lines ≡ lines_in w → radix ≡ radix_in w → Fitting places lines done keeps radix size tables_at (length w)
    fitting-read places lines radix e f g =
        subst (λ (x : ℕ). Fitting x lines done keeps radix size tables_at (length w)) (sym e)
        (subst₂ (λ (x y : ℕ). Fitting (places_in w) x done keeps y size tables_at (length w)) (sym f) (sym g) fitting)

    -- and fits
    pub plan-is : (plan : Plan) → Laid plan (length w)
        → (plan.places ≡ places_in w) × (plan.lines ≡ lines_in w) × (plan.done ≡ done) × (plan.keeps ≡ keeps) × (plan.radix ≡ radix_in w) × (plan.boats ≡ tables_at) → PlanIs w done keeps plan
    plan-is plan laid (places, lines, is-done, is-keeps, radix, boats) =
        let words : boat_words plan.keeps plan.radix ≡ boat_words keeps (radix_in w) = cc (is-keeps, radix) in
        let same : plan.size ≡ size = laid.size_is ∙ (cc (laid.stacks-is, places, radix, is-done, is-keeps, add-one plan.done) ∙ sym is) in
        record {
          places-are = places;
          lines_are = lines;
          radix-is = radix;
          done-is = is-done;
          keeps-are = is-keeps;
          boats-at = boats;
          laid = laid;
          room = omega (arith, room, same, laid.base-at, laid.words-at, laid.codes_at, boats, words, lines, places);
        }
