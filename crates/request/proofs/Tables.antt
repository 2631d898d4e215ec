-- Three stretches written end to end into an area: what the area then holds. Assumes nothing.
use mathlib.Core.Path.{◌≡◌, sym, ap, ◌∙◌}
use mathlib.Core.List.{List, ◌++◌, append_assoc}
use Prim.Native.Nat.{ℕ, suc, ◌+◌, ◌-◌, ◌≤◌}
use native.Mathlib.Omega.{arith}
use lib.ListN.{length, take, drop, length-drop, length-append}
use lib.Seq.{length-take-le, drop-drop, take_at, drop_at}
use borrow.Rule.Slice.PartMut.{put_mid}
use Rattle.meaning.specs.Record.{Line, boats}
use Rattle.boats.specs.Codes.{codes}
use Rattle.boats.proofs.Codes.{codes-length}
use Rattle.request.specs.Layout.{Laid, boat_words, boats_loaded, table-long}
use Rattle.request.specs.declared.Plan.{Plan}

-- a stretch written after what is written already
module _ (lead w xs : List ℕ) (b e : ℕ) (long : length lead ≡ b) (le : b ≤ e) where
  put_next : put_mid b (e - b) (lead ++ drop b w) xs ≡ (lead ++ xs) ++ drop e w
  put_next =
      let there : b + (e - b) ≡ e = omega (arith, le) in
      ap (λ t. t ++ (xs ++ drop (e - b) (drop b (lead ++ drop b w)))) (take_at lead (drop b w) b long)
      ∙ (ap (λ t. lead ++ (xs ++ drop (e - b) t)) (drop_at lead (drop b w) b long)
      ∙ (ap (λ t. lead ++ (xs ++ t)) (drop-drop (e - b) b w ∙ ap (λ n. drop n w) there) ∙ sym (append_assoc lead xs (drop e w))))

module _ (lines : List Line) (plan : Plan) (w : List ℕ) (l : Laid plan (length w)) where
  -- ---- the boats

  abbrev table : List ℕ
  table = boats_loaded plan.keeps lines

  -- what the area holds once they are written
  abbrev boated : List ℕ
  boated = take plan.boats w ++ (table ++ drop plan.codes w)

  -- ---- the boat numbers and the lines

  module _ (many : plan.lines ≡ length lines) (kinds : plan.radix ≡ suc (length (boats lines))) (words : List ℕ) where
    front_long : length (take plan.boats w) ≡ plan.boats
    front_long = length-take-le plan.boats w (omega (arith, l.codes_at, l.words-at, l.base-at, l.room))

    -- the words before the boat numbers' stretch, and those before the lines'
    abbrev lead : List ℕ
    lead = take plan.boats w ++ table

    lead-long : length lead ≡ plan.codes
    lead-long = length-append (take plan.boats w) table ∙ omega (arith, front_long, table-long lines plan.keeps ∙ ap (boat_words plan.keeps) (sym kinds), l.codes_at)

    abbrev lead_2 : List ℕ
    lead_2 = lead ++ codes lines

    lead-2-long : length lead_2 ≡ plan.words
    lead-2-long = length-append lead (codes lines) ∙ omega (arith, lead-long, codes-length lines, many, l.words-at)

    boated-is : boated ≡ lead ++ drop plan.codes w
    boated-is = sym (append_assoc (take plan.boats w) table (drop plan.codes w))

    -- the area is as long as it was
    boated-long : length boated ≡ length w
    boated-long = ap length boated-is ∙ (length-append lead (drop plan.codes w) ∙ omega (arith, lead-long, length-drop plan.codes w, l.words-at, l.base-at, l.room))

    -- the stretch of the boat numbers has a word for each line
    pub codes-long : length (take (plan.words - plan.codes) (drop plan.codes boated)) ≡ plan.lines
    codes-long =
        length-take-le (plan.words - plan.codes) (drop plan.codes boated) (omega (arith, l.words-at, l.base-at, l.room, length-drop plan.codes boated, boated-long)) ∙ omega (arith, l.words-at)

    -- the lines' words being these
    pub tables-loaded : put_mid plan.words (plan.base - plan.words) (put_mid plan.codes (plan.words - plan.codes) boated (codes lines)) words ≡ take plan.boats w ++ ((table ++ (codes lines ++ words)) ++ drop plan.base w)
    tables-loaded =
        ap (λ t. put_mid plan.words (plan.base - plan.words) (put_mid plan.codes (plan.words - plan.codes) t (codes lines)) words) boated-is
        ∙ (ap (λ t. put_mid plan.words (plan.base - plan.words) t words) (put_next lead w (codes lines) plan.codes plan.words lead-long (omega (arith, l.words-at)))
        ∙ (put_next lead_2 w words plan.words plan.base lead-2-long (omega (arith, l.base-at))
        ∙ (ap (λ t. t ++ drop plan.base w) (append_assoc lead (codes lines) words ∙ append_assoc (take plan.boats w) table (codes lines ++ words))
        ∙ append_assoc (take plan.boats w) (table ++ (codes lines ++ words)) (drop plan.base w))))
