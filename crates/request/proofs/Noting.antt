-- One line more whose boat is noted: a line with the next number adds its boat at the end, and a line with another number adds none.
-- Claimed: `noted-next`, for the loop over the lines. Assumes nothing.
use mathlib.Core.Path.{◌≡◌, refl, sym, ap, ◌∙◌}
use mathlib.Core.Bool.{Bool, true, false, cond}
use mathlib.Core.List.{List, [], ◌∷◌, ◌++◌, map, map-append}
use Prim.Native.Nat.{ℕ, suc, ◌+◌, ◌<◌}
use native.Mathlib.Numerals.{add-one}
use native.Mathlib.Omega.{arith}
use lib.Dec.{eqb}
use lib.ListN.{length, get_or, take, set, length-set, length-append}
use lib.Seq.{take-suc-set}
use borrow.Author.Tests.{eqb-true, eqb-false}
use Rattle.meaning.specs.Record.{Boat, Line, boats}
use Rattle.meaning.specs.Writing.{line_at}
use Rattle.boats.specs.Boats.{BoatIs, as_number}
use Rattle.boats.specs.Codes.{codes}
use Rattle.boats.proofs.Codes.{code-low}
use Rattle.boats.proofs.Table.{next-new, next_known}
use Rattle.request.specs.Loading.{BoatsNoted, next_after, part_after}

module _ (lines : List Line) (i next : ℕ) (part : List ℕ) (here : i < length lines) (p : BoatsNoted lines i next part) (number : ℕ) (own : number ≡ get_or (codes lines) i 0) where
  -- the part has a word for every number
  pub number-low : number < length part
  number-low = omega (arith, code-low lines i here, own, p.room)

  abbrev seen : List Boat
  seen = boats (take i lines)

  abbrev met : Boat
  met = (line_at lines i).boat

  module _ (boat : ℕ) (is : BoatIs met boat) (next' : ℕ) (part' : List ℕ) where
    noted-new : number ≡ next → next' ≡ suc next → part' ≡ set part next boat → BoatsNoted lines (suc i) next' part'
    noted-new same e f =
        let more : boats (take (suc i) lines) ≡ seen ++ (met ∷ []) = next-new lines i here (sym own ∙ (same ∙ p.next-is)) in
        record {
          next-is = omega (arith, e, p.next-is, ap length more, length-append seen (met ∷ []));
          noted =
              ap (λ n. take n part') e
              ∙ (ap (take (suc next)) f
              ∙ (take-suc-set part next boat (omega (arith, number-low, same))
              ∙ (ap (λ ws. ws ++ (boat ∷ [])) p.noted
              ∙ (ap (λ n. 0 ∷ (map as_number seen ++ (n ∷ []))) is.is ∙ ap (λ ws. 0 ∷ ws) (sym (ap (map as_number) more ∙ map-append as_number seen (met ∷ [])))))));
          room = ap length f ∙ (length-set part next boat ∙ p.room);
        }

    noted-known : (number ≡ next → ⊥) → next' ≡ next → part' ≡ part → BoatsNoted lines (suc i) next' part'
    noted-known other e f =
        let none : boats (take (suc i) lines) ≡ seen = next_known lines i here (λ q. other (own ∙ (q ∙ sym p.next-is))) in
        record {
          next-is = e ∙ (p.next-is ∙ ap (λ bs. suc (length bs)) (sym none));
          noted = ap (λ n. take n part') e ∙ (ap (take next) f ∙ (p.noted ∙ ap (λ bs. 0 ∷ map as_number bs) (sym none)));
          room = ap length f ∙ p.room;
        }

    pub noted-next : next' ≡ next_after number next → part' ≡ part_after number next boat part → BoatsNoted lines (i + 1) next' part'
    noted-next e f = rw (add-one i) (go (eqb number next) refl e f)
      where
        go : (t : Bool) → eqb number next ≡ t → next' ≡ cond t (suc next) next → part' ≡ cond t (set part next boat) part → BoatsNoted lines (suc i) next' part'
        go true q = noted-new (eqb-true number next q)
        go false q = noted-known (eqb-false number next q)
