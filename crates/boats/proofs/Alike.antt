-- Lines with the same boats, one after the other: whatever else they say, their boats, boat numbers and table are the same.
-- Claimed: `boats-alike`, `codes-alike`, `table-alike`. A search that passes over lines keeps their boats by these. Assumes nothing.
use Rattle.std.specs.Prelude.{◌≡◌, refl, suc}
use Rattle.std.proofs.Common.{sym, ap, ◌∙◌}
use mathlib.Core.List.{List, [], ◌∷◌, map, nil≢cons, head-eq_of_cons-eq, tail-eq_of_cons-eq}
use Rattle.meaning.specs.Record.{Boat, Line, boats_after, boats}
use Rattle.boats.specs.Boats.{as_number}
use Rattle.boats.proofs.Boats.{noted}
use Rattle.boats.specs.Codes.{index_in, codes}
use Rattle.boats.specs.Table.{boat_table}

-- the boats of lines, one for each
abbrev pub boats_of : List Line → List Boat
boats_of lines = map (λ (l : Line). l.boat) lines

after-alike : (seen : List Boat) (ls ms : List Line) → boats_of ls ≡ boats_of ms → boats_after seen ls ≡ boats_after seen ms
unfolding boats_after
after-alike seen [] [] e = refl
after-alike seen [] (m ∷ ms) e = absurd (nil≢cons e)
after-alike seen (l ∷ ls) [] e = absurd (nil≢cons (sym e))
after-alike seen (l ∷ ls) (m ∷ ms) e =
    let here : l.boat ≡ m.boat = head-eq_of_cons-eq e in
    ap (λ b. boats_after (noted seen b) ls) here ∙ after-alike (noted seen m.boat) ls ms (tail-eq_of_cons-eq e)

pub boats-alike : (ls ms : List Line) → boats_of ls ≡ boats_of ms → boats ls ≡ boats ms
boats-alike ls ms e = after-alike [] ls ms e

-- the numbers of boats in a list of boats
numbers-alike : (bs : List Boat) (ls ms : List Line) → boats_of ls ≡ boats_of ms → map (λ (l : Line). suc (index_in bs l.boat)) ls ≡ map (λ (l : Line). suc (index_in bs l.boat)) ms
numbers-alike bs [] [] e = refl
numbers-alike bs [] (m ∷ ms) e = absurd (nil≢cons e)
numbers-alike bs (l ∷ ls) [] e = absurd (nil≢cons (sym e))
numbers-alike bs (l ∷ ls) (m ∷ ms) e =
    let here : l.boat ≡ m.boat = head-eq_of_cons-eq e in
    let later = numbers-alike bs ls ms (tail-eq_of_cons-eq e) in
    λ i. suc (index_in bs (here i)) ∷ later i

pub codes-alike : (ls ms : List Line) → boats_of ls ≡ boats_of ms → codes ls ≡ codes ms
unfolding codes
codes-alike ls ms e = ap (λ bs. map (λ (l : Line). suc (index_in bs l.boat)) ls) (boats-alike ls ms e) ∙ numbers-alike (boats ms) ls ms e

pub table-alike : (ls ms : List Line) → boats_of ls ≡ boats_of ms → boat_table ls ≡ boat_table ms
unfolding boat_table
table-alike ls ms e = ap (λ bs. 0 ∷ map as_number bs) (boats-alike ls ms e)
