-- The boats of a record put into a part of the area, line by line.
use Rattle.std.specs.Prelude.{◌≡◌, cond, List, ◌∷◌, map, ℕ, suc, eqb, length, take, set}
use Rattle.meaning.specs.Record.{Line, boats}
use Rattle.boats.specs.Boats.{as_number}

-- i lines were met: the boats among them stand by their numbers, `next` is the number after theirs, and the part has room for all boats
pub record BoatsNoted (lines : List Line) (i next : ℕ) (part : List ℕ) : Type 0 where
  pub next-is : next ≡ suc (length (boats (take i lines)))
  pub noted : take next part ≡ 0 ∷ map as_number (boats (take i lines))
  pub room : length part ≡ suc (length (boats lines))

-- one line's boat: where its number is the next one, its word comes there, and the next number is one more
abbrev pub next_after : ℕ → ℕ → ℕ
next_after number next = cond (eqb number next) (suc next) next

abbrev pub part_after : ℕ → ℕ → ℕ → List ℕ → List ℕ
part_after number next boat part = cond (eqb number next) (set part next boat) part
