-- What the writer in front of a search leaves: five numbers and the pattern's bytes put in front are `front_of` (`front-written`).
use mathlib.Core.Path.{◌≡◌, ap, ◌∙◌}
use mathlib.Core.List.{List, [], ◌∷◌, ◌++◌}
use Prim.Native.Nat.{ℕ, ◌+◌, ◌≤◌}
use lib.ListN.{length, take, drop}
use lib.Seq.{drop-drop}
use Rattle.area.specs.Area.{stretch, patch}
use Rattle.request.specs.declared.Plan.{Plan}
use Rattle.searching.specs.Searching.{front_of}

-- ---- the numbers that stay

-- five words are put in front, and then the pattern's bytes
pub front-written : (plan : Plan) (from : ℕ) (pat w : List ℕ) → 17 + length pat ≤ length w
    → patch 17 (length pat) pat ((plan.radix ∷ plan.places ∷ plan.lines ∷ from ∷ length pat ∷ []) ++ drop 5 w) ≡ front_of plan from pat w
unfolding patch stretch front_of
front-written plan from pat w h =
    let five : List ℕ = plan.radix ∷ plan.places ∷ plan.lines ∷ from ∷ length pat ∷ [] in
    let rest : drop 12 (drop 5 w) ≡ drop 17 w = drop-drop 12 5 w in
    ap (λ (z : List ℕ). five ++ (take 12 (drop 5 w) ++ (pat ++ z))) (ap (drop (length pat)) rest ∙ drop-drop (length pat) 17 w)
