-- Which boats a line can have that leads back over the stacks that are undone: those that `can_have` takes. By another boat nothing is undone.
use Rattle.std.specs.Prelude.{◌≡◌, Bool, true, ◌&&◌, ℕ, eqb, Option, None, Some}
use Rattle.request.specs.Layout.{kind_in}
use Rattle.request.specs.declared.Plan.{Plan}
use Rattle.graph.specs.Table.{Search}
use Rattle.expanding.specs.Undoing.{undone}
use Rattle.expanding.specs.declared.Undo.{Undo}

-- can the boat number x be the wanted one?
abbrev pub can_have : Option ℕ → ℕ → Bool
can_have (Some y) x = eqb x y
can_have None x = true

-- and is a line with the word e of the kind?
abbrev pub can_lead : ℕ → Option ℕ → ℕ → ℕ → Bool
can_lead kind y e x = can_have y x && eqb (kind_in e) kind

-- whatever the table and the line's start, another boat undoes nothing
abbrev pub WantedBy : Plan → Undo → Option ℕ → Type 0
WantedBy plan u (Some y) = (B : ℕ → ℕ) (home x : ℕ) (st : Search) → (x ≡ y → ⊥) → undone plan u B home x st ≡ st
WantedBy plan u None = Unit {0}
