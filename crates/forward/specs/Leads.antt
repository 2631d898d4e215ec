-- A line as it is loaded, by its numbers.
use Rattle.std.specs.Prelude.{◌≡◌, List, ℕ, ◌<◌}
use Rattle.request.specs.Layout.{from_in, to_in, kind_in}
use Rattle.request.specs.declared.Plan.{Plan}
use Rattle.search.specs.Loaded.{code_at, word_at, setting_at}
use Rattle.search.specs.Moves.{onward}
use Rattle.states.specs.Pairs.{StepForth, seen}
use Rattle.states.specs.Spots.{front}
use Rattle.forward.specs.declared.Lead.{Lead}

-- line i, by the loaded words g
abbrev pub lead_in : Plan → List ℕ → ℕ → Lead
lead_in plan g i = record { from = from_in (word_at plan g i); to = to_in (word_at plan g i); kind = kind_in (word_at plan g i); code = code_at plan g i }

-- what the line does from the state s, of whichever line it is: each state to which it leads is visited
abbrev pub Led : List ℕ → Plan → List ℕ → ℕ → Lead → ℕ → ℕ → ℕ → List ℕ → Type 0
Led program plan w want lead s tail r v =
    (i : ℕ) → i < plan.lines → lead ≡ lead_in plan (front plan w) i → StepForth plan (onward (setting_at program plan w) (seen plan w want) i s) tail w r v

-- it is one of the lines
abbrev pub SomeLead : Plan → List ℕ → Lead → Type 0
SomeLead plan g lead = (i : ℕ) × (i < plan.lines) × (lead ≡ lead_in plan g i)
