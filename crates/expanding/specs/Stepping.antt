-- Stacks whose entry at one level is a given boat, gone over without the others.
use Rattle.std.specs.Prelude.{◌≡◌, false, ℕ, ◌+◌, ◌*◌, ◌/◌, ◌<◌}
use Rattle.request.specs.declared.Plan.{Plan}
use Rattle.graph.specs.Loops.{turns}
use Rattle.graph.specs.Table.{Search, push}
use Rattle.states.specs.Spots.{OnlyKept}
use Rattle.expanding.specs.declared.Undo.{Undo}

-- `many` states from `first` on, `weight` apart
abbrev pub Steps : ℕ → ℕ → ℕ → ℕ → Type 0
Steps first weight many size = (l : ℕ) → l < many → first + l * weight < size

-- the stacks (h · R + x) · below + l for l below `below`, and that they are states for h below `above`
module _ (plan : Plan) (u : Undo) (home x below : ℕ) where
  abbrev pub entry_state : ℕ → ℕ → ℕ
  entry_state h l = home + ((h * plan.radix + x) * below * u.weight + u.stack) + l * u.weight

  unfoldable pub entries_turn : ℕ → Search → Search
  entries_turn h = turns (λ l. push u.d (entry_state h l)) 0 below

  abbrev pub Entries : ℕ → Type 0
  Entries above = (h l : ℕ) → h < above → l < below → entry_state h l < plan.size

-- a position that takes only the boat at its level, without a push, and a stack below the weight
pub record WantsSame (u : Undo) : Type 0 where
  pub plain : u.spot.push ≡ false
  pub only : OnlyKept u.spot
  pub low : u.stack < u.weight

-- the entry at the level is one of those below the weight
abbrev pub EntryBelow : ℕ → ℕ → ℕ → Type 0
EntryBelow R level weight = weight ≡ weight / level / R * R * level

-- the entry at the level is one of those of `count` stacks over the weight, and the boat x can be one
pub record EntryAmong (R level weight count x : ℕ) : Type 0 where
  pub level-is : level ≡ level / weight * weight
  pub count-is : count ≡ count / (level / weight) / R * R * (level / weight)
  pub some : 0 < level / weight
  pub boat : x < R
