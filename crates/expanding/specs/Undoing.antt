-- Going back from a state that is expanded to a position: the stacks after the position that are undone, by one line, by each line, and by
-- the words of the sorted lines.
use Rattle.std.specs.Prelude.{◌≡◌, cond, ◌&&◌, List, ℕ, suc, ◌+◌, ◌*◌, ◌-◌, ◌^◌, ◌/◌, ◌%◌, ◌≤◌, ◌<◌, eqb, length, get_or}
use Rattle.request.specs.Layout.{Laid, from_in, to_in, kind_in}
use Rattle.request.specs.declared.Plan.{Plan}
use Rattle.search.specs.Front.{state_in}
use Rattle.search.specs.Loaded.{boat_at, code_at, word_at}
use Rattle.graph.specs.Loops.{turns}
use Rattle.graph.specs.Table.{Search}
use Rattle.sorted.specs.Sorting.{pack_by}
use Rattle.states.specs.Pairs.{RoomBack, found_back}
use Rattle.states.specs.Spots.{front, boats_in, Sane, stack_turn, line_turn, Stacks}
use Rattle.states.specs.declared.Spot.{Spot}
use Rattle.states.specs.declared.Target.{Target}
use Rattle.expanding.specs.declared.Undo.{Undo}

-- all lines, for the stacks of the depth `leaves` after the position c that are the target's when they are cut to its depth
abbrev pub lines_back : Plan → List ℕ → Spot → Target → ℕ → ℕ → ℕ → Search → Search
lines_back plan g s t d c leaves = turns (line_turn plan g s t d c (plan.radix ^ (leaves - t.depth))) 0 plan.lines

-- those stacks
abbrev pub undo_of : Plan → Spot → Target → ℕ → ℕ → Undo
undo_of plan s t d leaves = record { spot = s; weight = t.weight; stack = t.stack; count = plan.radix ^ (leaves - t.depth); d = d }

module _ (plan : Plan) (u : Undo) where
  -- ---- what is done

  -- by the boats' table B, by a line with the boat number x; `home` is the state with the empty stack at its start
  abbrev pub undone : (ℕ → ℕ) → ℕ → ℕ → Search → Search
  undone B home x = turns (stack_turn B plan.radix u.spot u.d home x u.weight u.stack) 0 u.count

  -- by line i, if it leads to the place and is of the position's kind, back to the position c
  unfoldable pub line_undone : List ℕ → ℕ → ℕ → ℕ → Search → Search
  line_undone g place c i st =
      cond (eqb (to_in (word_at plan g i)) place && eqb (kind_in (word_at plan g i)) u.spot.kind)
      (undone (boat_at plan g) (state_in plan (from_in (word_at plan g i)) c 0) (code_at plan g i) st)
      st

  -- by the word e of the sorted lines, back to the position c
  unfoldable pub word_undone : (ℕ → ℕ) → ℕ → ℕ → Search → Search
  word_undone B c e = undone B (state_in plan (e / pack_by) c 0) (e % pack_by)

  -- by the words of the area from lo up to hi
  abbrev pub words_undone : List ℕ → ℕ → ℕ → ℕ → Search → Search
  words_undone w c lo hi = turns (λ p. word_undone (boats_in plan w) c (get_or w p 0)) lo (hi - lo)

  -- ---- what it goes by

  pub record Undoing (tail : ℕ) (w : List ℕ) : Type 0 where
    pub ready : RoomBack plan tail w
    pub laid : Laid plan (length w)
    pub sane : Sane u.spot
    pub some : 0 < u.d
    pub near : u.d ≤ suc tail

  -- from `home` on, every stack tried is a state
  abbrev pub InStates : ℕ → Type 0
  InStates home = (x : ℕ) → x < u.count → home + (x * u.weight + u.stack) < plan.size

  -- what is undone there is nothing, by whichever boats
  abbrev pub NothingBack : ℕ → ℕ → List ℕ → Type 0
  NothingBack home tail w = (B : ℕ → ℕ) (x : ℕ) → undone B home x (found_back plan tail w) ≡ found_back plan tail w

  -- and so by line i, to whichever place it leads
  abbrev pub NothingByLine : ℕ → ℕ → ℕ → List ℕ → Type 0
  NothingByLine c i tail w = (place : ℕ) → line_undone (front plan w) place c i (found_back plan tail w) ≡ found_back plan tail w

  -- the position c is a position, and every stack tried is one of the stacks
  pub record LeadsTo (c : ℕ) : Type 0 where
    pub low : c ≤ plan.done
    pub fits : Stacks u.count u.weight u.stack plan.stacks
