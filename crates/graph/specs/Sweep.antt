-- Phase two state by state: the states found are taken up again, the last found first. A state that is marked with the line chosen into its
-- level looks for the least line that leads one nearer; the states to which that line leads are marked with it, and the least of all is chosen.
use Rattle.std.specs.Prelude.{cond, ◌&&◌, ltb, leb, set}
use mathlib.Core.List.{List, [], ◌∷◌}
use Prim.Native.Nat.{ℕ, zero, suc, ◌+◌, ◌-◌}
use Rattle.std.proofs.Math.Dec.{eqb}
use Rattle.std.proofs.Math.ListN.{get_or}
use Rattle.graph.specs.Plain.{filt}
use Rattle.graph.specs.Loops.{loop}
use Rattle.graph.specs.PhaseTwo.{nearest_word}

-- ---- words written at the states of a list

module _ (v : ℕ) where
  abbrev pub marked : List ℕ → List ℕ → List ℕ
  marked ts M = loop (λ t M. set M t v) ts M

-- ---- a state that is marked

-- the least line so far, or the count of lines where there is none, and the marks
pub record Noted : Type 0 where
  pub line : ℕ
  pub marks : List ℕ

module _ (D : List ℕ) (succs : ℕ → ℕ → List ℕ) (m : ℕ) where
  abbrev pub word : ℕ → ℕ
  word t = get_or D t 0

  -- the states with the word w to which line l leads from s
  unfoldable pub ahead : ℕ → ℕ → ℕ → List ℕ
  ahead w s l = filt (λ t. eqb (word t) w) (succs s l)

  -- the first of the n lines from l on that leads from s to such a state; l + n where none does
  unfoldable pub least : ℕ → ℕ → ℕ → ℕ → ℕ
  least w s zero l = l
  least w s (suc n) l = elim (ahead w s l) [ [] ↦ least w s n (suc l) | t ∷ ts ↦ l ]

  -- the marked state s looks for its least line: where that is no higher than the least so far, it is noted, and where it leads is marked
  unfoldable pub lead : ℕ → ℕ → Noted → Noted
  lead w s x =
      let l = least w s m 0 in
      cond (ltb l m && leb l x.line) (record { line = l; marks = marked (suc l) (ahead w s l) x.marks }) x

  -- the state s of the level above w is taken up, c being the line chosen into its level
  unfoldable pub take_up : ℕ → ℕ → ℕ → Noted → Noted
  take_up w c s x = cond (eqb (get_or x.marks s 0) (suc c)) (lead w s x) x

-- ---- the sweep

-- how many of the queue are left, the line chosen into the level of the last of them, and what is noted in that level
pub record Sweep : Type 0 where
  pub rest : ℕ
  pub chosen : ℕ
  pub noted : Noted

module _ (D : List ℕ) (succs : ℕ → ℕ → List ℕ) (m : ℕ) (q : List ℕ) where
  abbrev pub at : ℕ → ℕ
  at j = get_or q j 0

  abbrev pub word_at : ℕ → ℕ
  word_at j = get_or D (at j) 0

  -- the last state that is left is taken up; where the one before it has another word, the level ends and its line is chosen
  unfoldable pub back : Sweep → Sweep
  back y =
      let r = y.rest - 1 in
      let n = take_up D succs m (word_at r - 1) y.chosen (at r) y.noted in
      cond (eqb (word_at (r - 1)) (word_at r))
      (record { rest = r; chosen = y.chosen; noted = n })
      (record { rest = r; chosen = n.line; noted = record { line = m; marks = n.marks } })

  unfoldable pub back_by : ℕ → Sweep → Sweep
  back_by zero y = y
  back_by (suc n) y = back_by n (back y)

  -- the line into the level with the word w, as the marks say it
  unfoldable pub line_into : List ℕ → ℕ → ℕ
  line_into M w = nearest_word M (filt (λ t. eqb (get_or D t 0) w) q) - 1

  -- the chain from the level with the word suc k
  unfoldable pub chain_in : List ℕ → ℕ → List ℕ
  chain_in M zero = []
  chain_in M (suc k) = line_into M (suc k) ∷ chain_in M k
