-- Laws of the tables in the front of a work area, and of states counted by the plan's numbers (`state-in`, `goal-in`, `starting-in`), for the code.
use Rattle.std.specs.Prelude.{◌≡◌, List, map, length, get_or, take}
use Rattle.std.proofs.Math.Path.{refl, ap}
use Rattle.std.proofs.Common.{sym, ◌∙◌, arith, get_or-take, get_or-drop}
use Prim.Native.Nat.{ℕ, zero, suc, ◌+◌, ◌*◌, ◌<◌}
use Rattle.std.proofs.Math.Numerals.{add-one}
use Rattle.meaning.specs.Writing.{line_at}
use Rattle.request.specs.Layout.{Laid}
use Rattle.request.specs.declared.Plan.{Plan}
use Rattle.search.specs.Product.{stacks, state}
use Rattle.search.specs.Along.{goal, starting}
use Rattle.search.specs.Loaded.{word_at, line_in, lines_in, setting_in}
use Rattle.search.specs.Front.{tables, state_in}

-- ---- the lines of a table

module _ (plan : Plan) (g : List ℕ) where
  pub lines-many : (i n : ℕ) → length (lines_in plan g i n) ≡ n
  unfolding lines_in
  lines-many i zero = refl
  lines-many i (suc n) = ap suc (lines-many (suc i) n)

  lines_at : (i n j : ℕ) → j < n → line_at (lines_in plan g i n) j ≡ line_in (word_at plan g (i + j))
  unfolding lines_in
  lines_at i zero j less = absurd (omega arith)
  lines_at i (suc n) zero less = ap (λ k. line_in (word_at plan g k)) (omega arith)
  lines_at i (suc n) (suc j) less = lines_at (suc i) n j (omega arith) ∙ ap (λ k. line_in (word_at plan g k)) (omega arith)

  pub line-at : (i : ℕ) → i < plan.lines → line_at (lines_in plan g 0 plan.lines) i ≡ line_in (word_at plan g i)
  line-at i less = lines_at 0 plan.lines i less ∙ ap (λ k. line_in (word_at plan g k)) (omega arith)

-- ---- the tables in an area

pub table_at : (plan : Plan) (g : List ℕ) (j : ℕ) → plan.boats + j < plan.base → get_or g (plan.boats + j) 0 ≡ get_or (tables plan g) j 0
table_at plan g j less = sym (get_or-drop plan.boats (take plan.base g) j 0 ∙ get_or-take plan.base g (plan.boats + j) 0 less)

-- ---- states by the plan's numbers

module _ (program : List ℕ) (plan : Plan) (area : ℕ) (laid : Laid plan area) (g : List ℕ) where
  stacks-in : plan.stacks ≡ stacks (setting_in program plan g)
  unfolding setting_in stacks
  stacks-in = laid.stacks-is

  pub state-in : (q k v : ℕ) → state_in plan q k v ≡ state (setting_in program plan g) q k v
  unfolding setting_in state
  state-in q k v = λ t. (q * add-one plan.done t + k) * stacks-in t + v

  pub goal-in : (b : ℕ) → state_in plan b plan.done 0 ≡ goal (setting_in program plan g) b
  unfolding setting_in
  goal-in b = state-in b plan.done 0

  pub starting-in : (a : ℕ) (K : List ℕ) → map (λ k. state_in plan a k 0) K ≡ starting (setting_in program plan g) a K
  starting-in a K = λ t. map (λ k. state-in a k 0 t) K
