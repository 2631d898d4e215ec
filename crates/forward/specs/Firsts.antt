-- The first states of a search, at the asked place and the positions where runs begin: as a list, and as the code's loop over positions
-- (`first-law`); put into a table, they are the first frontier (`start-law`).
use Rattle.std.specs.Prelude.{◌≡◌, refl, Bool, cond, List, [], ◌∷◌, map, ℕ, zero, suc, ◌+◌, ◌^◌, ◌%◌, ◌<◌, eqb, get_or}
use Rattle.std.proofs.Common.{ap, ◌∙◌, arith, ne_eqb}
use Rattle.std.proofs.Math.Nat.{zero-mod, zero-div}
use Rattle.positions.specs.Program.{bit_of, depth_at}
use Rattle.request.specs.declared.Plan.{Plan}
use Rattle.graph.specs.Plain.{filt, count}
use Rattle.graph.specs.Loops.{loop, turns}
use Rattle.graph.proofs.Loops.{loop-map, loop-filt, loop-count, turns_same}
use Rattle.graph.specs.Table.{Search}
use Rattle.graph.specs.PhaseTwo.{lesser_word, nearest_word, put}
use Rattle.search.specs.Moves.{visit}
use Rattle.search.proofs.Moves.{visit-put}
use Rattle.search.specs.Front.{state_in}
use Rattle.states.specs.Spots.{next_turn}

-- the states at place a, with the empty stack, at the positions of the mask
unfoldable pub first_states : Plan → ℕ → ℕ → List ℕ
first_states plan mask a = map (λ k. state_in plan a k 0) (filt (λ k. eqb (bit_of mask k) 1) (count 0 (plan.done + 1)))

-- the mask 0 has none
pub no-firsts : (plan : Plan) (a : ℕ) → first_states plan 0 a ≡ []
unfolding first_states filt
no-firsts plan a = ap (map (λ k. state_in plan a k 0)) (go (count 0 (plan.done + 1)))
  where
    no-bit : (k : ℕ) → bit_of 0 k ≡ 0
    no-bit k = ap (◌% 2) (zero-div (2 ^ k))

    go : (l : List ℕ) → filt (λ k. eqb (bit_of 0 k) 1) l ≡ []
    go [] = refl
    go (k ∷ l) = rw (ne_eqb (bit_of 0 k) 1 (λ e. omega (arith, e, no-bit k)), filt) (go l)

-- a loop over them is a loop over positions
pub first-law : {A : Type 0} (f : ℕ → A → A) (plan : Plan) (mask a : ℕ) (x : A)
    → loop f (first_states plan mask a) x ≡ turns (λ k b. cond (eqb (bit_of mask k) 1) (f (state_in plan a k 0) b) b) 0 (plan.done + 1) x
unfolding first_states
first-law f plan mask a x =
    let ks = count 0 (plan.done + 1) in
    let may : ℕ → Bool = λ k. eqb (bit_of mask k) 1 in
    loop-map f (λ k. state_in plan a k 0) (filt may ks) x ∙ (loop-filt (λ k. f (state_in plan a k 0)) may ks x ∙ loop-count _ 0 (plan.done + 1) x)

-- ---- the nearest

-- the word of the nearest so far, after position k
unfoldable pub near_turn : Plan → List ℕ → ℕ → ℕ → ℕ → ℕ → ℕ
near_turn plan D mask a k v = cond (eqb (bit_of mask k) 1) (lesser_word v (get_or D (state_in plan a k 0) 0)) v

pub nearest-law : (plan : Plan) (D : List ℕ) (mask a : ℕ) → nearest_word D (first_states plan mask a) ≡ turns (near_turn plan D mask a) 0 (plan.done + 1) 0
unfolding nearest_word near_turn
nearest-law plan D mask a = first-law (λ s v. lesser_word v (get_or D s 0)) plan mask a 0

-- ---- the first frontier

-- the first states put into it, by a loop over positions
pub start-law : (plan : Plan) (program : List ℕ) (mask : ℕ) (D : List ℕ) (w a : ℕ) (st : Search)
    → 0 < w
    → loop (put D w) (first_states plan mask a) st ≡ turns (next_turn plan program mask (visit D w) a 0) 0 (plan.done + 1) st
start-law plan program mask D zero a st h = absurd (omega arith)
start-law plan program mask D (suc k) a st h = first-law (put D (suc k)) plan mask a st ∙ turns_same _ _ same_turn 0 (plan.done + 1) st
  where
    same_turn : (x : ℕ) (b : Search)
        → cond (eqb (bit_of mask x) 1) (put D (suc k) (state_in plan a x 0) b) b ≡ next_turn plan program mask (visit D (suc k)) a 0 x b
    same_turn x b = unfold next_turn in rw (zero-mod (plan.radix ^ depth_at program x), visit-put D k (state_in plan a x 0) b)
