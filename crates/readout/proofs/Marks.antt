-- A turn of `readout`'s loop over the states found: a state's mark is noted.
use mathlib.Core.Path.{◌≡◌, refl, ap, ◌∙◌}
use mathlib.Core.Bool.{Bool, true, false, cond, ◌&&◌}
use mathlib.Core.List.{List}
use Prim.Native.Nat.{ℕ, ◌+◌, ◌*◌, ◌-◌, ◌%◌, ◌≤◌, ◌<◌}
use native.Mathlib.Omega.{arith}
use lib.Dec.{ltb}
use lib.ListN.{get_or, set, get_or-map}
use borrow.Author.Tests.{lt-ltb, le-ltb}
use Rattle.graph.specs.PhaseTwo.{lesser_word}
use Rattle.request.specs.declared.Plan.{Plan}
use Rattle.area.specs.Area.{stretch, found}
use Rattle.area.proofs.Stretches.{stretch-get}
use Rattle.states.specs.Pairs.{distances}
use Rattle.readout.specs.Readout.{marks_low, queue_in, note_turn}

not-both : (b : Bool) (x y : List ℕ) → y ≡ cond (b && false) x y
not-both true x y = refl
not-both false x y = refl

-- the mark of a state is the word after the plan's three stretches, of which 16 bits count
pub mark-low : (plan : Plan) (w : List ℕ) (s : ℕ) → s < plan.size → get_or (marks_low plan w) s 0 ≡ get_or w (plan.base + 3 * plan.size + s) 0 % 65536
mark-low plan w s l =
    let b = plan.base + 3 * plan.size in
    get_or-map (λ x. x % 65536) (stretch b plan.size w) s 0 ∙ ap (λ x. x % 65536) (stretch-get b plan.size w s l)

-- the state s at place j of the queue, with the word d
module _ (plan : Plan) (tail far : ℕ) (w : List ℕ) (j : ℕ) (out : List ℕ) (s d : ℕ)
    (es : s ≡ get_or (queue_in plan tail far w) j 0) (told : d ≡ get_or (found plan.base plan.size tail w).dist s 0) where
  ed : d ≡ get_or (distances plan w) s 0
  unfolding found
  ed = told

  pub note-none : d ≡ 0 → out ≡ note_turn plan tail far w j out
  unfolding note_turn
  note-none h = rw (← es, ← ed, le-ltb 0 d (omega (arith, h)))

  pub note-far : far ≤ d → out ≡ note_turn plan tail far w j out
  unfolding note_turn
  note-far h = rw (← es, ← ed, le-ltb d far h) (not-both (ltb 0 d) _ out)

  pub note-here : (d ≡ 0 → ⊥) → d < far → (x : ℕ) → x ≡ get_or (marks_low plan w) s 0 → (i r : ℕ) → i ≡ far - 1 - d → r ≡ lesser_word (get_or out i 0) x
      → set out i r ≡ note_turn plan tail far w j out
  unfolding note_turn
  note-here n l x ex i r ei er = rw (← es, ← ed, lt-ltb 0 d (omega arith), lt-ltb d far l, ← ex, ← ei, ← er)
