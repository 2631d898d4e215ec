-- What the search of a loaded record tells the finder: the chain's length, where there is a chain, and the output.
use Rattle.std.specs.Prelude.{◌≡◌, refl, Bool, true, false, cond, List, [], ◌∷◌, ℕ, leb, length, Some, None}
use Rattle.std.specs.Prelude.{Option as Maybe}
use Rattle.std.proofs.Math.Option.{Option, none, some}
use Rattle.meaning.specs.Request.{Asked}
use Rattle.request.specs.declared.Plan.{Plan}
use Rattle.search.specs.Answer.{solution}
use Rattle.search.specs.Along.{goal}
use Rattle.search.specs.Moves.{expand, from_state}
use Rattle.graph.specs.Early.{Ended}
use Rattle.graph.specs.PhaseOne.{Progress, begun, advance_by}
use Rattle.graph.specs.PhaseTwo.{forward}
use Rattle.search.specs.Product.{Setting}
use Rattle.forward.specs.Posed.{Posed}
use Rattle.finder.specs.Promise.{chain, too_long, settled, Said, found, none_found, refusal, said, out_after}

-- the length of a chain, where there is one
abbrev pub length_shown : Option (List ℕ) → Maybe ℕ
length_shown none = None
length_shown (some c) = Some (length c)

-- the length is that of the chain o, and the output has become what it is to be after it
pub record Searched (o : Option (List ℕ)) (long : Maybe ℕ) (out after : List ℕ) : Type 0 where
  pub length-is : long ≡ length_shown o
  pub after_is : after ≡ out_after (settled (length out) o) out

-- ---- both phases as counting loops

-- phase one to the end at the place `to`, after k expansions
abbrev pub reached_in : Setting → Plan → ℕ → ℕ → Progress
reached_in S plan to k = advance_by (expand S) k (begun plan.size (goal S to ∷ []))

-- phase one towards these first states has ended, after so many expansions, and the chain is that of phase two by its distances
pub record SearchedIn (S : Setting) (plan : Plan) (firsts : List ℕ) (to : ℕ) (long : Maybe ℕ) (out after : List ℕ) : Type 0 where
  pub count : ℕ
  pub ended : Ended firsts (reached_in S plan to count)
  pub searched : Searched (forward (from_state S) plan.size plan.lines firsts (reached_in S plan to count).table.dist) long out after

-- ---- the answer

-- for every request that the area is of
abbrev pub RightFor : List ℕ → Plan → ℕ → ℕ → List ℕ → Maybe ℕ → List ℕ → List ℕ → Type 0
RightFor pat plan from to w long out after = (q : Asked) → Posed q pat plan from to w → Searched (solution q.day.lines q.day.places q.pattern from to) long out after

-- ---- the reply by that length, for an output of so many entries

abbrev pub told_by : Maybe ℕ → ℕ → Said
told_by None room = none_found
told_by (Some n) room = cond (leb n room) (found n) (refusal 19 n)

-- it is the definition's
pub told-by : (o : Option (List ℕ)) (room : ℕ) → said (settled room o) ≡ told_by (length_shown o) room
told-by none room = refl
told-by (some c) room = go (leb (length c) room)
  where
    go : (t : Bool) → said (cond t (chain c) (too_long (length c))) ≡ cond t (found (length c)) (refusal 19 (length c))
    go true = refl
    go false = refl
