-- The lengths of the listed places by the words of a search that has run out: what is written (`written`), what the search of a loaded record leaves
-- (`Searched`), and that it is right (`RightFor`). What the contracts of the inner functions cite.
use Rattle.std.specs.Prelude.{◌≡◌, refl, List, [], ◌∷◌, ◌++◌, map, ℕ, zero, suc, length, drop}
use Rattle.std.proofs.Math.Option.{Option, none, some}
use Rattle.meaning.specs.Request.{Asked}
use Rattle.request.specs.declared.Plan.{Plan}
use Rattle.graph.specs.Early.{Ended}
use Rattle.graph.specs.PhaseOne.{Progress, advance_by}
use Rattle.graph.specs.PhaseTwo.{nearest_word, word_of}
use Rattle.graph.specs.Table.{blank}
use Rattle.search.specs.Answer.{solution}
use Rattle.search.specs.Moves.{expand}
use Rattle.search.specs.Product.{Setting}
use Rattle.forward.specs.Firsts.{first_states}
use Rattle.forward.specs.Posed.{Posed}
use Rattle.backward.specs.Stopped.{from_goals}
use Rattle.starts.specs.Promise.{no_length, length_of, lengths, lengths_after}

-- ---- one place

-- the length that a distance's word says: one less, or the mark where it is 0
unfoldable pub length_by : ℕ → ℕ
length_by zero = no_length
length_by (suc n) = n

-- the word of a chain says its length
pub by_word : (o : Option (List ℕ)) → length_by (word_of o) ≡ length_of o
unfolding length_by
by_word none = refl
by_word (some c) = refl

-- the length from the place a, by the distances D: that of the nearest first state there
abbrev pub length_at : Plan → ℕ → List ℕ → ℕ → ℕ
length_at plan begin D a = length_by (nearest_word D (first_states plan begin a))

-- ---- all listed places

-- a length for each at the front, the rest as it was
abbrev pub written : (ℕ → ℕ) → List ℕ → List ℕ → List ℕ
written f starts old = map f starts ++ drop (length starts) old

-- after so many expansions from the goal at the place `to`
abbrev pub reached_in : Setting → Plan → ℕ → ℕ → Progress
reached_in S plan to k = advance_by (expand S) k (from_goals S plan.size (to ∷ []) (blank plan.size))

-- phase one towards no first state has ended, after so many expansions, and the lengths are those of its distances
pub record Searched (S : Setting) (plan : Plan) (begin : ℕ) (starts : List ℕ) (to : ℕ) (old after : List ℕ) : Type 0 where
  pub count : ℕ
  pub ended : Ended [] (reached_in S plan to count)
  pub after_is : after ≡ written (length_at plan begin (reached_in S plan to count).table.dist) starts old

-- ---- the answers

-- for every request that the area is of
abbrev pub RightFor : List ℕ → Plan → List ℕ → ℕ → List ℕ → List ℕ → List ℕ → Type 0
RightFor pat plan starts to w old after = (q : Asked) → Posed q pat plan to to w → after ≡ lengths_after (lengths (map (λ a. length_of (solution q.day.lines q.day.places q.pattern a to)) starts)) old
