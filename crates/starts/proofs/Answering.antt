-- What a search that has run out finds in the area of a request are the answers to the request from every listed place (`posed-lengths`), and it has
-- taken up no state twice (`posed-once`).
use mathlib.Core.Path.{◌≡◌, sym, ap, ◌∙◌}
use mathlib.Core.Bool.{true}
use mathlib.Core.List.{List, [], ◌∷◌, ◌++◌, map}
use mathlib.Core.Logic.{inl}
use Prim.Native.Nat.{ℕ, ◌<◌, ◌≤◌}
use native.Mathlib.Omega.{arith}
use lib.ListN.{length, drop, length-map}
use Rattle.meaning.specs.Request.{Asked, all_below}
use Rattle.positions.specs.Program.{Compiled, members}
use Rattle.positions.specs.Limits.{compiled-start}
use Rattle.request.specs.declared.Plan.{Plan}
use Rattle.graph.proofs.Early.{ended-none}
use Rattle.graph.specs.PhaseOne.{waiting}
use Rattle.graph.proofs.PhaseOne.{queue-distinct, queue-room}
use Rattle.graph.proofs.Queue.{Distinct}
use Rattle.graph.specs.PhaseTwo.{nearest_word, word_of}
use Rattle.graph.proofs.PhaseTwo.{forward-word}
use Rattle.search.specs.Along.{goal, starting}
use Rattle.search.specs.Answer.{solution}
use Rattle.search.specs.Loaded.{setting_in}
use Rattle.search.specs.Moves.{expand, from_state}
use Rattle.search.proofs.Moves.{expand-law, from-law}
use Rattle.search.specs.Product.{Setting, preds}
use Rattle.search.proofs.ReadBack.{valid-low, valid-preds, valid-goal, loaded-ended}
use Rattle.search.proofs.Same.{map_same}
use Rattle.forward.specs.Posed.{Posed}
use Rattle.forward.proofs.Firsts.{first-states}
use Rattle.forward.proofs.Posing.{posed-tables}
use Rattle.states.specs.Spots.{front}
use Rattle.starts.specs.Promise.{length_of, lengths, lengths_after}
use Rattle.starts.specs.Highest.{all-below}
use Rattle.starts.specs.Lengths.{length_by, by_word, length_at, reached_in, Searched}

module _ {q : Asked} {pat : List ℕ} {plan : Plan} {to : ℕ} {w : List ℕ} (posed : Posed q pat plan to to w) {program : List ℕ} {begin : ℕ} (compiled : Compiled q.pattern program begin)
    {starts old after : List ℕ} (s : Searched (setting_in program plan (front plan w)) plan begin starts to old after) where
  abbrev In : Setting
  In = setting_in program plan (front plan w)

  -- the distances when nothing waits
  abbrev D : List ℕ
  D = (reached_in In plan to s.count).table.dist

  abbrev from : ℕ → List ℕ
  from a = starting In a (members begin)

  -- the length from one place
  one : (a : ℕ) → a < q.day.places → length_at plan begin D a ≡ length_of (solution q.day.lines q.day.places q.pattern a to)
  one a low =
      let first = first-states program plan (length w) posed.laid (front plan w) begin a (λ k m. omega (arith, posed.planned.done-is, (compiled-start compiled k m).0)) in
      let is = loaded-ended q plan (length w) posed.planned posed.laid (front plan w) (posed-tables posed) posed.fit program begin compiled a to
      (expand In) (expand-law In) (from_state In) (from-law In) low posed.to_low s.count (inl (ended-none _ s.ended)) in
      ap (λ firsts. length_by (nearest_word D firsts)) first
      ∙ (ap length_by (sym (forward-word (from_state In) plan.size plan.lines (from a) D))
      ∙ (ap (λ o. length_by (word_of o)) is ∙ by_word (solution q.day.lines q.day.places q.pattern a to)))

  -- the states that the search took up are its queue's, of which none stands there twice, and which has at most as many as the search size
  pub posed-once : let u = reached_in In plan to s.count in (waiting u ≡ []) × Distinct u.table.queue × (length u.table.queue ≤ plan.size)
  posed-once =
      let laid = posed.laid in
      let fit = posed.fit in
      let ok = valid-preds q plan (length w) posed.planned laid (front plan w) (posed-tables posed) fit program begin compiled in
      let low = valid-low q plan (length w) posed.planned laid (front plan w) (posed-tables posed) fit program begin compiled in
      let goal-in = valid-goal q plan (length w) posed.planned laid (front plan w) (posed-tables posed) fit program begin compiled to posed.to_low in (
        ended-none _ s.ended,
        queue-distinct (preds In) (expand In) (expand-law In) plan.size _ low ok (goal In to ∷ []) goal-in s.count,
        queue-room (preds In) (expand In) (expand-law In) plan.size _ low ok (goal In to ∷ []) goal-in s.count,
      )

  pub posed-lengths : all_below plan.places starts ≡ true → after ≡ lengths_after (lengths (map (λ a. length_of (solution q.day.lines q.day.places q.pattern a to)) starts)) old
  posed-lengths below =
      let f : ℕ → ℕ = λ a. length_of (solution q.day.lines q.day.places q.pattern a to) in
      let all = map_same (length_at plan begin D) f starts (λ a m. one a (omega (arith, all-below plan.places starts below a m, posed.planned.places-are))) in
      s.after_is ∙ (ap (◌++ drop (length starts) old) all ∙ ap (λ n. map f starts ++ drop n old) (sym (length-map starts f)))
