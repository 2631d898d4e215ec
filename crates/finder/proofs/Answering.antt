-- What the loops find in the area of a request is the answer to the request (`posed-searched`), and what the definition says of a request
-- that is refused (`find-refused`) and of one that is searched (`find-searched`).
use mathlib.Core.Path.{◌≡◌, subst}
use mathlib.Core.List.{List}
use Prim.Native.Nat.{ℕ}
use native.Mathlib.Omega.{arith}
use lib.ListN.{length}
use Rattle.meaning.specs.Outcome.{refused, passed}
use Rattle.meaning.specs.Windows.{Options}
use Rattle.meaning.specs.Request.{Asked, ask_request}
use Rattle.positions.specs.Program.{Compiled}
use Rattle.positions.specs.Limits.{compiled-start}
use Rattle.request.specs.declared.Plan.{Plan}
use Rattle.search.specs.Answer.{solution}
use Rattle.search.specs.Asked.{answer}
use Rattle.search.specs.Loaded.{setting_in}
use Rattle.search.specs.Moves.{expand, from_state}
use Rattle.search.proofs.Moves.{expand-law, from-law}
use Rattle.search.proofs.ReadBack.{loaded-ended}
use Rattle.forward.specs.Firsts.{first_states}
use Rattle.forward.specs.Posed.{Posed}
use Rattle.states.specs.Spots.{front}
use Rattle.forward.proofs.Firsts.{first-states}
use Rattle.forward.proofs.Posing.{posed-tables}
use Rattle.finder.specs.Promise.{stopped, settled, find_of}
use Rattle.std.specs.Prelude.{Option as Maybe}
use Rattle.finder.specs.Searching.{Searched, SearchedIn}

pub posed-searched : {q : Asked} {pat : List ℕ} {plan : Plan} {from to : ℕ} {w : List ℕ} (posed : Posed q pat plan from to w)
    → {program : List ℕ} {begin : ℕ} (compiled : Compiled q.pattern program begin) {long : Maybe ℕ} {out after : List ℕ}
    → SearchedIn (setting_in program plan (front plan w)) plan (first_states plan begin from) to long out after
    → Searched (solution q.day.lines q.day.places q.pattern from to) long out after
posed-searched {q} {plan = plan} {from} {to} {w} posed {program} {begin} compiled {long} {out} {after} s =
    let S = setting_in program plan (front plan w) in
    let first = first-states program plan (length w) posed.laid (front plan w) begin from (λ k m. omega (arith, posed.planned.done-is, (compiled-start compiled k m).0)) in
    let x = subst (λ firsts. SearchedIn S plan firsts to long out after) first s in
    let found = loaded-ended q plan (length w) posed.planned posed.laid (front plan w) (posed-tables posed) posed.fit program begin compiled from to
    (expand S) (expand-law S) (from_state S) (from-law S) posed.from_low posed.to_low x.count x.ended in
    subst (λ o. Searched o long out after) found x.searched

-- ---- the definition, by the questions' outcome

module _ (rec pat : List ℕ) (from to : ℕ) (options : Options) (words room : ℕ) where
  pub find-refused : (number : ℕ) → ask_request rec pat from to options words ≡ refused number → find_of rec pat from to options words room ≡ stopped number
  unfolding find_of
  find-refused number e = simp e

  pub find-searched : (q : Asked) → ask_request rec pat from to options words ≡ passed q → find_of rec pat from to options words room ≡ settled room (answer q from to)
  unfolding find_of
  find-searched q e = simp e
