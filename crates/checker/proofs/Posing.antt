-- A request posed is one to walk by: its automaton begins at positions up to the end (`posed-within`), and moving along the chain by what
-- its tables say is `checked` (`posed-check`).
use mathlib.Core.Path.{◌≡◌, sym, ap, ◌∙◌}
use mathlib.Core.Bool.{true, ◌&&◌}
use mathlib.Core.List.{List}
use Prim.Native.Nat.{ℕ}
use native.Mathlib.Omega.{arith}
use lib.ListN.{length}
use Rattle.meaning.specs.Request.{Asked}
use Rattle.meaning.specs.Chain.{exist}
use Rattle.positions.specs.Program.{members, Compiled}
use Rattle.positions.specs.Limits.{compiled-start}
use Rattle.request.specs.declared.Plan.{Plan}
use Rattle.graph.specs.Plain.{memb}
use Rattle.search.specs.Product.{Setting, succs}
use Rattle.search.specs.Along.{goal, starting}
use Rattle.search.specs.Loaded.{setting_in}
use Rattle.search.specs.Check.{moved, checked}
use Rattle.search.proofs.ReadBack.{loaded-check}
use Rattle.forward.specs.Posed.{Posed}
use Rattle.states.specs.Spots.{front}
use Rattle.forward.proofs.Posing.{posed-tables}
use Rattle.checker.specs.Walk.{Within}

module _ {q : Asked} {pat : List ℕ} {plan : Plan} {from to : ℕ} {w : List ℕ} (posed : Posed q pat plan from to w) where
  module _ {program : List ℕ} {begin : ℕ} (compiled : Compiled q.pattern program begin) where
    abbrev In : Setting
    In = setting_in program plan (front plan w)

    pub posed-within : Within plan begin
    posed-within k m = omega (arith, posed.planned.done-is, (compiled-start compiled k m).0)

    pub posed-check : (chain : List ℕ) → exist plan.lines chain ≡ true
        → memb (goal In to) (moved (succs In) (starting In from (members begin)) chain) ≡ checked q.day.lines q.pattern from to chain
    posed-check chain e =
        let moves = memb (goal In to) (moved (succs In) (starting In from (members begin)) chain) in
        sym (ap (◌&& moves) e)
        ∙ loaded-check q plan (length w) posed.planned posed.laid (front plan w) (posed-tables posed) posed.fit program begin compiled from to chain
