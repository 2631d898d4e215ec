-- Both phases as counting loops give the plain search's answer, from any count of expanded states on: `finish-is`.
-- The finder runs these loops over the work area; with `solve-spec` the answer is the first of the shortest chains.
use Rattle.std.specs.Prelude.{◌≡◌, List, ℕ, ◌<◌}
use Rattle.std.proofs.Math.Path.{ap, fun_ext}
use Rattle.std.proofs.Common.{◌∙◌}
use Rattle.lists.specs.Listed.{◌∈◌}
use Rattle.graph.specs.Plain.{chosen, solve}
use Rattle.graph.specs.Loops.{loop}
use Rattle.graph.specs.Table.{Search, push}
use Rattle.graph.specs.PhaseOne.{Progress, begun, advance_by}
use Rattle.graph.proofs.PhaseOne.{any-count, table-distances}
use Rattle.graph.specs.PhaseTwo.{put, forward}
use Rattle.graph.proofs.PhaseTwo.{forward-is}
use Rattle.graph.specs.Phases.{finish}

-- `expand` pushes predecessors, `from_state` puts successors into the frontier; valid states are closed under both
module _ (N : ℕ) (goals : List ℕ) (preds : ℕ → List ℕ) (succs : ℕ → ℕ → List ℕ) (m : ℕ)
    (expand : ℕ → ℕ → Search → Search) (expand-law : (w t : ℕ) (st : Search) → loop (push w) (preds t) st ≡ expand w t st)
    (from_state : List ℕ → ℕ → ℕ → ℕ → Search → Search) (from-law : (D : List ℕ) (w l s : ℕ) (st : Search) → loop (put D w) (succs s l) st ≡ from_state D w l s st)
    (Ok : ℕ → Type 0) (low : (s : ℕ) → Ok s → s < N) (goals-ok : (s : ℕ) → s ∈ goals → Ok s)
    (next-ok : (s l t : ℕ) → Ok s → l < m → t ∈ succs s l → Ok t) (preds-ok : (s t : ℕ) → Ok t → s ∈ preds t → Ok s)
    (S : List ℕ) (starts-ok : (s : ℕ) → s ∈ S → Ok s) where
  pub finish-is : (k : ℕ) → finish expand from_state N m S (advance_by expand k (begun N goals)) ≡ solve N goals preds succs m S
  unfolding finish solve
  finish-is k =
      let D = (advance_by expand N (begun N goals)).table.dist in
      ap (λ (u : Progress). forward from_state N m S u.table.dist) (any-count preds expand expand-law N Ok low preds-ok goals goals-ok k)
      ∙ (forward-is from_state D succs (from-law D) m N Ok low next-ok S starts-ok
      ∙ ap (λ dist. chosen dist succs m S) (fun_ext (table-distances preds expand expand-law N Ok low preds-ok goals goals-ok)))
