-- The plain search by a count of expanded entries is the plain search with a queue.
-- Claimed for `PhaseOne`: one step by cases (`step_end`, `step-next`), and `steps-bfs`.
use Rattle.std.specs.Prelude.{◌≡◌}
use Rattle.std.proofs.Math.Path.{refl}
use Rattle.std.proofs.Common.{◌∙◌}
use mathlib.Core.List.{List, [], ◌∷◌, ◌++◌}
use Prim.Native.Nat.{ℕ, zero, suc}
use Rattle.std.proofs.Math.ListN.{drop}
use Rattle.graph.specs.Plain.{Entry, news, bfs, step, steps}
use Rattle.graph.proofs.Queue.{waits-more, waits-after}

module _ (preds : ℕ → List ℕ) where
  pub step_end : (f : List Entry) (n : ℕ) → drop n f ≡ [] → step preds (f, n) ≡ (f, n)
  unfolding step
  step_end f n h = rw (h, step)

  pub step-next : (f : List Entry) (n : ℕ) (e : Entry) (q : List Entry)
      → drop n f ≡ e ∷ q
      → step preds (f, n) ≡ (f ++ news (suc e.1) f (preds e.0), suc n)
  unfolding step
  step-next f n e q h = rw (h, step)

  bfs-nil : (k : ℕ) (f : List Entry) → bfs preds k f [] ≡ f
  unfolding bfs
  bfs-nil zero f = refl
  bfs-nil (suc k) f = refl

  pub steps-bfs : (k : ℕ) (f : List Entry) (n : ℕ) → (steps preds k (f, n)).0 ≡ bfs preds k f (drop n f)
  unfolding bfs steps
  steps-bfs zero f n = refl
  steps-bfs (suc k) f n = go (drop n f) refl (λ f' n'. steps-bfs k f' n')
    where
      go : (q : List Entry)
          → drop n f ≡ q → ((f' : List Entry) (n' : ℕ) → (steps preds k (f', n')).0 ≡ bfs preds k f' (drop n' f'))
          → (steps preds k (step preds (f, n))).0 ≡ bfs preds (suc k) f (drop n f)
      go [] h ih = rw (step_end f n h) (ih f n ∙ rw h (bfs-nil k f))
      go (e ∷ q) h ih =
          let new = news (suc e.1) f (preds e.0) in
          let rest : drop (suc n) (f ++ new) ≡ q ++ new = waits-after n (f ++ new) e (q ++ new) (waits-more n f new e q h) in
          rw (step-next f n e q h, h) (ih (f ++ new) (suc n) ∙ rw rest)
