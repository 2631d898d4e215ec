-- Runs from a list of positions: what other lists, what lies above on the stack and one node do to them.
-- `Sound` and `Complete` speak of runs only through these laws.
use Rattle.std.specs.Prelude.{◌≡◌, refl, Bool, ◌&&◌, List, [], ◌∷◌, ◌++◌, ◌⊎◌, ◌↔◌, ℕ, ◌≤◌, ◌<◌, eqb, take, length}
use Rattle.std.proofs.Common.{sym, ap, ◌∙◌, subst, inl, inr, ⊎_elim, le_of_eq, arith, take_all, eqb-true, eq-eqb}
use Rattle.std.proofs.Math.Bool.{So, and-eq-true_iff}
use mathlib.Core.List.Memᴰ
use Rattle.std.proofs.lemmas.List.{take-append-le}
use Rattle.lists.specs.Listed.{◌∈◌, none_in, any_of-sound, any_of-complete, when, when-sound}
use Rattle.automaton.specs.Automaton.{Node, Reading, passes, takes, pushed, accepts_at, accepts_from}

-- the node N stands at b, before the end
pub record Stands (node : ℕ → Node) (done b : ℕ) (N : Node) : Type 0 where
  pub before : b < done
  pub here : node b ≡ N

module _ {Letters : Type 0} (R : Reading Letters) (node : ℕ → Node) (done : ℕ) where
  -- a run over the word w from one of the positions K, with the stack st cut to that position's depth
  pub record From (K : List ℕ) (st : List R.Values) (w : List Letters) : Type 0 where
    pub pos : ℕ
    pub mem : pos ∈ K
    pub run : So (accepts_at R node done w pos (take (node pos).depth st))

  -- a run that takes its first letter at the node N, with a stack of N's depth
  pub record Taken (N : Node) (st : List R.Values) (w : List Letters) : Type 0 where
    pub head : Letters
    pub tail : List Letters
    pub is : w ≡ head ∷ tail
    pub kind : N.kind ≡ R.kind_of head
    pub pass : So (passes R N.test st (R.value_of head))
    pub rest : From N.follow (pushed N.push st (R.value_of head)) tail

  -- the same, as a test: what `accepts_at` asks at a position where N stands
  abbrev steps : Node → List R.Values → Letters → List Letters → Bool
  steps N st a w = takes R N st a && accepts_from R node done N.follow (pushed N.push st (R.value_of a)) w

module _ {Letters : Type 0} {R : Reading Letters} {node : ℕ → Node} {done : ℕ} where
  -- ---- the run and the test for one

  pub from-sound : (K : List ℕ) (st : List R.Values) (w : List Letters) → So (accepts_from R node done K st w) → From R node done K st w
  from-sound K st w h = let (k, m, r) = any_of-sound (λ k. accepts_at R node done w k (take (node k).depth st)) K h in record { pos = k; mem = m; run = r }

  pub from-complete : {K : List ℕ} {st : List R.Values} {w : List Letters} → From R node done K st w → So (accepts_from R node done K st w)
  from-complete {st = st} {w = w} r = any_of-complete (λ k. accepts_at R node done w k (take (node k).depth st)) r.mem r.run

  -- ---- other lists of positions

  pub from_more : {K K' : List ℕ} {st : List R.Values} {w : List Letters} → ((k : ℕ) → k ∈ K → k ∈ K')
      → From R node done K st w → From R node done K' st w
  from_more f r = record { pos = r.pos; mem = f r.pos r.mem; run = r.run }

  pub from-cases : (K : List ℕ) {K' : List ℕ} {st : List R.Values} {w : List Letters} → From R node done (K ++ K') st w
      → From R node done K st w ⊎ From R node done K' st w
  from-cases K r =
      ⊎_elim
      (λ m. inl (record { pos = r.pos; mem = m; run = r.run }))
      (λ m. inr (record { pos = r.pos; mem = m; run = r.run }))
      (Memᴰ.append_cases K r.mem)

  pub from-when : (b : Bool) {K : List ℕ} {st : List R.Values} {w : List Letters} → From R node done (when b K) st w → So b × From R node done K st w
  from-when b r = let (e, m) = when-sound b r.mem in (e, record { pos = r.pos; mem = m; run = r.run })

  pub from-none : {C : Type 0} {st : List R.Values} {w : List Letters} → From R node done [] st w → C
  from-none r = none_in r.mem

  -- ---- values pushed above the depth of every position change nothing

  pub from_cut : {K : List ℕ} (st t : List R.Values) {w : List Letters} → ((k : ℕ) → k ∈ K → (node k).depth ≤ length st)
      → From R node done K (st ++ t) w ↔ From R node done K st w
  from_cut {K} st t {w} low = (
    λ r. record { pos = r.pos; mem = r.mem; run = subst (λ s. So (accepts_at R node done w r.pos s)) (same r.pos r.mem) r.run },
    λ r. record { pos = r.pos; mem = r.mem; run = subst (λ s. So (accepts_at R node done w r.pos s)) (sym (same r.pos r.mem)) r.run },
  )
    where
      same : (k : ℕ) → k ∈ K → take (node k).depth (st ++ t) ≡ take (node k).depth st
      same k m = take-append-le (node k).depth st t (low k m)

  -- ---- one node

  module _ {N : Node} {b : ℕ} {st : List R.Values} (s : Stands node done b N) (long : length st ≡ N.depth) where
    pub step-sound : (w : List Letters) → From R node done (b ∷ []) st w → Taken R node done N st w
    step-sound [] r = absurd (omega (arith, s.before, Memᴰ.eq_of_singleton r.mem, eqb-true r.pos done r.run))
    step-sound (a ∷ w) r =
        let at : node r.pos ≡ N = ap node (Memᴰ.eq_of_singleton r.mem) ∙ s.here in
        let g = subst (λ n. So (steps R node done n (take n.depth st) a w)) at r.run in
        let g' = subst (λ z. So (steps R node done N z a w)) (take_all N.depth st (le_of_eq long)) g in
        let (t, f) = (and-eq-true_iff (takes R N st a) _).0 g' in
        let (k, q) = (and-eq-true_iff (eqb N.kind (R.kind_of a)) _).0 t in
        record { head = a; tail = w; is = refl; kind = eqb-true _ _ k; pass = q; rest = from-sound _ _ w f }

    pub step-complete : {w : List Letters} → Taken R node done N st w → From R node done (b ∷ []) st w
    step-complete {w} t =
        let a = t.head in
        let taken : So (takes R N st a) = (and-eq-true_iff (eqb N.kind (R.kind_of a)) _).1 (eq-eqb _ _ t.kind, t.pass) in
        let g : So (steps R node done N st a t.tail) = (and-eq-true_iff (takes R N st a) _).1 (taken, from-complete t.rest) in
        let g' = subst (λ z. So (steps R node done N z a t.tail)) (sym (take_all N.depth st (le_of_eq long))) g in
        let g'' = subst (λ n. So (steps R node done n (take n.depth st) a t.tail)) (sym s.here) g' in
        record { pos = b; mem = Memᴰ.head refl; run = subst (λ z. So (accepts_at R node done z b (take (node b).depth st))) (sym t.is) g'' }
