-- Phase one is exact: the backward breadth-first search finds every state from which a chain leads to a goal, with the least length of such a chain.
-- Claimed: `distances-exact`, `distances-none`, and both at once for `Forward`, `distance-spec`.
use Rattle.std.specs.Prelude.{◌≡◌, ◌⊎◌, ◌↔◌, length}
use Rattle.std.proofs.Math.Path.{refl, ap}
use Rattle.std.proofs.Common.{sym, inr}
use Rattle.std.proofs.Math.Logic.{inl, ⊎_elim}
use Rattle.std.proofs.Math.Option.{Option, none, some, none-ne-some, some-injective}
use mathlib.Core.List.Memᴰ
use mathlib.Core.List.{List, [], ◌∷◌, ◌++◌, append-nil, append_assoc}
use Prim.Native.Nat.{ℕ, zero, suc, ◌+◌, ◌<◌, ◌≤◌}
use native.Mathlib.Omega.{arith}
use Rattle.std.proofs.Math.ListN.{length-append}
use Rattle.lists.specs.Listed.{◌∈◌, none_in}
use Rattle.graph.specs.Plain.{Entry, look, news, bfs, found, Run, Reaches, Least, Distance}
use Rattle.graph.proofs.Entries.{same-distance, look-some, look_none, news-old, news-new, Once, once-unique, once-snoc, once-length, Sorted, sorted-snoc}

-- each of ps is in f, at distance d or less
abbrev Covered : List Entry → List ℕ → ℕ → Type 0
Covered f ps d = (p : ℕ) → p ∈ ps → (e : ℕ) × ((p, e) ∈ f) × (e ≤ d)

covered_more : (f g : List Entry) (ps : List ℕ) (d : ℕ) → Covered f ps d → Covered (f ++ g) ps d
covered_more f g ps d c p m = ((c p m).0, Memᴰ.append_left g (c p m).1, (c p m).2)

-- the states that are Ok are the valid ones, all below N
module _ (N : ℕ) (goals : List ℕ) (preds : ℕ → List ℕ) (succs : ℕ → ℕ → List ℕ) (m : ℕ) (Ok : ℕ → Type 0) (low : (s : ℕ) → Ok s → s < N) where
  abbrev Reach : ℕ → ℕ → Type 0
  Reach s d = Reaches goals succs m s d

  -- ---- the invariant

  -- while entries of distance d are put at the end of f; q is the queue
  record Inv (d : ℕ) (f q : List Entry) : Type 0 where
    -- each state once
    once : Once f
    -- each is valid, and a chain of its distance leads from it
    each : (x : Entry) → x ∈ f → Ok x.0 × Reach x.0 x.1 × (x.1 < length f) × (x.1 ≤ d)
    -- the queue is in order of distance
    sorted : Sorted q
    -- it is part of f, and its distances are d or d − 1
    queue : (x : Entry) → x ∈ q → (x ∈ f) × (d ≤ suc x.1)
    -- every distance below d is taken
    deep : d ≤ length f

  inv-snoc : (d : ℕ) (f q : List Entry) (p : ℕ) → Inv d f q → look p f ≡ none → Ok p → Reach p d → Inv d (f ++ ((p, d) ∷ [])) (q ++ ((p, d) ∷ []))
  inv-snoc d f q p v h o r =
      record {
        once = once-snoc f p d v.once (look_none p f h);
        each = λ x k. ⊎_elim
            (λ n. let a = v.each x n in (a.0, a.1, omega (arith, len, a.2), a.3))
            (λ n. let e : x ≡ (p, d) = Memᴰ.eq_of_singleton n in rw e (o, r, omega (arith, len, v.deep), omega arith))
            (Memᴰ.append_cases f k);
        sorted = sorted-snoc q p d v.sorted (λ x k. (v.each x (v.queue x k).0).3);
        queue = λ x k. ⊎_elim
            (λ n. (Memᴰ.append_left _ (v.queue x n).0, (v.queue x n).1))
            (λ n. (Memᴰ.append_right f n, omega (arith, same-distance (Memᴰ.eq_of_singleton n))))
            (Memᴰ.append_cases q k);
        deep = omega (arith, len, v.deep);
      }
    where
      len : length (f ++ ((p, d) ∷ [])) ≡ length f + 1
      len = length-append f ((p, d) ∷ [])

  -- the first of the queue is taken off to be expanded
  inv-pop : (d : ℕ) (f q : List Entry) (e : Entry) → Inv d f (e ∷ q) → Inv (suc e.1) f q
  inv-pop d f q e v =
      record {
        once = v.once;
        each = λ x k. let a = v.each x k in (a.0, a.1, a.2, omega (arith, a.3, h.1));
        sorted = v.sorted.1;
        queue = λ x k. ((v.queue x (Memᴰ.tail k)).0, omega (arith, v.sorted.0 x k));
        deep = (v.each e h.0).2;
      }
    where
      h : (e ∈ f) × (d ≤ suc e.1)
      h = v.queue e (Memᴰ.head refl)

  -- ---- the new states of a list put at the end

  unfoldable Grown : ℕ → List Entry → List Entry → List ℕ → List Entry → Type 0
  Grown d f q ps n = Inv d (f ++ n) (q ++ n) × Covered (f ++ n) ps d

  grown-old : (d : ℕ) (f q : List Entry) (p : ℕ) (ps : List ℕ) (n : List Entry) (e : ℕ) → (p, e) ∈ f → e ≤ d → Grown d f q ps n → Grown d f q (p ∷ ps) n
  unfolding Grown
  grown-old d f q p ps n e k le g =
      (g.0, λ x h. ⊎_elim (λ (r : x ≡ p). rw r (e, Memᴰ.append_left n k, le)) (λ h'. g.1 x h') (Memᴰ.cases_cons h))

  grown-new : (d : ℕ) (f q : List Entry) (p : ℕ) (ps : List ℕ) (n : List Entry)
      → Grown d (f ++ ((p, d) ∷ [])) (q ++ ((p, d) ∷ [])) ps n
      → Grown d f q (p ∷ ps) ((p, d) ∷ n)
  unfolding Grown
  grown-new d f q p ps n g =
      let v : Inv d (f ++ ((p, d) ∷ n)) (q ++ ((p, d) ∷ n)) = rw (append_assoc f ((p, d) ∷ []) n, append_assoc q ((p, d) ∷ []) n) at g.0 in
      let c : Covered (f ++ ((p, d) ∷ n)) ps d = rw (append_assoc f ((p, d) ∷ []) n) at g.1 in
      (v, λ x h. ⊎_elim (λ (r : x ≡ p). rw r (d, Memᴰ.append_right f (Memᴰ.head refl), omega arith)) (λ h'. c x h') (Memᴰ.cases_cons h))

  grow : (ps : List ℕ) (d : ℕ) (f q : List Entry) → Inv d f q → ((p : ℕ) → p ∈ ps → Ok p × Reach p d) → Grown d f q ps (news d f ps)
  grow [] d f q v h = unfold Grown news in (rw (append-nil f, append-nil q) v, λ p k. none_in k)
  grow (p ∷ ps) d f q v h = go (look p f) refl (λ f' q' v'. grow ps d f' q' v' (λ p' k. h p' (Memᴰ.tail k)))
    where
      go : (o : Option ℕ) → look p f ≡ o → ((f' q' : List Entry) → Inv d f' q' → Grown d f' q' ps (news d f' ps)) → Grown d f q (p ∷ ps) (news d f (p ∷ ps))
      go none t ih =
          let a = h p (Memᴰ.head refl) in
          rw (news-new d f p ps t) (grown-new d f q p ps _ (ih _ _ (inv-snoc d f q p v t a.0 a.1)))
      go (some e) t ih =
          let k = look-some p f e t in
          rw (news-old d f p ps e t) (grown-old d f q p ps _ e k (v.each (p, e) k).3 (ih f q v))

  -- ---- what is finished

  -- each entry of f is still in the queue, or its predecessors are in f
  abbrev Closed : List Entry → List Entry → Type 0
  Closed f q = (x : Entry) → x ∈ f → (x ∈ q) ⊎ Covered f (preds x.0) (suc x.1)

  closed-step : (f q : List Entry) (e : Entry) (n : List Entry) → Closed f (e ∷ q) → Covered (f ++ n) (preds e.0) (suc e.1) → Closed (f ++ n) (q ++ n)
  closed-step f q e n c h x k =
      ⊎_elim
      (λ i. ⊎_elim (λ j. queued (Memᴰ.cases_cons j)) (λ j. inr (covered_more f n _ _ j)) (c x i))
      (λ i. inl (Memᴰ.append_right q i))
      (Memᴰ.append_cases f k)
    where
      queued : (x ≡ e) ⊎ (x ∈ q) → (x ∈ (q ++ n)) ⊎ Covered (f ++ n) (preds x.0) (suc x.1)
      queued (inl p) = inr (rw p h)
      queued (inr i) = inl (Memᴰ.append_left n i)

  -- what holds at the end, when the queue is used up
  record Final (f : List Entry) : Type 0 where
    once : Once f
    each : (x : Entry) → x ∈ f → Ok x.0 × Reach x.0 x.1 × (x.1 < length f)
    goal : Covered f goals 0
    closed : (x : Entry) → x ∈ f → Covered f (preds x.0) (suc x.1)

  at-end : (d : ℕ) (f : List Entry) → Inv d f [] → Closed f [] → Covered f goals 0 → Final f
  at-end d f v c g =
      record {
        once = v.once;
        each = λ x k. let a = v.each x k in (a.0, a.1, a.2);
        goal = g;
        closed = λ x k. ⊎_elim (λ j. none_in j) (λ j. j) (c x k);
      }

  -- ---- the whole, where valid states are closed under both kinds of step, and for these the two agree

  module _ (goals-ok : (s : ℕ) → s ∈ goals → Ok s)
      (next-ok : (s l t : ℕ) → Ok s → l < m → t ∈ succs s l → Ok t)
      (preds-ok : (s t : ℕ) → Ok t → s ∈ preds t → Ok s)
      (edges : (s t : ℕ) → Ok s → Ok t → (s ∈ preds t) ↔ ((l : ℕ) × (l < m) × (t ∈ succs s l))) where
    reach-pred : (s t d : ℕ) → Ok t → s ∈ preds t → Reach t d → Reach s (suc d)
    unfolding Run
    reach-pred s t d o k r =
        let e = (edges s t (preds-ok s t o k) o).0 k in
        (e.0 ∷ r.0, (t, e.1, e.2, r.1), ap suc r.2)

    -- N expansions are enough: each state is expanded at most once
    final : (k d : ℕ) (f q : List Entry) → Inv d f q → Closed f q → Covered f goals 0 → N + length q ≤ k + length f → Final (bfs preds k f q)
    unfolding bfs Grown
    final zero d f [] v c g le = at-end d f v c g
    final zero d f (e ∷ q) v c g le = absurd (let h = once-length N f v.once (λ x k. low x.0 (v.each x k).0) in omega arith)
    final (suc k) d f [] v c g le = at-end d f v c g
    final (suc k) d f (e ∷ q) v c g le =
        let new = news (suc e.1) f (preds e.0) in
        let (o, r, x, y) = v.each e (v.queue e (Memᴰ.head refl)).0 in
        let G : Grown (suc e.1) f q (preds e.0) new = grow (preds e.0) (suc e.1) f q (inv-pop d f q e v) (λ p j. (preds-ok p e.0 o j, reach-pred p e.0 e.1 o j r)) in
        final k (suc e.1) (f ++ new) (q ++ new) G.0 (closed-step f q e new c G.1) (covered_more f new goals 0 g) (omega (arith, length-append f new, length-append q new))

    found-final : Final (found N goals preds)
    unfolding found Grown Run
    found-final =
        let new = news 0 [] goals in
        let v : Inv 0 [] [] = record { once = tt; each = λ x k. none_in k; sorted = tt; queue = λ x k. none_in k; deep = omega arith } in
        let G : Grown 0 [] [] goals new = grow goals 0 [] [] v (λ p j. (goals-ok p j, ([], j, refl))) in
        final N 0 new new G.0 (λ x k. inl k) G.1 (omega arith)

    -- every chain is at least as long as the distance found
    found_all : (c : List ℕ) (s : ℕ) → Ok s → Run goals succs m s c → (d : ℕ) × ((s, d) ∈ found N goals preds) × (d ≤ length c)
    unfolding Run
    found_all [] s o r = found-final.goal s r
    found_all (l ∷ c) s o r =
        let o' = next-ok s l r.0 o r.1 r.2 in
        let h = found_all c r.0 o' r.3 in
        let a = found-final.closed (r.0, h.0) h.1 s ((edges s r.0 o o').1 (l, r.1, r.2)) in
        (a.0, a.1, omega (arith, a.2, h.2))

    -- ---- the distances

    module _ (s : ℕ) (o : Ok s) where
      pub distance-spec : Distance goals succs m N s (look s (found N goals preds))
      distance-spec = go (look s f) refl
        where
          f : List Entry
          f = found N goals preds

          F : Final f
          F = found-final

          go : (x : Option ℕ) → look s f ≡ x → Distance goals succs m N s x
          go none h = λ c r. let a = found_all c s o r in look_none s f h a.0 a.1
          go (some d) h =
              let k = look-some s f d h in
              let e = F.each (s, d) k in
              let le = once-length N f F.once (λ x j. low x.0 (F.each x j).0) in
              ((e.1, λ c r. let a = found_all c s o r in omega (arith, a.2, once-unique f F.once s d a.0 k a.1)), omega (arith, e.2))

      -- a state has distance d exactly when d is the length of a shortest chain from it to a goal
      pub distances-exact : (d : ℕ) → (look s (found N goals preds) ≡ some d) ↔ Least goals succs m s d
      distances-exact d = go (look s (found N goals preds)) distance-spec
        where
          go : (x : Option ℕ) → Distance goals succs m N s x → (x ≡ some d) ↔ Least goals succs m s d
          go none h = (λ e. absurd (none-ne-some d e), λ l. absurd (h l.0.0 l.0.1))
          go (some e) h = (
            λ q. rw (some-injective e d q) at h.0,
            λ l. ap {B = Option ℕ} some (let a = h.0.1 l.0.0 l.0.1 in let b = l.1 h.0.0.0 h.0.0.1 in omega (arith, l.0.2, h.0.0.2)),
          )

      -- it has none exactly when no chain of any length leads from it to a goal
      pub distances-none : (look s (found N goals preds) ≡ none) ↔ ((c : List ℕ) → Run goals succs m s c → ⊥)
      distances-none = go (look s (found N goals preds)) distance-spec
        where
          go : (x : Option ℕ) → Distance goals succs m N s x → (x ≡ none) ↔ ((c : List ℕ) → Run goals succs m s c → ⊥)
          go none h = (λ e. h, λ k. refl)
          go (some e) h = (λ q. absurd (none-ne-some e (sym q)), λ k. absurd (k h.0.0.0 h.0.0.1))
