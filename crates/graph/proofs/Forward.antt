-- Phase two is right: by exact distances, forward over sets of states and least line first, it gives the first of the shortest chains.
-- Claimed: `chosen-spec` for any exact distances, and `solve-spec` for both phases; the finder's theorem over a record is `solve-spec` at its states.
use Rattle.std.specs.Prelude.{◌≡◌, ◌⊎◌, ◌↔◌}
use Rattle.std.proofs.Math.Path.{refl, ap}
use Rattle.std.proofs.Common.{sym, ◌∙◌}
use Rattle.std.proofs.Math.Logic.{inl, inr, ⊎_elim}
use Rattle.std.proofs.Math.Option.{Option, none, some, none-ne-some, some-injective}
use mathlib.Core.List.Memᴰ
use mathlib.Core.List.{List, [], ◌∷◌}
use Prim.Native.Nat.{ℕ, zero, suc, ◌+◌, ◌<◌, ◌≤◌, min}
use native.Mathlib.Omega.{arith}
use Rattle.std.proofs.Math.Decide.{dec_lt}
use Rattle.std.proofs.Math.ListN.{length}
use Rattle.lists.specs.Listed.{◌∈◌, none_in}
use Rattle.graph.specs.Plain.{Run, Least, Distance, flat, level, nearest, lesser, next, first, pick, chosen, solve, found, look, Lex, Answer}
use Rattle.graph.proofs.Sets.{flat_in, level_in}
use Rattle.graph.proofs.Distances.{distance-spec}

-- ---- the line chosen, and the states to which it leads

module _ (dist : ℕ → Option ℕ) (succs : ℕ → ℕ → List ℕ) where
  pub next-in : (k : ℕ) (S : List ℕ) (l t : ℕ) → (t ∈ next dist succs k S l) ↔ (((s : ℕ) × (s ∈ S) × (t ∈ succs s l)) × (dist t ≡ some k))
  unfolding next
  next-in k S l t =
      let a = level_in dist k (flat (λ s. succs s l) S) t in
      let b = flat_in (λ s. succs s l) S t in
      (λ h. let r = a.0 h in (b.0 r.0, r.1), λ h. a.1 (b.1 h.0, h.1))

  -- r is the least line from l on that leads from S to distance k, with all states to which it leads
  pub record Chosen (k : ℕ) (S : List ℕ) (l : ℕ) (r : ℕ × List ℕ) : Type 0 where
    pub leads : r.1 ≡ next dist succs k S r.0
    pub inhabited : (t : ℕ) × (t ∈ r.1)
    pub least : (j t : ℕ) → l ≤ j → t ∈ next dist succs k S j → r.0 ≤ j

  pub first_spec : (k : ℕ) (S : List ℕ) (n l j t : ℕ) → l ≤ j → j < l + n → t ∈ next dist succs k S j → Chosen k S l (first dist succs k S n l)
  unfolding first
  first_spec k S zero l j t le lt h = absurd (omega arith)
  first_spec k S (suc n) l j t le lt h = go (next dist succs k S l) refl (λ a b. first_spec k S n (suc l) j t a b h)
    where
      past : next dist succs k S l ≡ [] → (i u : ℕ) → l ≤ i → u ∈ next dist succs k S i → suc l ≤ i
      past e i u a b = elim (dec_lt l i) [ yes p ↦ p | no p ↦ (let q : i ≡ l = omega arith in none_in (rw (q, e) at b)) ]

      go : (x : List ℕ)
          → next dist succs k S l ≡ x → (suc l ≤ j → j < suc l + n → Chosen k S (suc l) (first dist succs k S n (suc l)))
          → Chosen k S l (first dist succs k S (suc n) l)
      go [] e ih =
          let c = ih (past e j t le h) (omega arith) in
          rw (e, first) record { leads = c.leads; inhabited = c.inhabited; least = λ i u a b. c.least i u (past e i u a b) b }
      go (x ∷ xs) e ih = rw (e, first) record { leads = sym e; inhabited = (x, Memᴰ.head refl); least = λ i u a b. a }

  -- ---- where the distances are exact on valid states

  module _ (goals : List ℕ) (m N : ℕ) (Ok : ℕ → Type 0)
      (next-ok : (s l t : ℕ) → Ok s → l < m → t ∈ succs s l → Ok t)
      (spec : (s : ℕ) → Ok s → Distance goals succs m N s (dist s)) where
    dist-of : (s d : ℕ) → Ok s → dist s ≡ some d → Least goals succs m s d × (d < N)
    dist-of s d o e = rw e at (spec s o)

    run-dist : (s : ℕ) (c : List ℕ) → Ok s → Run goals succs m s c → (d : ℕ) × (dist s ≡ some d) × (d ≤ length c)
    run-dist s c o r = go (dist s) refl (spec s o)
      where
        go : (x : Option ℕ) → dist s ≡ x → Distance goals succs m N s x → (d : ℕ) × (dist s ≡ some d) × (d ≤ length c)
        go none e h = absurd (h c r)
        go (some d) e h = (d, e, h.0.1 c r)

    -- a shortest chain goes by states whose distances fall by one
    step-dist : (s k l t : ℕ) (c : List ℕ) → Ok s → dist s ≡ some (suc k) → l < m → t ∈ succs s l → Run goals succs m t c → length c ≡ k → dist t ≡ some k
    unfolding Run
    step-dist s k l t c o e lt h r len =
        let o' = next-ok s l t o lt h in
        let a = run-dist t c o' r in
        let b = (dist-of t a.0 o' a.1).0.0 in
        let le = (dist-of s (suc k) o e).0.1 (l ∷ b.0) (t, lt, h, b.1) in
        let q : a.0 ≡ k = omega (arith, a.2, b.2) in
        rw q at a.1

    -- all states of S are valid and at distance k
    abbrev All : ℕ → List ℕ → Type 0
    All k S = (s : ℕ) → s ∈ S → Ok s × (dist s ≡ some k)

    -- so the second state of a shortest chain from S is among those to which its first line leads
    run-next : (k : ℕ) (S : List ℕ) (s l t : ℕ) (c : List ℕ) → All (suc k) S → s ∈ S
        → l < m → t ∈ succs s l → Run goals succs m t c → length c ≡ k → t ∈ next dist succs k S l
    run-next k S s l t c all h lt i r len = (next-in k S l t).1 ((s, h, i), step-dist s k l t c (all s h).0 (all s h).1 lt i r len)

    -- and all states to which a line leads are at the next distance
    next-all : (k : ℕ) (S : List ℕ) (l : ℕ) → All (suc k) S → l < m → All k (next dist succs k S l)
    next-all k S l all lt u i = let ((s, h, j), e) = (next-in k S l u).0 i in (next-ok s l u (all s h).0 lt j, e)

    -- ---- the lines chosen one after the other

    -- c has length k, leads from S to a goal, and comes no later than any other such chain
    record Picked (k : ℕ) (S c : List ℕ) : Type 0 where
      long : length c ≡ k
      runs : (s : ℕ) × (s ∈ S) × Run goals succs m s c
      lex : (s : ℕ) (c' : List ℕ) → s ∈ S → Run goals succs m s c' → length c' ≡ k → Lex c c'

    pick-zero : (S : List ℕ) (s : ℕ) (c : List ℕ) → s ∈ S → Run goals succs m s c → length c ≡ 0 → Picked 0 S []
    pick-zero S s [] h r len = record { long = refl; runs = (s, h, r); lex = lex0 }
      where
        lex0 : (u : ℕ) (c' : List ℕ) → u ∈ S → Run goals succs m u c' → length c' ≡ 0 → Lex [] c'
        lex0 u [] i r' len' = tt
        lex0 u (x ∷ c') i r' len' = absurd (omega arith)
    pick-zero S s (x ∷ c) h r len = absurd (omega arith)

    pick-suc : (k : ℕ) (S : List ℕ) (r : ℕ × List ℕ) (c : List ℕ)
        → All (suc k) S → r.0 < m → Chosen k S 0 r → Picked k r.1 c
        → Picked (suc k) S (r.0 ∷ c)
    unfolding Run
    pick-suc k S r c all lt ch p =
        let (t, h, rt) = p.runs in
        let w = (next-in k S r.0 t).0 (rw ch.leads at h) in
        record { long = ap suc p.long; runs = (w.0.0, w.0.1, (t, lt, w.0.2, rt)); lex = lx }
      where
        lx : (s : ℕ) (c' : List ℕ) → s ∈ S → Run goals succs m s c' → length c' ≡ suc k → Lex (r.0 ∷ c) c'
        lx s [] h x len = absurd (omega arith)
        lx s (l ∷ c') h x len =
            let t = x.0 in
            let len' : length c' ≡ k = omega arith in
            let tn : t ∈ next dist succs k S l = run-next k S s l t c' all h x.1 x.2 x.3 len' in
            let le : r.0 ≤ l = ch.least l t (omega arith) tn in
            elim (dec_lt r.0 l) [ yes a ↦ inl a | no a ↦ (let eq : r.0 ≡ l = omega arith in inr (eq, p.lex t c' (rw (ch.leads, eq) tn) x.3 len')) ]

    pick_spec : (k : ℕ) (S : List ℕ) → All k S → (s : ℕ) → s ∈ S → Picked k S (pick dist succs m k S)
    unfolding pick Run
    pick_spec zero S all s h = let c = (dist-of s 0 (all s h).0 (all s h).1).0.0 in pick-zero S s c.0 h c.1 c.2
    pick_spec (suc k) S all s h = let c = (dist-of s (suc k) (all s h).0 (all s h).1).0.0 in go c.0 c.1 c.2 (λ S' a t i. pick_spec k S' a t i)
      where
        go : (c : List ℕ)
            → Run goals succs m s c → length c ≡ suc k
            → ((S' : List ℕ) → All k S' → (t : ℕ) → t ∈ S' → Picked k S' (pick dist succs m k S'))
            → Picked (suc k) S (pick dist succs m (suc k) S)
        go [] x len ih = absurd (omega arith)
        go (l ∷ c) x len ih =
            let t = x.0 in
            let tn : t ∈ next dist succs k S l = run-next k S s l t c all h x.1 x.2 x.3 (omega arith) in
            let r = first dist succs k S m 0 in
            let ch : Chosen k S 0 r = first_spec k S m 0 l t (omega arith) (omega (arith, x.1)) tn in
            let lt : r.0 < m = omega (arith, ch.least l t (omega arith) tn, x.1) in
            let all' : All k r.1 = rw ch.leads (next-all k S r.0 all lt) in
            pick-suc k S r _ all lt ch (ih r.1 all' ch.inhabited.0 ch.inhabited.1)

    -- ---- the nearest of the first states

    Nearest : List ℕ → Option ℕ → Type 0
    Nearest S none = (s : ℕ) → s ∈ S → dist s ≡ none
    Nearest S (some d) = ((s : ℕ) × (s ∈ S) × (dist s ≡ some d)) × ((s e : ℕ) → s ∈ S → dist s ≡ some e → d ≤ e)

    nearest-spec : (S : List ℕ) → Nearest S (nearest dist S)
    unfolding nearest lesser Nearest
    nearest-spec [] = λ s h. none_in h
    nearest-spec (s ∷ S) = go (dist s) (nearest dist S) refl (nearest-spec S)
      where
        -- a member of s ∷ S is s or one of S
        split : {P : ℕ → Type 0} → P s → ((x : ℕ) → x ∈ S → P x) → (x : ℕ) → x ∈ (s ∷ S) → P x
        split a b x h = ⊎_elim (λ (p : x ≡ s). rw p a) (λ h'. b x h') (Memᴰ.cases_cons h)

        go : (o p : Option ℕ) → dist s ≡ o → Nearest S p → Nearest (s ∷ S) (lesser o p)
        go none none e h = split e h
        go none (some b) e ((x, i, q), h) =
            ((x, Memᴰ.tail i, q), λ y d j. split {P = λ y. dist y ≡ some d → b ≤ d} (λ f. absurd (none-ne-some d (sym e ∙ f))) (λ y k. h y d k) y j)
        go (some a) none e h = (
          (s, Memᴰ.head refl, e),
          λ y d j. split {P = λ y. dist y ≡ some d → a ≤ d}
              (λ f. omega (arith, some-injective a d (sym e ∙ f)))
              (λ y k f. absurd (none-ne-some d (sym (h y k) ∙ f))) y j,
        )
        go (some a) (some b) e ((x, i, q), h) = (
          elim (dec_lt a b) [
            | yes lt ↦ (s, Memᴰ.head refl, (let z : a ≡ min a b = omega arith in rw z at e))
            | no ge ↦ (x, Memᴰ.tail i, (let z : b ≡ min a b = omega arith in rw z at q))
          ],
          λ y d j. split {P = λ y. dist y ≡ some d → min a b ≤ d} (λ f. omega (arith, some-injective a d (sym e ∙ f))) (λ y k f. omega (arith, h y d k f)) y j,
        )

    -- ---- phase two

    pub chosen-spec : (S : List ℕ) → ((s : ℕ) → s ∈ S → Ok s) → Answer goals succs m N S (chosen dist succs m S)
    unfolding chosen Nearest
    chosen-spec S ok = go (nearest dist S) refl (nearest-spec S)
      where
        go : (o : Option ℕ) → nearest dist S ≡ o → Nearest S o → Answer goals succs m N S (chosen dist succs m S)
        go none e h = rw (e, chosen) (λ s c i r. let a = run-dist s c (ok s i) r in none-ne-some a.0 (sym (h s i) ∙ a.1))
        go (some d) e ((s, i, q), h) =
            rw (e, chosen) (omega (arith, P.long, (dist-of s d (ok s i) q).1), (P.runs.0, ((level_in dist d S P.runs.0).0 P.runs.1).0, P.runs.2), other)
          where
            c : List ℕ
            c = pick dist succs m d (level dist d S)

            P : Picked d (level dist d S) c
            P = pick_spec d (level dist d S) (λ x j. let u = (level_in dist d S x).0 j in (ok x u.0, u.1)) s ((level_in dist d S s).1 (i, q))

            other : (x : ℕ) (c' : List ℕ) → x ∈ S → Run goals succs m x c' → (length c < length c') ⊎ ((length c ≡ length c') × Lex c c')
            other x c' j r =
                let (a, f, le) = run-dist x c' (ok x j) r in
                let low = h x a j f in
                elim (dec_lt d (length c')) [
                  | yes lt ↦ inl (omega (arith, P.long))
                  | no ge ↦ (let eq : a ≡ d = omega arith in inr (omega (arith, P.long), P.lex x c' ((level_in dist d S x).1 (j, rw eq at f)) r (omega arith)))
                ]

-- ---- both phases

-- Ok are the valid states: they are below N, the goals and the first states are valid, steps lead from valid states to valid states,
-- and between valid states `preds` and `succs` have the same steps
pub solve-spec : (N : ℕ) (goals : List ℕ) (preds : ℕ → List ℕ) (succs : ℕ → ℕ → List ℕ) (m : ℕ) (Ok : ℕ → Type 0)
    → ((s : ℕ) → Ok s → s < N)
    → ((s : ℕ) → s ∈ goals → Ok s)
    → ((s l t : ℕ) → Ok s → l < m → t ∈ succs s l → Ok t)
    → ((s t : ℕ) → Ok t → s ∈ preds t → Ok s)
    → ((s t : ℕ) → Ok s → Ok t → (s ∈ preds t) ↔ ((l : ℕ) × (l < m) × (t ∈ succs s l)))
    → (S : List ℕ) → ((s : ℕ) → s ∈ S → Ok s) → Answer goals succs m N S (solve N goals preds succs m S)
unfolding solve
solve-spec N goals preds succs m Ok low g n b c S ok =
    chosen-spec (λ s. look s (found N goals preds)) succs goals m N Ok n (distance-spec N goals preds succs m Ok low g n b c) S ok
