-- Completeness: a word of a pattern, and then a run from the positions after it, is a run from where the pattern is entered.
-- `Words` uses `complete`.
use Rattle.std.specs.Prelude.{◌≡◌, refl, Bool, true, false, ◌&&◌, ◌||◌, List, [], ◌∷◌, ◌++◌, ℕ, zero, suc, ◌+◌, ◌≤◌, length}
use Rattle.std.proofs.Common.{sym, ap, ◌∙◌, subst, subst₂, append_assoc, append-nil, ⊎_elim, arith}
use Rattle.std.proofs.Math.Bool.{So}
use mathlib.Core.List.Memᴰ
use Rattle.meaning.specs.Record.{Boat}
use Rattle.meaning.specs.Pattern.{Pattern, unfolded}
use Rattle.meaning.specs.Language.{Word, Valuation, bind, Star, stop, more, Power, L}
use Rattle.lists.specs.Listed.{◌∈◌, when, when-sound, when-complete}
use Rattle.automaton.specs.Automaton.{Node, before, null_rounds, nullable, heads, enter, heads_counted, enter_counted, by_boat}
use Rattle.automaton.proofs.Rounds.{Round, the-first, a-later}
use Rattle.automaton.proofs.Runs.{From, from_more, from_cut, step-complete}
use Rattle.automaton.proofs.Scope.{Holds, holds-inside, passes-meets}
use Rattle.automaton.proofs.Placed.{Placed, is-nothing, is-line, is-test, is-either, is-then, is-repeat, is-keep, is-counted, Within, within-heads, within-enter, within-inside, within_low, within-rounds}

-- ---- the positions that a command is entered by

or_left : (x y : Bool) → So x → So (x || y)
or_left true y h = refl
or_left false true h = refl
or_left false false h = h

or_right : (x y : Bool) → So y → So (x || y)
or_right true y h = refl
or_right false y h = h

module _ (x y : Bool) (A B K : List ℕ) (k : ℕ) where
  either_left : k ∈ (A ++ when x K) → k ∈ (A ++ B ++ when (x || y) K)
  either_left m =
      ⊎_elim
      (λ i. Memᴰ.append_left (when (x || y) K) (Memᴰ.append_left B i))
      (λ i. let (e, j) = when-sound x i in Memᴰ.append_right (A ++ B) (when-complete (x || y) (or_left x y e) j))
      (Memᴰ.append_cases A m)

  either-right : k ∈ (B ++ when y K) → k ∈ (A ++ B ++ when (x || y) K)
  either-right m =
      ⊎_elim
      (λ i. Memᴰ.append_left (when (x || y) K) (Memᴰ.append_right A i))
      (λ i. let (e, j) = when-sound y i in Memᴰ.append_right (A ++ B) (when-complete (x || y) (or_right x y e) j))
      (Memᴰ.append_cases B m)

then-enter : (x y : Bool) (A B K : List ℕ) → A ++ when x (B ++ when y K) ≡ (A ++ when x B) ++ when (x && y) K
then-enter true y A B K = sym (append_assoc A B (when y K))
then-enter false y A B K = sym (append-nil (A ++ []))

-- to enter p again, or to go on, is what may come after a turn of its repeat
again : (x : Bool) (A K : List ℕ) (k : ℕ) → k ∈ (A ++ when x (A ++ K)) → k ∈ (A ++ K)
again x A K k m = ⊎_elim (λ i. Memᴰ.append_left K i) (λ i. (when-sound x i).1) (Memᴰ.append_cases A m)

-- ---- repeat

star-complete : {node : ℕ → Node} {done : ℕ} {P : Word → Type 0} {K : List ℕ} {st : List Boat}
    → ((u v : Word) → P u → From by_boat node done K st v → From by_boat node done K st (u ++ v))
    → (u v : Word) → Star P u → From by_boat node done K st v → From by_boat node done K st (u ++ v)
star-complete {node} {done} {P} {K} {st} f u v (stop e) r = subst (λ x. From by_boat node done K st (x ++ v)) (sym e) r
star-complete {node} {done} {P} {K} {st} f u v (more u₁ u₂ e h s) r =
    subst (From by_boat node done K st) (sym (ap (◌++ v) e ∙ append_assoc u₁ u₂ v)) (f u₁ (u₂ ++ v) h (star-complete f u₂ v s r))

-- ---- counted

-- to enter a round, with the rounds after it, is to enter the rounds; where none is needed K may come in any case
rounds-enter : (null : Bool) (m n : ℕ) (A B K : List ℕ) (k : ℕ)
    → k ∈ (A ++ when null (B ++ when (null_rounds null (before m) n) K)) → k ∈ (A ++ when null B ++ when (null_rounds null m (suc n)) K)
rounds-enter null (suc m) n A B K k i = subst (k ∈◌) (then-enter null (null_rounds null m n) A B K) i
rounds-enter null zero n A B K k i =
    ⊎_elim
    (Memᴰ.append_left K)
    (λ j. Memᴰ.append_right (A ++ when null B) (when-sound (null && true) j).1)
    (Memᴰ.append_cases (A ++ when null B) (subst (k ∈◌) (then-enter null true A B K) i))

module _ (node : ℕ → Node) (done : ℕ) (p : Pattern) (ν : Valuation) (K : List ℕ) (st : List Boat) where
  -- a word of p and a run after it is a run from where a round is entered that begins at a, J after it
  abbrev Reads : ℕ → List ℕ → Type 0
  Reads a J = (u v : Word) → L p ν u → From by_boat node done J st v → From by_boat node done (enter p a J) st (u ++ v)

  -- the number of rounds that are made is k
  rounds-complete : (k m n b : ℕ) → ((m' n' a : ℕ) → Round (unfolded p) m n b m' n' a → Reads a (enter_counted p m' n' (a + unfolded p) K))
      → m ≤ k → k ≤ n → (u v : Word) → Power (L p ν) k u → From by_boat node done K st v → From by_boat node done (enter_counted p m n b K) st (u ++ v)
  rounds-complete zero zero n b f low high u v l r =
      from_more (λ k i. Memᴰ.append_right (heads_counted p n b) i) (subst (λ x. From by_boat node done K st (x ++ v)) (sym l) r)
  rounds-complete zero (suc m) n b f low high u v l r = absurd (omega arith)
  rounds-complete (suc k) m zero b f low high u v l r = absurd (omega arith)
  rounds-complete (suc k) m (suc n) b f low high u v (u₁, u₂, is, lp, l) r =
      let next = b + unfolded p in
      let later = rounds-complete k (before m) n next (λ m' n' a i. f m' n' a (a-later i)) (fewer m low) (omega arith) u₂ v l r in
      subst (From by_boat node done (enter_counted p m (suc n) b K) st) (sym (ap (◌++ v) is ∙ append_assoc u₁ u₂ v))
      (from_more (rounds-enter (nullable p) m n (heads p b) (heads_counted p n next) K) (f (before m) n b the-first u₁ (u₂ ++ v) lp later))
    where
      fewer : (m : ℕ) → m ≤ suc k → before m ≤ k
      fewer zero h = omega arith
      fewer (suc m) h = omega arith

-- ---- every pattern

pub complete : {node : ℕ → Node} {done : ℕ} {p : Pattern} {b : ℕ} {scope K : List ℕ} {st : List Boat} (ν : Valuation)
    → Placed node done p b scope K → Holds scope st ν → Within node done K (length scope)
    → (u v : Word) → L p ν u → From by_boat node done K st v → From by_boat node done (enter p b K) st (u ++ v)
complete {node} {done} {K = K} {st} ν is-nothing e d u v l r = subst (λ x. From by_boat node done K st (x ++ v)) (sym l) r
complete ν (is-line s) e d u v l r =
    step-complete s e.long (record { head = l.0; tail = v; is = ap (◌++ v) l.1; kind = sym l.2; pass = refl; rest = r })
complete ν (is-test {r = rule} {s = slot} s) e d u v l r =
    step-complete s e.long (record { head = l.0; tail = v; is = ap (◌++ v) l.1; kind = sym l.2; pass = (passes-meets e rule slot _).1 l.3; rest = r })
complete ν (is-either {p = p} {q = q} {b = b} {K = K} hp hq) e d u v l r =
    let A = heads p (suc b) in
    let B = heads q (suc b + unfolded p) in
    ⊎_elim
    (λ i. from_more (either_left (nullable p) (nullable q) A B K) (complete ν hp e d u v i r))
    (λ i. from_more (either-right (nullable p) (nullable q) A B K) (complete ν hq e d u v i r))
    l
complete {node} {done} {st = st} ν (is-then {p = p} {q = q} {b = b} {K = K} hp hq) e d u v (u₁, u₂, is, lp, lq) r =
    let r₁ = complete ν hp e (within-enter hq d) u₁ (u₂ ++ v) lp (complete ν hq e d u₂ v lq r) in
    subst₂ (λ x y. From by_boat node done x st y) (then-enter (nullable p) (nullable q) (heads p (suc b)) (heads q (suc b + unfolded p)) K)
    (sym (ap (◌++ v) is ∙ append_assoc u₁ u₂ v)) r₁
complete ν (is-repeat {p = p} {b = b} {K = K} hp) e d u v l r =
    star-complete (λ u₁ v₁ l₁ r₁. from_more (again (nullable p) (heads p (suc b)) K) (complete ν hp e (within-heads hp d) u₁ v₁ l₁ r₁))
    u v l (from_more (λ k m. Memᴰ.append_right (heads p (suc b)) m) r)
complete {st = st} ν (is-keep {s = slot} {scope = scope} s hp) e d u v (a, u₁, is, kind, l) r =
    let b = a.boat in
    step-complete s e.long
    (record {
      head = a;
      tail = u₁ ++ v;
      is = ap (◌++ v) is;
      kind = sym kind;
      pass = refl;
      rest = complete (bind ν slot b) hp (holds-inside slot b e) (within-inside scope slot d) u₁ v l ((from_cut st (b ∷ []) (within_low e.long d)).1 r);
    })
complete {node} {done} {st = st} ν (is-counted {low = low} {high = high} {p = p} {b = b} {K = K} h) e d u v (k, few, many, l) r =
    rounds-complete node done p ν K st k low high (suc b) (λ m n a i. complete ν (h m n a i) e (within-rounds p h d m n a i)) few many u v l r
