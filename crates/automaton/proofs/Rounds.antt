-- The rounds of a counted pattern: which there are (`Round`), and what the lists have that `Automaton` makes of them.
-- `Placed`, `Sound`, `Complete` and `Shape` go by `Round`. The compiler, which makes one round and moves it, goes by `heads-moved`,
-- `rounds-moved`, `heads-low`, `rounds-low`, `null-rounds` and `rounds-length`.
use Rattle.std.specs.Prelude.{◌≡◌, refl, Bool, true, false, ◌||◌, List, [], ◌∷◌, ◌++◌, map, ℕ, zero, suc, ◌+◌, ◌*◌, ◌≤◌, ◌<◌, eqb, length}
use Rattle.std.proofs.Common.{sym, ap, ◌∙◌, ⊎_elim, zero-mul, suc-mul, arith, length-append, ne_eqb}
use Rattle.std.proofs.Math.Bool.{or-true}
use mathlib.Core.List.Memᴰ
use Rattle.std.proofs.lemmas.List.{map-append}
use Rattle.meaning.specs.Pattern.{Pattern, nothing, line, test, either, then, repeat, keep, counted, unfolded}
use Rattle.lists.specs.Listed.{◌∈◌, none_in, when, when-sound}
use Rattle.automaton.specs.Automaton.{Node, before, null_rounds, head_rounds, enter_rounds, nodes_rounds, nullable, heads, heads_counted}

-- ---- which rounds there are

-- of at most n rounds from position b on, with c positions each and the first m needed, one begins at a;
-- at most n' come after it, and the first m' of those are needed
pub data Round (c : ℕ) : ℕ → ℕ → ℕ → ℕ → ℕ → ℕ → Type 0 where
  the-first : {m n b : ℕ} → Round c m (suc n) b (before m) n b
  a-later : {m n b m' n' a : ℕ} → Round c (before m) n (b + c) m' n' a → Round c m (suc n) b m' n' a

-- a round after one of the rounds is one of them
pub round-after : {c m n b m' n' a m'' n'' a' : ℕ} → Round c m n b m' n' a → Round c m' n' (a + c) m'' n'' a' → Round c m n b m'' n'' a'
round-after the-first s = a-later s
round-after (a-later r) s = a-later (round-after r s)

-- ---- what has the empty word

-- rounds may be left out where none is needed, and be empty where one may be
pub null-rounds : (null : Bool) (m n : ℕ) → m ≤ n → null_rounds null m n ≡ (eqb m 0 || null)
null-rounds null zero n h = refl
null-rounds null (suc m) zero h = absurd (omega arith)
null-rounds true (suc m) (suc n) h = null-rounds true m n (omega arith) ∙ (or-true (eqb m 0) ∙ sym (or-true (eqb (suc m) 0)))
null-rounds false (suc m) (suc n) h = ap (◌|| false) (sym (ne_eqb (suc m) 0 (λ e. omega (arith, e))))

-- ---- their heads and nodes are those of one of them

module _ (first : ℕ → List ℕ) (null : Bool) (c : ℕ) where
  pub rounds-heads : {C : Type 0} {k : ℕ} (m n b : ℕ) → ((m' n' a : ℕ) → Round c m n b m' n' a → k ∈ first a → C) → k ∈ head_rounds first null c n b → C
  rounds-heads m zero b f i = none_in i
  rounds-heads m (suc n) b f i =
      ⊎_elim
      (f (before m) n b the-first)
      (λ j. rounds-heads (before m) n (b + c) (λ m' n' a r. f m' n' a (a-later r)) (when-sound null j).1)
      (Memᴰ.append_cases (first b) i)

  module _ (round : ℕ → List ℕ → List Node) (K : List ℕ) where
    pub rounds-nodes : {C : Type 0} {N : Node} (m n b : ℕ)
        → ((m' n' a : ℕ) → Round c m n b m' n' a → N ∈ round a (enter_rounds first null c m' n' (a + c) K) → C) → N ∈ nodes_rounds round first null c m n b K → C
    rounds-nodes m zero b f i = none_in i
    rounds-nodes m (suc n) b f i =
        ⊎_elim
        (f (before m) n b the-first)
        (rounds-nodes (before m) n (b + c) (λ m' n' a r. f m' n' a (a-later r)))
        (Memᴰ.append_cases (round b (enter_rounds first null c (before m) n (b + c) K)) i)

    pub rounds-length : ((a : ℕ) (J : List ℕ) → length (round a J) ≡ c) → (m n b : ℕ) → length (nodes_rounds round first null c m n b K) ≡ n * c
    rounds-length h m zero b = sym (zero-mul c)
    rounds-length h m (suc n) b =
        let J = enter_rounds first null c (before m) n (b + c) K in
        length-append (round b J) (nodes_rounds round first null c (before m) n (b + c) K)
        ∙ omega (arith, h b J, rounds-length h (before m) n (b + c), suc-mul n c)

-- ---- where the heads stand

one-low : (b k n : ℕ) → k ∈ (b ∷ []) → (b ≤ k) × (k < b + suc n)
one-low b k n i = let e = Memᴰ.eq_of_singleton i in (omega (arith, e), omega (arith, e))

more-low : (first : ℕ → List ℕ) (null : Bool) (c : ℕ) → ((a k : ℕ) → k ∈ first a → (a ≤ k) × (k < a + c))
    → (n b k : ℕ) → k ∈ head_rounds first null c n b → (b ≤ k) × (k < b + n * c)
more-low first null c h zero b k i = none_in i
more-low first null c h (suc n) b k i =
    ⊎_elim
    (λ j. let x = h b k j in (x.0, omega (arith, x.1, suc-mul n c)))
    (λ j. let x = more-low first null c h n (b + c) k (when-sound null j).1 in (omega (arith, x.0), omega (arith, x.1, suc-mul n c)))
    (Memᴰ.append_cases (first b) i)

-- the heads of a pattern are positions of it
pub heads-low : (p : Pattern) (b k : ℕ) → k ∈ heads p b → (b ≤ k) × (k < b + unfolded p)
heads-low nothing b k i = none_in i
heads-low (line l) b k i = one-low b k 0 i
heads-low (test r l s) b k i = one-low b k 0 i
heads-low (either p q) b k i =
    ⊎_elim
    (λ j. let x = heads-low p (suc b) k j in (omega (arith, x.0), omega (arith, x.1)))
    (λ j. let x = heads-low q (suc b + unfolded p) k j in (omega (arith, x.0), omega (arith, x.1)))
    (Memᴰ.append_cases (heads p (suc b)) i)
heads-low (then p q) b k i =
    ⊎_elim
    (λ j. let x = heads-low p (suc b) k j in (omega (arith, x.0), omega (arith, x.1)))
    (λ j. let x = heads-low q (suc b + unfolded p) k (when-sound (nullable p) j).1 in (omega (arith, x.0), omega (arith, x.1)))
    (Memᴰ.append_cases (heads p (suc b)) i)
heads-low (repeat p) b k i = let x = heads-low p (suc b) k i in (omega (arith, x.0), omega (arith, x.1))
heads-low (keep l s p) b k i = one-low b k (unfolded p) i
heads-low (counted low high p) b k i =
    let x = more-low (λ a. heads p a) (nullable p) (unfolded p) (heads-low p) high (suc b) k i in
    (omega (arith, x.0), omega (arith, x.1))

pub rounds-low : (p : Pattern) (null : Bool) (n b k : ℕ) → k ∈ head_rounds (λ a. heads p a) null (unfolded p) n b → (b ≤ k) × (k < b + n * unfolded p)
rounds-low p null n b k i = more-low (λ a. heads p a) null (unfolded p) (heads-low p) n b k i

-- ---- the heads of a pattern that stands d positions further on

abbrev moved : ℕ → List ℕ → List ℕ
moved d K = map (λ k. k + d) K

when-moved : (e : Bool) (d : ℕ) (K : List ℕ) → when e (moved d K) ≡ moved d (when e K)
when-moved true d K = refl
when-moved false d K = refl

-- two lists that are moved, the second under a condition
pair-moved : {A' B' : List ℕ} (e : Bool) (d : ℕ) (A B : List ℕ) → A' ≡ moved d A → B' ≡ moved d B → A' ++ when e B' ≡ moved d (A ++ when e B)
pair-moved e d A B f g = (λ i. f i ++ when e (g i)) ∙ (ap (moved d A ++◌) (when-moved e d B) ∙ sym (map-append (λ k. k + d) A (when e B)))

-- rounds move along with the heads of one
more-moved : (first : ℕ → List ℕ) (null : Bool) (c : ℕ) → ((a d : ℕ) → first (a + d) ≡ moved d (first a))
    → (n b d : ℕ) → head_rounds first null c n (b + d) ≡ moved d (head_rounds first null c n b)
more-moved first null c h zero b d = refl
more-moved first null c h (suc n) b d =
    let at : b + d + c ≡ b + c + d = omega arith in
    pair-moved null d (first b) (head_rounds first null c n (b + c)) (h b d) (ap (head_rounds first null c n) at ∙ more-moved first null c h n (b + c) d)

pub heads-moved : (p : Pattern) (b d : ℕ) → heads p (b + d) ≡ map (λ k. k + d) (heads p b)
heads-moved nothing b d = refl
heads-moved (line l) b d = refl
heads-moved (test r l s) b d = refl
heads-moved (either p q) b d =
    pair-moved true d (heads p (suc b)) (heads q (suc b + unfolded p))
    (ap (heads p) (omega arith) ∙ heads-moved p (suc b) d) (ap (heads q) (omega arith) ∙ heads-moved q (suc b + unfolded p) d)
heads-moved (then p q) b d =
    pair-moved (nullable p) d (heads p (suc b)) (heads q (suc b + unfolded p))
    (ap (heads p) (omega arith) ∙ heads-moved p (suc b) d) (ap (heads q) (omega arith) ∙ heads-moved q (suc b + unfolded p) d)
heads-moved (repeat p) b d = ap (heads p) (omega arith) ∙ heads-moved p (suc b) d
heads-moved (keep l s p) b d = refl
heads-moved (counted low high p) b d =
    ap (heads_counted p high) (omega arith) ∙ more-moved (λ a. heads p a) (nullable p) (unfolded p) (heads-moved p) high (suc b) d

pub rounds-moved : (p : Pattern) (null : Bool) (n b d : ℕ)
    → head_rounds (λ a. heads p a) null (unfolded p) n (b + d) ≡ map (λ k. k + d) (head_rounds (λ a. heads p a) null (unfolded p) n b)
rounds-moved p null n b d = more-moved (λ a. heads p a) null (unfolded p) (heads-moved p) n b d
