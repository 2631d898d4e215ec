-- A pattern's automaton stands in a table of nodes, from a position on.
-- The proofs of `Sound`, `Complete` and `Shape` go by this, and never by the list of nodes; `compile-placed` ties the two.
use Rattle.std.specs.Prelude.{◌≡◌, true, false, List, [], ◌∷◌, ◌++◌, ℕ, suc, ◌+◌, ◌*◌, ◌≤◌, ◌<◌, drop, get_or, length}
use Rattle.std.proofs.Common.{sym, ap, ◌∙◌, append_assoc, append-nil, ⊎_elim, add-zero, suc-mul, add-one, arith, length-append, drop-drop, drop_at, get_or-drop}
use mathlib.Core.List.Memᴰ
use Rattle.std.proofs.Math.ListN.{get_or-eq_default}
use Rattle.meaning.specs.Pattern.{Rule, Pattern, nothing, line, test, either, then, repeat, keep, counted, unfolded}
use Rattle.lists.specs.Listed.{◌∈◌, none_in, when-sound}
use Rattle.automaton.proofs.Runs.{Stands}
use Rattle.automaton.specs.Automaton.{Node, silent, taking, always, test_of, level_of, before, null_rounds, nullable, heads, enter, heads_counted, enter_counted, compile, compile_counted, nodes, node_at}
use Rattle.automaton.proofs.Rounds.{Round, the-first, a-later, round-after, rounds-heads}
use Rattle.automaton.proofs.Lengths.{compile-length}

module _ (node : ℕ → Node) (done : ℕ) where
  -- the nodes of p that take a letter stand from b on, with the slots around p and the positions K after it
  pub data Placed : Pattern → ℕ → List ℕ → List ℕ → Type 0 where
    is-nothing : {b : ℕ} {scope K : List ℕ} → Placed nothing b scope K
    is-line : {k b : ℕ} {scope K : List ℕ}
        → Stands node done b (taking k always false scope K) → Placed (line k) b scope K
    is-test : {r : Rule} {k s b : ℕ} {scope K : List ℕ}
        → Stands node done b (taking k (test_of r (level_of s scope)) false scope K) → Placed (test r k s) b scope K
    is-either : {p q : Pattern} {b : ℕ} {scope K : List ℕ}
        → Placed p (suc b) scope K → Placed q (suc b + unfolded p) scope K → Placed (either p q) b scope K
    is-then : {p q : Pattern} {b : ℕ} {scope K : List ℕ}
        → Placed p (suc b) scope (enter q (suc b + unfolded p) K) → Placed q (suc b + unfolded p) scope K → Placed (then p q) b scope K
    is-repeat : {p : Pattern} {b : ℕ} {scope K : List ℕ}
        → Placed p (suc b) scope (heads p (suc b) ++ K) → Placed (repeat p) b scope K
    is-keep : {k s : ℕ} {p : Pattern} {b : ℕ} {scope K : List ℕ}
        → Stands node done b (taking k always true scope (enter p (suc b) K)) → Placed p (suc b) (scope ++ (s ∷ [])) K → Placed (keep k s p) b scope K
    -- every round, with the rounds after it
    is-counted : {low high : ℕ} {p : Pattern} {b : ℕ} {scope K : List ℕ}
        → ((m n a : ℕ) → Round (unfolded p) low high (suc b) m n a → Placed p a scope (enter_counted p m n (a + unfolded p) K))
        → Placed (counted low high p) b scope K

  -- the positions K are there, at a depth of at most n
  pub record Within (K : List ℕ) (n : ℕ) : Type 0 where
    pub at : (k : ℕ) → k ∈ K → (k ≤ done) × ((node k).depth ≤ n)

-- ---- where the heads stand

module _ {node : ℕ → Node} {done : ℕ} where
  head-placed : {b : ℕ} {N : Node} → Stands node done b N → (k : ℕ) → k ∈ (b ∷ []) → (k < done) × ((node k).depth ≡ N.depth)
  head-placed s k m =
      let e = Memᴰ.eq_of_singleton m in
      (omega (arith, e, s.before), ap (λ i. (node i).depth) e ∙ ap (λ n. n.depth) s.here)

  heads-placed : {p : Pattern} {b : ℕ} {scope K : List ℕ} → Placed node done p b scope K
      → (k : ℕ) → k ∈ heads p b → (k < done) × ((node k).depth ≡ length scope)
  heads-placed is-nothing k m = none_in m
  heads-placed (is-line s) k m = head-placed s k m
  heads-placed (is-test s) k m = head-placed s k m
  heads-placed (is-either {p = p} {b = b} hp hq) k m = ⊎_elim (heads-placed hp k) (heads-placed hq k) (Memᴰ.append_cases (heads p (suc b)) m)
  heads-placed (is-then {p = p} {b = b} hp hq) k m =
      ⊎_elim (heads-placed hp k) (λ m'. heads-placed hq k (when-sound (nullable p) m').1) (Memᴰ.append_cases (heads p (suc b)) m)
  heads-placed (is-repeat hp) k m = heads-placed hp k m
  heads-placed (is-keep s hp) k m = head-placed s k m
  heads-placed (is-counted {low = low} {high = high} {p = p} {b = b} h) k i =
      rounds-heads (λ a. heads p a) (nullable p) (unfolded p) low high (suc b) (λ m n a r. heads-placed (h m n a r) k) i

  -- ---- positions that may come next are within the depth of the scope

  module _ {p : Pattern} {b : ℕ} {scope K : List ℕ} (h : Placed node done p b scope K) where
    pub within-heads : {K' : List ℕ} → Within node done K' (length scope) → Within node done (heads p b ++ K') (length scope)
    within-heads d = record {
      at = λ k m. ⊎_elim (λ m'. let i = heads-placed h k m' in (omega (arith, i.0), omega (arith, i.1))) (d.at k) (Memᴰ.append_cases (heads p b) m);
    }

    pub within-enter : {K' : List ℕ} → Within node done K' (length scope) → Within node done (enter p b K') (length scope)
    within-enter d = within-heads (record { at = λ k m. d.at k (when-sound (nullable p) m).1 })

  -- of what may come after a round
  pub within-rounds : (p : Pattern) {low high b : ℕ} {scope K : List ℕ}
      → ((m n a : ℕ) → Round (unfolded p) low high b m n a → Placed node done p a scope (enter_counted p m n (a + unfolded p) K))
      → Within node done K (length scope) → (m n a : ℕ) → Round (unfolded p) low high b m n a
      → Within node done (enter_counted p m n (a + unfolded p) K) (length scope)
  within-rounds p {scope = scope} h d m n a r = record {
    at = λ k i.
        ⊎_elim
        (rounds-heads (λ e. heads p e) (nullable p) (unfolded p) m n (a + unfolded p)
        (λ m' n' a' r' j. let x = heads-placed (h m' n' a' (round-after r r')) k j in (omega (arith, x.0), omega (arith, x.1))))
        (λ j. d.at k (when-sound (null_rounds (nullable p) m n) j).1)
        (Memᴰ.append_cases (heads_counted p n (a + unfolded p)) i);
  }

  pub within-deeper : {K : List ℕ} {m n : ℕ} → m ≤ n → Within node done K m → Within node done K n
  within-deeper h d = record { at = λ k i. let j = d.at k i in (j.0, omega (arith, j.1)) }

  pub within-inside : {K : List ℕ} (scope : List ℕ) (s : ℕ) → Within node done K (length scope) → Within node done K (length (scope ++ (s ∷ [])))
  within-inside scope s d = within-deeper (omega (arith, length-append scope (s ∷ []))) d

  pub within_low : {K : List ℕ} {m n : ℕ} → m ≡ n → Within node done K n → (k : ℕ) → k ∈ K → (node k).depth ≤ m
  within_low e d k m = omega (arith, e, (d.at k m).1)

-- ---- a compiled pattern is placed

module _ (ns : List Node) (done : ℕ) where
  -- what stands after one node, and after a pair's first part
  after_one : (b : ℕ) {n : Node} {rest : List Node} → drop b ns ≡ n ∷ rest → drop (suc b) ns ≡ rest
  after_one b h = ap (λ i. drop i ns) (sym (add-one b)) ∙ (sym (drop-drop 1 b ns) ∙ ap (drop 1) h)

  after-pair : (b : ℕ) {n : Node} (l r rest : List Node) (m : ℕ) → length l ≡ m → drop b ns ≡ n ∷ (l ++ r ++ rest)
      → (drop (suc b) ns ≡ l ++ (r ++ rest)) × (drop (suc b + m) ns ≡ r ++ rest)
  after-pair b l r rest m e h =
      let first : drop (suc b) ns ≡ l ++ (r ++ rest) = after_one b h ∙ append_assoc l r rest in
      (first, sym (drop-drop m (suc b) ns) ∙ (ap (drop m) first ∙ drop_at l (r ++ rest) m e))

  stands : (b : ℕ) {n : Node} {rest : List Node} → drop b ns ≡ n ∷ rest → b < done → Stands (node_at ns) done b n
  stands b h l = record {
    before = l;
    here = ap (λ i. get_or ns i silent) (sym (add-zero b)) ∙ (sym (get_or-drop b ns 0 silent) ∙ ap (λ x. get_or x 0 silent) h);
  }

  -- rounds of p stand one after the other, and p is placed wherever its nodes stand
  module _ (p : Pattern) (scope K : List ℕ) (rest : List Node)
      (place : (a : ℕ) (J : List ℕ) (tail : List Node) → drop a ns ≡ compile p a scope J ++ tail → a + unfolded p ≤ done → Placed (node_at ns) done p a scope J) where
    rounds-placed : {low high b : ℕ} → drop b ns ≡ compile_counted p low high b scope K ++ rest → b + high * unfolded p ≤ done
        → (m n a : ℕ) → Round (unfolded p) low high b m n a → Placed (node_at ns) done p a scope (enter_counted p m n (a + unfolded p) K)
    rounds-placed h l m n a (the-first {m = low}) =
        let J = enter_counted p (before low) n (a + unfolded p) K in
        let later = compile_counted p (before low) n (a + unfolded p) scope K in
        place a J (later ++ rest) (h ∙ append_assoc (compile p a scope J) later rest) (omega (arith, l, suc-mul n (unfolded p)))
    rounds-placed h l m n a (a-later {m = low} {n = high} {b = b} r) =
        let J = enter_counted p (before low) high (b + unfolded p) K in
        let here = compile p b scope J in
        let later = compile_counted p (before low) high (b + unfolded p) scope K in
        let tail : drop (b + unfolded p) ns ≡ later ++ rest =
        sym (drop-drop (unfolded p) b ns)
        ∙ (ap (drop (unfolded p)) (h ∙ append_assoc here later rest) ∙ drop_at here (later ++ rest) (unfolded p) (compile-length p b scope J)) in
        rounds-placed tail (omega (arith, l, suc-mul high (unfolded p))) m n a r

  compile-placed : (p : Pattern) (b : ℕ) (scope K : List ℕ) (rest : List Node) → drop b ns ≡ compile p b scope K ++ rest → b + unfolded p ≤ done
      → Placed (node_at ns) done p b scope K
  compile-placed nothing b scope K rest h l = is-nothing
  compile-placed (line k) b scope K rest h l = is-line (stands b h (omega arith))
  compile-placed (test r k s) b scope K rest h l = is-test (stands b h (omega arith))
  compile-placed (either p q) b scope K rest h l =
      let c = suc b + unfolded p in
      let (hp, hq) = after-pair b (compile p (suc b) scope K) (compile q c scope K) rest (unfolded p) (compile-length p _ _ _) h in
      is-either (compile-placed p (suc b) scope K (compile q c scope K ++ rest) hp (omega arith)) (compile-placed q c scope K rest hq (omega arith))
  compile-placed (then p q) b scope K rest h l =
      let c = suc b + unfolded p in
      let K₁ = enter q c K in
      let (hp, hq) = after-pair b (compile p (suc b) scope K₁) (compile q c scope K) rest (unfolded p) (compile-length p _ _ _) h in
      is-then (compile-placed p (suc b) scope K₁ (compile q c scope K ++ rest) hp (omega arith)) (compile-placed q c scope K rest hq (omega arith))
  compile-placed (repeat p) b scope K rest h l = is-repeat (compile-placed p (suc b) scope (heads p (suc b) ++ K) rest (after_one b h) (omega arith))
  compile-placed (keep k s p) b scope K rest h l =
      is-keep (stands b h (omega arith)) (compile-placed p (suc b) (scope ++ (s ∷ [])) K rest (after_one b h) (omega arith))
  compile-placed (counted low high p) b scope K rest h l =
      is-counted (rounds-placed p scope K rest (λ a J tail. compile-placed p a scope J tail) {low = low} {high = high} (after_one b h) (omega arith))

-- ---- the whole automaton of a pattern

module _ (p : Pattern) (scope : List ℕ) where
  pub nodes-length : length (nodes p scope) ≡ unfolded p
  nodes-length = compile-length p 0 scope (unfolded p ∷ [])

  pub nodes-placed : Placed (node_at (nodes p scope)) (unfolded p) p 0 scope (unfolded p ∷ [])
  nodes-placed = compile-placed (nodes p scope) (unfolded p) p 0 scope (unfolded p ∷ []) [] (sym (append-nil (nodes p scope))) (omega arith)

  -- nothing stands at the end, nor after it
  pub end-silent : (k : ℕ) → unfolded p ≤ k → node_at (nodes p scope) k ≡ silent
  end-silent k h = get_or-eq_default (nodes p scope) silent {n = k} (omega (arith, nodes-length))

  pub end-within : Within (node_at (nodes p scope)) (unfolded p) (unfolded p ∷ []) (length scope)
  end-within = record {
    at = λ k m.
        let e = Memᴰ.eq_of_singleton m in
        (omega (arith, e), omega (arith, ap (λ n. n.depth) (end-silent k (omega (arith, e)))));
  }
