-- Two settings that say the same: the same numbers, lines that agree in all but their boats, nodes alike, tests with one outcome.
-- Claimed: `same-succs` and `same-preds`, and so `same-solve` and `same-moved`: both search alike, and move along a chain alike.
-- `ReadBack` shows it of the loaded tables and the request's own setting, `Front` of two areas with the same tables.
use Rattle.std.specs.Prelude.{◌≡◌, Bool, true, false, ◌&&◌, eqb, ltb, length}
use Rattle.std.proofs.Math.Path.{refl, ap}
use Rattle.std.proofs.Common.{sym, ◌∙◌, ltb-true}
use Rattle.std.proofs.Math.Bool.{and-eq-true_iff}
use mathlib.Core.List.Memᴰ
use mathlib.Core.List.{List, [], ◌∷◌, ◌++◌, map}
use Rattle.std.proofs.Math.Option.{Option, none, some}
use Prim.Native.Nat.{ℕ, zero, suc, ◌+◌, ◌*◌, ◌-◌, ◌^◌, ◌/◌, ◌%◌, ◌<◌, ◌≤◌}
use Rattle.std.proofs.Math.Nat.{mod-lt}
use native.Mathlib.Omega.{arith}
use Rattle.meaning.specs.Writing.{line_at}
use Rattle.meaning.specs.Chain.{exist}
use Rattle.lists.specs.Listed.{◌∈◌, when}
use Rattle.automaton.specs.Shape.{deeper}
use Rattle.positions.specs.Program.{Alike}
use Rattle.graph.specs.Plain.{memb, nub, filt, flat, count, level, next, first, pick, nearest, chosen, found, look, solve}
use Rattle.graph.proofs.Sets.{memb-same, filt-in, count-in}
use Rattle.search.specs.Digits.{push_on, pop_off}
use Rattle.search.specs.Product.{Setting, stacks, state, place_of, pos_of, stack_of, cut, passes, takes, pushed, popped, following, succs, uncut, undoes, positions, lines_into, sources, preds}
use Rattle.search.specs.Along.{goal, starting}
use Rattle.search.specs.Check.{moved}

-- ---- what is claimed

-- m lines, and of every position up to the end
pub record Same (S T : Setting) (m : ℕ) : Type 0 where
  pub done : S.done ≡ T.done
  pub radix : S.radix ≡ T.radix
  pub deepest : S.deepest ≡ T.deepest
  pub many : length S.lines ≡ m
  pub as_many : length T.lines ≡ m
  pub from : (i : ℕ) → i < m → (line_at S.lines i).from ≡ (line_at T.lines i).from
  pub kind : (i : ℕ) → i < m → (line_at S.lines i).kind ≡ (line_at T.lines i).kind
  pub to : (i : ℕ) → i < m → (line_at S.lines i).to ≡ (line_at T.lines i).to
  pub code : (i : ℕ) → i < m → S.code i ≡ T.code i
  pub node : (c : ℕ) → c ≤ T.done → Alike (S.node c) (T.node c)
  -- a test has the same outcome, whatever the stack
  pub pass : (c v i : ℕ) → c ≤ T.done → i < m → passes S (S.node c).test v (S.code i) ≡ passes T (T.node c).test v (T.code i)

-- ---- lists made alike

pub filt-same : (p q : ℕ → Bool) (l : List ℕ) → ((x : ℕ) → x ∈ l → p x ≡ q x) → filt p l ≡ filt q l
unfolding filt
filt-same p q [] h = refl
filt-same p q (x ∷ l) h =
    let here = h x (Memᴰ.head refl) in
    let later = filt-same p q l (λ y m. h y (Memᴰ.tail m)) in
    λ t. elim (here t) [ true ↦ x ∷ later t | false ↦ later t ]

flat-same : (f g : ℕ → List ℕ) (l : List ℕ) → ((x : ℕ) → x ∈ l → f x ≡ g x) → flat f l ≡ flat g l
unfolding flat
flat-same f g [] h = refl
flat-same f g (x ∷ l) h = λ t. h x (Memᴰ.head refl) t ++ flat-same f g l (λ y m. h y (Memᴰ.tail m)) t

pub map_same : (f g : ℕ → ℕ) (l : List ℕ) → ((x : ℕ) → x ∈ l → f x ≡ g x) → map f l ≡ map g l
map_same f g [] h = refl
map_same f g (x ∷ l) h = λ t. h x (Memᴰ.head refl) t ∷ map_same f g l (λ y m. h y (Memᴰ.tail m)) t

-- ---- states and steps

-- the state at position k to which line i leads from position c and the stack v
abbrev target_at : Setting → ℕ → ℕ → ℕ → ℕ → ℕ
target_at S c v i k = state S (line_at S.lines i).to k (cut S (S.node k).depth (pushed S (S.node c) v i))

-- the states at position c from which some line leads to place q, position k and the stack w
abbrev sources_at : Setting → ℕ → ℕ → ℕ → ℕ → List ℕ
sources_at S q k w c = let e = (S.node k).depth in flat (λ i. sources S c i (uncut S (S.node c) e (cut S e w))) (lines_into S q (S.node c).kind)

module _ {S T : Setting} {m : ℕ} (h : Same S T m) where
  same-stacks : stacks S ≡ stacks T
  unfolding stacks
  same-stacks = λ t. h.radix t ^ h.deepest t

  pub same-state : (q k v : ℕ) → state S q k v ≡ state T q k v
  unfolding state
  same-state q k v = λ t. (q * suc (h.done t) + k) * same-stacks t + v

  pub same_place : (s : ℕ) → place_of S s ≡ place_of T s
  unfolding place_of
  same_place s = λ t. s / same-stacks t / suc (h.done t)

  pub same-pos : (s : ℕ) → pos_of S s ≡ pos_of T s
  unfolding pos_of
  same-pos s = λ t. s / same-stacks t % suc (h.done t)

  pub same-stack : (s : ℕ) → stack_of S s ≡ stack_of T s
  unfolding stack_of
  same-stack s = λ t. s % same-stacks t

  -- every number has a position up to the end
  pub pos-low : (s : ℕ) → pos_of T s ≤ T.done
  unfolding pos_of
  pos-low s = let low : pos_of T s < suc T.done = mod-lt _ (omega arith) in omega arith

  -- ---- at a node

  module _ (c : ℕ) (hc : c ≤ T.done) where
    abbrev alike : Alike (S.node c) (T.node c)
    alike = h.node c hc

    same-following : following S (S.node c) ≡ following T (T.node c)
    same-following = λ t. filt (λ k. memb-same k (S.node c).follow (T.node c).follow (alike.follow k) t) (count 0 (suc (h.done t)))

    same-popped : (v : ℕ) → popped S (S.node c) v ≡ popped T (T.node c) v
    same-popped v = λ t. pop_off (h.radix t) (alike.push t) (alike.depth t) v

    -- the stacks that the node leaves, cut to the depth of position k
    pub same-uncut : (k w : ℕ) → k ≤ T.done
        → uncut S (S.node c) (S.node k).depth (cut S (S.node k).depth w) ≡ uncut T (T.node c) (T.node k).depth (cut T (T.node k).depth w)
    same-uncut k w hk = λ t.
        let M = h.radix t ^ (h.node k hk).depth t in
        map (λ x. x * M + w % M) (count 0 (h.radix t ^ (deeper (alike.push t) (alike.depth t) - (h.node k hk).depth t)))

    module _ (i : ℕ) (li : i < m) where
      same-pushed : (v : ℕ) → pushed S (S.node c) v i ≡ pushed T (T.node c) v i
      same-pushed v = λ t. push_on (h.radix t) (alike.push t) (alike.depth t) v (h.code i li t)

      same_takes : (v : ℕ) → takes S (S.node c) v i ≡ takes T (T.node c) v i
      same_takes v = λ t. eqb (h.kind i li t) (alike.kind t) && h.pass c v i hc li t

      same-undoes : (v : ℕ) → undoes S (S.node c) i v ≡ undoes T (T.node c) i v
      same-undoes v =
          let u = popped S (S.node c) v in
          (λ t. eqb (same-pushed u t) v && h.pass c u i hc li t) ∙ ap (λ x. eqb (pushed T (T.node c) x i) v && passes T (T.node c).test x (T.code i)) (same-popped v)

      pub same-sources : (vs : List ℕ) → sources S c i vs ≡ sources T c i vs
      same-sources vs = λ t. map (λ v. at v t) (filt (λ v. same-undoes v t) vs)
        where
          at : (v : ℕ) → state S (line_at S.lines i).from c (popped S (S.node c) v) ≡ state T (line_at T.lines i).from c (popped T (T.node c) v)
          at v = same-state _ c _ ∙ (λ t. state T (h.from i li t) c (same-popped v t))

  -- ---- forward

  same_after : (c v i : ℕ) → c ≤ T.done → i < m → map (target_at S c v i) (following S (S.node c)) ≡ map (target_at T c v i) (following T (T.node c))
  same_after c v i hc li = ap (map _) (same-following c hc) ∙ map_same _ _ (following T (T.node c)) at
    where
      at : (k : ℕ) → k ∈ following T (T.node c) → target_at S c v i k ≡ target_at T c v i k
      at k j =
          let hk : k ≤ T.done = omega (arith, ((count-in 0 (suc T.done) k).0 ((filt-in _ (count 0 (suc T.done)) k).0 j).0).1) in
          same-state _ k _ ∙ (λ t. state T (h.to i li t) k (same-pushed c hc i li v t % h.radix t ^ (h.node k hk).depth t))

  pub same-succs : (s i : ℕ) → i < m → succs S s i ≡ succs T s i
  unfolding succs
  same-succs s i li =
      let c = pos_of T s in
      let v = stack_of T s in
      (λ t. step (same_place s t) (same-pos s t) (same-stack s t))
      ∙ (λ t. when (eqb (h.from i li t) (place_of T s) && same_takes c (pos-low s) i li v t) (same_after c v i (pos-low s) li t))
    where
      step : ℕ → ℕ → ℕ → List ℕ
      step q c v = when (eqb (line_at S.lines i).from q && takes S (S.node c) v i) (map (target_at S c v i) (following S (S.node c)))

  -- ---- backward

  same-positions : (k : ℕ) → positions S k ≡ positions T k
  same-positions k =
      (λ t. filt (λ c. memb k (S.node c).follow) (count 0 (h.done t)))
      ∙ filt-same _ _ (count 0 T.done) (λ c i. memb-same k _ _ ((h.node c (omega (arith, ((count-in 0 T.done c).0 i).1))).follow k))

  line_low : (i : ℕ) → i ∈ count 0 (length T.lines) → i < m
  line_low i j = omega (arith, ((count-in 0 (length T.lines) i).0 j).1, h.as_many)

  same-into : (q kind : ℕ) → lines_into S q kind ≡ lines_into T q kind
  same-into q kind =
      (λ t. filt (λ i. eqb (line_at S.lines i).to q && eqb (line_at S.lines i).kind kind) (count 0 ((h.many ∙ sym h.as_many) t)))
      ∙ filt-same _ _ (count 0 (length T.lines)) (λ i j t. eqb (h.to i (line_low i j) t) q && eqb (h.kind i (line_low i j) t) kind)

  into-low : (q kind i : ℕ) → i ∈ lines_into T q kind → i < m
  into-low q kind i j = line_low i ((filt-in _ (count 0 (length T.lines)) i).0 j).0

  same-before : (q k w c : ℕ) → k ≤ T.done → c ≤ T.done → sources_at S q k w c ≡ sources_at T q k w c
  same-before q k w c hk hc =
      ap (flat _) (ap (lines_into S q) (h.node c hc).kind ∙ same-into q (T.node c).kind)
      ∙ flat-same _ _ (lines_into T q (T.node c).kind) (λ i j. same-sources c hc i (into-low q (T.node c).kind i j) _ ∙ ap (sources T c i) (same-uncut c hc k w hk))

  pub same-preds : (s : ℕ) → preds S s ≡ preds T s
  unfolding preds
  same-preds s =
      let q = place_of T s in
      let k = pos_of T s in
      let w = stack_of T s in
      (λ t. flat (sources_at S (same_place s t) (same-pos s t) (same-stack s t)) (positions S (same-pos s t)))
      ∙ (ap (flat _) (same-positions k)
      ∙ flat-same _ _ (positions T k) (λ c i. same-before q k w c (pos-low s) (omega (arith, ((count-in 0 T.done c).0 ((filt-in _ (count 0 T.done) c).0 i).0).1))))

-- ---- the search and the walk along a chain, by lists of steps that agree on the lines below m

module _ (next₁ next₂ : ℕ → ℕ → List ℕ) (m : ℕ) (e : (s l : ℕ) → l < m → next₁ s l ≡ next₂ s l) where
  module _ (dist : ℕ → Option ℕ) where
    first-same : (k : ℕ) (X : List ℕ) (n l : ℕ) → l + n ≤ m → first dist next₁ k X n l ≡ first dist next₂ k X n l
    unfolding first
    first-same k X zero l low = refl
    first-same k X (suc n) l low =
        let here : next dist next₁ k X l ≡ next dist next₂ k X l = unfold next in λ t. level dist k (flat (λ s. e s l (omega arith) t) X) in
        let later = first-same k X n (suc l) (omega arith) in
        λ t. elim (here t) [ [] ↦ later t | y ∷ ys ↦ (l, y ∷ ys) ]

    pick_same : (k : ℕ) (X : List ℕ) → pick dist next₁ m k X ≡ pick dist next₂ m k X
    unfolding pick
    pick_same zero X = refl
    pick_same (suc k) X =
        let r = first dist next₂ k X m 0 in
        ap (λ (r : ℕ × List ℕ). r.0 ∷ pick dist next₁ m k r.1) (first-same k X m 0 (omega arith)) ∙ ap (r.0 ∷◌) (pick_same k r.1)

    chosen-same : (X : List ℕ) → chosen dist next₁ m X ≡ chosen dist next₂ m X
    unfolding chosen
    chosen-same X = λ t. elim (nearest dist X) [ none ↦ none | some k ↦ some (pick_same k (level dist k X) t) ]

  pub moved_same : (c X : List ℕ) → exist m c ≡ true → moved next₁ X c ≡ moved next₂ X c
  unfolding moved exist
  moved_same [] X low = refl
  moved_same (i ∷ c) X low =
      let (here, later) = (and-eq-true_iff (ltb i m) (exist m c)).0 low in
      (λ t. moved next₁ (nub (flat (λ s. e s i (ltb-true i m here) t) X)) c) ∙ moved_same c (nub (flat (λ s. next₂ s i) X)) later

-- ---- of settings that say the same

module _ {S T : Setting} {m : ℕ} (h : Same S T m) where
  pub same-goal : (b : ℕ) → goal S b ≡ goal T b
  same-goal b = same-state h b S.done 0 ∙ ap (λ k. state T b k 0) h.done

  pub same-starting : (a : ℕ) (K : List ℕ) → starting S a K ≡ starting T a K
  same-starting a K = λ t. map (λ k. same-state h a k 0 t) K

  pub same-solve : (N a b : ℕ) (K : List ℕ)
      → solve N (goal S b ∷ []) (preds S) (succs S) m (starting S a K) ≡ solve N (goal T b ∷ []) (preds T) (succs T) m (starting T a K)
  unfolding solve
  same-solve N a b K =
      (λ t. solve N (same-goal b t ∷ []) (λ s. same-preds h s t) (succs S) m (same-starting a K t))
      ∙ chosen-same (succs S) (succs T) m (same-succs h) (λ s. look s (found N (goal T b ∷ []) (preds T))) (starting T a K)

  pub same-moved : (a : ℕ) (K c : List ℕ) → exist m c ≡ true → moved (succs S) (starting S a K) c ≡ moved (succs T) (starting T a K) c
  same-moved a K c low = ap (λ X. moved (succs S) X c) (same-starting a K) ∙ moved_same (succs S) (succs T) m (same-succs h) c (starting T a K) low
