-- The thin words of a run do what all of its words do, where each word pushes states by the place that it says and the numbers that pass are
-- a set that is served: a word that was left out would push states that have their words already (`thin-loop`), since one that was kept
-- stands for it (`stands-for`). So it is in a lane without weight (`lane-pushing`), and for the stacks of a position (`stack-pushing`).
use mathlib.Core.Path.{◌≡◌, refl, sym, ap, ◌∙◌, subst}
use mathlib.Core.Bool.{Bool, true, false, cond}
use mathlib.Core.List.Memᴰ
use mathlib.Core.List.{List, [], ◌∷◌, ◌++◌}
use mathlib.Core.Logic.{⊎_elim}
use Prim.Native.Nat.{ℕ, zero, suc, ◌+◌, ◌*◌, ◌-◌, ◌/◌, ◌%◌, ◌<◌, ◌≤◌}
use native.Mathlib.Nat.{mul-zero}
use native.Mathlib.Decide.{ℕ_discrete}
use native.Mathlib.Omega.{arith}
use lib.Dec.{eqb}
use lib.ListN.{length, get_or, set, length-set}
use lib.Seq.{get_or-set_same, get_or-set_other}
use borrow.Author.Tests.{eqb-true, eqb-false, ne_eqb}
use Rattle.lists.specs.Listed.{◌∈◌, none_in}
use Rattle.request.specs.declared.Plan.{Plan}
use Rattle.search.specs.Front.{state_in}
use Rattle.graph.specs.Loops.{loop, turns}
use Rattle.graph.proofs.Loops.{loop-append, turns_same, turns-idle}
use Rattle.graph.specs.Table.{Search, push}
use Rattle.sorted.specs.Runs.{turns-run, loop-stretch}
use Rattle.sorted.specs.Sorting.{pack_by, sorted_end, Run}
use Rattle.sorted.specs.declared.Order.TheVariants as Order
use Rattle.area.specs.Area.{stretch}
use Rattle.states.specs.Served.{ServedBy, Thinnable}
use Rattle.states.specs.declared.Sieve.{Sieve}
use Rattle.states.specs.Spots.{front, okay}
use Rattle.states.specs.declared.Spot.{Spot}
use Rattle.states.specs.declared.Target.{Target}
use Rattle.thinned.specs.Thinning.{Covered, Thin, empty, kept, left, ThinRun}
use Rattle.ways.specs.Stacked.{stacked_turn}
use Rattle.ways.specs.Ways.{lane_state, taken_by, lane_turn, ThinLane, run_turn, Gives}
use Rattle.ways.specs.declared.Lane.{Lane}
use Rattle.ways.proofs.Lanes.{run_in, run-turn, stretch-word}
use Rattle.ways.proofs.Right.{tested-stands}

-- ---- a state that has a word keeps one

-- the word of t
abbrev word_of : ℕ → Search → ℕ
word_of t st = get_or st.dist t 0

module _ (d : ℕ) (some : 0 < d) where
  push-long : (s : ℕ) (st : Search) → length (push d s st).dist ≡ length st.dist
  unfolding push
  push-long s st = go (eqb (word_of s st) 0)
    where
      go : (b : Bool) → length (cond b (record { dist = set st.dist s d; queue = st.queue ++ (s ∷ []) }) st).dist ≡ length st.dist
      go true = length-set st.dist s d
      go false = refl

  push-has : (s : ℕ) (st : Search) → s < length st.dist → 0 < word_of s (push d s st)
  unfolding push
  push-has s st low = go (eqb (word_of s st) 0) refl
    where
      go : (b : Bool) → eqb (word_of s st) 0 ≡ b → 0 < word_of s (cond b (record { dist = set st.dist s d; queue = st.queue ++ (s ∷ []) }) st)
      go true e = subst (0 <◌) (sym (get_or-set_same st.dist s d 0 low)) some
      go false e = let n = eqb-false (word_of s st) 0 e in omega (arith, n)

  push-keeps : (s t : ℕ) (st : Search) → 0 < word_of t st → 0 < word_of t (push d s st)
  unfolding push
  push-keeps s t st h = go (eqb (word_of s st) 0) refl
    where
      go : (b : Bool) → eqb (word_of s st) 0 ≡ b → 0 < word_of t (cond b (record { dist = set st.dist s d; queue = st.queue ++ (s ∷ []) }) st)
      go true e =
          let zero-there = eqb-true (word_of s st) 0 e in
          subst (0 <◌) (sym (get_or-set_other st.dist s t d 0 (λ q. let z : word_of t st ≡ 0 = ap (λ n. word_of n st) q ∙ zero-there in omega (arith, z, h)))) h
      go false e = h

  -- a state that has a word is not pushed
  push-nothing : (s : ℕ) (st : Search) → 0 < word_of s st → push d s st ≡ st
  unfolding push
  push-nothing s st h = rw (ne_eqb (word_of s st) 0 (λ e. omega (arith, e, h)))

  -- ---- pushes one after the other, of those numbers that are taken

  module _ (takes : ℕ → Bool) (gives : ℕ → ℕ) where
    abbrev push_if : ℕ → Search → Search
    push_if n st = cond (takes n) (push d (gives n) st) st

    if-long : (n : ℕ) (st : Search) → length (push_if n st).dist ≡ length st.dist
    if-long n st = go (takes n)
      where
        go : (b : Bool) → length (cond b (push d (gives n) st) st).dist ≡ length st.dist
        go true = push-long (gives n) st
        go false = refl

    if-keeps : (n t : ℕ) (st : Search) → 0 < word_of t st → 0 < word_of t (push_if n st)
    if-keeps n t st h = go (takes n)
      where
        go : (b : Bool) → 0 < word_of t (cond b (push d (gives n) st) st)
        go true = push-keeps (gives n) t st h
        go false = h

    if-has : (n : ℕ) (st : Search) → takes n ≡ true → gives n < length st.dist → 0 < word_of (gives n) (push_if n st)
    if-has n st goes low = subst (λ b. 0 < word_of (gives n) (cond b (push d (gives n) st) st)) (sym goes) (push-has (gives n) st low)

    if-nothing : (n : ℕ) (st : Search) → (takes n ≡ true → 0 < word_of (gives n) st) → push_if n st ≡ st
    if-nothing n st h = go (takes n) h
      where
        go : (b : Bool) → (b ≡ true → 0 < word_of (gives n) st) → cond b (push d (gives n) st) st ≡ st
        go true h = push-nothing (gives n) st (h refl)
        go false h = refl

    all-long : (i n : ℕ) (st : Search) → length (turns push_if i n st).dist ≡ length st.dist
    unfolding turns
    all-long i zero st = refl
    all-long i (suc n) st = all-long (suc i) n (push_if i st) ∙ if-long i st

    all-keeps : (i n t : ℕ) (st : Search) → 0 < word_of t st → 0 < word_of t (turns push_if i n st)
    unfolding turns
    all-keeps i zero t st h = h
    all-keeps i (suc n) t st h = all-keeps (suc i) n t (push_if i st) (if-keeps i t st h)

    all-has : (i n k : ℕ) (st : Search) → i ≤ k → k < i + n → takes k ≡ true → gives k < length st.dist → 0 < word_of (gives k) (turns push_if i n st)
    unfolding turns
    all-has i zero k st from less goes low = absurd (omega arith)
    all-has i (suc n) k st from less goes low = elim (ℕ_discrete k i) [
      | yes e ↦ all-keeps (suc i) n (gives k) (push_if i st) (subst (λ j. 0 < word_of (gives k) (push_if j st)) e (if-has k st goes low))
      | no ne ↦ all-has (suc i) n k (push_if i st) (omega (arith, ne)) (omega arith) goes (subst (gives k <◌) (sym (if-long i st)) low)
    ]

-- ---- words that push states

-- where Does e s, the word e pushes the state s: what it does is that, and a word that is covered pushes no further state
pub record Pushing (sieve : Sieve) (B : ℕ → ℕ) (f : ℕ → Search → Search) (Does : ℕ → ℕ → Type 0) : Type 0 where
  pub long : (e : ℕ) (st : Search) → length (f e st).dist ≡ length st.dist
  pub keeps : (e s : ℕ) (st : Search) → 0 < word_of s st → 0 < word_of s (f e st)
  pub has : (e s : ℕ) (st : Search) → Does e s → s < length st.dist → 0 < word_of s (f e st)
  pub idle : (e : ℕ) (st : Search) → ((s : ℕ) → Does e s → 0 < word_of s st) → f e st ≡ st
  pub cover : (ys : List ℕ) (x s : ℕ) → Covered sieve B ys x → Does x s → (y : ℕ) × (y ∈ ys) × Does y s

module _ {sieve : Sieve} {B : ℕ → ℕ} {f : ℕ → Search → Search} {Does : ℕ → ℕ → Type 0} (p : Pushing sieve B f Does) where
  loop-keeps : (ys : List ℕ) (s : ℕ) (st : Search) → 0 < word_of s st → 0 < word_of s (loop f ys st)
  unfolding loop
  loop-keeps [] s st h = h
  loop-keeps (y ∷ ys) s st h = loop-keeps ys s (f y st) (p.keeps y s st h)

  -- a state that a word of the list pushes has a word
  loop-has : (ys : List ℕ) (y s : ℕ) (st : Search) → y ∈ ys → Does y s → s < length st.dist → 0 < word_of s (loop f ys st)
  unfolding loop
  loop-has [] y s st m does low = none_in m
  loop-has (x ∷ ys) y s st m does low = ⊎_elim
      (λ (e : y ≡ x). loop-keeps ys s (f x st) (subst (λ z. 0 < word_of s (f z st)) e (p.has y s st does low)))
      (λ j. loop-has ys y s (f x st) j does (subst (s <◌) (sym (p.long x st)) low))
      (Memᴰ.cases_cons m)

  -- a word that is covered does nothing more
  covered-nothing : (ys : List ℕ) (x : ℕ) (st : Search) → Covered sieve B ys x → ((s : ℕ) → Does x s → s < length st.dist) → f x (loop f ys st) ≡ loop f ys st
  covered-nothing ys x st covered low = p.idle x (loop f ys st) (λ s does. let (y, m, too) = p.cover ys x s covered does in loop-has ys y s st m too (low s does))

  loop-end : (us : List ℕ) (x : ℕ) (st : Search) → loop f (us ++ (x ∷ [])) st ≡ f x (loop f us st)
  loop-end us x st = loop-append f us (x ∷ []) st ∙ unfold loop in refl

  pub thin-loop : (xs ys : List ℕ) → Thin sieve B xs ys → (st : Search) → ((x : ℕ) → x ∈ xs → (s : ℕ) → Does x s → s < length st.dist) → loop f xs st ≡ loop f ys st
  thin-loop xs ys (empty e g) st low = λ t. loop f ((e ∙ sym g) t) st
  thin-loop xs ys (kept us vs x e g h) st low =
      ap (λ l. loop f l st) e
      ∙ (loop-end us x st
      ∙ (ap (f x) (thin-loop us vs h st (λ z m. low z (subst (z ∈◌) (sym e) (Memᴰ.append_left (x ∷ []) m))))
      ∙ (sym (loop-end vs x st) ∙ ap (λ l. loop f l st) (sym g))))
  thin-loop xs ys (left us x e h covered) st low =
      ap (λ l. loop f l st) e
      ∙ (loop-end us x st
      ∙ (ap (f x) (thin-loop us ys h st (λ z m. low z (subst (z ∈◌) (sym e) (Memᴰ.append_left (x ∷ []) m))))
      ∙ covered-nothing ys x st covered (low x (subst (x ∈◌) (sym e) (Memᴰ.append_right us (Memᴰ.head refl))))))

-- ---- words that push states by the place that they say, where their number passes: `many` of them, each with the numbers that pass for it

module _ (many : ℕ) (passes : ℕ → ℕ → Bool) (gives : ℕ → ℕ → ℕ) where
  abbrev pub Gets : ℕ → ℕ → Type 0
  Gets e s = (n : ℕ) × (n < many) × (passes n (e % pack_by) ≡ true) × (s ≡ gives n (e / pack_by))

  -- one of the words that cover another pushes what it pushes, where the numbers that pass are a set that is served
  stands-for : (sieve : Sieve) (B : ℕ → ℕ) → ((n : ℕ) → ServedBy sieve B (passes n)) → (ys : List ℕ) (x s : ℕ) → Covered sieve B ys x → Gets x s → (y : ℕ) × (y ∈ ys) × Gets y s
  stands-for sieve B served ys x s covered (n, less, goes, there) =
      let (y, m, stands) = covered (passes n) (served n) goes in
      (y, m, (n, less, stands.passes, there ∙ ap (gives n) (sym stands.from)))

  abbrev pushes : ℕ → ℕ → ℕ → Search → Search
  pushes d e n b = cond (passes n (e % pack_by)) (push d (gives n (e / pack_by)) b) b

  pub pushing : (sieve : Sieve) (B : ℕ → ℕ) → ((n : ℕ) → ServedBy sieve B (passes n)) → (d : ℕ) → 0 < d → (f : ℕ → Search → Search) → ((e : ℕ) (st : Search) → f e st ≡ turns (pushes d e) 0 many st) → Pushing sieve B f Gets
  pushing sieve B served d some f is =
      record {
        long = λ e st. ap (λ u. length u.dist) (is e st) ∙ all-long d some (takes e) (state e) 0 many st;
        keeps = λ e s st h. subst (λ u. 0 < word_of s u) (sym (is e st)) (all-keeps d some (takes e) (state e) 0 many s st h);
        has = λ e s st gets low.
            let (n, less, goes, there) = gets in
            let word = all-has d some (takes e) (state e) 0 many n st (omega arith) (omega (arith, less)) goes (subst (◌< length st.dist) there low) in
            subst (λ u. 0 < word_of s u) (sym (is e st)) (subst (λ z. 0 < word_of z (turns (pushes d e) 0 many st)) (sym there) word);
        idle = λ e st h.
            is e st ∙ turns-idle (pushes d e) 0 many st (λ n from less. if-nothing d some (takes e) (state e) n st (λ goes. h (state e n) (n, omega (arith, less), goes, refl)));
        cover = stands-for sieve B served;
      }
    where
      takes : ℕ → ℕ → Bool
      takes e n = passes n (e % pack_by)

      state : ℕ → ℕ → ℕ
      state e n = gives n (e / pack_by)

-- ---- the words of a lane without weight: one state each

module _ (sieve : Sieve) (B : ℕ → ℕ) (lane : Lane) (thin : ThinLane sieve B lane) where
  -- only the place matters
  pub flat-state : (e : ℕ) → lane_state lane e ≡ e / pack_by * lane.block + lane.home
  unfolding lane_state
  flat-state e = let none : e % pack_by * lane.weight ≡ 0 = ap (e % pack_by *◌) thin.flat ∙ mul-zero (e % pack_by) in omega (arith, none)

  abbrev pub LaneGets : ℕ → ℕ → Type 0
  LaneGets = Gets 1 (λ n y. taken_by B lane.taking y) (λ n q. q * lane.block + lane.home)

  pub lane-pushing : (d : ℕ) → 0 < d → Pushing sieve B (lane_turn B d lane) LaneGets
  lane-pushing d some =
      pushing 1 (λ n y. taken_by B lane.taking y) (λ n q. q * lane.block + lane.home) sieve B (λ n. thin.served) d some (lane_turn B d lane)
      (λ e st. unfold lane_turn turns in ap (λ z. cond (taken_by B lane.taking (e % pack_by)) (push d z st) st) (flat-state e))

-- ---- the words of a position that does not push: for each stack one state

module _ (sieve : Sieve) (B : ℕ → ℕ) (plan : Plan) (s : Spot) (t : Target) (c count : ℕ) (thin : Thinnable sieve s) where
  abbrev stack_of : ℕ → ℕ
  stack_of n = n * t.weight + t.stack

  abbrev passes_at : ℕ → ℕ → Bool
  passes_at n y = okay B plan.radix s y (stack_of n)

  abbrev state_at : ℕ → ℕ → ℕ
  state_at n q = state_in plan q c 0 + stack_of n

  abbrev pub StackGets : ℕ → ℕ → Type 0
  StackGets = Gets count passes_at state_at

  stack_is : (d e : ℕ) (st : Search) → stacked_turn plan s t B d c count e st ≡ turns (pushes count passes_at state_at d e) 0 count st
  unfolding stacked_turn
  stack_is d e st = turns_same _ _ (λ n b. tested-stands B plan.radix s d (state_in plan (e / pack_by) c 0) (e % pack_by) t.weight t.stack st n b thin.plain) 0 count st

  pub stack-pushing : (d : ℕ) → 0 < d → Pushing sieve B (stacked_turn plan s t B d c count) StackGets
  stack-pushing d some = pushing count passes_at state_at sieve B (λ n. thin.served B plan.radix (stack_of n)) d some (stacked_turn plan s t B d c count) (stack_is d)

-- ---- a thin run in the area

-- thin words are words of the run
pub thin-in : {sieve : Sieve} {B : ℕ → ℕ} (xs ys : List ℕ) → Thin sieve B xs ys → (y : ℕ) → y ∈ ys → y ∈ xs
thin-in xs ys (empty e f) y m = none_in (subst (y ∈◌) f m)
thin-in xs ys (kept us vs x e f h) y m =
    subst (y ∈◌) (sym e) (⊎_elim (λ j. Memᴰ.append_left (x ∷ []) (thin-in us vs h y j)) (λ j. Memᴰ.append_right us j) (Memᴰ.append_cases vs (subst (y ∈◌) f m)))
thin-in xs ys (left us x e h covered) y m = subst (y ∈◌) (sym e) (Memᴰ.append_left (x ∷ []) (thin-in us ys h y m))

module _ (sieve : Sieve) (B : ℕ → ℕ) (plan : Plan) (of at : ℕ) (w : List ℕ) (k : ℕ) (run : Run Order.Kind plan of w k) (thin : ThinRun sieve B plan of at w k) (end : sorted_end Order.Kind plan at ≤ length w) where
  abbrev pub from : ℕ
  from = get_or w (of + k) 0

  abbrev pub many : ℕ
  many = get_or w (of + suc k) 0 - from

  abbrev pub first : ℕ
  first = get_or w (at + k) 0

  abbrev pub few : ℕ
  few = get_or w (at + suc k) 0 - first

  -- its words are words of the run
  pub thin-word : (p : ℕ) → first ≤ p → p < get_or w (at + suc k) 0 → get_or w p 0 ∈ stretch from many w
  thin-word p low high = thin-in _ _ thin.has (get_or w p 0) (stretch-word w first (get_or w (at + suc k) 0) p (omega (arith, thin.high, end)) low high)

  -- and do what all lines do
  pub thin-turns : sorted_end Order.Kind plan of ≤ length w → {f : ℕ → Search → Search} {Does : ℕ → ℕ → Type 0} → Pushing sieve B f Does
      → (st : Search) → ((y : ℕ) → y ∈ stretch from many w → (s : ℕ) → Does y s → s < length st.dist)
      → turns (run_turn Order.Kind plan (front plan w) k f) 0 plan.lines st ≡ turns (λ p. f (get_or w p 0)) first few st
  thin-turns room {f} p st low =
      let all : turns (run_turn Order.Kind plan (front plan w) k f) 0 plan.lines st ≡ turns (λ p. f (get_or w p 0)) from many st = turns-run Order.Kind plan of w k run room _ f (λ i less b. run-turn _ _ _ _ _ i b) st in
      let whole : loop f (stretch from many w) st ≡ turns (λ p. f (get_or w p 0)) from many st = loop-stretch f from many w st (omega (arith, run.rising, run.high, room)) in
      let part : loop f (stretch first few w) st ≡ turns (λ p. f (get_or w p 0)) first few st = loop-stretch f first few w st (omega (arith, thin.rising, thin.high, end)) in
      all ∙ (sym whole ∙ (thin-loop p _ _ thin.has st low ∙ part))

-- each word of a run gives a state
pub run-gives : (plan : Plan) (of : ℕ) (w : List ℕ) (k : ℕ) (run : Run Order.Kind plan of w k) → (lane : Lane) → Gives Order.Kind plan (front plan w) k lane
    → (y : ℕ) → y ∈ stretch (get_or w (of + k) 0) (get_or w (of + suc k) 0 - get_or w (of + k) 0) w → lane_state lane y < plan.size
run-gives plan of w k run lane gives y m = let (i, less, is) = run_in Order.Kind plan of w k run y m in subst (λ e. lane_state lane e < plan.size) is (gives i less)
