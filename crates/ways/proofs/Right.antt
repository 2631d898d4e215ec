-- The way chosen does what all lines and all stacks do: for one line, by what a stack undone is in each case (`stack-*`), and the line's key
-- and written word (`kind-way`, `boat-way`).
use mathlib.Core.Path.{◌≡◌, refl, sym, ap, ◌∙◌}
use mathlib.Core.Bool.{Bool, true, false, cond, ◌&&◌, and-true}
use mathlib.Core.List.{List}
use Prim.Native.Nat.{ℕ, zero, suc, ◌+◌, ◌*◌, ◌/◌, ◌%◌, ◌<◌, ◌≤◌}
use native.Mathlib.Nat.{zero-mul, mul-zero, zero-add, add-mul, mul_assoc, mod-eq_of_lt, mod-lt, div-add-mod'}
use native.Mathlib.Decide.{ℕ_discrete}
use native.Mathlib.Omega.{arith}
use lib.Arith.{digits_lt, digits_div, digits_mod}
use lib.Dec.{eqb}
use borrow.Author.Tests.{eq-eqb, ne_eqb}
use Rattle.request.specs.Layout.{largest, Laid, from_in, to_in, kind_in}
use Rattle.request.specs.declared.Plan.{Plan}
use Rattle.search.specs.Front.{state_in}
use Rattle.search.specs.Loaded.{boat_at, code_at, word_at}
use Rattle.graph.specs.Loops.{turns}
use Rattle.graph.proofs.Loops.{turns-idle}
use Rattle.graph.specs.Table.{Search, push}
use Rattle.sorted.specs.Runs.{turns-within}
use Rattle.sorted.specs.Sorting.{pack_by, keys, key_in, pack_in}
use Rattle.sorted.specs.declared.Order.TheVariants as Order
use Rattle.states.specs.Spots.{read_by, off, off_by, on, on_by, okay, OnlyKept, stack_at, stack_turn, line_turn}
use Rattle.states.specs.declared.Spot.{Spot}
use Rattle.states.specs.declared.Target.{Target}
use Rattle.states.proofs.Bounds.{state-low, block-small, power-fits}
use Rattle.ways.specs.Ways.{lane_state, taken_by, lane_turn, number_in, LaneTo, Narrow, run_turn, Told, Runs, Single, Before}
use Rattle.ways.specs.Stacked.{stacked_turn}
use Rattle.ways.specs.declared.Lane.{Lane}
use Rattle.ways.specs.declared.Taking.{Taking}

-- ---- two numbers in one

-- numbers by two digits are equal exactly where both digits are
pub pair-eqb : (m a b q x : ℕ) → b < m → x < m → eqb (a * m + b) (q * m + x) ≡ (eqb a q && eqb b x)
pair-eqb m a b q x hb hx = elim (ℕ_discrete a q) [
  | yes e ↦ elim (ℕ_discrete b x) [
    | yes f ↦ rw (eq-eqb a q e, eq-eqb b x f) (eq-eqb _ _ (λ i. e i * m + f i))
    | no n ↦ rw (eq-eqb a q e, ne_eqb b x n) (ne_eqb _ _ (λ z. n (sym (digits_mod a hb) ∙ (ap (◌% m) z ∙ digits_mod q hx))))
  ]
  | no n ↦ rw (ne_eqb a q n) (ne_eqb _ _ (λ z. n (sym (digits_div a hb) ∙ (ap (◌/ m) z ∙ digits_div q hx))))
]

-- ---- a loop in which one number does something

module _ (x : ℕ) (f : ℕ → Search → Search) where
  abbrev pub at_x : ℕ → Search → Search
  at_x n st = cond (eqb x n) (f n st) st

  turns-past : (i n : ℕ) (st : Search) → x < i → turns at_x i n st ≡ st
  unfolding turns
  turns-past i zero st h = refl
  turns-past i (suc n) st h = rw (ne_eqb x i (λ e. omega (arith, h, e))) (turns-past (suc i) n st (omega arith))

  pub turns-one : (i n : ℕ) (st : Search) → i ≤ x → x < i + n → turns at_x i n st ≡ f x st
  unfolding turns
  turns-one i zero st h l = absurd (omega arith)
  turns-one i (suc n) st h l = elim (ℕ_discrete x i) [
    | yes e ↦ (ap (λ b. turns at_x (suc i) n (cond b (f i st) st)) (eq-eqb x i e) ∙ (turns-past (suc i) n (f i st) (omega (arith, e)) ∙ ap (λ j. f j st) (sym e)))
    | no ne ↦ (ap (λ b. turns at_x (suc i) n (cond b (f i st) st)) (ne_eqb x i ne) ∙ turns-one (suc i) n st (omega (arith, ne)) (omega arith))
  ]

-- a body may be changed for one that does the same at the numbers that the loop meets
pub turns-alike : (f g : ℕ → Search → Search) (i n m : ℕ) → i + n ≤ m → ((x : ℕ) → x < m → (b : Search) → f x b ≡ g x b) → (a : Search) → turns f i n a ≡ turns g i n a
turns-alike f g i n m l h a = turns-within f g i n (λ x low high. h x (omega (arith, l, high))) a

-- ---- a stack undone, of a position that pushes or not

module _ (B : ℕ → ℕ) (R : ℕ) (s : Spot) (d home x v : ℕ) (st : Search) where
  -- without a push the stack before is the one after
  pub plain_at : s.push ≡ false → stack_at B R s d home x v st ≡ cond (okay B R s x v) (push d (home + v) st) st
  unfolding stack_at on off
  plain_at e = ap (λ b. cond (eqb (on_by b s.weight (off_by b s.weight v) x) v && okay B R s x (off_by b s.weight v)) (push d (home + off_by b s.weight v) st) st) e ∙ rw (eq-eqb v v refl)

  -- with a push it is the one after without its top, where nothing is asked of the boat
  pub pushed_at : s.push ≡ true → (u : ℕ) → v % s.weight ≡ u → okay B R s x u ≡ true → stack_at B R s d home x v st ≡ cond (eqb (x * s.weight + u) v) (push d (home + u) st) st
  unfolding stack_at on off
  pushed_at e u is any =
      (λ i. cond (eqb (on_by (e i) s.weight (off_by (e i) s.weight v) x) v && okay B R s x (off_by (e i) s.weight v)) (push d (home + off_by (e i) s.weight v) st) st)
      ∙ rw (is, any) (ap (λ b. cond b (push d (home + u) st) st) (and-true (eqb (x * s.weight + u) v)))

-- ---- the stacks of one line, with the boat number x

module _ (B : ℕ → ℕ) (R : ℕ) (s : Spot) (d home x W w : ℕ) (st : Search) where
  abbrev turn : ℕ → Search → Search
  turn = stack_turn B R s d home x W w

  first-is : turns turn 0 1 st ≡ stack_at B R s d home x w st
  unfolding turns stack_turn
  first-is = ap (λ n. stack_at B R s d home x n st) (ap (◌+ w) (zero-mul W) ∙ zero-add w)

  -- the stack after the position is w: without a push it is the one before
  pub stack-plain : s.push ≡ false → turns turn 0 1 st ≡ cond (okay B R s x w) (push d (home + w) st) st
  stack-plain e = first-is ∙ plain_at B R s d home x w st e

  -- with a push its top is the line's boat
  pub stack-pushed : s.push ≡ true → 0 < s.weight → okay B R s x (w % s.weight) ≡ true → turns turn 0 1 st ≡ cond (eqb x (w / s.weight)) (push d (home + w % s.weight) st) st
  stack-pushed e some any =
      let D = s.weight in
      let again : eqb (x * D + w % D) w ≡ (eqb x (w / D) && eqb (w % D) (w % D)) = ap (eqb (x * D + w % D)) (sym (div-add-mod' w D)) ∙ pair-eqb D x (w % D) (w / D) (w % D) (mod-lt w some) (mod-lt w some) in
      let whole = again ∙ (ap (eqb x (w / D) &&◌) (eq-eqb (w % D) (w % D) refl) ∙ and-true (eqb x (w / D))) in
      first-is ∙ (pushed_at B R s d home x w st e (w % D) refl any ∙ ap (λ b. cond b (push d (home + w % D) st) st) whole)

  -- where the boat on top is forgotten after a push: once, for the line's own
  pub stack-forgotten : s.push ≡ true → s.weight ≡ W → okay B R s x w ≡ true → w < W → x < R → turns turn 0 R st ≡ push d (home + w) st
  unfolding stack_turn
  stack-forgotten e equal any low below =
      turns-alike turn (at_x x (λ n. push d (home + w))) 0 R R (omega arith) (λ n less b. pushed-turn n b) st ∙ turns-one x (λ n. push d (home + w)) 0 R st (omega arith) (omega arith)
    where
      pushed-turn : (n : ℕ) (b : Search) → turn n b ≡ at_x x (λ n. push d (home + w)) n b
      pushed-turn n b =
          let v = n * W + w in
          let top : v % s.weight ≡ w = ap (v %◌) equal ∙ digits_mod n low in
          let again : eqb (x * s.weight + w) v ≡ (eqb x n && eqb w w) = ap (λ D. eqb (x * D + w) v) equal ∙ pair-eqb W x w n w low low in
          pushed_at B R s d home x v b e w top any ∙ ap (λ c. cond c (push d (home + w) b) b) (again ∙ (ap (eqb x n &&◌) (eq-eqb w w refl) ∙ and-true (eqb x n)))

  pub tested-stands : (n : ℕ) (b : Search) → s.push ≡ false → turn n b ≡ cond (okay B R s x (n * W + w)) (push d (home + (n * W + w)) b) b
  unfolding stack_turn
  tested-stands n b e = plain_at B R s d home x (n * W + w) b e

  -- where the boat on top is forgotten after it was the line's, if that is read
  pub stack-left : s.push ≡ false → OnlyKept s → s.level ≡ W → w < W → x < R → turns turn 0 R st ≡ cond (read_by B x) (push d (home + (x * W + w)) st) st
  stack-left e only equal low below = go (read_by B x) refl
    where
      -- each stack in turn: the line's number, where its boat is read
      tested-turn : (b : Bool) → read_by B x ≡ b → (n : ℕ) → n < R → (u : Search) → turn n u ≡ cond (b && eqb x n) (push d (home + (n * W + w)) u) u
      tested-turn b is n less u =
          let v = n * W + w in
          let there : v / s.level % R ≡ n = ap (λ z. v / z % R) equal ∙ (ap (◌% R) (digits_div n low) ∙ mod-eq_of_lt less) in
          tested-stands n u e ∙ ap (λ z. cond z (push d (home + v) u) u) (only.kept B R x v ∙ (λ i. is i && eqb x (there i)))

      go : (b : Bool) → read_by B x ≡ b → turns turn 0 R st ≡ cond b (push d (home + (x * W + w)) st) st
      go true is =
          turns-alike turn (at_x x (λ n. push d (home + (n * W + w)))) 0 R R (omega arith) (tested-turn true is) st ∙ turns-one x (λ n. push d (home + (n * W + w))) 0 R st (omega arith) (omega arith)
      go false is = turns-idle turn 0 R st (λ n from less. tested-turn false is n (omega (arith, less)) st)

-- ---- a line by its key and its written word

module _ (plan : Plan) (g : List ℕ) (told : Told plan g) (few : plan.radix ≤ 4097) (i : ℕ) (h : i < plan.lines) where
  abbrev from : ℕ
  from = from_in (word_at plan g i)

  abbrev code : ℕ
  code = code_at plan g i

  code-small : code < pack_by
  code-small = omega (arith, told.codes-low i h)

  kind-small : kind_in (word_at plan g i) < pack_by
  kind-small = omega (arith, mod-lt (word_at plan g i) {m = 16} (omega arith))

  -- the state that a lane gives a word with this place and the number y
  module _ (c u weight : ℕ) (taking : Taking) (lane : Lane) (is : LaneTo plan c u weight taking lane) (y : ℕ) (small : y < pack_by) where
    state-split : (v : ℕ) → state_in plan from c 0 + v ≡ from * ((plan.done + 1) * plan.stacks) + (c * plan.stacks + v)
    state-split v =
        let n = plan.done + 1 in
        omega (arith, add-mul (from * n) c plan.stacks, mul_assoc from n plan.stacks)

    pub lane-is : lane_state lane (from * pack_by + y) ≡ state_in plan from c 0 + (u + y * weight)
    unfolding lane_state
    lane-is =
        let split = state-split (u + y * weight) in
        rw (digits_div from small, digits_mod from small, is.block-is, is.home-is, is.weight_is) (omega (arith, split))

    number_of : (from * pack_by + y) % pack_by ≡ y
    number_of = digits_mod from small

    lane-turn : (B : ℕ → ℕ) (d : ℕ) (st : Search) → lane_turn B d lane (from * pack_by + y) st ≡ cond (taken_by B taking y) (push d (state_in plan from c 0 + (u + y * weight)) st) st
    unfolding lane_turn
    lane-turn B d st = rw (number_of, lane-is, is.taking-is)

  module _ (s : Spot) (t : Target) (d c count : ℕ) (st : Search) where
    abbrev stacks_of : Search → Search
    stacks_of = turns (stack_turn (boat_at plan g) plan.radix s d (state_in plan from c 0) code t.weight t.stack) 0 count

    -- by its kind
    kind-way : (f : ℕ → Search → Search) → s.kind ≤ 15 → stacks_of st ≡ f (pack_in Order.Kind plan g i) st
        → line_turn plan g s t d c count i st ≡ run_turn Order.Kind plan g (t.place * 16 + s.kind) f i st
    unfolding line_turn run_turn key_in
    kind-way f low e =
        let w = word_at plan g i in
        rw (pair-eqb 16 (to_in w) (kind_in w) t.place s.kind (mod-lt w {m = 16} (omega arith)) (omega (arith, low)), e)

    -- by its kind, for each stack
    stacked-pack : stacks_of st ≡ stacked_turn plan s t (boat_at plan g) d c count (pack_in Order.Kind plan g i) st
    unfolding stacked_turn pack_in
    stacked-pack = rw (digits_div from code-small, digits_mod from code-small)

    pub stacked-line : s.kind ≤ 15 → line_turn plan g s t d c count i st ≡ run_turn Order.Kind plan g (t.place * 16 + s.kind) (stacked_turn plan s t (boat_at plan g) d c count) i st
    stacked-line low = kind-way (stacked_turn plan s t (boat_at plan g) d c count) low stacked-pack

    -- by its boat
    boat-way : (lane : Lane) (x : ℕ) → x < plan.radix → (P : Search) → stacks_of st ≡ cond (eqb code x) P st → lane_turn (boat_at plan g) d lane (pack_in Order.Boat plan g i) st ≡ cond (eqb (kind_in (word_at plan g i)) s.kind) P st
        → line_turn plan g s t d c count i st ≡ run_turn Order.Boat plan g (t.place * plan.radix + x) (lane_turn (boat_at plan g) d lane) i st
    unfolding line_turn run_turn key_in
    boat-way lane x low P e f =
        let w = word_at plan g i in
        rw (pair-eqb plan.radix (to_in w) code t.place x (told.codes-low i h) low, e, f)
        (go (eqb (to_in w) t.place) (eqb (kind_in w) s.kind) (eqb code x))
      where
        go : (a k b : Bool) → cond (a && k) (cond b P st) st ≡ cond (a && b) (cond k P st) st
        go true true b = ends b
          where
            ends : (b : Bool) → cond b P st ≡ cond (true && b) (cond true P st) st
            ends true = refl
            ends false = refl
        go true false true = refl
        go true false false = refl
        go false k b = refl

-- ---- a lane's bounds

module _ (plan : Plan) (area : ℕ) (laid : Laid plan area) (c u weight : ℕ) (taking : Taking) (lane : Lane) (is : LaneTo plan c u weight taking lane) (c-low : c ≤ plan.done) (u-low : u < plan.stacks) where
  lane_narrow : weight ≤ largest → number_in taking ≤ largest → Narrow lane
  lane_narrow low few =
      let c< : c < plan.done + 1 = omega arith in
      let in_block : c * plan.stacks + u < (plan.done + 1) * plan.stacks = digits_lt c< u-low in
      record { block-low = omega (arith, is.block-is, block-small laid); home-low = omega (arith, is.home-is, in_block, block-small laid); weight-low = omega (arith, is.weight_is, low); number-low = rw is.taking-is few }

  lane_low : (g : List ℕ) (told : Told plan g) (i : ℕ) (h : i < plan.lines) (y : ℕ) → y < pack_by → u + y * weight < plan.stacks → lane_state lane (from_in (word_at plan g i) * pack_by + y) < plan.size
  lane_low g told i h y small fits =
      let q = from_in (word_at plan g i) in
      let low = state-low plan.places (plan.done + 1) plan.stacks plan.size q c (u + y * weight) laid.size_is (told.starts i h) (omega arith) fits in
      rw (lane-is plan g told laid.few-boats i h c u weight taking lane is y small) (omega (arith, low))

-- ---- the runs

module _ (plan : Plan) (s : Spot) (t : Target) (c leaves : ℕ) (b : Before plan s t c leaves) where
  pub stack-fits : t.stack < plan.stacks
  stack-fits = omega (arith, b.aimed.stack-low, b.aimed.weight_is, power-fits b.laid t.depth b.aimed.depth_low)

  module _ (g : List ℕ) (told : Told plan g) (count k : ℕ) (lane : Lane) where
    abbrev B : ℕ → ℕ
    B = boat_at plan g

    pub kind-runs : (weight : ℕ) (taking : Taking) → LaneTo plan c t.stack weight taking lane → k ≡ t.place * 16 + s.kind → weight ≤ largest → number_in taking ≤ largest
        → Single B plan s t count (taken_by B taking) (λ x. t.stack + x * weight) → Runs Order.Kind plan g s t c count k lane
    unfolding keys pack_in
    kind-runs weight taking is key low few-number single =
        record {
          key-low = let q< = b.aimed.place-low in let k< : t.place * 16 + s.kind < plan.places * 16 = digits_lt q< (omega (arith, b.kind-low)) in omega (arith, key, k<);
          narrow = lane_narrow plan b.area b.laid c t.stack weight taking lane is b.position-low stack-fits low few-number;
          gives = λ i h. lane_low plan b.area b.laid c t.stack weight taking lane is b.position-low stack-fits g told i h (code_at plan g i) (omega (arith, told.codes-low i h, b.laid.few-boats)) (single.fits (code_at plan g i) (told.codes-low i h));
          same = λ d i h st.
              let few = b.laid.few-boats in
              let x = code_at plan g i in
              let small = code-small plan g told few i h in
              let by-lane = lane-turn plan g told few i h c t.stack weight taking lane is x small B d st in
              let way = kind-way plan g told few i h s t d c count st (lane_turn B d lane) b.kind-low (single.law d (state_in plan (from_in (word_at plan g i)) c 0) x (told.codes-low i h) st ∙ sym by-lane) in
              way ∙ ap (λ z. run_turn Order.Kind plan g z (lane_turn B d lane) i st) (sym key);
        }

    pub boat-runs : (u x₀ : ℕ) → LaneTo plan c u 0 (Taking.Only s.kind) lane → k ≡ t.place * plan.radix + x₀ → x₀ < plan.radix → u < plan.stacks
        → Single B plan s t count (λ x. eqb x x₀) (λ x. u) → Runs Order.Boat plan g s t c count k lane
    unfolding keys pack_in
    boat-runs u x₀ is key low fits single =
        record {
          key-low = let k< : t.place * plan.radix + x₀ < plan.places * plan.radix = digits_lt b.aimed.place-low low in omega (arith, key, k<);
          narrow = lane_narrow plan b.area b.laid c u 0 (Taking.Only s.kind) lane is b.position-low fits (omega arith) (omega (arith, b.kind-low));
          gives = λ i h. lane_low plan b.area b.laid c u 0 (Taking.Only s.kind) lane is b.position-low fits g told i h (kind_in (word_at plan g i)) (kind-small plan g told b.laid.few-boats i h) (omega (arith, mul-zero (kind_in (word_at plan g i)), fits));
          same = λ d i h st.
              let few = b.laid.few-boats in
              let y = kind_in (word_at plan g i) in
              let home = state_in plan (from_in (word_at plan g i)) c 0 in
              let sum : home + (u + y * 0) ≡ home + u = omega (arith, mul-zero y) in
              let by-lane = lane-turn plan g told few i h c u 0 (Taking.Only s.kind) lane is y (kind-small plan g told few i h) B d st ∙ ap (λ z. cond (eqb y s.kind) (push d z st) st) sum in
              let way = boat-way plan g told few i h s t d c count st lane x₀ low (push d (home + u) st) (single.law d home (code_at plan g i) (told.codes-low i h) st) by-lane in
              way ∙ ap (λ z. run_turn Order.Boat plan g z (lane_turn B d lane) i st) (sym key);
        }

  -- where nobody passes, and the position does not push, no line leads back
  pub nowhere : (g : List ℕ) → s.push ≡ false → ((x : ℕ) → okay (boat_at plan g) plan.radix s x t.stack ≡ false)
      → (d i : ℕ) → i < plan.lines → (st : Search) → line_turn plan g s t d c 1 i st ≡ st
  unfolding line_turn
  nowhere g e none d i h st =
      let w = word_at plan g i in
      let x = code_at plan g i in
      ap (λ u. cond (eqb (to_in w) t.place && eqb (kind_in w) s.kind) u st)
      (stack-plain (boat_at plan g) plan.radix s d (state_in plan (from_in w) c 0) x t.weight t.stack st e ∙ rw (none x))
      ∙ same (eqb (to_in w) t.place && eqb (kind_in w) s.kind)
    where
      same : (b : Bool) → cond b st st ≡ st
      same true = refl
      same false = refl
