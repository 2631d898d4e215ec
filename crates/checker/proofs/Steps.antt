-- Steps by the program and the loaded tables: they lead to states below the size (`succs-low`), the positions of the start's mask are
-- seeded (`begin-seeded`).
use mathlib.Core.Path.{◌≡◌, sym, ap, ◌∙◌, subst}
use mathlib.Core.Bool.{cond, ◌&&◌}
use mathlib.Core.List.Memᴰ
use mathlib.Core.List.{List}
use Prim.Native.Nat.{ℕ, suc, ◌+◌, ◌^◌, ◌%◌, ◌<◌, ◌≤◌}
use native.Mathlib.Nat.{mod-lt, mod-eq_of_lt, lt_of_lt_of_le}
use native.Mathlib.Omega.{arith}
use lib.Dec.{eqb}
use lib.ListN.{length}
use Rattle.meaning.specs.Record.{Line}
use Rattle.meaning.specs.Writing.{line_at}
use Rattle.lists.specs.Listed.{◌∈◌, when-sound}
use Rattle.positions.specs.Program.{bit_of, members, node_in, depth_at}
use Rattle.request.specs.declared.Plan.{Plan}
use Rattle.graph.specs.Plain.{memb, count}
use Rattle.graph.proofs.Sets.{filt-in, count-in}
use Rattle.graph.specs.Loops.{turns}
use Rattle.graph.proofs.Loops.{turns_same}
use Rattle.graph.specs.Table.{Search, blank, push}
use Rattle.search.specs.Product.{Setting, state, place_of, stack_of, pos_of, cut, takes, pushed, following, succs}
use Rattle.search.specs.Along.{goal, starting}
use Rattle.search.specs.Loaded.{setting_in}
use Rattle.search.specs.Moves.{visit}
use Rattle.search.proofs.Moves.{visit-any}
use Rattle.forward.specs.Firsts.{first_states, first-law}
use Rattle.states.specs.Spots.{front, Fit, next_turn}
use Rattle.search.specs.Front.{state_in}
use Rattle.search.proofs.Front.{line-at, state-in}
use Rattle.states.proofs.Bounds.{state-low, power_pos, power-fits, stacks-pos}
use Rattle.forward.proofs.Firsts.{first-states}
use Rattle.checker.specs.Walk.{seeded}

-- a state to which line i leads, by its parts
succs-at : (S : Setting) (s i t : ℕ) → t ∈ succs S s i
    → (k : ℕ) × (k ≤ S.done) × (t ≡ state S (line_at S.lines i).to k (cut S (S.node k).depth (pushed S (S.node (pos_of S s)) (stack_of S s) i)))
unfolding succs
succs-at S s i t m =
    let n = S.node (pos_of S s) in
    let (e, x) = when-sound (eqb (line_at S.lines i).from (place_of S s) && takes S n (stack_of S s) i) m in
    let (k, g, is) = Memᴰ.of_map _ (following S n) x in
    let below : k < 0 + suc S.done = ((count-in 0 (suc S.done) k).0 ((filt-in (λ j. memb j n.follow) (count 0 (suc S.done)) k).0 g).0).1 in
    (k, omega (arith, below), sym is)

module _ (plan : Plan) (program : List ℕ) (w : List ℕ) (fit : Fit plan program w) where
  abbrev In : Setting
  In = setting_in program plan (front plan w)

  -- a state at a place, a position and a stack that are in range
  at_low : (q k v : ℕ) → q < plan.places → k ≤ plan.done → v < plan.stacks → state In q k v < plan.size
  at_low q k v hq hk hv =
      let l = fit.laid in
      subst (◌< plan.size) (state-in program plan (length w) l (front plan w) q k v)
      (state-low plan.places (plan.done + 1) plan.stacks plan.size q k v l.size_is hq (omega arith) hv)

  pub succs-low : (s i t : ℕ) → i < plan.lines → t ∈ succs In s i → t < plan.size
  unfolding setting_in node_in
  succs-low s i t h m =
      let (k, hk, is) = succs-at In s i t m in
      let to_low : (line_at In.lines i).to < plan.places = subst (λ (l : Line). l.to < plan.places) (sym (line-at plan (front plan w) i h)) (fit.ends i h) in
      let d = depth_at program k in
      let short : pushed In (In.node (pos_of In s)) (stack_of In s) i % plan.radix ^ d < plan.stacks =
      lt_of_lt_of_le (mod-lt _ (power_pos fit.laid d)) (power-fits fit.laid d (fit.depths-low k hk)) in
      subst (◌< plan.size) (sym is) (at_low _ k _ to_low hk short)

  -- ---- the start

  module _ (begin a : ℕ) (ha : a < plan.places) (within : (k : ℕ) → k ∈ members begin → k ≤ plan.done) where
    pub begin-seeded : (D prog : List ℕ) → turns (next_turn plan prog begin (visit D 0) a 0) 0 (plan.done + 1) (blank plan.size) ≡ seeded plan.size (first_states plan begin a)
    unfolding seeded next_turn
    begin-seeded D prog =
        turns_same _ (λ k b. cond (eqb (bit_of begin k) 1) (push 1 (state_in plan a k 0) b) b) (λ k b. ap (λ x. cond (eqb (bit_of begin k) 1) x b) (turn k b)) 0 (plan.done + 1) (blank plan.size)
        ∙ sym (first-law (push 1) plan begin a (blank plan.size))
      where
        turn : (k : ℕ) (b : Search) → visit D 0 (state_in plan a k (0 % plan.radix ^ depth_at prog k)) b ≡ push 1 (state_in plan a k 0) b
        turn k b = visit-any D _ b ∙ ap (λ v. push 1 (state_in plan a k v) b) (mod-eq_of_lt (power_pos fit.laid (depth_at prog k)))

    -- the loop's first states are those of the mask, below the size
    pub begins-are : first_states plan begin a ≡ starting In a (members begin)
    begins-are = first-states program plan (length w) fit.laid (front plan w) begin a within

    pub begins-low : (s : ℕ) → s ∈ first_states plan begin a → s < plan.size
    begins-low s m =
        let (k, g, is) = Memᴰ.of_map (λ k. state In a k 0) (members begin) (subst (s ∈◌) begins-are m) in
        subst (◌< plan.size) is (at_low a k 0 ha (within k g) (stacks-pos fit.laid))

  pub goal-low : (b : ℕ) → b < plan.places → goal In b < plan.size
  unfolding setting_in
  goal-low b hb = at_low b plan.done 0 hb (omega arith) (stacks-pos fit.laid)
