-- The code's step backward, for one expanded state by its numbers, is the expansion of the setting that the program and the loaded words
-- say: `expand-is`. Assumes nothing.
use mathlib.Core.Path.{◌≡◌, refl, ap, ◌∙◌}
use mathlib.Core.Bool.{cond, ◌&&◌}
use mathlib.Core.List.{List}
use Prim.Native.Nat.{ℕ, suc, ◌+◌, ◌*◌, ◌-◌, ◌^◌, ◌/◌, ◌%◌, ◌<◌, ◌≤◌}
use native.Mathlib.Nat.{add-zero, mod-lt}
use native.Mathlib.Omega.{arith}
use lib.Dec.{eqb}
use Rattle.meaning.specs.Writing.{line_at}
use Rattle.positions.specs.Program.{bit_of, row_at, follow_at, depth_at, node_in}
use Rattle.automaton.specs.Shape.{leaves}
use Rattle.request.specs.Layout.{from_in}
use Rattle.request.specs.declared.Plan.{Plan}
use Rattle.graph.specs.Plain.{memb}
use Rattle.search.specs.Digits.{push_on, pop_off}
use Rattle.graph.specs.Loops.{turns}
use Rattle.graph.proofs.Loops.{turns-within}
use Rattle.graph.specs.Table.{Search, push}
use Rattle.search.specs.Product.{Setting, stacks, state, place_of, pos_of, stack_of, popped, undoes}
use Rattle.search.specs.Front.{state_in}
use Rattle.search.proofs.Front.{lines-many, line-at}
use Rattle.search.specs.Loaded.{boat_at, code_at, word_at, setting_in}
use Rattle.search.specs.Moves.{over_stacks, over_lines, expand}
use Rattle.states.specs.Spots.{spot_in, off, off_by, on, on_by, okay, stack_at, stack_turn, line_turn, target_in, spot_turn}
use Rattle.states.specs.declared.Spot.{Spot}
use Rattle.states.specs.declared.Target.{Target}
use Rattle.states.proofs.Bridge.{member, pop-off, push-on, passes-is}

module _ (a : List ℕ) (plan : Plan) (g : List ℕ) where
  abbrev S : Setting
  S = setting_in a plan g

  -- the position at c by its numbers
  abbrev spot : ℕ → Spot
  spot c = spot_in a plan.radix c

  module _ (big : plan.stacks ≡ plan.radix ^ plan.keeps) where
    undone-is : (c i v : ℕ)
        → undoes S (S.node c) i v
        ≡ (eqb (on (spot c) (off (spot c) v) (code_at plan g i)) v && okay (boat_at plan g) plan.radix (spot c) (code_at plan g i) (off (spot c) v))
    unfolding setting_in node_in spot_in off on
    undone-is c i v =
        let R = plan.radix in
        let b = (row_at a c).push in
        let d = depth_at a c in
        let pop : pop_off R b d v ≡ off_by b (R ^ d) v = pop-off R d v b in
        let u = off_by b (R ^ d) v in
        let again : push_on R b d u (code_at plan g i) ≡ on_by b (R ^ d) u (code_at plan g i) = push-on R d _ _ b in
        rw (pop, again)
        (ap (λ z. eqb (on_by b (R ^ d) u (code_at plan g i)) v && z) (passes-is a plan g c u (code_at plan g i)))

    state-is : (c i v : ℕ)
        → i < plan.lines
        → state S (line_at S.lines i).from c (popped S (S.node c) v) ≡ state_in plan (from_in (word_at plan g i)) c 0 + off (spot c) v
    unfolding setting_in node_in state stacks spot_in off
    state-is c i v h =
        let next : suc plan.done ≡ plan.done + 1 = omega arith in
        let b = (row_at a c).push in
        let pop : pop_off plan.radix b (depth_at a c) v ≡ off_by b (plan.radix ^ depth_at a c) v = pop-off plan.radix (depth_at a c) v b in
        rw (line-at plan g i h, next, ← big, pop, add-zero)

    -- a line's loop over stacks
    pub stacks-are : (d c i e w : ℕ) (st : Search) → i < plan.lines
        → over_stacks S d c i e w st
        ≡ turns
        (stack_turn (boat_at plan g) plan.radix (spot c) d (state_in plan (from_in (word_at plan g i)) c 0) (code_at plan g i) (plan.radix ^ e) w)
        0
        (plan.radix ^ (leaves (node_in a c) - e))
        st
    stacks-are d c i e w st h = unfold over_stacks setting_in in turns-within _ turn' 0 n (λ x low less. same_turn x (omega (arith, less))) st
      where
        n : ℕ
        n = plan.radix ^ (leaves (node_in a c) - e)

        turn' : ℕ → Search → Search
        turn' = stack_turn (boat_at plan g) plan.radix (spot c) d (state_in plan (from_in (word_at plan g i)) c 0) (code_at plan g i) (plan.radix ^ e) w

        same_turn : (x : ℕ) → x < n → (b : Search)
            → cond (undoes S (S.node c) i (x * plan.radix ^ e + w)) (push d (state S (line_at S.lines i).from c (popped S (S.node c) (x * plan.radix ^ e + w))) b) b
            ≡ turn' x b
        same_turn x l b = unfold stack_turn stack_at in rw (undone-is c i (x * plan.radix ^ e + w), state-is c i (x * plan.radix ^ e + w) h)

    lines_are : (d c e : ℕ) (t : Target) (st : Search) → t.weight ≡ plan.radix ^ e
        → over_lines S d c t.place e t.stack st ≡ turns (line_turn plan g (spot c) t d c (plan.radix ^ (leaves (node_in a c) - e))) 0 plan.lines st
    lines_are d c e t st ew = whole ∙ turns-within body (line_turn plan g (spot c) t d c n) 0 plan.lines (λ x low less. same_turn x (omega (arith, less))) st
      where
        n : ℕ
        n = plan.radix ^ (leaves (node_in a c) - e)

        body : ℕ → Search → Search
        body i b = cond (eqb (line_at S.lines i).to t.place && eqb (line_at S.lines i).kind (S.node c).kind) (over_stacks S d c i e t.stack b) b

        whole : over_lines S d c t.place e t.stack st ≡ turns body 0 plan.lines st
        whole = unfold over_lines in ap (λ m. turns body 0 m st) (unfold setting_in in lines-many plan g 0 plan.lines)

        same_turn : (i : ℕ) → i < plan.lines → (b : Search) → body i b ≡ line_turn plan g (spot c) t d c n i b
        same_turn i l b = rw (stacks-are d c i e t.stack b l) (unfold setting_in line_turn node_in spot_in in rw (line-at plan g i l, ew))

    -- the state t expanded
    pub expand-is : plan.done ≤ 63 → (d t : ℕ) (st : Search) → expand S d t st ≡ turns (spot_turn a plan g (target_in a plan t) d) 0 plan.done st
    expand-is few d t st = whole ∙ turns-within body (spot_turn a plan g aim d) 0 plan.done (λ x low less. same_turn x (omega (arith, less))) st
      where
        aim : Target
        aim = target_in a plan t

        k : ℕ
        k = t / plan.stacks % (plan.done + 1)

        e : ℕ
        e = depth_at a k

        body : ℕ → Search → Search
        body c b = cond (memb k (S.node c).follow) (over_lines S d c (t / plan.stacks / (plan.done + 1)) e (t % plan.stacks % plan.radix ^ e) b) b

        whole : expand S d t st ≡ turns body 0 plan.done st
        whole = unfold expand setting_in node_in place_of pos_of stack_of stacks in let next : plan.done + 1 ≡ suc plan.done = omega arith in rw (← next, ← big)

        low : k < 64
        low = omega (arith, few, mod-lt (t / plan.stacks) {m = plan.done + 1} (omega arith))

        lines-here : (c : ℕ) (b : Search)
            → over_lines S d c (t / plan.stacks / (plan.done + 1)) e (t % plan.stacks % plan.radix ^ e) b
            ≡ turns (line_turn plan g (spot c) aim d c (plan.radix ^ (leaves (node_in a c) - e))) 0 plan.lines b
        lines-here c b = unfold target_in in lines_are d c e aim b refl

        same_turn : (c : ℕ) → c < plan.done → (b : Search) → body c b ≡ spot_turn a plan g aim d c b
        same_turn c l b =
            let may : memb k (S.node c).follow ≡ eqb (bit_of (follow_at a c) k) 1 = unfold setting_in node_in in member (follow_at a c) k low in
            ap (λ z. cond z (over_lines S d c (t / plan.stacks / (plan.done + 1)) e (t % plan.stacks % plan.radix ^ e) b) b) may
            ∙ ap (λ z. cond (eqb (bit_of (follow_at a c) k) 1) z b) (lines-here c b)
            ∙ unfold spot_turn target_in node_in in refl
