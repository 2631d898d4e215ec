-- The code's step forward, for one line from one state by their numbers, is the step of the setting that the program and the loaded words
-- say: `from-taken` and its other cases. Assumes nothing.
use mathlib.Core.Path.{◌≡◌, refl, sym, ap, ◌∙◌}
use mathlib.Core.Bool.{Bool, true, false, cond, ◌&&◌}
use mathlib.Core.List.{List}
use Prim.Native.Nat.{ℕ, suc, ◌+◌, ◌^◌, ◌/◌, ◌%◌, ◌<◌, ◌≤◌}
use native.Mathlib.Omega.{arith}
use lib.Dec.{eqb}
use borrow.Author.Tests.{eq-eqb, ne_eqb}
use Rattle.meaning.specs.Writing.{line_at}
use Rattle.positions.specs.Program.{row_at, follow_at, depth_at, node_in}
use Rattle.request.specs.Layout.{from_in, to_in, kind_in}
use Rattle.request.specs.declared.Plan.{Plan}
use Rattle.graph.specs.Plain.{memb}
use Rattle.graph.specs.Loops.{turns}
use Rattle.graph.proofs.Loops.{turns-within}
use Rattle.search.specs.Product.{Setting, stacks, state, place_of, pos_of, stack_of, cut, pushed}
use Rattle.search.proofs.Front.{line-at}
use Rattle.search.specs.Loaded.{boat_at, code_at, word_at, setting_in}
use Rattle.search.specs.Moves.{over_next, onward}
use Rattle.states.specs.Spots.{spot_in, on, okay, next_turn}
use Rattle.states.specs.declared.Spot.{Spot}
use Rattle.states.proofs.Bridge.{member, push-on, passes-is}

module _ (a : List ℕ) (plan : Plan) (g : List ℕ) where
  abbrev S : Setting
  S = setting_in a plan g

  -- the position at c by its numbers
  abbrev spot : ℕ → Spot
  spot c = spot_in a plan.radix c

  kind-is : (c : ℕ) → (spot c).kind ≡ (row_at a c).kind
  unfolding spot_in
  kind-is c = refl

  module _ (big : plan.stacks ≡ plan.radix ^ plan.keeps) (few : plan.done ≤ 63) {A : Type 0} (see : ℕ → A → A) where
    abbrev pos : ℕ → ℕ
    pos s = s / plan.stacks % (plan.done + 1)

    -- the stack that the position of s leaves, by line i
    abbrev left : ℕ → ℕ → ℕ
    left s i = on (spot (pos s)) (s % plan.stacks) (code_at plan g i)

    abbrev turn : ℕ → ℕ → ℕ → A → A
    turn s i = next_turn plan a (follow_at a (pos s)) see (to_in (word_at plan g i)) (left s i)

    next-turn : (s i k : ℕ) (b : A) → i < plan.lines → k ≤ plan.done
        → cond (memb k (S.node (pos_of S s)).follow)
        (see (state S (line_at S.lines i).to k (cut S (S.node k).depth (pushed S (S.node (pos_of S s)) (stack_of S s) i))) b)
        b
        ≡ turn s i k b
    unfolding setting_in node_in pos_of stack_of stacks state next_turn on spot_in
    next-turn s i k b h l =
        let next : plan.done + 1 ≡ suc plan.done = omega arith in
        rw (
          ← big,
          ← next,
          line-at plan g i h,
          member (follow_at a (pos s)) k (omega (arith, l, few)),
          push-on plan.radix (depth_at a (pos s)) (s % plan.stacks) (code_at plan g i) (row_at a (pos s)).push,
        )

    next-is : (s i : ℕ) (st : A) → i < plan.lines → over_next S see i s st ≡ turns (turn s i) 0 (plan.done + 1) st
    next-is s i st h = whole ∙ turns-within body (turn s i) 0 (plan.done + 1) (λ k low less. same_turn k (omega (arith, less))) st
      where
        body : ℕ → A → A
        body k b =
            cond (memb k (S.node (pos_of S s)).follow)
            (see (state S (line_at S.lines i).to k (cut S (S.node k).depth (pushed S (S.node (pos_of S s)) (stack_of S s) i))) b)
            b

        next : plan.done + 1 ≡ suc plan.done
        next = omega arith

        whole : over_next S see i s st ≡ turns body 0 (plan.done + 1) st
        whole = unfold over_next setting_in in ap (λ m. turns body 0 m st) (sym next)

        same_turn : (k : ℕ) → k < plan.done + 1 → (b : A) → body k b ≡ turn s i k b
        same_turn k l b = next-turn s i k b h (omega arith)

    -- line i as the code holds it: the place q that it comes from, its kind x, the place r that it leads to
    module _ (s i : ℕ) (st : A) (h : i < plan.lines) (q : ℕ) (eq : q ≡ from_in (word_at plan g i)) where
      abbrev here : Bool
      here = eqb q (s / plan.stacks / (plan.done + 1))

      from_is : onward S see i s st
          ≡ cond
          (here && (eqb (kind_in (word_at plan g i)) (spot (pos s)).kind && okay (boat_at plan g) plan.radix (spot (pos s)) (code_at plan g i) (s % plan.stacks)))
          (over_next S see i s st)
          st
      unfolding onward setting_in node_in place_of pos_of stack_of stacks spot_in
      from_is =
          let next : plan.done + 1 ≡ suc plan.done = omega arith in
          rw (
            ← big,
            ← next,
            line-at plan g i h,
            passes-is a plan g (pos s) (s % plan.stacks) (code_at plan g i),
            eq,
          )

      pub from-elsewhere : here ≡ false → onward S see i s st ≡ st
      from-elsewhere f = from_is ∙ rw f

      -- the state's position c and stack v
      module _ (f : here ≡ true) (c v : ℕ) (ec : c ≡ pos s) (ev : v ≡ s % plan.stacks) (x : ℕ) (ex : x ≡ kind_in (word_at plan g i)) where
        pub from-other-kind : (x ≡ (row_at a c).kind → ⊥) → onward S see i s st ≡ st
        from-other-kind n = from_is ∙ rw (f, ne_eqb _ _ (λ k. n (ex ∙ (k ∙ (kind-is (pos s) ∙ ap (λ c. (row_at a c).kind) (sym ec))))))

        module _ (own : x ≡ (row_at a c).kind) (sp : Spot) (es : sp ≡ spot c) (b : ℕ) (eb : b ≡ code_at plan g i) where
          is : sp ≡ spot (pos s)
          is = es ∙ ap spot ec

          k : kind_in (word_at plan g i) ≡ sp.kind
          k = sym ex ∙ (own ∙ (sym (kind-is c) ∙ ap (λ (z : Spot). z.kind) (sym es)))

          pub from-refused : okay (boat_at plan g) plan.radix sp b v ≡ false → onward S see i s st ≡ st
          from-refused o = from_is ∙ rw (← is, ← eb, ← ev, f, eq-eqb _ _ k, o)

          pub from-taken : okay (boat_at plan g) plan.radix sp b v ≡ true
              → (u : ℕ) → u ≡ on sp v b → (mask : ℕ) → mask ≡ follow_at a c → (r : ℕ) → r ≡ to_in (word_at plan g i)
              → onward S see i s st ≡ turns (next_turn plan a mask see r u) 0 (plan.done + 1) st
          from-taken o u eu mask em r er =
              let goes : onward S see i s st ≡ over_next S see i s st = from_is ∙ rw (← is, ← eb, ← ev, f, eq-eqb _ _ k, o) in
              let after : left s i ≡ u = sym (eu ∙ rw (is, eb, ev)) in
              goes ∙ (next-is s i st h ∙ rw (after, er, em, ec))
