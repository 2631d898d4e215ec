-- The wanted boats: where one stack is undone, another boat than its top, or than the entry that is compared with, undoes nothing
-- (`top-alone`, `kept-alone`); and a line of another kind, or that cannot have a wanted boat, does nothing (`line-unwanted`). Assumes nothing.
use mathlib.Core.Path.{◌≡◌, refl, sym, ap, ◌∙◌}
use mathlib.Core.Bool.{Bool, true, false, cond, ◌&&◌, false≢true}
use mathlib.Core.List.{List}
use Rattle.std.specs.Prelude.{Option, None, Some}
use Prim.Native.Nat.{ℕ, ◌+◌, ◌*◌, ◌/◌, ◌%◌, ◌<◌}
use native.Mathlib.Omega.{arith}
use native.Mathlib.Nat.{div-eq_of_lt, mod-lt, mul-add-div_right}
use lib.Dec.{eqb}
use borrow.Author.Tests.{ne_eqb, eqb-false}
use Rattle.request.specs.Layout.{from_in, to_in, kind_in}
use Rattle.request.specs.declared.Plan.{Plan}
use Rattle.graph.specs.Loops.{turns}
use Rattle.graph.specs.Trace.{Reached, tag_of}
use Rattle.graph.specs.Table.{Search, push}
use Rattle.search.specs.Front.{state_in}
use Rattle.search.specs.Loaded.{boat_at, code_at, word_at}
use Rattle.states.specs.Spots.{off_by, on_by, off, on, okay, read_by, stack_at, stack_turn, OnlyKept}
use Rattle.states.specs.declared.Spot.{Spot}
use Rattle.expanding.specs.Undoing.{undone, line_undone}
use Rattle.expanding.specs.declared.Undo.{Undo}
use Rattle.tracing.specs.Tracing.{line_traced}
use Rattle.tracing.specs.Wanting.{can_have, can_lead, WantedBy}
use Rattle.tracing.proofs.Traces.{tagged-idle}

-- ---- one stack

-- a stack whose test fails is not undone
stack-idle : (B : ℕ → ℕ) (R : ℕ) (s : Spot) (d home x v : ℕ) (st : Search) → (eqb (on s (off s v) x) v && okay B R s x (off s v)) ≡ false → stack_at B R s d home x v st ≡ st
unfolding stack_at
stack-idle B R s d home x v st e = ap (λ b. cond b (push d (home + off s v) st) st) e

-- by one stack, what is undone is that stack
one-undone : (plan : Plan) (u : Undo) (B : ℕ → ℕ) (home x : ℕ) (st : Search) → u.count ≡ 1
    → undone plan u B home x st ≡ stack_at B plan.radix u.spot u.d home x u.stack st
unfolding turns stack_turn
one-undone plan u B home x st one =
    let first : 0 * u.weight + u.stack ≡ u.stack = omega arith in
    ap (λ n. turns (stack_turn B plan.radix u.spot u.d home x u.weight u.stack) 0 n st) one
    ∙ ap (λ v. stack_at B plan.radix u.spot u.d home x v st) first

-- a test that fails is the whole test, on either side
left_false : (a b : Bool) → a ≡ false → (a && b) ≡ false
left_false true b e = absurd (false≢true (sym e))
left_false false b e = refl

right-false : (a b : Bool) → b ≡ false → (a && b) ≡ false
right-false true b e = e
right-false false b e = refl

module _ (plan : Plan) (u : Undo) (one : u.count ≡ 1) where
  -- with a push, the boat on top
  pub top-alone : u.spot.push ≡ true → 0 < u.spot.weight → (y : ℕ) → y ≡ u.stack / u.spot.weight → WantedBy plan u (Some y)
  top-alone pushed some y is B home x st other =
      one-undone plan u B home x st one
      ∙ stack-idle B plan.radix u.spot u.d home x u.stack st (left_false _ _ (ne_eqb _ _ (λ e. other (top e))))
    where
      put : on u.spot (off u.spot u.stack) x ≡ x * u.spot.weight + u.stack % u.spot.weight
      put = unfold on off in ap (λ b. on_by b u.spot.weight (off_by b u.spot.weight u.stack) x) pushed

      top : on u.spot (off u.spot u.stack) x ≡ u.stack → x ≡ y
      top e =
          let w = u.spot.weight in
          let v = u.stack in
          let none : v % w / w ≡ 0 = div-eq_of_lt (mod-lt v {m = w} some) in
          let sum : x + v % w / w ≡ x = omega (arith, none) in
          sym sum ∙ (sym (mul-add-div_right some x (v % w)) ∙ (ap (◌/ w) (sym put ∙ e) ∙ sym is))

  -- without one, where the entry compared with is taken alone, that entry
  pub kept-alone : u.spot.push ≡ false → OnlyKept u.spot → (y : ℕ) → y ≡ u.stack / u.spot.level % plan.radix → WantedBy plan u (Some y)
  kept-alone plain only y is B home x st other =
      one-undone plan u B home x st one
      ∙ stack-idle B plan.radix u.spot u.d home x u.stack st (right-false (eqb (on u.spot (off u.spot u.stack) x) u.stack) _ refused)
    where
      whole : off u.spot u.stack ≡ u.stack
      whole = unfold off in ap (λ b. off_by b u.spot.weight u.stack) plain

      refused : okay B plan.radix u.spot x (off u.spot u.stack) ≡ false
      refused =
          ap (okay B plan.radix u.spot x) whole
          ∙ (only.kept B plan.radix x u.stack ∙ right-false (read_by B x) _ (ne_eqb _ _ (λ e. other (e ∙ sym is))))

-- ---- a line

cond_same : (b : Bool) (a z : Search) → a ≡ z → cond b a z ≡ z
cond_same true a z e = e
cond_same false a z e = refl

module _ (plan : Plan) (u : Undo) (g : List ℕ) (place c i : ℕ) where
  idle-by : (y : Option ℕ) → WantedBy plan u y → can_have y (code_at plan g i) ≡ false → (st : Search) → line_undone plan u g place c i st ≡ st
  unfolding line_undone
  idle-by (Some y) h no-boat st = cond_same (eqb (to_in (word_at plan g i)) place && eqb (kind_in (word_at plan g i)) u.spot.kind) _ st (h (boat_at plan g) (state_in plan (from_in (word_at plan g i)) c 0) (code_at plan g i) st (eqb-false _ _ no-boat))
  idle-by None h no-boat st = absurd (false≢true (sym no-boat))

  -- a line of another kind
  idle-kind : eqb (kind_in (word_at plan g i)) u.spot.kind ≡ false → (st : Search) → line_undone plan u g place c i st ≡ st
  unfolding line_undone
  idle-kind no_kind st = go (eqb (to_in (word_at plan g i)) place) (eqb (kind_in (word_at plan g i)) u.spot.kind) no_kind
    where
      go : (a b : Bool) → b ≡ false → cond (a && b) (undone plan u (boat_at plan g) (state_in plan (from_in (word_at plan g i)) c 0) (code_at plan g i) st) st ≡ st
      go true true e = absurd (false≢true (sym e))
      go true false e = refl
      go false b e = refl

  idle-line : (y : Option ℕ) → WantedBy plan u y → can_lead u.spot.kind y (word_at plan g i) (code_at plan g i) ≡ false → (st : Search) → line_undone plan u g place c i st ≡ st
  idle-line y h never st = go (can_have y (code_at plan g i)) refl never
    where
      go : (b : Bool) → can_have y (code_at plan g i) ≡ b → (b && eqb (kind_in (word_at plan g i)) u.spot.kind) ≡ false → line_undone plan u g place c i st ≡ st
      go true e n = idle-kind n st
      go false e n = idle-by y h e st

  pub line-unwanted : (parent : ℕ) (y : Option ℕ) → WantedBy plan u y → can_lead u.spot.kind y (word_at plan g i) (code_at plan g i) ≡ false → (x : Reached) → line_traced plan u g place c parent i x ≡ x
  unfolding line_traced
  line-unwanted parent y h never x = tagged-idle (tag_of i parent) (line_undone plan u g place c i) x (idle-line y h never x.table)
