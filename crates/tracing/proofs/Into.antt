-- The lines that lead to a place, by the words of their run: going over them is going over all lines (`into-run`), and each is a line (`lined-of`).
use mathlib.Core.Path.{◌≡◌, refl, sym, ap, ◌∙◌}
use mathlib.Core.Bool.{Bool, true, false, cond}
use mathlib.Core.List.{List}
use Prim.Native.Nat.{ℕ, ◌+◌, ◌-◌, ◌≤◌, ◌<◌}
use native.Mathlib.Omega.{arith}
use lib.Dec.{eqb}
use lib.ListN.{length, get_or}
use borrow.Author.Tests.{eqb-false}
use Rattle.request.specs.Layout.{to_in}
use Rattle.request.specs.declared.Plan.{Plan}
use Rattle.graph.specs.Loops.{turns}
use Rattle.graph.specs.Trace.{Reached, tag_of}
use Rattle.search.specs.Loaded.{word_at}
use Rattle.states.specs.Spots.{front}
use Rattle.sorted.specs.Runs.{turns-run, same_word}
use Rattle.sorted.specs.Sorting.{keys, key_in, pack_in, Between, Run}
use Rattle.sorted.specs.declared.Order.TheVariants as Order
use Rattle.ways.proofs.Lanes.{run-word}
use Rattle.expanding.specs.Undoing.{line_undone}
use Rattle.expanding.specs.declared.Undo.{Undo}
use Rattle.expanding.proofs.Undone.{line-elsewhere}
use Rattle.tracing.specs.Tracing.{index_at, Indexed, line_traced, into_traced}
use Rattle.tracing.proofs.Traces.{tagged-idle, UnderTraced, index_same}

-- a place is a key
pub end-keys : (plan : Plan) {place : ℕ} → place < plan.places → place < keys Order.End plan
unfolding keys
end-keys plan h = h

-- what is written of a line is its number
packed : (plan : Plan) (g : List ℕ) (i : ℕ) → pack_in Order.End plan g i ≡ i
unfolding pack_in
packed plan g i = refl

-- the words lo up to hi of the area are lines, after the stretches
pub record Lined (plan : Plan) (lo hi : ℕ) (w : List ℕ) : Type 0 where
  pub after : index_at plan ≤ lo
  pub within : hi ≤ length w
  pub lines-low : (p : ℕ) → lo ≤ p → p < hi → get_or w p 0 < plan.lines

-- ---- the run of a place

module _ {plan : Plan} {w : List ℕ} (index : Indexed plan w) {place : ℕ} (low : place < plan.places) {lo hi : ℕ} (run : Between (index_at plan) place w lo hi) where
  own : Run Order.End plan (index_at plan) w place
  own = index.sorted place (end-keys plan low)

  pub lined-of : Lined plan lo hi w
  lined-of =
      record {
        after = omega (arith, own.low, run.0);
        within = run.3;
        lines-low = λ p from less.
            let (i, li, is) = run-word Order.End plan (index_at plan) w place own index.room p (omega (arith, run.0, from)) (omega (arith, run.1, less)) in
            omega (arith, li, is, packed plan (front plan w) i);
      }

  module _ (u : Undo) (c parent : ℕ) where
    -- a line that leads elsewhere does nothing
    line-is : (i : ℕ) (x : Reached)
        → line_traced plan u (front plan w) place c parent i x
        ≡ cond (eqb (key_in Order.End plan (front plan w) i) place) (line_traced plan u (front plan w) place c parent (pack_in Order.End plan (front plan w) i) x) x
    unfolding key_in pack_in
    line-is i x = go (eqb (to_in (word_at plan (front plan w) i)) place) refl
      where
        go : (b : Bool) → eqb (to_in (word_at plan (front plan w) i)) place ≡ b
            → line_traced plan u (front plan w) place c parent i x ≡ cond b (line_traced plan u (front plan w) place c parent i x) x
        go true e = refl
        go false e =
            unfold line_traced in
            tagged-idle (tag_of i parent) (line_undone plan u (front plan w) place c i) x (line-elsewhere plan u (front plan w) place c i x.table _ refl (eqb-false _ _ e))

    pub into-run : (x : Reached)
        → turns (λ p. line_traced plan u (front plan w) place c parent (get_or w p 0)) lo (hi - lo) x ≡ into_traced plan u (front plan w) place c parent x
    unfolding into_traced
    into-run x =
        let turn = line_traced plan u (front plan w) place c parent in
        (λ t. turns (λ p. turn (get_or w p 0)) (run.0 t) (run.1 t - run.0 t) x)
        ∙ sym (turns-run Order.End plan (index_at plan) w place own index.room turn turn (λ i less a. line-is i a) x)

-- its words stay
pub lined-same : {plan : Plan} {F : Reached → Reached} {t₀ : ℕ} {w₀ : List ℕ} {G : Reached → Reached} {t : ℕ} {w : List ℕ}
    → UnderTraced plan F t₀ w₀ G t w → (p : ℕ) → index_at plan ≤ p → get_or w p 0 ≡ get_or w₀ p 0
lined-same {plan} {w₀ = w₀} {w = w} l p le =
    let sum : index_at plan + (p - index_at plan) ≡ p = omega arith in
    ap (λ n. get_or w n 0) (sym sum) ∙ (same_word (index_at plan) w₀ w (index_same l) (p - index_at plan) ∙ ap (λ n. get_or w₀ n 0) sum)
