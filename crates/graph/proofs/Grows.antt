-- The queue only grows: a loop that pushes puts states at its end and leaves those before them.
-- Claimed: `loop-grows`, for `PhaseOne`; and for `PhaseTwo` `loop-indices`:
-- a loop over indices of the queue, which itself appends, is the loop over the list that stood there.
use Rattle.std.specs.Prelude.{◌≡◌, Bool, true, false, cond, eqb, set}
use Rattle.std.proofs.Math.Path.{refl, ap}
use Rattle.std.proofs.Common.{sym, ◌∙◌, arith}
use mathlib.Core.List.{List, [], ◌∷◌, ◌++◌, append_assoc, append-nil}
use Prim.Native.Nat.{ℕ, zero, suc, ◌+◌, ◌≤◌}
use Rattle.std.proofs.Math.ListN.{length, get_or, take, drop, length-append, length-drop}
use Rattle.std.proofs.Math.Seq.{drop-cons, drop-append-le, take-append-le}
use Rattle.graph.specs.Loops.{loop, turns}
use Rattle.graph.specs.Table.{Search, push}

pub record Grows (st st' : Search) : Type 0 where
  pub new : List ℕ
  pub more : st'.queue ≡ st.queue ++ new

unfoldable pub grows_none : (st : Search) → Grows st st
grows_none st = record { new = []; more = sym (append-nil st.queue) }

unfoldable pub grows_then : (a b c : Search) → Grows a b → Grows b c → Grows a c
grows_then a b c g h = record { new = g.new ++ h.new; more = h.more ∙ (ap (◌++ h.new) g.more ∙ append_assoc a.queue g.new h.new) }

pub grows-if : (b : Bool) (st st' : Search) → Grows st st' → Grows st (cond b st' st)
grows-if true st st' g = g
grows-if false st st' g = grows_none st

pub push-grows : (w s : ℕ) (st : Search) → Grows st (push w s st)
unfolding push
push-grows w s st =
    grows-if (eqb (get_or st.dist s 0) 0) st (record { dist = set st.dist s w; queue = st.queue ++ (s ∷ []) }) (record { new = s ∷ []; more = refl })

-- ---- a loop whose body only grows the queue

module _ (f : ℕ → Search → Search) (h : (x : ℕ) (st : Search) → Grows st (f x st)) where
  pub loop-grows : (xs : List ℕ) (st : Search) → Grows st (loop f xs st)
  unfolding loop
  loop-grows [] st = grows_none st
  loop-grows (x ∷ xs) st = grows_then st (f x st) (loop f xs (f x st)) (h x st) (loop-grows xs (f x st))

  pub loop-indices : (n lo : ℕ) (st : Search)
      → lo + n ≤ length st.queue
      → turns (λ j b. f (get_or b.queue j 0) b) lo n st ≡ loop f (take n (drop lo st.queue)) st
  unfolding turns loop
  loop-indices zero lo st l = refl
  loop-indices (suc n) lo st l =
      let s : ℕ = get_or st.queue lo 0 in
      let g : Grows st (f s st) = h s st in
      let here : drop lo st.queue ≡ s ∷ drop (suc lo) st.queue = drop-cons st.queue lo 0 (omega arith) in
      let after = drop (suc lo) st.queue in
      let behind : drop (suc lo) (f s st).queue ≡ after ++ g.new = ap (drop (suc lo)) g.more ∙ drop-append-le (suc lo) st.queue g.new (omega arith) in
      let enough = take-append-le n after g.new (omega (arith, length-drop (suc lo) st.queue)) in
      let same : take n (drop (suc lo) (f s st).queue) ≡ take n after = ap (take n) behind ∙ enough in
      loop-indices n (suc lo) (f s st) (omega (arith, ap length g.more, length-append st.queue g.new)) ∙ rw (here, same)
