-- Phase two, step by step: a line gathered by what is left of the frontier, a line tried, and the walk written line by line.
use mathlib.Core.Path.{◌≡◌, refl, sym, ap, ◌∙◌}
use mathlib.Core.Bool.{true, false}
use mathlib.Core.List.{List, [], ◌∷◌, ◌++◌, append_assoc, append-nil}
use Prim.Native.Nat.{ℕ, zero, suc, ◌+◌, ◌-◌, ◌<◌, ◌≤◌}
use native.Mathlib.Omega.{arith}
use lib.Dec.{eqb}
use lib.ListN.{length, get_or, set, take}
use lib.Seq.{take-suc-set}
use Rattle.std.proofs.lemmas.List.{take_all}
use borrow.Author.Tests.{eq-eqb, ne_eqb}
use Rattle.graph.specs.Loops.{turns}
use Rattle.graph.specs.Table.{Search}
use Rattle.graph.specs.PhaseTwo.{Tried, gather, try, walk}
use Rattle.graph.proofs.PhaseTwo.{try-next, try-here}
use Rattle.search.specs.Product.{Setting}
use Rattle.search.specs.Moves.{visit, onward, from_state}
use Rattle.search.proofs.Moves.{onward-from}
use Rattle.walk.specs.Chosen.{try_table, anything}

-- ---- a line gathered

-- the turn at index j of the queue
unfoldable pub gather_turn : (ℕ → ℕ → ℕ → Search → Search) → ℕ → ℕ → ℕ → Search → Search
gather_turn E w l j b = E w l (get_or b.queue j 0) b

pub gather-turns : (E : ℕ → ℕ → ℕ → Search → Search) (w l lo n : ℕ) (st : Search) → length st.queue ≡ n → turns (gather_turn E w l) lo (n - lo) st ≡ gather E w l lo st
unfolding gather gather_turn
gather-turns E w l lo n st e = rw e

pub gather-at : (S : Setting) (D : List ℕ) (w l j s : ℕ) (st : Search) → 0 < w → s ≡ get_or st.queue j 0 → gather_turn (from_state S D) w l j st ≡ onward S (visit D w) l s st
unfolding gather_turn
gather-at S D zero l j s st h e = absurd (omega arith)
gather-at S D (suc k) l j s st h e = rw (← e) (sym (onward-from S D k l s st))

-- ---- a line tried

module _ (E : ℕ → ℕ → ℕ → Search → Search) (w lo i m : ℕ) (st st' : Search) (less : i < m) (is : st' ≡ gather E w i lo st) where
  left : m - i ≡ suc (m - (i + 1))
  left = omega arith

  -- nothing is gathered: the next line is tried
  pub tried-next : length st'.queue ≡ length st.queue → try E w lo (m - (i + 1)) (i + 1) st' ≡ try E w lo (m - i) i st
  tried-next e =
      let more : i + 1 ≡ suc i = omega arith in
      let same : eqb (length (gather E w i lo st).queue) (length st.queue) ≡ true = eq-eqb _ _ (ap (λ (x : Search). length x.queue) (sym is) ∙ e) in
      rw (left, more, is) (sym (try-next E w lo (m - suc i) i st same))

  pub tried-table : length st'.queue ≡ length st.queue → try_table E w lo (m - (i + 1)) (i + 1) (gather E w i lo st) ≡ try_table E w lo (m - i) i st
  unfolding try_table
  tried-table e =
      ap (λ (x : Search). (try E w lo (m - (i + 1)) (i + 1) x).table) (sym is) ∙ ap (λ (y : Tried). y.table) (tried-next e)

  -- something is: this line it is
  pub tried_here : (length st'.queue ≡ length st.queue → ⊥) → try E w lo (m - i) i st ≡ record { line = i; table = st' }
  tried_here n =
      let other : eqb (length (gather E w i lo st).queue) (length st.queue) ≡ false = ne_eqb _ _ (λ e. n (ap (λ (x : Search). length x.queue) is ∙ e)) in
      rw (left, is) (try-here E w lo (m - (i + 1)) i st other)

pub tried-none : (E : ℕ → ℕ → ℕ → Search → Search) (w lo i m : ℕ) (st : Search) → m ≤ i → try E w lo (m - i) i st ≡ record { line = i; table = st }
unfolding try
tried-none E w lo i m st h = let e : m - i ≡ 0 = omega arith in rw e

-- what is tried, and its table
pub table_of : (E : ℕ → ℕ → ℕ → Search → Search) (w lo n l : ℕ) (st : Search) (x : Tried) → try E w lo n l st ≡ x → try_table E w lo n l st ≡ x.table
unfolding try_table
table_of E w lo n l st x e = ap (λ (y : Tried). y.table) e

-- ---- the walk, written line by line

pub anything-same : (x y : Search) → anything x ≡ anything y
unfolding anything
anything-same x y = refl

walk-cons : (E : ℕ → ℕ → ℕ → Search → Search) (m left k lo n x : ℕ) (st st' : Search) → left ≡ suc k
    → x ≡ (try E left lo m 0 st).line → st' ≡ try_table E left lo m 0 st → length st.queue ≡ n
    → x ∷ walk E m k n st' ≡ walk E m left lo st
unfolding walk try_table
walk-cons E m left k lo n x st st' some line table len = rw (line, table, some, ← len)

walk-none : (E : ℕ → ℕ → ℕ → Search → Search) (m left lo : ℕ) (st : Search) → left ≡ 0 → walk E m left lo st ≡ []
unfolding walk
walk-none E m left lo st none = rw none

-- of `far` lines the line x is written at j, and the walk goes on from the frontier that it leads to
pub walk-on : (E : ℕ → ℕ → ℕ → Search → Search) (m far lo j n x : ℕ) (st st' : Search) (out whole : List ℕ)
    → j < far → j < length out
    → x ≡ (try E (far - j) lo m 0 st).line → st' ≡ try_table E (far - j) lo m 0 st → length st.queue ≡ n
    → take j out ++ walk E m (far - j) lo st ≡ whole
    → take (j + 1) (set out j x) ++ walk E m (far - (j + 1)) n st' ≡ whole
walk-on E m far lo j n x st st' out whole some low line table len written =
    let more : j + 1 ≡ suc j = omega arith in
    let next = walk-cons E m (far - j) (far - (j + 1)) lo n x st st' (omega arith) line table len in
    rw (more, take-suc-set out j x low, append_assoc (take j out) (x ∷ []) (walk E m (far - suc j) n st'), ← more) (ap (take j out ++◌) next ∙ written)

-- all of them are written
pub walk_end : (E : ℕ → ℕ → ℕ → Search → Search) (m far lo j : ℕ) (st : Search) (out whole : List ℕ)
    → far ≤ j → length out ≤ j → take j out ++ walk E m (far - j) lo st ≡ whole → out ≡ whole
walk_end E m far lo j st out whole done full written =
    let none = walk-none E m (far - j) lo st (omega arith) in
    let all : take j out ++ [] ≡ whole = ap (take j out ++◌) (sym none) ∙ written in
    sym (take_all j out full) ∙ (sym (append-nil (take j out)) ∙ all)
