-- Case by case: a state taken up is in front or not (`taken-front`, `taken-other`), and the sweep goes on in the level or ends it (`back-same`,
-- `back-other`).
use mathlib.Core.Path.{◌≡◌}
use mathlib.Core.List.{List}
use Prim.Native.Nat.{ℕ, suc, ◌-◌}
use lib.ListN.{get_or}
use borrow.Author.Tests.{eq-eqb, ne_eqb}
use Rattle.graph.specs.Sweep.{Noted, Sweep, lead, take_up, back}

module _ (D : List ℕ) (succs : ℕ → ℕ → List ℕ) (m : ℕ) where
  module _ (w c s : ℕ) (x : Noted) where
    pub taken-front : get_or x.marks s 0 ≡ suc c → take_up D succs m w c s x ≡ lead D succs m w s x
    unfolding take_up
    taken-front e = rw (eq-eqb (get_or x.marks s 0) (suc c) e)

    pub taken-other : (get_or x.marks s 0 ≡ suc c → ⊥) → take_up D succs m w c s x ≡ x
    unfolding take_up
    taken-other n = rw (ne_eqb (get_or x.marks s 0) (suc c) n)

  -- r of the queue are left then; s is the last of them, with the word d, and the one before it has the word e
  module _ (q : List ℕ) (y : Sweep) (r s d e : ℕ) (er : r ≡ y.rest - 1) (es : s ≡ get_or q r 0) (ed : d ≡ get_or D s 0) (ee : e ≡ get_or D (get_or q (r - 1) 0) 0) (n : Noted) (is : n ≡ take_up D succs m (d - 1) y.chosen s y.noted) where
    pub back-same : e ≡ d → record { rest = r; chosen = y.chosen; noted = n } ≡ back D succs m q y
    unfolding back
    back-same h = rw (← er, ← es, ← ed, ← ee, eq-eqb e d h, ← is)

    pub back-other : (e ≡ d → ⊥) → record { rest = r; chosen = n.line; noted = record { line = m; marks = n.marks } } ≡ back D succs m q y
    unfolding back
    back-other h = rw (← er, ← es, ← ed, ← ee, ne_eqb e d h, ← is)
