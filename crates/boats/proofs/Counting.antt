-- The lines gone over so far: the place of the next one, each line's boat noted and numbered, the boats counted and the earlier lines read.
-- Claimed: `first-noted` (the first equal word among those noted is that of the first line with the boat).
use Rattle.std.specs.Prelude.{◌≡◌, true, List, ℕ, ◌+◌, ◌<◌, ◌≤◌, length, get_or, take}
use Rattle.std.proofs.Common.{sym, ap, ◌∙◌, arith, length-take-le, get_or-take}
use Rattle.std.proofs.Math.Decide.{dec_lt, ℕ_discrete}
use Rattle.meaning.specs.Record.{Boat, Line, agree}
use Rattle.meaning.specs.Writing.{line_at}
use Rattle.meaning.specs.Count.{first_same}
use Rattle.boats.specs.Boats.{BoatIs, as_number}
use Rattle.boats.proofs.Boats.{agree-self, first-le, number-agree}
use Rattle.boats.proofs.Codes.{first-has}
use Rattle.boats.specs.Counting.{NoneBefore, FirstAt, Noted}

module _ {words : List ℕ} {w j : ℕ} (b : NoneBefore words w j) where
  -- the next is w
  pub first-here : get_or words j 0 ≡ w → FirstAt words w j
  first-here is = record { before = b; here = λ less. is }

  -- there is no next
  pub first-none : (j < length words → ⊥) → FirstAt words w j
  first-none end = record { before = b; here = λ less. absurd (end less) }

  -- it is not w either
  pub none-next : j < length words → (get_or words j 0 ≡ w → ⊥) → NoneBefore words w (j + 1)
  none-next h other = record {
    early = omega (arith, h);
    none = λ k less e. elim (ℕ_discrete k j) [
      | yes q ↦ other (ap (λ n. get_or words n 0) (sym q) ∙ e)
      | no n ↦ b.none k (omega (arith, less, n)) e
    ];
  }

module _ (lines : List Line) (i : ℕ) (h : i < length lines) where
  abbrev its : Boat
  its = (line_at lines i).boat

  pub first-early : first_same lines i ≤ i
  first-early = first-le its lines i h (agree-self its)

  -- of the words noted for the earlier lines
  module _ (noted : List ℕ) (room : i ≤ length noted) (words : Noted lines i noted) (w r : ℕ) (is : BoatIs its w) (f : FirstAt (take i noted) w r) where
    early : r ≤ i
    early = omega (arith, f.before.early, length-take-le i noted room)

    word-at : (k : ℕ) → k < i → get_or (take i noted) k 0 ≡ as_number (line_at lines k).boat
    word-at k less = get_or-take i noted k 0 less ∙ (words k less).is

    -- it has the boat, where it is an earlier line
    has-it : r < i → agree its (line_at lines r).boat ≡ true
    has-it less =
        number-agree its (line_at lines r).boat is.small (words r less).small
        (sym is.is ∙ (sym (f.here (omega (arith, less, length-take-le i noted room))) ∙ word-at r less))

    -- and no line before it has
    not-before : first_same lines i < r → ⊥
    not-before less =
        f.before.none (first_same lines i) less
        (word-at (first_same lines i) (omega (arith, less, early))
        ∙ (ap as_number (sym (first-has its lines (omega (arith, first-early, h)))) ∙ sym is.is))

    pub first-noted : r ≡ first_same lines i
    first-noted = elim (dec_lt r i) [
      | yes less ↦ omega (arith, not-before, first-le its lines r (omega (arith, less, h)) (has-it less))
      | no n ↦ omega (arith, n, early, not-before, first-early)
    ]
