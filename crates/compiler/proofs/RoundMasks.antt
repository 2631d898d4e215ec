-- The masks of a counted pattern's rounds: of the positions that take their first letters, and of what comes next where they stand.
-- Assumes nothing.
use mathlib.Core.Path.{◌≡◌, sym, ◌∙◌, ap, subst}
use mathlib.Core.Bool.{Bool, cond, ◌||◌}
use mathlib.Core.List.{List}
use Prim.Native.Nat.{ℕ, zero, suc, ◌+◌, ◌*◌, ◌≤◌, ◌^◌, ◌%◌}
use native.Mathlib.Nat.{suc-mul}
use native.Mathlib.Numerals.{add-one}
use native.Mathlib.Omega.{arith}
use lib.Bits.{bit_or}
use lib.Dec.{eqb}
use Rattle.meaning.specs.Pattern.{Pattern, counted, unfolded}
use Rattle.automaton.specs.Automaton.{nullable, null_rounds, before, heads_counted, enter_counted}
use Rattle.automaton.proofs.Rounds.{null-rounds, rounds-low, rounds-moved}
use Rattle.positions.specs.Masks.{Marks, marks-moved, marks-when}
use Rattle.compiler.specs.declared.Begin.{Begin}
use Rattle.compiler.specs.declared.Round.{Round}
use Rattle.compiler.specs.Compiling.{Begins, RoundOf, HeadsOf}

-- a mask as a shift by w moves it
abbrev pub shifted : ℕ → ℕ → ℕ
shifted m w = (m * 2 ^ w) % 18446744073709551616

module _ {x : Pattern} {b : ℕ} {r : Round} (o : RoundOf x b r) where
  -- the heads of n rounds, if they stand after the round that they were told at
  pub later-marked : (n : ℕ) {m : ℕ} → b + suc n * unfolded x ≤ 63 → Marks m (heads_counted x n b) → Marks (shifted m r.width) (heads_counted x n (b + unfolded x))
  later-marked n {m} fits h =
      subst (λ d. Marks (shifted m d) (heads_counted x n (b + unfolded x))) (sym o.width_is)
      (subst (Marks (shifted m (unfolded x))) (sym (rounds-moved x (nullable x) n b (unfolded x)))
      (marks-moved m (unfolded x) (heads_counted x n b) h (λ k i. omega (arith, (rounds-low x (nullable x) n b k i).1, fits, suc-mul n (unfolded x)))))

  -- one round before them
  pub more-marked : (n : ℕ) {later : ℕ} → b + suc n * unfolded x ≤ 63 → Marks later (heads_counted x n b)
      → Marks (cond r.nullable (bit_or r.heads (shifted later r.width)) r.heads) (heads_counted x (suc n) b)
  more-marked n {later} fits h =
      subst (λ e. Marks (cond e (bit_or r.heads (shifted later r.width)) r.heads) (heads_counted x (suc n) b)) (sym o.nullable-is)
      (marks-when o.heads-are (later-marked n fits h) (nullable x))

  before-low : (m n : ℕ) → m ≤ suc n → before m ≤ n
  before-low zero n h = omega arith
  before-low (suc m) n h = omega (arith, h)

  -- what comes next after a round: the heads of the n after it, and K where they may end
  pub after-marked : (m n : ℕ) {heads after : ℕ} {K : List ℕ} (t : Bool) → t ≡ (eqb (before m) 0 || r.nullable) → m ≤ suc n → b + suc n * unfolded x ≤ 63
      → Marks heads (heads_counted x n b) → Marks after K
      → Marks (cond t (bit_or (shifted heads r.width) after) (shifted heads r.width)) (enter_counted x (before m) n (b + unfolded x) K)
  after-marked m n {heads} {after} {K} t e l fits h k =
      let ends : null_rounds (nullable x) (before m) n ≡ t = null-rounds (nullable x) (before m) n (before-low m n l) ∙ (ap (eqb (before m) 0 ||◌) (sym o.nullable-is) ∙ sym e) in
      subst (λ u. Marks (cond u (bit_or (shifted heads r.width) after) (shifted heads r.width)) (enter_counted x (before m) n (b + unfolded x) K)) ends
      (marks-when (later-marked n fits h) k (null_rounds (nullable x) (before m) n))

-- what a counted pattern begins with
module _ {x : Pattern} {b next low high : ℕ} {p r : Begin} {round : Round} (h : Begins x (b + 1) next p) (o : RoundOf x (b + 1) round) where
  pub counted-begins : {n m : ℕ} → n ≡ high → m ≡ low → low ≤ high → b + unfolded (counted low high x) ≤ 63 → r.next ≡ p.next → r.after ≡ b + 1 + n * round.width
      → HeadsOf round n r.heads → r.nullable ≡ (eqb m 0 || p.nullable) → Begins (counted low high x) b next r
  counted-begins {n} count least l fits place a hs e = record {
    next-is = place ∙ h.next-is;
    after_is = omega (arith, a, ap (n *◌) o.width_is, ap (◌* unfolded x) count);
    heads-are = subst (λ i. Marks r.heads (heads_counted x high i)) (add-one b) ((rw count at hs) x (b + 1) o (omega (arith, fits)));
    nullable-is = (rw least at e) ∙ (ap (eqb low 0 ||◌) h.nullable-is ∙ sym (null-rounds (nullable x) low high l));
  }
