-- What a command that passed questions 8 to 13 and 24 tells: `command-passed`, and what follows from it.
-- Laws of meaning's definitions, which the reader's proofs use; nothing of the code is in them. Assumes nothing.
use Rattle.std.specs.Prelude.{◌≡◌, refl, Bool, true, false, cond, not, ◌&&◌, ◌||◌, List, ◌⊎◌, ℕ, zero, suc, ◌+◌, ◌-◌, ◌<◌, ◌≤◌, ltb, leb, length, get_or, set}
use Rattle.std.proofs.Common.{sym, ◌∙◌, ap, subst, inl, inr, arith, ltb-true, leb-true, eqb-true, ltb-false, le-ltb}
use Rattle.std.proofs.Math.Option.{Option, none, some}
use Rattle.meaning.specs.Outcome.{Outcome, refused, passed, ask, and_then}
use Rattle.meaning.specs.Record.{byte, kind_allowed}
use Rattle.meaning.specs.Pattern.{Shape, Command, Outside, table, shape_of, is_keep, is_counted, known, operand, operands_allowed, counts_allowed, slot_known, keep_fits, command_with, command_at, inside}

-- ---- a walk that passed

pub passed-same : {A : Type 0} (a b : A) → ◌≡◌ {A = Outcome A} (passed a) (passed b) → a ≡ b
passed-same a b e = cc

pub not-passed : {A : Type 0} (number : ℕ) (a : A) → ◌≡◌ {A = Outcome A} (refused number) (passed a) → ⊥
not-passed number a e = let z : ◌≡◌ {A = ℕ} 0 1 = cc in omega arith

pub ask-passed : {A : Type 0} (b : Bool) (number : ℕ) (rest : Outcome A) (a : A) → ask b number rest ≡ passed a → (b ≡ true) × (rest ≡ passed a)
ask-passed true number rest a e = (refl, e)
ask-passed false number rest a e = absurd (not-passed number a e)

pub and-then-passed : {A B : Type 0} (o : Outcome A) (rest : A → Outcome B) (b : B) → and_then o rest ≡ passed b → (a : A) × (o ≡ passed a) × (rest a ≡ passed b)
and-then-passed (refused number) rest b e = absurd (not-passed number b e)
and-then-passed (passed a) rest b e = (a, refl, e)

known-passed : {A : Type 0} (x : Option Shape) (rest : Shape → Outcome A) (a : A) → known x rest ≡ passed a → (row : Shape) × (x ≡ some row) × (rest row ≡ passed a)
known-passed none rest a e = absurd (not-passed 8 a e)
known-passed (some row) rest a e = (row, refl, e)

-- ---- one command

-- each question of a command, answered yes, and the command itself
pub record Passed (s : List ℕ) (at before : ℕ) (o : Outside) (c : Command) : Type 0 where
  pub command-is : command_at s at before o ≡ passed c
  pub row : Shape
  pub there : at < length s
  pub shaped : shape_of (byte s at) ≡ some row
  pub few : before < 63
  pub whole : row.operands ≤ length s - (at + 1)
  pub allowed : operands_allowed (byte s at) row.operands (operand s at row.operands 0) (operand s at row.operands 1) ≡ true
  pub counts : counts_allowed (byte s at) (operand s at row.operands 0) (operand s at row.operands 1) ≡ true
  pub slot-known : slot_known (byte s at) (operand s at row.operands 1) o.kept ≡ true
  pub keep-fits : keep_fits (byte s at) o.depth ≡ true
  pub is : command_with s at row ≡ c

pub command-passed : (s : List ℕ) (at before : ℕ) (o : Outside) (c : Command) → command_at s at before o ≡ passed c → Passed s at before o c
unfolding command_at
command-passed s at before o c e =
    let q8 = ask-passed (ltb at (length s)) 8 _ c e in
    let found = known-passed (shape_of (byte s at)) _ c q8.1 in
    let row = found.0 in
    let made = command_with s at row in
    let q9 = ask-passed (ltb before 63) 9 _ c found.2 in
    let q10 = ask-passed (leb row.operands (length s - (at + 1))) 10 _ c q9.1 in
    let q11 = ask-passed (operands_allowed made.code row.operands made.first made.second) 11 _ c q10.1 in
    let q24 = ask-passed (counts_allowed made.code made.first made.second) 24 _ c q11.1 in
    let q12 = ask-passed (slot_known made.code made.second o.kept) 12 _ c q24.1 in
    let q13 = ask-passed (keep_fits made.code o.depth) 13 _ c q12.1 in
    record {
      command-is = e;
      row = row;
      there = ltb-true at (length s) q8.0;
      shaped = found.1;
      few = ltb-true before 63 q9.0;
      whole = leb-true row.operands (length s - (at + 1)) q10.0;
      allowed = q11.0;
      counts = q24.0;
      slot-known = q12.0;
      keep-fits = q13.0;
      is = passed-same _ c q13.1;
    }

-- past the last byte there is no command
pub command-none : (s : List ℕ) (at before : ℕ) (o : Outside) → length s ≤ at → command_at s at before o ≡ refused 8
unfolding command_at
command-none s at before o h = rw (le-ltb at (length s) h)

-- ---- tests of a byte

false-true : ◌≡◌ {A = Bool} false true → ⊥
false-true e = let z : ◌≡◌ {A = ℕ} 0 1 = cc in omega arith

or_right : (a b : Bool) → a ≡ false → (a || b) ≡ true → b ≡ true
or_right false b h e = e
or_right true b h e = absurd (false-true (sym h))

and_left : (a b : Bool) → (a && b) ≡ true → a ≡ true
and_left true b e = refl
and_left false b e = e

and_right : (a b : Bool) → (a && b) ≡ true → b ≡ true
and_right true b e = e
and_right false b e = absurd (false-true e)

-- a test that 2A does not pass is passed only by bytes that are not counted: `is_test` and `is_keep` are such
pub uncounted : (f : ℕ → Bool) → f 0x2A ≡ false → (b : ℕ) → f b ≡ true → is_counted b ≡ false
uncounted f e b h = by_code (is_counted b) refl
  where
    by_code : (t : Bool) → is_counted b ≡ t → t ≡ false
    by_code false k = refl
    by_code true k = absurd (false-true (sym e ∙ (ap f (sym (eqb-true b 0x2A k)) ∙ h)))

-- ---- what follows

-- a kind that passed question 11, or the 0 of a command without one, is at most 15, and a slot below 4
kind-small : (t : Bool) (x : ℕ) → (not t || kind_allowed (cond t x 0)) ≡ true → cond t x 0 ≤ 15
kind-small true x e = leb-true x 15 (and_right (leb 1 x) (leb x 15) e)
kind-small false x e = omega arith

slot_small : (t : Bool) (x : ℕ) → (not t || ltb (cond t x 0) 4) ≡ true → cond t x 0 < 4
slot_small true x e = ltb-true x 4 e
slot_small false x e = omega arith

-- the operands of a command with w of them that is not counted
pub operands-small : (s : List ℕ) (at b w : ℕ) → is_counted b ≡ false → operands_allowed b w (operand s at w 0) (operand s at w 1) ≡ true → (operand s at w 0 ≤ 15) × (operand s at w 1 < 4)
operands-small s at b w h e =
    let kind = not (ltb 0 w) || kind_allowed (operand s at w 0) in
    let slot = not (ltb 1 w) || ltb (operand s at w 1) 4 in
    let both = or_right (is_counted b) (kind && slot) h e in
    (kind-small (ltb 0 w) (byte s (at + 1 + 0)) (and_left kind slot both), slot_small (ltb 1 w) (byte s (at + 1 + 1)) (and_right kind slot both))

-- the counts of a command that passed question 24
counts-small : (t : Bool) (low high : ℕ) → (not t || (leb low high && leb high 20)) ≡ true → t ≡ true → (low ≤ high) × (high ≤ 20)
counts-small false low high e h = absurd (false-true h)
counts-small true low high e h = (leb-true low high (and_left (leb low high) (leb high 20) e), leb-true high 20 (and_right (leb low high) (leb high 20) e))

-- inside a command it is at most three keeps deep
depth_small : (t : Bool) (o : Outside) (kept : List ℕ) → (not t || ltb o.depth 3) ≡ true → o.depth ≤ 3 → (cond t (record { kept = kept; given = o.given; depth = o.depth + 1 }) o).depth ≤ 3
depth_small true o kept e h = omega (arith, ltb-true o.depth 3 e)
depth_small false o kept e h = h

module _ {s : List ℕ} {at before : ℕ} {o : Outside} {c : Command} (p : Passed s at before o c) where
  pub next-is : c.next ≡ at + 1 + p.row.operands
  next-is = sym (ap (λ d. d.next) p.is)

  pub next-later : at < c.next
  next-later = omega (arith, next-is)

  pub next-inside : c.next ≤ length s
  next-inside = omega (arith, next-is, p.there, p.whole)

  pub code_is : byte s at ≡ c.code
  code_is = ap (λ d. d.code) p.is

  pub first-is : operand s at p.row.operands 0 ≡ c.first
  first-is = ap (λ d. d.first) p.is

  pub second_is : operand s at p.row.operands 1 ≡ c.second
  second_is = ap (λ d. d.second) p.is

  -- where the operands are a kind and a slot
  module _ (kind-and-slot : is_counted c.code ≡ false) where
    small : (operand s at p.row.operands 0 ≤ 15) × (operand s at p.row.operands 1 < 4)
    small = operands-small s at (byte s at) p.row.operands (ap is_counted code_is ∙ kind-and-slot) p.allowed

    pub kind-below : c.first ≤ 15
    kind-below = omega (arith, first-is, small.0)

    pub slot-below : c.second < 4
    slot-below = omega (arith, second_is, small.1)

  -- so it is of a keep
  pub keep-slot : is_keep c.code ≡ true → c.second < 4
  keep-slot e = slot-below (uncounted (λ b. is_keep b) refl c.code e)

  -- where they are counts
  pub counts-below : is_counted c.code ≡ true → (c.first ≤ c.second) × (c.second ≤ 20)
  counts-below e =
      let low = operand s at p.row.operands 0 in
      let high = operand s at p.row.operands 1 in
      let few : (low ≤ high) × (high ≤ 20) = counts-small (is_counted (byte s at)) low high p.counts (ap is_counted code_is ∙ e) in
      (omega (arith, first-is, second_is, few.0), omega (arith, second_is, few.1))

  pub inside-small : o.depth ≤ 3 → (inside c.code c.second o).depth ≤ 3
  inside-small h = rw (← code_is) (depth_small (is_keep (byte s at)) o (set o.kept c.second 1) p.keep-fits h)

-- ---- a command with one pattern after it is repeat, keep or counted

abbrev pub OneOf : ℕ → Type 0
OneOf b = (b ≡ 0x26) ⊎ ((b ≡ 0x27) ⊎ (b ≡ 0x2A))

abbrev patterns_of : Option Shape → ℕ
patterns_of none = 3
patterns_of (some row) = row.patterns

row_one : (i : ℕ) → patterns_of (get_or table i none) ≡ 1 → (i ≡ 6) ⊎ ((i ≡ 7) ⊎ (i ≡ 10))
row_one zero h = absurd (omega (arith, h))
row_one (suc zero) h = absurd (omega (arith, h))
row_one (suc (suc zero)) h = absurd (omega (arith, h))
row_one (suc (suc (suc zero))) h = absurd (omega (arith, h))
row_one (suc (suc (suc (suc zero)))) h = absurd (omega (arith, h))
row_one (suc (suc (suc (suc (suc zero))))) h = absurd (omega (arith, h))
row_one (suc (suc (suc (suc (suc (suc zero)))))) h = inl refl
row_one (suc (suc (suc (suc (suc (suc (suc zero))))))) h = inr (inl refl)
row_one (suc (suc (suc (suc (suc (suc (suc (suc zero)))))))) h = absurd (omega (arith, h))
row_one (suc (suc (suc (suc (suc (suc (suc (suc (suc zero))))))))) h = absurd (omega (arith, h))
row_one (suc (suc (suc (suc (suc (suc (suc (suc (suc (suc zero)))))))))) h = inr (inr refl)
row_one (suc (suc (suc (suc (suc (suc (suc (suc (suc (suc (suc n))))))))))) h = absurd (omega (arith, h))

from_row : (t : Bool) (b : ℕ) → ltb b 0x20 ≡ t → patterns_of (cond t none (get_or table (b - 0x20) none)) ≡ 1 → OneOf b
from_row true b e h = absurd (omega (arith, h))
from_row false b e h = numbered (row_one (b - 0x20) h)
  where
    numbered : (b - 0x20 ≡ 6) ⊎ ((b - 0x20 ≡ 7) ⊎ (b - 0x20 ≡ 10)) → OneOf b
    numbered (inl k) = inl (omega (arith, k, ltb-false b 0x20 e))
    numbered (inr (inl k)) = inr (inl (omega (arith, k, ltb-false b 0x20 e)))
    numbered (inr (inr k)) = inr (inr (omega (arith, k, ltb-false b 0x20 e)))

pub one-pattern : {s : List ℕ} {at before : ℕ} {o : Outside} {c : Command} → Passed s at before o c → c.patterns ≡ 1 → OneOf c.code
unfolding shape_of
one-pattern {s} {at} p one =
    let count : patterns_of (shape_of (byte s at)) ≡ 1 = ap patterns_of p.shaped ∙ (ap (λ d. d.patterns) p.is ∙ one) in
    subst OneOf (code_is p) (from_row (ltb (byte s at) 0x20) (byte s at) refl count)
