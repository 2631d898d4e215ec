-- What a command begins with, from what the patterns after it begin with. Assumes nothing.
use mathlib.Core.Path.{◌≡◌, sym, ◌∙◌, subst}
use mathlib.Core.Bool.{true, cond, ◌||◌}
use mathlib.Core.List.{List, []}
use Prim.Native.Nat.{ℕ, suc, ◌+◌, ◌*◌, ◌<◌, ◌≤◌, ◌^◌, ◌%◌}
use native.Mathlib.Nat.{mod-eq_of_lt, one-mul, zero-mul}
use native.Mathlib.Numerals.{add-one}
use native.Mathlib.Omega.{arith}
use lib.Bits.{bit_or}
use lib.Pow.{pow-lt}
use borrow.Author.Tests.{eq-eqb}
use Rattle.meaning.specs.Pattern.{Pattern, nothing, either, keep, counted, unfolded, around, joined, Part}
use Rattle.automaton.specs.Automaton.{heads, nullable, enter}
use Rattle.positions.specs.Masks.{Marks, marks-none, marks-append, marks-when}
use Rattle.compiler.specs.declared.Begin.{Begin}
use Rattle.compiler.specs.Compiling.{Begins}

-- what `1 << k` is, below the width
pub shl_one : (k : ℕ) → k < 64 → (1 * 2 ^ k) % 18446744073709551616 ≡ 2 ^ k
shl_one k h = rw one-mul (mod-eq_of_lt (pow-lt {j = 64} h))

-- ---- which tree a command is

pub around-keep : {code : ℕ} (kind slot : ℕ) (p : Pattern) → code ≡ 0x27 → around code kind slot p ≡ keep kind slot p
around-keep kind slot p e = rw e

pub around-counted : {code : ℕ} (low high : ℕ) (p : Pattern) → code ≡ 0x2A → around code low high p ≡ counted low high p
around-counted low high p e = rw e

pub joined-either : {code : ℕ} (p q : Pattern) → code ≡ 0x24 → joined code p q ≡ either p q
joined-either p q e = rw (eq-eqb _ _ e)

-- ---- the same of an equal pattern, an equal part, an equal position

pub begins-as : {x y : Pattern} {b next : ℕ} {r : Begin} → y ≡ x → Begins x b next r → Begins y b next r
begins-as {b = b} {next = next} {r = r} e h = subst (λ z. Begins z b next r) (sym e) h

pub begins-part : {x y : Part} {b : ℕ} {r : Begin} → y ≡ x → Begins y.tree b y.next r → Begins x.tree b x.next r
begins-part {b = b} {r = r} e h = subst (λ z. Begins z.tree b z.next r) e h

pub begins-suc : {x : Pattern} {b next : ℕ} {r : Begin} → Begins x (b + 1) next r → Begins x (suc b) next r
begins-suc {x} {b} {next} {r} h = subst (λ i. Begins x i next r) (add-one b) h

pub begins-second : (x : Pattern) (b : ℕ) {y : Pattern} {next : ℕ} {r : Begin} → Begins y (b + 1 + unfolded x) next r → Begins y (suc b + unfolded x) next r
begins-second x b {y} {next} {r} h = subst (λ i. Begins y (i + unfolded x) next r) (add-one b) h

-- ---- the commands

pub nothing-begins : (b : ℕ) {next : ℕ} {r : Begin} → r.next ≡ next → r.after ≡ b + 1 → r.heads ≡ 0 → r.nullable ≡ true → Begins nothing b next r
nothing-begins b n a h e = record { next-is = n; after_is = a; heads-are = subst (λ m. Marks m []) (sym h) marks-none; nullable-is = e }

-- and so begins what may come no time
pub skipped-begins : (x : Pattern) {low high b next : ℕ} {r : Begin} → high ≡ 0 → low ≤ high → Begins nothing b next r → Begins (counted low high x) b next r
skipped-begins x {low} {high} {b} {next} {r} e l h =
    let none : low ≡ 0 = omega (arith, e, l) in
    rw (e, none) (record { next-is = h.next-is; after_is = omega (arith, h.after_is, zero-mul (unfolded x)); heads-are = h.heads-are; nullable-is = h.nullable-is })

module _ {x y : Pattern} {b n m : ℕ} {p q r : Begin} (h : Begins x (b + 1) n p) (k : Begins y (b + 1 + unfolded x) m q) (n-is : r.next ≡ q.next) (a-is : r.after ≡ q.after) where
  pub either-begins : r.heads ≡ bit_or p.heads q.heads → r.nullable ≡ (p.nullable || q.nullable) → Begins (either x y) b m r
  either-begins hs e = record {
    next-is = n-is ∙ k.next-is;
    after_is = omega (arith, a-is, k.after_is);
    heads-are = subst (λ i. Marks i (heads (either x y) b)) (sym hs) (marks-append (begins-suc h).heads-are (begins-second x b k).heads-are);
    nullable-is = e ∙ (λ i. h.nullable-is i || k.nullable-is i);
  }

-- ---- what comes next

pub enter-marked : {x : Pattern} {b next after : ℕ} {K : List ℕ} {p : Begin} → Begins x b next p → Marks after K
    → Marks (cond p.nullable (bit_or p.heads after) p.heads) (enter x b K)
enter-marked {x} {b} {after = after} {K} {p} h m =
    subst (λ e. Marks (cond e (bit_or p.heads after) p.heads) (enter x b K)) (sym h.nullable-is) (marks-when h.heads-are m (nullable x))
