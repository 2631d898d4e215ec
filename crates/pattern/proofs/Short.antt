-- A pattern that passes its questions is short: at most three bytes for each of its commands (`read_short`), so at most 189 (`read-few`).
-- Laws of meaning's definitions. Assumes nothing.
use Rattle.std.specs.Prelude.{◌≡◌, refl, Bool, true, false, cond, List, ℕ, zero, suc, ◌+◌, ◌*◌, ◌-◌, ◌≤◌, ltb, leb, eqb, length, get_or}
use Rattle.std.proofs.Common.{ap, subst, arith, eqb-true}
use Rattle.std.proofs.Math.Option.{Option, none, some}
use Rattle.meaning.specs.Outcome.{passed}
use Rattle.meaning.specs.Record.{byte}
use Rattle.meaning.specs.Pattern.{Pattern, commands, unfolded, Shape, table, shape_of, Command, Outside, command_at, inside, Part, whole, read_at, outermost, read_pattern}
use Rattle.pattern.specs.Passed.{passed-same, not-passed, ask-passed, and-then-passed, Passed, command-passed, next-is, one-pattern}
use Rattle.pattern.specs.Bound.{Reader}
use Rattle.pattern.proofs.Bound.{leaf-counts, around-counts, joined-counts, pattern-small}

-- ---- a command has at most two operands

abbrev operands_of : Option Shape → ℕ
operands_of none = 0
operands_of (some row) = row.operands

row-few : (i : ℕ) → operands_of (get_or table i none) ≤ 2
row-few zero = omega arith
row-few (suc zero) = omega arith
row-few (suc (suc zero)) = omega arith
row-few (suc (suc (suc zero))) = omega arith
row-few (suc (suc (suc (suc zero)))) = omega arith
row-few (suc (suc (suc (suc (suc zero))))) = omega arith
row-few (suc (suc (suc (suc (suc (suc zero)))))) = omega arith
row-few (suc (suc (suc (suc (suc (suc (suc zero))))))) = omega arith
row-few (suc (suc (suc (suc (suc (suc (suc (suc zero)))))))) = omega arith
row-few (suc (suc (suc (suc (suc (suc (suc (suc (suc zero))))))))) = omega arith
row-few (suc (suc (suc (suc (suc (suc (suc (suc (suc (suc zero)))))))))) = omega arith
row-few (suc (suc (suc (suc (suc (suc (suc (suc (suc (suc (suc n))))))))))) = omega arith

shape-few : (b : ℕ) → operands_of (shape_of b) ≤ 2
unfolding shape_of
shape-few b = go (ltb b 0x20)
  where
    go : (t : Bool) → operands_of (cond t none (get_or table (b - 0x20) none)) ≤ 2
    go true = omega arith
    go false = row-few (b - 0x20)

-- so it takes at most three bytes
command-short : {s : List ℕ} {at before : ℕ} {o : Outside} {c : Command} → Passed s at before o c → c.next ≤ at + 3
command-short {s} {at} ok = omega (arith, next-is ok, shape-few (byte s at), ap operands_of ok.shaped)

-- ---- where a pattern ends

-- no more than three bytes for each command past the place where it begins
record Short (at : ℕ) (p : Part) : Type 0 where
  ends : p.next ≤ at + 3 * commands p.tree

module _ (s : List ℕ) (read : Reader) (short : (at before : ℕ) (o : Outside) (p : Part) → read at before o ≡ passed p → Short at p) where
  module _ {at before : ℕ} {o : Outside} {c : Command} (ok : Passed s at before o c) where
    whole-short : (n : ℕ) → c.patterns ≡ n → (p : Part) → whole n read c before o ≡ passed p → Short at p
    whole-short zero e p r =
        let counts = leaf-counts c.code c.first c.second in
        subst (Short at) (passed-same _ p r) (record { ends = omega (arith, command-short ok, counts.commands-is) })
    whole-short (suc zero) e p r =
        let parts = and-then-passed (read c.next (before + 1) (inside c.code c.second o)) _ p r in
        let q = parts.0 in
        let counts = around-counts c.code c.first c.second q.tree (one-pattern ok e) in
        subst (Short at) (passed-same _ p parts.2) (record { ends = omega (arith, command-short ok, (short _ _ _ q parts.1).ends, counts.commands-is) })
    whole-short (suc (suc n)) e p r =
        let parts = and-then-passed (read c.next (before + 1) o) _ p r in
        let q = parts.0 in
        let more = and-then-passed (read q.next (before + 1 + commands q.tree) o) _ p parts.2 in
        let t = more.0 in
        let counts = joined-counts c.code q.tree t.tree in
        subst (Short at) (passed-same _ p more.2)
        (record { ends = omega (arith, command-short ok, (short _ _ _ q parts.1).ends, (short _ _ _ t more.1).ends, counts.commands-is) })

part-short : (bound : ℕ) (s : List ℕ) (at before : ℕ) (o : Outside) (p : Part) → read_at bound s at before o ≡ passed p → Short at p
unfolding read_at
part-short zero s at before o p e = absurd (not-passed 8 p e)
part-short (suc bound) s at before o p e =
    let parts = and-then-passed (command_at s at before o) _ p e in
    let c = parts.0 in
    whole-short s (λ a b i. read_at bound s a b i) (λ a b i q. part-short bound s a b i q) (command-passed s at before o c parts.1) c.patterns refl p parts.2

-- ---- a pattern's bytes

pub read_short : (given pat : List ℕ) (p : Pattern) → read_pattern given pat ≡ passed p → length pat ≤ 3 * commands p
unfolding read_pattern
read_short given pat p e =
    let parts = and-then-passed (read_at (suc (length pat)) pat 0 0 (outermost given)) _ p e in
    let q14 = ask-passed (eqb parts.0.next (length pat)) 14 _ p parts.2 in
    let q25 = ask-passed (leb (unfolded parts.0.tree) 63) 25 _ p q14.1 in
    let short = part-short (suc (length pat)) pat 0 0 (outermost given) parts.0 parts.1 in
    subst (λ (t : Pattern). length pat ≤ 3 * commands t) (passed-same _ p q25.1) (omega (arith, short.ends, eqb-true parts.0.next (length pat) q14.0))

pub read-few : (given pat : List ℕ) (p : Pattern) → read_pattern given pat ≡ passed p → length pat ≤ 189
read-few given pat p e = omega (arith, read_short given pat p e, (pattern-small given pat p e).few)
