-- The kinds that a pattern names are at least 1, question 11 asks for it: `read-kinds`. So each letter of a word that it accepts has such a
-- kind: `word-kinds`. A struck line, of kind 0, is then in no chain that a pattern accepts, which `Masked` uses. Laws of meaning's
-- definitions. Assumes nothing.
use Rattle.std.proofs.Math.Path.{◌≡◌, refl, sym, ap}
use Rattle.std.proofs.Common.{◌∙◌, subst, arith, ltb-false, leb-true, lt-ltb, ne_eqb}
use Rattle.std.specs.Prelude.{Bool, true, false, cond, not, ◌&&◌, ◌||◌, List, [], ◌∷◌, ◌++◌, ◌⊎◌, ℕ, zero, suc, ◌+◌, ◌-◌, ◌<◌, ◌≤◌, ltb, leb, eqb, length, get_or}
use Rattle.std.proofs.lemmas.Bool.{false≢true}
use Rattle.std.proofs.Math.Logic.{inl, inr}
use Rattle.std.proofs.Math.Option.{Option, none, some, some-injective}
use Rattle.meaning.specs.Outcome.{passed}
use Rattle.meaning.specs.Record.{byte, kind_allowed}
use Rattle.meaning.specs.Pattern.{Rule, Pattern, nothing, line, test, either, then, repeat, keep, counted, commands, unfolded, Shape, table, shape_of, Command, Outside, is_counted, operand, operands_allowed, test_rule, around, inside, Part, whole, read_at, outermost, read_pattern}
use Rattle.meaning.specs.Language.{Word, Valuation, bind, Star, stop, more, Power, L}
use Rattle.pattern.specs.Passed.{passed-same, not-passed, ask-passed, and-then-passed, Passed, command-passed, code_is, first-is, OneOf, one-pattern}
use Rattle.pattern.specs.Bound.{Reader}

-- every kind that a pattern names is at least 1
abbrev pub Kinds : Pattern → Type 0
Kinds nothing = Unit {0}
Kinds (line k) = 1 ≤ k
Kinds (test r k s) = 1 ≤ k
Kinds (either p q) = Kinds p × Kinds q
Kinds (then p q) = Kinds p × Kinds q
Kinds (repeat p) = Kinds p
Kinds (keep k s p) = (1 ≤ k) × Kinds p
Kinds (counted low high p) = Kinds p

-- every letter's kind is
abbrev pub AllKinds : Word → Type 0
AllKinds [] = Unit {0}
AllKinds (a ∷ w) = (1 ≤ a.kind) × AllKinds w

-- ---- which commands have a kind

-- a row of the table without patterns after it is that of nothing, or has operands and is before the one of counts
abbrev LeafRow : ℕ → Option Shape → Type 0
LeafRow i none = Unit {0}
LeafRow i (some row) = row.patterns ≡ 0 → (i ≡ 0) ⊎ ((i < 10) × (0 < row.operands))

leaf-rows : (i : ℕ) → LeafRow i (get_or table i none)
leaf-rows zero = λ h. inl refl
leaf-rows (suc zero) = λ h. inr (omega arith, omega arith)
leaf-rows (suc (suc zero)) = λ h. inr (omega arith, omega arith)
leaf-rows (suc (suc (suc zero))) = λ h. inr (omega arith, omega arith)
leaf-rows (suc (suc (suc (suc zero)))) = λ h. absurd (omega (arith, h))
leaf-rows (suc (suc (suc (suc (suc zero))))) = λ h. absurd (omega (arith, h))
leaf-rows (suc (suc (suc (suc (suc (suc zero)))))) = λ h. absurd (omega (arith, h))
leaf-rows (suc (suc (suc (suc (suc (suc (suc zero))))))) = λ h. absurd (omega (arith, h))
leaf-rows (suc (suc (suc (suc (suc (suc (suc (suc zero)))))))) = λ h. inr (omega arith, omega arith)
leaf-rows (suc (suc (suc (suc (suc (suc (suc (suc (suc zero))))))))) = λ h. inr (omega arith, omega arith)
leaf-rows (suc (suc (suc (suc (suc (suc (suc (suc (suc (suc zero)))))))))) = λ h. absurd (omega (arith, h))
leaf-rows (suc (suc (suc (suc (suc (suc (suc (suc (suc (suc (suc n))))))))))) = tt

leaf-row : (t : Bool) (b : ℕ) → ltb b 0x20 ≡ t → (row : Shape) → cond t none (get_or table (b - 0x20) none) ≡ some row → row.patterns ≡ 0 → (b ≡ 0x20) ⊎ ((b < 0x2A) × (0 < row.operands))
leaf-row true b e row h none_after = let z : ◌≡◌ {A = ℕ} 0 1 = cc in absurd (omega arith)
leaf-row false b e row h none_after = numbered (subst (LeafRow (b - 0x20)) h (leaf-rows (b - 0x20)) none_after)
  where
    numbered : (b - 0x20 ≡ 0) ⊎ ((b - 0x20 < 10) × (0 < row.operands)) → (b ≡ 0x20) ⊎ ((b < 0x2A) × (0 < row.operands))
    numbered (inl k) = inl (omega (arith, k, ltb-false b 0x20 e))
    numbered (inr (k, some-operand)) = inr (omega (arith, k, ltb-false b 0x20 e), some-operand)

-- ---- question 11

kind-passed : (t u k v : Bool) → t ≡ false → u ≡ true → (t || ((not u || k) && v)) ≡ true → k ≡ true
kind-passed true u k v h g e = absurd (false≢true (sym h))
kind-passed false false k v h g e = absurd (false≢true g)
kind-passed false true true v h g e = refl
kind-passed false true false v h g e = e

first-half : (a b : Bool) → (a && b) ≡ true → a ≡ true
first-half true b e = refl
first-half false b e = e

-- a command with operands that are no counts has a kind, and it is at least 1
kind-from-1 : (b w first second : ℕ) → is_counted b ≡ false → 0 < w → operands_allowed b w first second ≡ true → 1 ≤ first
kind-from-1 b w first second no-count some-operand e =
    leb-true 1 first
    (first-half (leb 1 first) (leb first 15)
    (kind-passed (is_counted b) (ltb 0 w) (kind_allowed first) (not (ltb 1 w) || ltb second 4) no-count (lt-ltb 0 w some-operand) e))

module _ {s : List ℕ} {at before : ℕ} {o : Outside} {c : Command} (ok : Passed s at before o c) where
  kind-of : is_counted (byte s at) ≡ false → 0 < ok.row.operands → 1 ≤ c.first
  kind-of no-count some-operand =
      let w = ok.row.operands in
      let least : 1 ≤ operand s at w 0 = kind-from-1 (byte s at) w (operand s at w 0) (operand s at w 1) no-count some-operand ok.allowed in
      omega (arith, first-is ok, least)

  -- a command without patterns after it is nothing, or has a kind
  leaf-kind : c.patterns ≡ 0 → (c.code ≡ 0x20) ⊎ (1 ≤ c.first)
  unfolding shape_of
  leaf-kind none_after = told (leaf-row (ltb (byte s at) 0x20) (byte s at) refl ok.row ok.shaped (ap (λ d. d.patterns) ok.is ∙ none_after))
    where
      told : (byte s at ≡ 0x20) ⊎ ((byte s at < 0x2A) × (0 < ok.row.operands)) → (c.code ≡ 0x20) ⊎ (1 ≤ c.first)
      told (inl e) = inl (sym (code_is ok) ∙ e)
      told (inr (low, some-operand)) = inr (kind-of (ne_eqb (byte s at) 0x2A (λ e. omega (arith, low, e))) some-operand)

  -- a keep has a kind
  keep-kind : c.code ≡ 0x27 → 1 ≤ c.first
  unfolding shape_of
  keep-kind e =
      let is : byte s at ≡ 0x27 = code_is ok ∙ e in
      let row : ◌≡◌ {A = Option Shape} (some (record { operands = 2; patterns = 1 })) (some ok.row) = sym (ap shape_of is) ∙ ok.shaped in
      let two : 2 ≡ ok.row.operands = ap (λ (x : Shape). x.operands) (some-injective _ ok.row row) in
      kind-of (ap is_counted is) (omega (arith, two))

-- ---- the trees of commands

leaf-kinds : (a b : Bool) (r : Rule) (kind slot : ℕ) → (a ≡ true) ⊎ (1 ≤ kind) → Kinds (cond a nothing (cond b (line kind) (test r kind slot)))
leaf-kinds true b r kind slot h = tt
leaf-kinds false true r kind slot (inl e) = absurd (false≢true e)
leaf-kinds false true r kind slot (inr h) = h
leaf-kinds false false r kind slot (inl e) = absurd (false≢true e)
leaf-kinds false false r kind slot (inr h) = h

around-kinds : (b first second : ℕ) (p : Pattern) → OneOf b → (b ≡ 0x27 → 1 ≤ first) → Kinds p → Kinds (around b first second p)
around-kinds b first second p (inl e) h in-it = rw e in-it
around-kinds b first second p (inr (inl e)) h in-it = rw e (h e, in-it)
around-kinds b first second p (inr (inr e)) h in-it = rw e in-it

joined-kinds : (t : Bool) (p q : Pattern) → Kinds p → Kinds q → Kinds (cond t (either p q) (then p q))
joined-kinds true p q one two = (one, two)
joined-kinds false p q one two = (one, two)

-- ---- the reader

module _ (s : List ℕ) (read : Reader) (kinds : (at before : ℕ) (o : Outside) (p : Part) → read at before o ≡ passed p → Kinds p.tree) where
  whole_kinds : {at before : ℕ} {o : Outside} {c : Command} → Passed s at before o c → (n : ℕ) → c.patterns ≡ n → (p : Part) → whole n read c before o ≡ passed p → Kinds p.tree
  whole_kinds {c = c} ok zero e p r =
      subst (λ (x : Part). Kinds x.tree) (passed-same _ p r)
      (leaf-kinds (eqb c.code 0x20) (eqb c.code 0x21) (test_rule c.code) c.first c.second (coded (leaf-kind ok e)))
    where
      coded : (c.code ≡ 0x20) ⊎ (1 ≤ c.first) → (eqb c.code 0x20 ≡ true) ⊎ (1 ≤ c.first)
      coded (inl k) = inl (rw k)
      coded (inr h) = inr h
  whole_kinds {before = before} {o = o} {c = c} ok (suc zero) e p r =
      let parts = and-then-passed (read c.next (before + 1) (inside c.code c.second o)) _ p r in
      let q = parts.0 in
      subst (λ (x : Part). Kinds x.tree) (passed-same _ p parts.2)
      (around-kinds c.code c.first c.second q.tree (one-pattern ok e) (keep-kind ok) (kinds _ _ _ q parts.1))
  whole_kinds {before = before} {o = o} {c = c} ok (suc (suc n)) e p r =
      let parts = and-then-passed (read c.next (before + 1) o) _ p r in
      let q = parts.0 in
      let others = and-then-passed (read q.next (before + 1 + commands q.tree) o) _ p parts.2 in
      let t = others.0 in
      subst (λ (x : Part). Kinds x.tree) (passed-same _ p others.2)
      (joined-kinds (eqb c.code 0x24) q.tree t.tree (kinds _ _ _ q parts.1) (kinds _ _ _ t others.1))

read-at-kinds : (bound : ℕ) (s : List ℕ) (at before : ℕ) (o : Outside) (p : Part) → read_at bound s at before o ≡ passed p → Kinds p.tree
unfolding read_at
read-at-kinds zero s at before o p e = absurd (not-passed 8 p e)
read-at-kinds (suc bound) s at before o p e =
    let parts = and-then-passed _ _ p e in
    let c = parts.0 in
    whole_kinds s (λ a b i. read_at bound s a b i) (λ a b i q. read-at-kinds bound s a b i q) (command-passed s at before o c parts.1) c.patterns refl p parts.2

-- of a pattern that passed all its questions
pub read-kinds : (given s : List ℕ) (p : Pattern) → read_pattern given s ≡ passed p → Kinds p
unfolding read_pattern
read-kinds given s p e =
    let parts = and-then-passed (read_at (suc (length s)) s 0 0 (outermost given)) _ p e in
    let q14 = ask-passed (eqb parts.0.next (length s)) 14 _ p parts.2 in
    let q25 = ask-passed (leb (unfolded parts.0.tree) 63) 25 _ p q14.1 in
    subst Kinds (passed-same _ p q25.1) (read-at-kinds (suc (length s)) s 0 0 (outermost given) parts.0 parts.1)

-- ---- the words

all_append : (u v : Word) → AllKinds u → AllKinds v → AllKinds (u ++ v)
all_append [] v left right = right
all_append (a ∷ u) v (first, left) right = (first, all_append u v left right)

module _ {P : Word → Type 0} (each : (u : Word) → P u → AllKinds u) where
  star-kinds : {w : Word} → Star P w → AllKinds w
  star-kinds (stop e) = rw e tt
  star-kinds (more u v e x others) = rw e (all_append u v (each u x) (star-kinds others))

  power-kinds : (n : ℕ) (w : Word) → Power P n w → AllKinds w
  power-kinds zero w e = rw e tt
  power-kinds (suc n) w (u, v, e, x, others) = rw e (all_append u v (each u x) (power-kinds n v others))

pub word-kinds : (p : Pattern) → Kinds p → (ν : Valuation) (w : Word) → L p ν w → AllKinds w
word-kinds nothing h ν w e = rw e tt
word-kinds (line k) h ν w (a, e, is) = rw e (omega (arith, h, is), tt)
word-kinds (test r k s) h ν w (a, e, is, met) = rw e (omega (arith, h, is), tt)
word-kinds (either p q) (one, two) ν w (inl x) = word-kinds p one ν w x
word-kinds (either p q) (one, two) ν w (inr y) = word-kinds q two ν w y
word-kinds (then p q) (one, two) ν w (u, v, e, x, y) = rw e (all_append u v (word-kinds p one ν u x) (word-kinds q two ν v y))
word-kinds (repeat p) h ν w x = star-kinds (λ u. word-kinds p h ν u) x
word-kinds (keep k s p) (first, h) ν w (a, u, e, is, x) = rw e (omega (arith, first, is), word-kinds p h (bind ν s a.boat) u x)
word-kinds (counted low high p) h ν w (n, l, m, x) = power-kinds (λ u. word-kinds p h ν u) n w x
