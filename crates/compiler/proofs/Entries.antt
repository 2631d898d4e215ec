-- A pattern's nodes are its first command's and those of the patterns after it, and an entry says a node. Assumes nothing.
use mathlib.Core.Path.{◌≡◌, refl, sym, ap, subst}
use mathlib.Core.Bool.{Bool, true, false, cond}
use mathlib.Core.List.{List, [], ◌∷◌, ◌++◌, append-nil}
use mathlib.Core.Logic.{inl, inr}
use mathlib.Core.Option.{Option, none, some}
use Prim.Native.Nat.{ℕ, zero, suc, ◌+◌, ◌<◌, ◌≤◌}
use native.Mathlib.Omega.{arith}
use lib.Dec.{eqb}
use lib.ListN.{length}
use borrow.Author.Tests.{ne_eqb}
use Rattle.std.specs.Prelude.{Some}
use Rattle.meaning.specs.Pattern.{Rule, Pattern, nothing, line, test, same, other, sister, foreign, either, then, unfolded, test_rule, leaf, joined}
use Rattle.automaton.specs.Automaton.{Node, Test, against, silent, taking, heads, enter, level_of, test_of, compile, compile_counted}
use Rattle.positions.specs.Program.{test_in}
use Rattle.positions.specs.declared.Rule.TheVariants as Asked
use Rattle.positions.specs.Masks.{Marks, marks-none}
use Rattle.automaton.proofs.Scope.{Below, level-below}
use Rattle.compiler.specs.Compiling.{OnePattern, around_of, level_shown, scope_in, after_in, after_first, Says, first_node, asked_rule}
use Rattle.pattern.specs.declared.Command.{Command as Step}
use Rattle.pattern.specs.Reading.{byte_of}
use Rattle.compiler.specs.declared.Entry.{Entry}

-- ---- a pattern's nodes, by its command

pub compile-leaf : (code kind slot b : ℕ) (scope K : List ℕ) → compile (leaf code kind slot) b scope K ≡ first_node (leaf code kind slot) b scope K ∷ []
compile-leaf code kind slot b scope K = go (eqb code 0x20) (eqb code 0x21) (test_rule code)
  where
    go : (t u : Bool) (r : Rule) → let p = cond t nothing (cond u (line kind) (test r kind slot)) in compile p b scope K ≡ first_node p b scope K ∷ []
    go true u r = refl
    go false true r = refl
    go false false r = refl

-- a counted pattern that comes once at most: its one round, and then what comes after the command
one-round : (x : Pattern) (low b : ℕ) (scope K : List ℕ) → low ≤ 1 → compile_counted x low 1 b scope K ≡ compile x b scope K
one-round x zero b scope K h = append-nil (compile x b scope K)
one-round x (suc zero) b scope K h = append-nil (compile x b scope K)
one-round x (suc (suc n)) b scope K h = absurd (omega (arith, h))

pub compile-around : (c : Step) (b : ℕ) (x : Pattern) (scope K : List ℕ) → OnePattern c
    → compile (around_of c x) b scope K ≡ first_node (around_of c x) b scope K ∷ compile x (suc b) (scope_in (byte_of c.op) c.second scope) (after_in (byte_of c.op) (heads x (suc b)) K)
compile-around c b x scope K (inl e) = rw e
compile-around c b x scope K (inr (inl e)) = rw e
compile-around c b x scope K (inr (inr (e, low, one))) = rw (e, one) (ap (silent ∷◌) (one-round x c.first (suc b) scope K low))

pub compile-joined : (code b : ℕ) (x y : Pattern) (scope K : List ℕ)
    → compile (joined code x y) b scope K ≡ silent ∷ (compile x (suc b) scope (after_first code y (suc b + unfolded x) K) ++ compile y (suc b + unfolded x) scope K)
compile-joined code b x y scope K = go (eqb code 0x24)
  where
    go : (t : Bool) → compile (cond t (either x y) (then x y)) b scope K ≡ silent ∷ (compile x (suc b) scope (cond t K (enter y (suc b + unfolded x) K)) ++ compile y (suc b + unfolded x) scope K)
    go true = refl
    go false = refl

-- ---- the first command's node

pub node-test : {code : ℕ} (kind slot b : ℕ) (scope K : List ℕ) → (code ≡ 0x20 → ⊥) → (code ≡ 0x21 → ⊥)
    → first_node (leaf code kind slot) b scope K ≡ taking kind (test_of (test_rule code) (level_of slot scope)) false scope K
node-test {code} kind slot b scope K h k = rw (ne_eqb code 0x20 h, ne_eqb code 0x21 k)

-- ---- tests

against-rule : (t u v : Bool) (j : ℕ)
    → test_in (cond t Asked.Same (cond u Asked.Other (cond v Asked.Sister Asked.Foreign))) j ≡ against (cond t same (cond u other (cond v sister foreign))) j
against-rule true u v j = refl
against-rule false true v j = refl
against-rule false false true j = refl
against-rule false false false j = refl

-- a slot that a keep has
pub level-some : (code : ℕ) (o : Option ℕ) (level : ℕ) → level_shown o ≡ Some level → test_in (asked_rule code) level ≡ test_of (test_rule code) o
level-some code none level e = cc
level-some code (some j) level e = let same : level ≡ j = cc in rw same (against-rule (eqb code 0x22) (eqb code 0x23) (eqb code 0x28) j)

-- the level is below the depth
pub level-fits : (slot : ℕ) (scope : List ℕ) (level : ℕ) → level_shown (level_of slot scope) ≡ Some level → level < length scope
level-fits slot scope level e = go (level_of slot scope) (level-below slot scope) e
  where
    go : (o : Option ℕ) → Below o (length scope) → level_shown o ≡ Some level → level < length scope
    go none h e = absurd (cc)
    go (some j) h e = let same : level ≡ j = cc in omega (arith, h, same)

-- ---- an entry says a node

pub says-as : {x : Entry} {n m : Node} → m ≡ n → Says x n → Says x m
says-as {x} e h = subst (Says x) (sym e) h

-- the entry that takes no letter
pub says-silent : Says (record { row = record { kind = 0; rule = Asked.Never; level = 0; depth = 0; push = false }; follow = 0 }) silent
says-silent = record {
  alike = record { kind = refl; test = refl; push = refl; depth = refl; follow = marks-none.has };
  small = record { kind = omega arith; level = omega arith; depth = omega arith };
}

module _ {x : Entry} {kind : ℕ} {n : Test} (scope : List ℕ) {K : List ℕ} (k : x.row.kind ≡ kind) (low : kind ≤ 15) (t : test_in x.row.rule x.row.level ≡ n)
    (l : x.row.level ≤ x.row.depth) (d : x.row.depth ≡ length scope) (shallow : x.row.depth ≤ 3) (m : Marks x.follow K) where
  pub says-taking : (push : Bool) → x.row.push ≡ push → Says x (taking kind n push scope K)
  says-taking push p = record {
    alike = record { kind = k; test = t; push = p; depth = d; follow = m.has };
    small = record { kind = omega (arith, k, low); level = l; depth = shallow };
  }
