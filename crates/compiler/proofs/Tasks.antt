-- What stands around the patterns after a command, from what stands around the command. Assumes nothing.
use mathlib.Core.Path.{◌≡◌, refl, sym, ◌∙◌, ap}
use mathlib.Core.Bool.{Bool, true, false, cond}
use mathlib.Core.List.{List, [], ◌∷◌, ◌++◌}
use mathlib.Core.Option.{some}
use Prim.Native.Nat.{ℕ, zero, suc, ◌+◌, ◌<◌}
use native.Mathlib.Omega.{arith}
use lib.Dec.{eqb}
use lib.ListN.{length, get_or, set, length-append}
use lib.Seq.{get_or-set_same, get_or-set_other}
use borrow.Author.Tests.{eqb-true, eqb-false}
use Rattle.automaton.specs.Automaton.{level_of}
use Rattle.automaton.proofs.Scope.{level-inside}
use Rattle.std.specs.Prelude.{Some, None}
use Rattle.std.specs.Prelude.{Option as Maybe}
use Rattle.compiler.specs.Compiling.{level_shown}

module _ (levels : List (Maybe ℕ)) (scope : List ℕ) {depth : ℕ} (slot : ℕ) (long : slot < length levels) (deep : depth ≡ length scope)
    (are : (s : ℕ) → s < 4 → get_or levels s None ≡ level_shown (level_of s scope)) where
  -- one more keep inside: its slot has its level, and other slots are as before
  pub levels-inside : (s : ℕ) → s < 4 → get_or (set levels slot (Some depth)) s None ≡ level_shown (level_of s (scope ++ (slot ∷ [])))
  levels-inside s l = go (eqb s slot) refl ∙ ap level_shown (sym (level-inside s scope slot))
    where
      go : (t : Bool) → eqb s slot ≡ t → get_or (set levels slot (Some depth)) s None ≡ level_shown (cond t (some (length scope)) (level_of s scope))
      go true e = ap (λ i. get_or (set levels slot (Some depth)) i None) (eqb-true s slot e) ∙ (get_or-set_same levels slot (Some depth) None long ∙ ap (λ n. Some n) deep)
      go false e = get_or-set_other levels slot s (Some depth) None (eqb-false s slot e) ∙ are s l

pub depth-inside : (scope : List ℕ) (slot depth : ℕ) → depth ≡ length scope → depth + 1 ≡ length (scope ++ (slot ∷ []))
depth-inside scope slot depth deep = omega (arith, deep, length-append scope (slot ∷ []))

-- outside of every keep
pub no-levels : (s : ℕ) → s < 4 → get_or {A = Maybe ℕ} (None ∷ None ∷ None ∷ None ∷ []) s None ≡ level_shown (level_of s [])
no-levels zero l = refl
no-levels (suc zero) l = refl
no-levels (suc (suc zero)) l = refl
no-levels (suc (suc (suc zero))) l = refl
no-levels (suc (suc (suc (suc n)))) l = refl
