-- `states::kept_in` meets its contract: each division by the radix leaves out the lowest entry. Assumes nothing.
use mathlib.Core.Path.{◌≡◌, sym, ap, ◌∙◌}
use Prim.Native.Nat.{ℕ, suc, ◌^◌, ◌/◌, ◌%◌, ◌<◌}
use native.Mathlib.Nat.{pow-zero, pow-suc, div-one, div-div-eq-div-mul, mod-eq_of_lt, mod-lt}
use native.Mathlib.Omega.{arith}
use Rattle.states.proofs.kept_in.Goals as goal

-- one level up is one division more
module _ (R v : ℕ) where
  lowest : v ≡ v / R ^ 0
  lowest = sym (ap (v /◌) (pow-zero R) ∙ div-one v)

  next : (e : ℕ) (w : ℕ) → w ≡ v / R ^ e → w / R ≡ v / R ^ suc e
  next e w is = ap (◌/ R) is ∙ (div-div-eq-div-mul v (R ^ e) R ∙ ap (v /◌) (sym (pow-suc R e)))

-- the entry there, below the radix
entry : (R v e w l : ℕ) → 0 < R → w ≡ v / R ^ e → l ≡ e → (w % R ≡ v / R ^ l % R) × (w % R < R)
entry R v e w l some is at = (ap (◌% R) (is ∙ ap (λ n. v / R ^ n) (sym at)), mod-lt w some)

pub returns-then-stack-radix : goal.returns-then-stack-radix
returns-then-stack-radix c =
    let a = c.args in
    (sym (mod-eq_of_lt c.if-stack-radix.true) ∙ (entry a.radix a.stack 0 a.stack a.level c.requires.0 (lowest a.radix a.stack) c.if-level-eq0.true).0, c.if-stack-radix.true)

pub returns-then-level-eq0 : goal.returns-then-level-eq0
returns-then-level-eq0 c =
    let a = c.args in
    entry a.radix a.stack 0 a.stack a.level c.requires.0 (lowest a.radix a.stack) c.if-level-eq0.true

pub returns-then-level-eq1 : goal.returns-then-level-eq1
returns-then-level-eq1 c =
    let a = c.args in
    let R = a.radix in
    let v = a.stack in
    entry R v 1 (v / R) a.level c.requires.0 (next R v 0 v (lowest R v)) c.if-level-eq1.true

pub returns-then-level-eq2 : goal.returns-then-level-eq2
returns-then-level-eq2 c =
    let a = c.args in
    let R = a.radix in
    let v = a.stack in
    entry R v 2 (v / R / R) a.level c.requires.0 (next R v 1 (v / R) (next R v 0 v (lowest R v))) c.if-level-eq2.true

pub returns : goal.returns
returns c =
    let a = c.args in
    let R = a.radix in
    let v = a.stack in
    let top : a.level ≡ 3 = omega (arith, c.requires.1, c.if-level-eq2.false, c.if-level-eq1.false, c.if-level-eq0.false) in
    entry R v 3 (v / R / R / R) a.level c.requires.0 (next R v 2 (v / R / R) (next R v 1 (v / R) (next R v 0 v (lowest R v)))) top
