-- `ways::asks` meets its contract: where no position passes, none has the rule. Assumes nothing.
use Rattle.std.proofs.Common.{rules, tests, arith, refl, ◌≡◌, ℕ, ◌-◌}
use Rattle.std.proofs.lemmas.Iterator.{cases_from_any, YieldsList-from_range}
use Rattle.std.proofs.lemmas.List.FromFn.{length-range_with_len, get_or-range_with_len}
use native.Mathlib.Nat.{zero-add}
use Rattle.positions.specs.Program.{row_at}
use Rattle.ways.proofs.asks.Goals as goal

pub returns : goal.returns
returns c e n less is =
    let x = c.args in
    let all : x.done - 0 ≡ x.done = omega arith in
    let none = rw e at (cases_from_any _ _ _ (λ (k : ℕ). Unit {0}) (λ (k : ℕ). (row_at x.program.now k).rule ≡ x.rule → ⊥) c.any.ensures.ran (YieldsList-from_range 0 x.done x.done refl all) (λ k q r. tt) (λ k q r. search (rules, tests))) in
    (rw (get_or-range_with_len 0 x.done n 0 less, zero-add n) at (none n 0 (omega arith) (rw (length-range_with_len 0 x.done) less))) is
