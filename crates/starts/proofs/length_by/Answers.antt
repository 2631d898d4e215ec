-- `starts::length_by`: one less, or the mark where nothing can be taken off.
use Rattle.std.proofs.Common.{◌≡◌, ℕ, ◌-◌, ◌≤◌, ◌∙◌, Option, Some, None, unwrap_or, SomeIff, refl, arith}
use Prim.Native.Nat.{zero, suc}
use Rattle.starts.specs.Promise.{no_length}
use Rattle.starts.specs.Lengths.{length_by}
use Rattle.starts.proofs.length_by.Goals as goal

less_one : (o : Option ℕ) (word : ℕ) → SomeIff o (1 ≤ word) (word - 1) → unwrap_or o no_length ≡ length_by word
unfolding length_by
less_one None zero is = refl
less_one None (suc n) is = absurd (is (omega arith))
less_one (Some x) zero is = absurd (omega (arith, is.0))
less_one (Some x) (suc n) is = omega (arith, is.1)

pub returns : goal.returns
returns c = c.unwrap_or.ensures ∙ less_one _ c.args.word c.checked_sub.ensures
