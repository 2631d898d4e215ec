-- `compiler::bit`: a shift of 1 by less than the width is a power of two.
use Rattle.std.proofs.Common.{ℕ, [], ◌∷◌, sym, subst}
use Rattle.positions.specs.Masks.{Marks, marks-one}
use Rattle.compiler.proofs.Beginnings.{shl_one}
use Rattle.compiler.proofs.bit.Goals as goal

pub returns : goal.returns
returns c = subst (λ (m : ℕ). Marks m (c.args.k ∷ [])) (sym (shl_one c.args.k c.requires)) (marks-one c.args.k c.requires)
