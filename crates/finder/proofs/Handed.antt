-- What the exit of a `?` says where an output can be too small: the refusal that came is handed on.
use Rattle.std.specs.Prelude.{◌≡◌, Result, Err, IsErrAnd}
use Rattle.std.proofs.Common.{refl}
use Rattle.std.proofs.lemmas.Result.{err_from_is_err_and}
use Rattle.refusals.specs.declared.Refusal.{Refusal}
use Rattle.refusals.specs.declared.OutputError.{OutputError}
use Rattle.refusals.specs.declared.OutputError.TheVariants as Why

pub output-handed : {A : Type 0} (r : Result A OutputError) (e : Refusal) → IsErrAnd r (λ y. y ≡ Why.Refused e) → r ≡ Err (Why.Refused e)
output-handed r e h = let p = err_from_is_err_and r h in rw (p.1, p.2) refl
