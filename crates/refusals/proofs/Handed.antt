-- What the exit of a `?` says: the refusal that came is handed on.
use Rattle.std.specs.Prelude.{◌≡◌, Result, IsErrAnd}
use Rattle.std.proofs.Common.{refl}
use Rattle.std.proofs.lemmas.Result.{err_from_is_err_and}
use Rattle.meaning.specs.Outcome.{refused, refusal}
use Rattle.refusals.specs.Refusal.{number, outcome, reply}
use Rattle.refusals.specs.declared.Refusal.{Refusal}

pub handed : {A : Type 0} (r : Result A Refusal) (e : Refusal) → IsErrAnd r (λ y. y ≡ e) → outcome r ≡ refused (number e)
handed r e h = let p = err_from_is_err_and r h in rw (p.1, p.2) refl

pub reply-handed : {A : Type 0} (r : Result A Refusal) (e : Refusal) → IsErrAnd r (λ y. y ≡ e) → reply r ≡ refusal (number e) 0
reply-handed r e h = let p = err_from_is_err_and r h in rw (p.1, p.2) refl
