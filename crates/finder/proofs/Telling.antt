-- The reply by a chain's length: 19 where the output is too short, and else that it is found. Assumes nothing.
use Rattle.std.specs.Prelude.{◌≡◌, ℕ, ◌<◌, ◌≤◌, Some}
use Rattle.std.proofs.Common.{refl, le-leb}
use Rattle.std.proofs.lemmas.Bool.{lt-leb}
use Rattle.finder.specs.Promise.{found, refusal}
use Rattle.finder.specs.Searching.{told_by}

pub told-long : (n room : ℕ) → room < n → refusal 19 n ≡ told_by (Some n) room
told-long n room h = rw (lt-leb n room h) refl

pub told-fits : (n room : ℕ) → n ≤ room → found n ≡ told_by (Some n) room
told-fits n room h = rw (le-leb n room h) refl
