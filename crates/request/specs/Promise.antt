-- What asking for the words promises: document 01's number and values.
-- `words_reply r ≡ told (words_of day pattern)` is the promise of the open function `words_needed`.
use Rattle.std.specs.Prelude.{ℕ, Result}
use Rattle.meaning.specs.Outcome.{Reply}
use Rattle.refusals.specs.Refusal.{reply}
use Rattle.refusals.specs.declared.Refusal.{Refusal}

abbrev pub words_reply : Result ℕ Refusal → Reply ℕ
words_reply r = reply r
