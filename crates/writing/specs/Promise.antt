-- What beginning a record and adding a line promise: the record's new length, or the documents' numbers of the refusal.
-- `write_reply r ≡ told (begin_of …)` and `write_reply r ≡ told (add_of …)`; the buffer is `begin_after` and `add_after` of `meaning`.
use Rattle.std.specs.Prelude.{ℕ, Result}
use Rattle.meaning.specs.Outcome.{Reply}
use Rattle.refusals.specs.declared.Refusal.{Refusal}
use Rattle.refusals.specs.Refusal.{reply}

abbrev pub write_reply : Result ℕ Refusal → Reply ℕ
write_reply r = reply r
