-- What reading a pattern promises: the documents' values of a pattern that passes, and the number of the question that refuses another.
-- `pattern_reply r ≡ told (counts_of (read_pattern none_given s))` and `Small r` are the promise of the open function `read_pattern`.
use Rattle.std.specs.Prelude.{ℕ, ◌≤◌, Result, IfOk}
use Rattle.meaning.specs.Outcome.{Outcome, refused, passed, Reply}
use Rattle.meaning.specs.Pattern.{Pattern, commands, unfolded, keeps}
use Rattle.refusals.specs.declared.Refusal.{Refusal}
use Rattle.refusals.specs.Refusal.{reply, reply_mapped}
use Rattle.pattern.specs.declared.Counts.{Counts as Told}

-- what is told of a pattern: how many commands it has, as written and unfolded, and its deepest nesting of keeps
pub record Counts : Type 0 where
  pub commands : ℕ
  pub unfolded : ℕ
  pub keeps : ℕ

abbrev pub counts_of : Outcome Pattern → Outcome Counts
counts_of (refused number) = refused number
counts_of (passed p) = passed (record { commands = commands p; unfolded = unfolded p; keeps = keeps p })

abbrev pub counts_shown : Told → Counts
counts_shown c = record { commands = c.commands; unfolded = c.unfolded; keeps = c.keeps }

abbrev pub pattern_reply : Result Told Refusal → Reply Counts
pattern_reply r = reply_mapped counts_shown (reply r)

-- what callers may rely on: at most 63 commands, as written and unfolded, and keeps at most three deep
abbrev pub Small : Result Told Refusal → Type 0
Small r = IfOk r (λ c. (c.commands ≤ 63) × (c.unfolded ≤ 63) × (c.keeps ≤ 3))
