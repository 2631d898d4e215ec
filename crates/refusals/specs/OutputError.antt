-- Why a question that fills an output has no answer, in the terms of `meaning`: question 19 has a second number.
use Rattle.std.specs.Prelude.{ℕ}
use Rattle.refusals.specs.Refusal.{number as refusal_number}
use Rattle.refusals.specs.declared.OutputError.{OutputError}
use Rattle.refusals.specs.declared.OutputError.TheVariants as Why

-- the number of the question that failed
abbrev pub number : OutputError → ℕ
number (Why.Refused refusal) = refusal_number refusal
number (Why.TooSmall enough) = 19

-- the second number that is told with it: how many entries are enough, and else 0
abbrev pub second : OutputError → ℕ
second (Why.Refused refusal) = 0
second (Why.TooSmall enough) = enough
