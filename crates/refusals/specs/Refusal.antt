-- A refusal is a question's number, and a result is what passed all questions or a refusal: what the code returns, in the terms of `meaning`.
use Rattle.std.specs.Prelude.{Result, Ok, Err, ℕ}
use Rattle.meaning.specs.Outcome.{Outcome, refused, passed, Reply, value, refusal}
use Rattle.refusals.specs.declared.Refusal.{Refusal}
use Rattle.refusals.specs.declared.Refusal.TheVariants as Is

-- the number of the question that failed
abbrev pub number : Refusal → ℕ
number Is.RecordTooLong = 1
number Is.PlacesOutOfRange = 2
number Is.EntryNotKnown = 3
number Is.LineCutShort = 4
number Is.LinePlaceNotThere = 5
number Is.LineKindOutOfRange = 6
number Is.BytesAfterEnd = 7
number Is.CommandNotKnown = 8
number Is.TooManyCommands = 9
number Is.OperandsMissing = 10
number Is.OperandOutOfRange = 11
number Is.SlotNotKept = 12
number Is.KeepsTooDeep = 13
number Is.BytesAfterPattern = 14
number Is.AskedPlaceNotThere = 15
number Is.SearchTooLarge = 16
number Is.WorkAreaTooSmall = 17
number Is.LineNotThere = 18
number Is.LengthBeyondBuffer = 20
number Is.SailNumberTooLarge = 21
number Is.RecordFull = 22
number Is.BufferTooSmall = 23
number Is.RoundsOutOfRange = 24
number Is.UnfoldedTooLong = 25
number Is.NoSearch = 26
number Is.WindowOutOfRange = 27
number Is.LineTimeOutOfRange = 28

-- what passed, or the number of the first question that failed
abbrev pub outcome : {A : Type 0} → Result A Refusal → Outcome A
outcome (Ok a) = passed a
outcome (Err e) = refused (number e)

-- what is told of it: the second number is 0
abbrev pub reply : {A : Type 0} → Result A Refusal → Reply A
reply (Ok a) = value a
reply (Err e) = refusal (number e) 0

-- a value that is made of what passed
abbrev pub mapped : {A B : Type 0} → (A → B) → Outcome A → Outcome B
mapped f (refused number) = refused number
mapped f (passed a) = passed (f a)

abbrev pub reply_mapped : {A B : Type 0} → (A → B) → Reply A → Reply B
reply_mapped f (refusal number other) = refusal number other
reply_mapped f (value a) = value (f a)
