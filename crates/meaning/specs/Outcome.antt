-- Questions asked in order, and what a caller is told (document 01, "Questions, in order" and "After each reply").
-- Every definition that reads bytes or answers a request is a chain of `ask`; a promise compares a reply with `told`.
use Rattle.std.specs.Prelude.{Bool, true, false, ℕ}

-- the number of the first question that was answered no, or what passed all of them
pub data Outcome (A : Type 0) : Type 0 where
  refused : ℕ → Outcome A
  passed : A → Outcome A

-- a question that is answered no stops the walk and gives its number
abbrev pub ask : {A : Type 0} → Bool → ℕ → Outcome A → Outcome A
ask true number rest = rest
ask false number rest = refused number

-- the questions of a second part come after all of the first
abbrev pub and_then : {A B : Type 0} → Outcome A → (A → Outcome B) → Outcome B
and_then (refused number) rest = refused number
and_then (passed a) rest = rest a

-- what a caller is told: a value, or a refusal's number and second number
pub data Reply (A : Type 0) : Type 0 where
  value : A → Reply A
  refusal : ℕ → ℕ → Reply A

-- the second number of a refusal is 0 (question 19 alone has another)
abbrev pub told : {A : Type 0} → Outcome A → Reply A
told (refused number) = refusal number 0
told (passed a) = value a
