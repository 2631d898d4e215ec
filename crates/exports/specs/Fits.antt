-- A reply that has room in the low 32 bits: `SaidFits` is what `find_number` asks of its callers; the others are laws of the replies. No open function's promise uses it.
use Rattle.std.specs.Prelude.{ℕ, ◌<◌}
use Rattle.meaning.specs.Outcome.{Reply, value, refusal}
use Rattle.finder.specs.Promise as Find
use Rattle.finder.specs.Promise.{Said, found, none_found}

-- the value, or the second number
abbrev pub Fits32 : Reply ℕ → Type 0
Fits32 (value n) = n < 4294967296
Fits32 (refusal number second) = second < 4294967296

-- a refusal's second number, whatever the value
abbrev pub SecondFits : {A : Type 0} → Reply A → Type 0
SecondFits (value a) = Unit {0}
SecondFits (refusal number second) = second < 4294967296

-- a refusal's second number; the length of a chain that is found stands alone
abbrev pub SaidFits : Said → Type 0
SaidFits (found n) = Unit {0}
SaidFits none_found = Unit {0}
SaidFits (Find.refusal number second) = second < 4294967296
