-- The language of a pattern: source document 001, section 3, "Semantics", clause by clause and in its order; 001 has no clause for the
-- empty word, so that of `nothing` is document 01's. The clauses of a[x=] and a[x≠] are 001's with document 02's request One over them, and
-- request Two's two tests have a clause of the same form: what an equal and another data value are is said by `compared` and `meets`.
-- The clause of a counted pattern is source document 000's counted path, a union of powers, with both ends allowed (request Three).
-- A word is the kind and boat of each line of a chain: 001's data word, the kind its letter and the boat its data value.
use Rattle.std.specs.Prelude.{◌≡◌, Bool, cond, true, false, ◌&&◌, ◌||◌, List, [], ◌∷◌, ◌++◌, ◌⊎◌, ℕ, zero, suc, ◌≤◌, eqb}
use Rattle.std.proofs.Math.Option.{Option, none, some}
use Rattle.meaning.specs.Record.{Boat, agree}
use Rattle.meaning.specs.Pattern.{Rule, same, other, sister, foreign, Pattern, nothing, line, test, either, then, repeat, keep, counted}

pub record Letter : Type 0 where
  pub kind : ℕ
  pub boat : Boat

abbrev pub Word : Type 0
Word = List Letter

-- a valuation: the boat of each slot that has one
abbrev pub Valuation : Type 0
Valuation = ℕ → Option Boat

-- no slot has a boat
abbrev pub unbound : Valuation
unbound s = none

-- ν[s ← b]
abbrev pub bind : Valuation → ℕ → Boat → Valuation
bind ν s b t = cond (eqb t s) (some b) (ν t)

-- ---- a line's boat against a slot's boat

-- class 0 with number 0: the number was not read, and two such boats need not be one
abbrev pub is_unread : Boat → Bool
is_unread b = eqb b.class 0 && eqb b.sail 0

-- what comparing two boats tells: nothing, one boat, two boats of one class, two boats of two classes
pub data Compared : Type 0 where
  unread same-boat same_Class other-class : Compared

abbrev pub compared : Boat → Boat → Compared
compared a b = cond (is_unread a || is_unread b) unread (cond (agree a b) same-boat (cond (eqb a.class b.class) same_Class other-class))

-- what a command asks of it; of an unread boat nothing is known, so it meets none
abbrev pub meets : Rule → Compared → Bool
meets same unread = false
meets same same-boat = true
meets same same_Class = false
meets same other-class = false
meets other unread = false
meets other same-boat = false
meets other same_Class = true
meets other other-class = true
meets sister unread = false
meets sister same-boat = false
meets sister same_Class = true
meets sister other-class = false
meets foreign unread = false
meets foreign same-boat = false
meets foreign same_Class = false
meets foreign other-class = true

-- a slot without a boat accepts nothing
abbrev pub Meets : Rule → Option Boat → Boat → Type 0
Meets r none b = ⊥
Meets r (some kept) b = meets r (compared b kept) ≡ true

-- ---- the language

-- none or more words of P, one after the other
pub data Star (P : Word → Type 0) : Word → Type 0 where
  stop : {w : Word} → w ≡ [] → Star P w
  more : {w : Word} (u v : Word) → w ≡ u ++ v → P u → Star P v → Star P w

-- so many words of P, one after the other
abbrev pub Power : (Word → Type 0) → ℕ → Word → Type 0
Power P zero w = w ≡ []
Power P (suc n) w = (u : Word) × (v : Word) × (w ≡ u ++ v) × P u × Power P n v

-- from `low` to `high` of them
abbrev pub Times : (Word → Type 0) → ℕ → ℕ → Word → Type 0
Times P low high w = (n : ℕ) × (low ≤ n) × (n ≤ high) × Power P n w

-- ε; a; a[x=] and a[x≠], which are 001's clauses with requests One and Two over them; r₁ + r₂; r₁ · r₂; r₁*; a↓x(r₁); r₁ from low to high times
abbrev pub L : Pattern → Valuation → Word → Type 0
L nothing ν w = w ≡ []
L (line k) ν w = (a : Letter) × (w ≡ a ∷ []) × (a.kind ≡ k)
L (test r k s) ν w = (a : Letter) × (w ≡ a ∷ []) × (a.kind ≡ k) × Meets r (ν s) a.boat
L (either p q) ν w = L p ν w ⊎ L q ν w
L (then p q) ν w = (u : Word) × (v : Word) × (w ≡ u ++ v) × L p ν u × L q ν v
L (repeat p) ν w = Star (L p ν) w
L (keep k s p) ν w = (a : Letter) × (u : Word) × (w ≡ a ∷ u) × (a.kind ≡ k) × L p (bind ν s a.boat) u
L (counted low high p) ν w = Times (L p ν) low high w
