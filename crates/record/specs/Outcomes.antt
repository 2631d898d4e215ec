-- Laws of outcomes: what it takes to pass a question and two parts one after the other. Every crate above uses them.
use Rattle.std.specs.Prelude.{◌≡◌, refl, Bool, true, false, ◌&&◌, ℕ}
use Rattle.std.proofs.Common.{arith}
use Rattle.meaning.specs.Outcome.{Outcome, refused, passed, ask, and_then}

-- ---- passed and refused

pub passed-inj : {A : Type 0} {a b : A} → passed a ≡ passed b → a ≡ b
passed-inj h = cc

pub not-both : {A : Type 0} {a : A} {number : ℕ} → refused number ≡ passed a → ⊥
not-both h = let z : ◌≡◌ {A = ℕ} 0 1 = cc in omega arith

-- ---- a test of two halves

pub false-true : false ≡ true → ⊥
false-true h = let z : ◌≡◌ {A = ℕ} 0 1 = cc in omega arith

pub and-true : (a b : Bool) → a && b ≡ true → (a ≡ true) × (b ≡ true)
and-true true b h = (refl, h)
and-true false b h = absurd (false-true h)

pub true-and : (a b : Bool) → a ≡ true → b ≡ true → a && b ≡ true
true-and true b h k = k
true-and false b h k = h

-- ---- questions

pub ask-passed : {A : Type 0} (b : Bool) (number : ℕ) (rest : Outcome A) (a : A) → ask b number rest ≡ passed a → (b ≡ true) × (rest ≡ passed a)
ask-passed true number rest a h = (refl, h)
ask-passed false number rest a h = absurd (not-both h)

pub and_then-passed : {A B : Type 0} (x : Outcome A) (f : A → Outcome B) (b : B) → and_then x f ≡ passed b → (a : A) × (x ≡ passed a) × (f a ≡ passed b)
and_then-passed (refused number) f b h = absurd (not-both h)
and_then-passed (passed a) f b h = (a, refl, h)
