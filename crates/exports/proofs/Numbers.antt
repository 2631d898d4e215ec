-- Replies as numbers: a refusal's second number is 0, and lengths and words fit 32 bits. Assumes nothing.
use mathlib.Core.Path.{◌≡◌, refl, sym, ap}
use mathlib.Core.List.{List, [], ◌∷◌}
use Prim.Native.Nat.{ℕ, ◌+◌, ◌*◌, ◌<◌, ◌≤◌}
use native.Mathlib.Omega.{arith}
use lib.ListN.{length, take, drop, set}
use lib.Seq.{length-take-le}
use Rattle.meaning.specs.Outcome.{Outcome, refused, passed, told, value, refusal}
use Rattle.meaning.specs.Record.{Line}
use Rattle.meaning.specs.Writing.{begin_of, add_of}
use Rattle.writing.specs.Added.{begun, adds, width-most}
use Rattle.record.specs.Whole.{whole_of}
use Rattle.exports.specs.Promise.{number_of}
use Rattle.exports.specs.Fits.{Fits32, SecondFits}

-- a refusal's number where the second number is 0
pub refused-is : (r number : ℕ) → r ≡ number * 4294967296 + 0 → r ≡ number * 4294967296
refused-is r number e = omega (arith, e)

pub refusal-number : (o : Outcome ℕ) (number second : ℕ) → refusal number second ≡ told o → number * 4294967296 + 0 ≡ number_of (told o)
refusal-number (refused q) number second h = let e : number ≡ q = cc in omega (arith, e)
refusal-number (passed n) number second h = absurd (let z : ◌≡◌ {A = ℕ} 0 1 = cc in omega arith)

pub value-number : (o : Outcome ℕ) (n : ℕ) → value n ≡ told o → n ≡ number_of (told o)
value-number (refused q) n h = absurd (let z : ◌≡◌ {A = ℕ} 0 1 = cc in omega arith)
value-number (passed m) n h = cc

told-fits : (o : Outcome ℕ) → ((n : ℕ) → o ≡ passed n → n < 4294967296) → Fits32 (told o)
told-fits (refused q) h = omega arith
told-fits (passed n) h = h n refl

pub begin-fits : (buffer : List ℕ) (n : ℕ) → Fits32 (told (begin_of buffer n))
begin-fits buffer n = told-fits (begin_of buffer n) (λ len e. omega (arith, (begun buffer n len e).1))

pub add-fits : (buffer : List ℕ) (len : ℕ) (l : Line) → Fits32 (told (add_of buffer len l))
add-fits buffer len l =
    told-fits (add_of buffer len l)
    (λ longer e.
    let a = adds buffer len l longer e in
    omega (arith, a.grown, width-most l, (whole_of (take len buffer) a.day a.reads).short, length-take-le len buffer a.inside))

-- ---- what is told, back as an outcome

pub told-refused : {A : Type 0} (o : Outcome A) (number second : ℕ) → refusal number second ≡ told o → o ≡ refused number
told-refused (refused q) number second h = ap refused cc
told-refused (passed a) number second h = absurd (let z : ◌≡◌ {A = ℕ} 0 1 = cc in omega arith)

pub told-passed : {A : Type 0} (o : Outcome A) (a : A) → value a ≡ told o → o ≡ passed a
told-passed (refused q) a h = absurd (let z : ◌≡◌ {A = ℕ} 0 1 = cc in omega arith)
told-passed (passed b) a h = let e : a ≡ b = cc in ap passed (sym e)

-- ---- two words in front

pub set-two : (words : List ℕ) (a b : ℕ) → 2 ≤ length words → set (set words 0 a) 1 b ≡ a ∷ b ∷ drop 2 words
set-two [] a b h = absurd (omega (arith, h))
set-two (x ∷ []) a b h = absurd (omega (arith, h))
set-two (x ∷ y ∷ rest) a b h = refl

pub two-long : (words : List ℕ) (a b : ℕ) → 2 ≤ length words → length (a ∷ b ∷ drop 2 words) ≡ length words
two-long [] a b h = absurd (omega (arith, h))
two-long (x ∷ []) a b h = absurd (omega (arith, h))
two-long (x ∷ y ∷ rest) a b h = refl

pub set-third : (words : List ℕ) (a b c : ℕ) → 3 ≤ length words → set (a ∷ b ∷ drop 2 words) 2 c ≡ a ∷ b ∷ c ∷ drop 3 words
set-third [] a b c h = absurd (omega (arith, h))
set-third (x ∷ []) a b c h = absurd (omega (arith, h))
set-third (x ∷ y ∷ []) a b c h = absurd (omega (arith, h))
set-third (x ∷ y ∷ z ∷ rest) a b c h = refl

-- a sixth word after five
pub set-sixth : (words : List ℕ) (a b c d e f : ℕ) → 6 ≤ length words → set (a ∷ b ∷ c ∷ d ∷ e ∷ drop 5 words) 5 f ≡ a ∷ b ∷ c ∷ d ∷ e ∷ f ∷ drop 6 words
set-sixth [] a b c d e f h = absurd (omega (arith, h))
set-sixth (x₁ ∷ []) a b c d e f h = absurd (omega (arith, h))
set-sixth (x₁ ∷ x₂ ∷ []) a b c d e f h = absurd (omega (arith, h))
set-sixth (x₁ ∷ x₂ ∷ x₃ ∷ []) a b c d e f h = absurd (omega (arith, h))
set-sixth (x₁ ∷ x₂ ∷ x₃ ∷ x₄ ∷ []) a b c d e f h = absurd (omega (arith, h))
set-sixth (x₁ ∷ x₂ ∷ x₃ ∷ x₄ ∷ x₅ ∷ []) a b c d e f h = absurd (omega (arith, h))
set-sixth (x₁ ∷ x₂ ∷ x₃ ∷ x₄ ∷ x₅ ∷ x₆ ∷ rest) a b c d e f h = refl

-- ---- a second number of 0

pub told-second : {A : Type 0} (o : Outcome A) → SecondFits (told o)
told-second (refused number) = omega arith
told-second (passed a) = tt
