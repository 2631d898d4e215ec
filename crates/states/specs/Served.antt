-- Which lines can stand for which. Where of a line only the place that it comes from matters, and whether its boat passes, a few lines from
-- each place do for all. A sieve says what is told apart; `Served` is the rule: for which sets of boats that pass this is to hold. Crate
-- thinned keeps lines enough for every set that is served (`Covered`), and crate ways goes over those alone where the boats that pass are such
-- a set.
use Rattle.std.specs.Prelude.{◌≡◌, Bool, cond, true, false, ℕ, suc, eqb, Option, Some, None}
use Rattle.boats.specs.Table.{class_in}
use Rattle.states.specs.Spots.{okay}
use Rattle.states.specs.declared.Sieve.{Sieve}
use Rattle.states.specs.declared.Spot.{Spot}

-- ---- what a sieve tells apart, by the boats' table B

-- a boat, and its class, by a number; an unread boat has 0
abbrev pub boat_key : (ℕ → ℕ) → ℕ → ℕ
boat_key B x = cond (eqb (B x) 0) 0 (suc x)

abbrev pub class_key : (ℕ → ℕ) → ℕ → ℕ
class_key B x = cond (eqb (B x) 0) 0 (suc (class_in (B x)))

-- what it tells apart among the lines of one group
abbrev pub key_by : Sieve → (ℕ → ℕ) → ℕ → ℕ
key_by Sieve.Boats B x = boat_key B x
key_by Sieve.Classes B x = class_key B x
key_by Sieve.Sisters B x = boat_key B x

-- the lines of one group come from one place, and their boats are as one here
abbrev pub kin_by : Sieve → (ℕ → ℕ) → ℕ → ℕ
kin_by Sieve.Boats B x = 0
kin_by Sieve.Classes B x = 0
kin_by Sieve.Sisters B x = class_key B x

-- ---- which sets it serves

-- read boats, of some groups all but those with the key n
pub record But (kin key : ℕ → ℕ) (T : ℕ → Bool) (n : ℕ) : Type 0 where
  pub leaves : (x : ℕ) → T x ≡ true → (key x ≡ 0 → ⊥) × (key x ≡ n → ⊥)
  pub takes : (x y : ℕ) → T x ≡ true → kin y ≡ kin x → (key y ≡ 0 → ⊥) → (key y ≡ n → ⊥) → T y ≡ true

-- sets of boat numbers: everybody, all read ones of some groups but one, and nobody
pub data Served (kin key : ℕ → ℕ) (T : ℕ → Bool) : Type 0 where
  everybody : ((x : ℕ) → T x ≡ true) → Served kin key T
  but : (n : ℕ) → But kin key T n → Served kin key T
  nobody : ((x : ℕ) → T x ≡ false) → Served kin key T

abbrev pub ServedBy : Sieve → (ℕ → ℕ) → (ℕ → Bool) → Type 0
ServedBy sieve B T = Served (kin_by sieve B) (key_by sieve B) T

-- a position that keeps no boat, and whose rule takes such a set whatever the stack
pub record Thinnable (sieve : Sieve) (s : Spot) : Type 0 where
  pub plain : s.push ≡ false
  pub served : (B : ℕ → ℕ) (R v : ℕ) → ServedBy sieve B (λ x. okay B R s x v)

-- the thin lines of that sieve are enough; with none, nothing is said
abbrev pub Sifted : Spot → Option Sieve → Type 0
Sifted s (Some sieve) = Thinnable sieve s
Sifted s None = Unit {0}
