-- What a list has: membership, a test of some member, a list under a condition.
-- Lists of positions matter only by their members: every other file speaks of them through these.
use Rattle.std.specs.Prelude.{◌≡◌, refl, Bool, true, false, cond, ◌||◌, ℕ, zero, suc, ◌<◌, length, get_or}
use Rattle.std.proofs.Common.{sym, ap, ◌∙◌, arith}
use Rattle.std.proofs.Math.Bool.{So}
use Rattle.std.proofs.lemmas.Bool.{false≢true}
use mathlib.Core.List.Memᴰ
use mathlib.Core.List.{List, [], ◌∷◌, Memᴰ}

infix 4 ◌∈◌
abbrev pub ◌∈◌ : {A : Type 0} → A → List A → Type 0
◌∈◌ x l = Memᴰ x l

module _ {A : Type 0} where
  pub none_in : {x : A} {C : Type 0} → x ∈ [] → C
  none_in m = absurd (Memᴰ.not-nil m)

  pub get_or-in : (l : List A) (i : ℕ) (d : A) → i < length l → get_or l i d ∈ l
  get_or-in [] i d h = absurd (omega arith)
  get_or-in (x ∷ l) zero d h = Memᴰ.head refl
  get_or-in (x ∷ l) (suc i) d h = Memᴰ.tail (get_or-in l i d (omega arith))

-- ---- does the test hold of some member?

abbrev pub any_of : {A : Type 0} → (A → Bool) → List A → Bool
any_of f [] = false
any_of f (x ∷ xs) = f x || any_of f xs

module _ {A : Type 0} (f : A → Bool) where
  pub any_of-sound : (l : List A) → So (any_of f l) → (x : A) × (x ∈ l) × So (f x)
  any_of-sound [] h = absurd (false≢true h)
  any_of-sound (x ∷ l) h = here (f x) refl h (any_of-sound l)
    where
      here : (b : Bool) → f x ≡ b → So (b || any_of f l) → (So (any_of f l) → (y : A) × (y ∈ l) × So (f y)) → (y : A) × (y ∈ (x ∷ l)) × So (f y)
      here true e h later = (x, Memᴰ.head refl, e)
      here false e h later = let (y, m, t) = later h in (y, Memᴰ.tail m, t)

  pub any_of-complete : {x : A} {l : List A} → x ∈ l → So (f x) → So (any_of f l)
  any_of-complete (Memᴰ.head {x = y} {xs = l} e) h = ap (λ z. f z || any_of f l) (sym e) ∙ ap (◌|| any_of f l) h
  any_of-complete (Memᴰ.tail {x = y} {xs = l} m) h = later (f y) (any_of f l) (any_of-complete m h)
    where
      later : (b c : Bool) → So c → So (b || c)
      later true c h = refl
      later false c h = h

pub any_of-same : {A : Type 0} (f g : A → Bool) (l : List A) → ((x : A) → x ∈ l → f x ≡ g x) → any_of f l ≡ any_of g l
any_of-same f g [] h = refl
any_of-same f g (x ∷ l) h = λ i. h x (Memᴰ.head refl) i || any_of-same f g l (λ y m. h y (Memᴰ.tail m)) i

-- ---- the list where the condition holds, else nothing

abbrev pub when : {A : Type 0} → Bool → List A → List A
when b l = cond b l []

module _ {A : Type 0} {x : A} where
  pub when-sound : (b : Bool) {l : List A} → x ∈ when b l → So b × (x ∈ l)
  when-sound true m = (refl, m)
  when-sound false m = none_in m

  pub when-complete : (b : Bool) {l : List A} → So b → x ∈ l → x ∈ when b l
  when-complete true h m = m
  when-complete false h m = absurd (false≢true h)
