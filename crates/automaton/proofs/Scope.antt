-- A stack of boats holds a valuation: each slot's boat stands at the slot's level in the scope.
-- `Sound` and `Complete` keep this true from a keep to what stands inside it; `Words` starts from it.
use Rattle.std.specs.Prelude.{◌≡◌, refl, Bool, true, false, cond, List, [], ◌∷◌, ◌++◌, ◌↔◌, ℕ, zero, suc, ◌+◌, ◌<◌, eqb, length}
use Rattle.std.proofs.Common.{sym, ap, ◌∙◌, subst, subst₂, append_assoc, append-nil, arith, length-append}
use Rattle.std.proofs.Math.Bool.{So}
use Rattle.std.proofs.lemmas.Bool.{false≢true}
use Rattle.std.proofs.Math.Option.{Option, none, some}
use Rattle.std.proofs.Math.Nat.{suc_inj}
use Rattle.std.proofs.Math.ListN.{get_elem?}
use Rattle.meaning.specs.Record.{Boat}
use Rattle.meaning.specs.Pattern.{Rule}
use Rattle.meaning.specs.Language.{Valuation, unbound, bind, Meets}
use Rattle.automaton.specs.Automaton.{under, level_of, test_of, by_boat, met, passes}

-- ---- levels

under-cond : (here e : Bool) (n : ℕ) (o : Option ℕ) → under here (cond e (some n) o) ≡ cond e (some (suc n)) (under here o)
under-cond here true n o = refl
under-cond here false n o = refl

-- one more keep inside: it has its slot, other slots are as before
pub level-inside : (t : ℕ) (scope : List ℕ) (s : ℕ) → level_of t (scope ++ (s ∷ [])) ≡ cond (eqb t s) (some (length scope)) (level_of t scope)
level-inside t [] s = refl
level-inside t (x ∷ scope) s =
    ap (under (eqb t x)) (level-inside t scope s) ∙ under-cond (eqb t x) (eqb t s) (length scope) (level_of t scope)

-- the level, where there is one, is below n
abbrev pub Below : Option ℕ → ℕ → Type 0
Below none n = Unit {0}
Below (some j) n = j < n

under-below : (here : Bool) (o : Option ℕ) (n : ℕ) → Below o n → Below (under here o) (suc n)
under-below true none n h = omega arith
under-below false none n h = tt
under-below here (some j) n h = omega arith

pub level-below : (s : ℕ) (scope : List ℕ) → Below (level_of s scope) (length scope)
level-below s [] = tt
level-below s (x ∷ scope) = under-below (eqb s x) (level_of s scope) (length scope) (level-below s scope)

-- ---- the stack at a level

abbrev pub entry : List Boat → Option ℕ → Option Boat
entry st none = none
entry st (some j) = get_elem? st j

get-new : (st : List Boat) (b : Boat) (n : ℕ) → length st ≡ n → get_elem? (st ++ (b ∷ [])) n ≡ some b
get-new [] b zero h = refl
get-new [] b (suc n) h = absurd (omega arith)
get-new (x ∷ st) b zero h = absurd (omega arith)
get-new (x ∷ st) b (suc n) h = get-new st b n (suc_inj h)

get-old : (st t : List Boat) (j : ℕ) → j < length st → get_elem? (st ++ t) j ≡ get_elem? st j
get-old [] t j h = absurd (omega arith)
get-old (x ∷ st) t zero h = refl
get-old (x ∷ st) t (suc j) h = get-old st t j (omega arith)

entry_old : (st t : List Boat) (o : Option ℕ) → Below o (length st) → entry (st ++ t) o ≡ entry st o
entry_old st t none h = refl
entry_old st t (some j) h = get-old st t j h

-- ---- the stack holds the valuation

pub record Holds (scope : List ℕ) (st : List Boat) (ν : Valuation) : Type 0 where
  pub long : length st ≡ length scope
  pub looks : (s : ℕ) → ν s ≡ entry st (level_of s scope)

pub holds-inside : {scope : List ℕ} {st : List Boat} {ν : Valuation} (s : ℕ) (b : Boat) → Holds scope st ν → Holds (scope ++ (s ∷ [])) (st ++ (b ∷ [])) (bind ν s b)
holds-inside {scope} {st} {ν} s b h = record {
  long = length-append st (b ∷ []) ∙ (ap (◌+ 1) h.long ∙ sym (length-append scope (s ∷ [])));
  looks = λ t. look t (eqb t s) ∙ ap (entry (st ++ (b ∷ []))) (sym (level-inside t scope s));
}
  where
    look : (t : ℕ) (here : Bool) → cond here (some b) (ν t) ≡ entry (st ++ (b ∷ [])) (cond here (some (length scope)) (level_of t scope))
    look t true = sym (get-new st b (length scope) h.long)
    look t false = h.looks t ∙ sym (entry_old st (b ∷ []) (level_of t scope) (subst (Below (level_of t scope)) (sym h.long) (level-below t scope)))

-- a test passes exactly where the slot's boat meets the rule
test-passes : (r : Rule) (st : List Boat) (o : Option ℕ) (b : Boat) → passes by_boat (test_of r o) st b ≡ met by_boat r (entry st o) b
test-passes r st none b = refl
test-passes r st (some j) b = refl

met-meets : (r : Rule) (o : Option Boat) (b : Boat) → So (met by_boat r o b) ↔ Meets r o b
met-meets r none b = (λ h. false≢true h, λ h. absurd h)
met-meets r (some kept) b = (λ h. h, λ h. h)

pub passes-meets : {scope : List ℕ} {st : List Boat} {ν : Valuation} → Holds scope st ν → (r : Rule) (s : ℕ) (b : Boat)
    → So (passes by_boat (test_of r (level_of s scope)) st b) ↔ Meets r (ν s) b
passes-meets {scope} {st} {ν} h r s b =
    let e : passes by_boat (test_of r (level_of s scope)) st b ≡ met by_boat r (ν s) b = test-passes r st (level_of s scope) b ∙ ap (λ o. met by_boat r o b) (sym (h.looks s)) in
    (λ t. (met-meets r (ν s) b).0 (sym e ∙ t), λ t. e ∙ (met-meets r (ν s) b).1 t)

-- ---- a valuation from outside

-- ν with each slot of the list bound to the boat beside it, the first outermost
abbrev pub bind_all : Valuation → List ℕ → List Boat → Valuation
bind_all ν [] bs = ν
bind_all ν (s ∷ ss) [] = ν
bind_all ν (s ∷ ss) (b ∷ bs) = bind_all (bind ν s b) ss bs

holds_more : (ss : List ℕ) (bs : List Boat) {scope : List ℕ} {st : List Boat} {ν : Valuation} → length bs ≡ length ss → Holds scope st ν
    → Holds (scope ++ ss) (st ++ bs) (bind_all ν ss bs)
holds_more [] [] {scope} {st} {ν} e h = subst₂ (λ ss bs. Holds ss bs ν) (sym (append-nil scope)) (sym (append-nil st)) h
holds_more [] (b ∷ bs) e h = absurd (omega arith)
holds_more (s ∷ ss) [] e h = absurd (omega arith)
holds_more (s ∷ ss) (b ∷ bs) {scope} {st} {ν} e h =
    subst₂ (λ x y. Holds x y (bind_all ν (s ∷ ss) (b ∷ bs))) (append_assoc scope (s ∷ []) ss) (append_assoc st (b ∷ []) bs)
    (holds_more ss bs (suc_inj e) (holds-inside s b h))

pub holds-all : (scope : List ℕ) (st : List Boat) → length st ≡ length scope → Holds scope st (bind_all unbound scope st)
holds-all scope st e = holds_more scope st {scope = []} {st = []} e (record { long = refl; looks = λ s. refl })
