-- Comparing two boats by their numbers, and what a rule takes of it.
use mathlib.Core.Path.{◌≡◌, refl, sym, ap, ◌∙◌, subst}
use mathlib.Core.Bool.{Bool, true, false, cond, not, ◌&&◌, ◌||◌, and-false, or-true, false≢true}
use Prim.Native.Nat.{ℕ, suc, ◌/◌, ◌%◌}
use native.Mathlib.Decide.{ℕ_discrete}
use native.Mathlib.Omega.{arith}
use denote.Enum.Bare.{sameb, same_true, same_false}
use lib.Dec.{eqb}
use borrow.Author.Tests.{eq-eqb, ne_eqb, eqb-true, eqb-false}
use Rattle.meaning.specs.Language.{Compared, unread, same-boat, same_Class, other-class, meets}
use Rattle.meaning.specs.Pattern.{same, other, sister, foreign}
use Rattle.positions.specs.contracts.Rule.{the_type}
use Rattle.positions.specs.declared.Rule.{Rule}
use Rattle.boats.specs.Table.{class_in, told_by}
use Rattle.states.specs.Spots.{met_by, okay, read_by, read_but, sister_of, foreign_to}
use Rattle.states.specs.Served.{boat_key, class_key, but, nobody, ServedBy}
use Rattle.states.specs.declared.Sieve.{Sieve}
use Rattle.states.specs.declared.Spot.{Spot}

module _ (B : ℕ → ℕ) (x y : ℕ) where
  pub told-unread : B x ≡ 0 → told_by B x y ≡ unread
  told-unread e = rw (eq-eqb (B x) 0 e)

  pub told-unkept : B y ≡ 0 → told_by B x y ≡ unread
  told-unkept e = rw (eq-eqb (B y) 0 e, or-true (eqb (B x) 0))

  pub told_same : (B x ≡ 0 → ⊥) → (B y ≡ 0 → ⊥) → x ≡ y → told_by B x y ≡ same-boat
  told_same m n e = rw (ne_eqb (B x) 0 m, ne_eqb (B y) 0 n, eq-eqb x y e)

  pub told-sister : (B x ≡ 0 → ⊥) → (B y ≡ 0 → ⊥) → (x ≡ y → ⊥) → class_in (B x) ≡ class_in (B y) → told_by B x y ≡ same_Class
  told-sister m n d e = rw (ne_eqb (B x) 0 m, ne_eqb (B y) 0 n, ne_eqb x y d, eq-eqb (class_in (B x)) (class_in (B y)) e)

  pub told-foreign : (B x ≡ 0 → ⊥) → (B y ≡ 0 → ⊥) → (x ≡ y → ⊥) → (class_in (B x) ≡ class_in (B y) → ⊥) → told_by B x y ≡ other-class
  told-foreign m n d e = rw (ne_eqb (B x) 0 m, ne_eqb (B y) 0 n, ne_eqb x y d, ne_eqb (class_in (B x)) (class_in (B y)) e)

-- ---- tests

not-true : (b : Bool) → not b ≡ true → b ≡ false
not-true true e = absurd (false≢true e)
not-true false e = refl

both : (a b : Bool) → (a && b) ≡ true → (a ≡ true) × (b ≡ true)
both true true e = (refl, refl)
both true false e = absurd (false≢true e)
both false b e = absurd (false≢true e)

-- ---- what `==` tells of two rules

pub same_rule : (b : Bool) (r k : Rule) → b ≡ sameb the_type r k → b ≡ true → r ≡ k
same_rule b r k is e = same_true the_type tt r k (sym is ∙ e)

pub other_rule : (b : Bool) (r k : Rule) → b ≡ sameb the_type r k → b ≡ false → r ≡ k → ⊥
other_rule b r k is e = same_false the_type r k (sym is ∙ e)

-- ---- what a rule takes

-- a rule that does not take everybody
abbrev NotAlways : Rule → Type 0
NotAlways r = r ≡ Rule.Always → ⊥

left_other : NotAlways Rule.Other
left_other e = cc

left-sister : NotAlways Rule.Sister
left-sister e = cc

left-foreign : NotAlways Rule.Foreign
left-foreign e = cc

-- it takes no unread boat
unread-left : (r : Rule) → NotAlways r → met_by r unread ≡ false
unread-left Rule.Never a = refl
unread-left Rule.Always a = absurd (a refl)
unread-left Rule.Same a = refl
unread-left Rule.Other a = refl
unread-left Rule.Sister a = refl
unread-left Rule.Foreign a = refl

-- ---- the rule of a position

module _ (B : ℕ → ℕ) (R : ℕ) (s : Spot) (x v : ℕ) where
  -- the boat number that the rule compares with
  abbrev kept : ℕ
  kept = v / s.level % R

  pub okay-any : s.rule ≡ Rule.Always → okay B R s x v ≡ true
  unfolding okay
  okay-any e = rw e

  pub okay-never : s.rule ≡ Rule.Never → okay B R s x v ≡ false
  unfolding okay
  okay-never e = rw e

  -- where the kept boat is unread, a rule that compares takes nobody
  pub okay-unkept : NotAlways s.rule → B kept ≡ 0 → okay B R s x v ≡ false
  unfolding okay
  okay-unkept e none = ap (met_by s.rule) (told-unkept B x kept none) ∙ unread-left s.rule e

  -- the same boat, read
  pub okay-same : s.rule ≡ Rule.Same → okay B R s x v ≡ (read_by B x && eqb x kept)
  unfolding okay
  okay-same e = elim (ℕ_discrete x kept) [
    | yes q ↦ rw (e, ← q, eq-eqb x x refl) (one (eqb (B x) 0))
    | no n ↦ rw (e, ne_eqb x kept n) (two (eqb (B x) 0) (eqb (B kept) 0) (eqb (class_in (B x)) (class_in (B kept))))
  ]
    where
      one : (a : Bool) → meets same (cond (a || a) unread same-boat) ≡ (not a && true)
      one true = refl
      one false = refl

      two : (a b c : Bool) → meets same (cond (a || b) unread (cond c same_Class other-class)) ≡ (not a && false)
      two true b c = refl
      two false true c = refl
      two false false true = refl
      two false false false = refl

  -- the same boat, where the kept one is read
  pub okay-same-read : s.rule ≡ Rule.Same → (B kept ≡ 0 → ⊥) → okay B R s x v ≡ eqb x kept
  okay-same-read e some = okay-same e ∙ elim (ℕ_discrete x kept) [
    | yes q ↦ rw (eq-eqb x kept q, ne_eqb (B x) 0 (λ z. some (ap B (sym q) ∙ z)))
    | no n ↦ rw (ne_eqb x kept n) (and-false (read_by B x))
  ]

  -- another, read, where the kept one is
  pub okay-other-read : s.rule ≡ Rule.Other → (B kept ≡ 0 → ⊥) → okay B R s x v ≡ read_but B kept x
  unfolding okay
  okay-other-read e some = rw (e, ne_eqb (B kept) 0 some) (go (eqb (B x) 0) (eqb x kept) (eqb (class_in (B x)) (class_in (B kept))))
    where
      go : (a b c : Bool) → meets other (cond (a || false) unread (cond b same-boat (cond c same_Class other-class))) ≡ (not a && not b)
      go true b c = refl
      go false true c = refl
      go false false true = refl
      go false false false = refl

  -- another of its class, and one of another class, where the kept one is read
  pub okay-sister-read : s.rule ≡ Rule.Sister → (B kept ≡ 0 → ⊥) → okay B R s x v ≡ sister_of B kept x
  unfolding okay
  okay-sister-read e some = rw (e, ne_eqb (B kept) 0 some) (go (eqb (B x) 0) (eqb x kept) (eqb (class_in (B x)) (class_in (B kept))))
    where
      go : (a b c : Bool) → meets sister (cond (a || false) unread (cond b same-boat (cond c same_Class other-class))) ≡ (not a && not b && c)
      go true b c = refl
      go false true c = refl
      go false false true = refl
      go false false false = refl

  pub okay-foreign-read : s.rule ≡ Rule.Foreign → (B kept ≡ 0 → ⊥) → okay B R s x v ≡ foreign_to B kept x
  unfolding okay
  okay-foreign-read e some = rw (e, ne_eqb (B kept) 0 some) (elim (ℕ_discrete x kept) [
    | yes q ↦ rw (eq-eqb x kept q, ← q, eq-eqb (class_in (B x)) (class_in (B x)) refl) (one (eqb (B x) 0))
    | no n ↦ rw (ne_eqb x kept n) (two (eqb (B x) 0) (eqb (class_in (B x)) (class_in (B kept))))
  ])
    where
      one : (a : Bool) → meets foreign (cond (a || false) unread same-boat) ≡ (not a && false)
      one true = refl
      one false = refl

      two : (a c : Bool) → meets foreign (cond (a || false) unread (cond c same_Class other-class)) ≡ (not a && not c)
      two true c = refl
      two false true = refl
      two false false = refl

  -- by what the comparison told
  pub okay-told : (o : Compared) → o ≡ told_by B x kept → met_by s.rule o ≡ okay B R s x v
  unfolding okay
  okay-told o e = ap (met_by s.rule) e

-- ---- sets that are served

module _ (B : ℕ → ℕ) (k : ℕ) (T : ℕ → Bool) where
  -- keys of read boats
  read-boat : (x : ℕ) → read_by B x ≡ true → boat_key B x ≡ suc x
  read-boat x e = rw (not-true (eqb (B x) 0) e)

  read-class : (x : ℕ) → read_by B x ≡ true → class_key B x ≡ suc (class_in (B x))
  read-class x e = rw (not-true (eqb (B x) 0) e)

  -- a key that is not 0 is that of a read boat
  some_read : (x n : ℕ) → (cond (eqb (B x) 0) 0 n ≡ 0 → ⊥) → read_by B x ≡ true
  some_read x n some = go (eqb (B x) 0) some
    where
      go : (b : Bool) → (cond b 0 n ≡ 0 → ⊥) → not b ≡ true
      go true h = absurd (h refl)
      go false h = refl

  pub read-served : ((x : ℕ) → T x ≡ read_but B k x) → ServedBy Sieve.Boats B T
  read-served is = but (suc k) (record {
    leaves = λ x e. let (r, d) = both (read_by B x) (not (eqb x k)) (sym (is x) ∙ e) in let key = read-boat x r in (λ z. omega (arith, z, key), λ z. eqb-false x k (not-true (eqb x k) d) (omega (arith, z, key)));
    takes = λ x y e same some other. let r = some_read y (suc y) some in is y ∙ (ap (◌&& not (eqb y k)) r ∙ ap not (ne_eqb y k (λ z. other (read-boat y r ∙ ap suc z))));
  })

  pub foreign-served : ((x : ℕ) → T x ≡ foreign_to B k x) → ServedBy Sieve.Classes B T
  foreign-served is = but (suc (class_in (B k))) (record {
    leaves = λ x e. let (r, d) = both (read_by B x) (not (eqb (class_in (B x)) (class_in (B k)))) (sym (is x) ∙ e) in let key = read-class x r in (λ z. omega (arith, z, key), λ z. eqb-false (class_in (B x)) (class_in (B k)) (not-true (eqb (class_in (B x)) (class_in (B k))) d) (omega (arith, z, key)));
    takes = λ x y e same some other. let r = some_read y (suc (class_in (B y))) some in is y ∙ (ap (◌&& not (eqb (class_in (B y)) (class_in (B k)))) r ∙ ap not (ne_eqb _ _ (λ z. other (read-class y r ∙ ap suc z))));
  })

  pub sister-served : ((x : ℕ) → T x ≡ sister_of B k x) → ServedBy Sieve.Sisters B T
  sister-served is = but (suc k) (record {
    leaves = λ x e. let (r, d, c) = parts x e in let key = read-boat x r in (λ z. omega (arith, z, key), λ z. eqb-false x k d (omega (arith, z, key)));
    takes = λ x y e same some other.
        let (rx, dx, cx) = parts x e in
        let r = some_read y (suc y) some in
        let kin : suc (class_in (B y)) ≡ suc (class_in (B x)) = sym (read-class y r) ∙ (same ∙ read-class x rx) in
        let class : class_in (B y) ≡ class_in (B k) = omega (arith, kin, cx) in
        is y ∙ ((λ i. r i && not (ne_eqb y k (λ z. other (read-boat y r ∙ ap suc z)) i) && eqb (class_in (B y)) (class_in (B k))) ∙ eq-eqb _ _ class);
  })
    where
      parts : (x : ℕ) → T x ≡ true → (read_by B x ≡ true) × (eqb x k ≡ false) × (class_in (B x) ≡ class_in (B k))
      parts x e =
          let (a, c) = both (read_but B k x) (eqb (class_in (B x)) (class_in (B k))) (sym (is x) ∙ e) in
          let (r, d) = both (read_by B x) (not (eqb x k)) a in
          (r, not-true (eqb x k) d, eqb-true _ _ c)

-- the boats that a rule takes are a set that is served, whatever the stack
module _ (B : ℕ → ℕ) (R : ℕ) (s : Spot) (v : ℕ) where
  abbrev at : ℕ
  at = v / s.level % R

  -- where the kept boat is unread, nobody
  rule-served : (sieve : Sieve) → NotAlways s.rule → ((B at ≡ 0 → ⊥) → ServedBy sieve B (λ x. okay B R s x v)) → ServedBy sieve B (λ x. okay B R s x v)
  rule-served sieve left read = elim (ℕ_discrete (B at) 0) [
    | yes none ↦ nobody (λ x. okay-unkept B R s x v left none)
    | no some ↦ read some
  ]

  pub other-served : s.rule ≡ Rule.Other → ServedBy Sieve.Boats B (λ x. okay B R s x v)
  other-served e = rule-served Sieve.Boats (subst NotAlways (sym e) left_other) (λ some. read-served B at _ (λ x. okay-other-read B R s x v e some))

  pub sister-always : s.rule ≡ Rule.Sister → ServedBy Sieve.Sisters B (λ x. okay B R s x v)
  sister-always e = rule-served Sieve.Sisters (subst NotAlways (sym e) left-sister) (λ some. sister-served B at _ (λ x. okay-sister-read B R s x v e some))

  pub foreign-always : s.rule ≡ Rule.Foreign → ServedBy Sieve.Classes B (λ x. okay B R s x v)
  foreign-always e = rule-served Sieve.Classes (subst NotAlways (sym e) left-foreign) (λ some. foreign-served B at _ (λ x. okay-foreign-read B R s x v e some))
