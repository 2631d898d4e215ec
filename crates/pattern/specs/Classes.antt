-- Classes, as document 02's request Two has them: between read boats 28 is met by another boat of the class and 29 by another class
-- (`read-sister`, `read-foreign`), and one of 22, 28 and 29 is met (`read_one`); of whatever boats no two of these are (`one_at_most`),
-- and 23 is met exactly where 28 or 29 is (`other-is-either`), so that it is a short wording of the two (`other-alike`).
use Rattle.std.specs.Prelude.{◌≡◌, refl, Bool, true, false, cond, not, ◌&&◌, ◌||◌, ◌⊎◌, ◌↔◌, ℕ, eqb}
use Rattle.std.proofs.Common.{sym, ◌∙◌, inl, inr, ⊎_elim}
use Rattle.std.proofs.lemmas.Bool.{false≢true}
use Rattle.std.proofs.Math.Logic.{⊎_map}
use Rattle.std.proofs.Math.Option.{Option, none, some}
use Rattle.meaning.specs.Record.{Boat, agree}
use Rattle.meaning.specs.Pattern.{Rule, same, other, sister, foreign, test, either}
use Rattle.meaning.specs.Language.{Compared, unread, same-boat, same_Class, other-class, is_unread, compared, meets, Meets}
use Rattle.pattern.specs.Wordings.{Alike}

-- ---- two read boats

module _ (b kept : Boat) (line : is_unread b ≡ false) (slot : is_unread kept ≡ false) where
  pub read-sister : meets sister (compared b kept) ≡ (eqb b.class kept.class && not (agree b kept))
  read-sister = rw (line, slot) (go (agree b kept) (eqb b.class kept.class))
    where
      go : (t u : Bool) → meets sister (cond t same-boat (cond u same_Class other-class)) ≡ (u && not t)
      go true true = refl
      go true false = refl
      go false true = refl
      go false false = refl

  -- whatever the numbers
  pub read-foreign : meets foreign (compared b kept) ≡ not (eqb b.class kept.class)
  read-foreign = rw (line, slot) (go (eqb b.class kept.class) (eqb b.sail kept.sail))
    where
      go : (u v : Bool) → meets foreign (cond (u && v) same-boat (cond u same_Class other-class)) ≡ not u
      go true true = refl
      go true false = refl
      go false v = refl

  pub read_one : (meets same (compared b kept) || (meets sister (compared b kept) || meets foreign (compared b kept))) ≡ true
  read_one = rw (line, slot) (go (agree b kept) (eqb b.class kept.class))
    where
      go : (t u : Bool) → let o = cond t same-boat (cond u same_Class other-class) in (meets same o || (meets sister o || meets foreign o)) ≡ true
      go true u = refl
      go false true = refl
      go false false = refl

-- ---- two boats, read or not

module _ (b kept : Boat) where
  pub one_at_most : (r s : Rule) → (r ≡ other → ⊥) → (s ≡ other → ⊥) → meets r (compared b kept) ≡ true → meets s (compared b kept) ≡ true → r ≡ s
  one_at_most r s n m e f = only r (compared b kept) n e ∙ sym (only s (compared b kept) m f)
    where
      -- the rule, beside other, that an outcome meets; unread has none
      the_rule : Compared → Rule
      the_rule unread = other
      the_rule same-boat = same
      the_rule same_Class = sister
      the_rule other-class = foreign

      only : (r : Rule) (o : Compared) → (r ≡ other → ⊥) → meets r o ≡ true → r ≡ the_rule o
      only same unread n e = absurd (false≢true e)
      only same same-boat n e = refl
      only same same_Class n e = absurd (false≢true e)
      only same other-class n e = absurd (false≢true e)
      only other o n e = absurd (n refl)
      only sister unread n e = absurd (false≢true e)
      only sister same-boat n e = absurd (false≢true e)
      only sister same_Class n e = refl
      only sister other-class n e = absurd (false≢true e)
      only foreign unread n e = absurd (false≢true e)
      only foreign same-boat n e = absurd (false≢true e)
      only foreign same_Class n e = absurd (false≢true e)
      only foreign other-class n e = refl

  pub other-is-either : meets other (compared b kept) ≡ (meets sister (compared b kept) || meets foreign (compared b kept))
  other-is-either = go (compared b kept)
    where
      go : (o : Compared) → meets other o ≡ (meets sister o || meets foreign o)
      go unread = refl
      go same-boat = refl
      go same_Class = refl
      go other-class = refl

-- ---- the language

-- of a slot, with a boat or without one
other-met : (kept : Option Boat) (b : Boat) → Meets other kept b ↔ (Meets sister kept b ⊎ Meets foreign kept b)
other-met none b = (λ m. absurd m, ⊎_elim (λ m. m) (λ m. m))
other-met (some kept) b = (λ m. split _ _ (sym (other-is-either b kept) ∙ m), λ m. other-is-either b kept ∙ joined _ _ m)
  where
    split : (x y : Bool) → (x || y) ≡ true → (x ≡ true) ⊎ (y ≡ true)
    split true y e = inl refl
    split false y e = inr e

    joined : (x y : Bool) → (x ≡ true) ⊎ (y ≡ true) → (x || y) ≡ true
    joined true y m = refl
    joined false y (inl e) = absurd (false≢true e)
    joined false y (inr e) = e

pub other-alike : (k s : ℕ) → Alike (test other k s) (either (test sister k s) (test foreign k s))
other-alike k s = record {
  words = λ ν w. (
    λ (a, is, kind, met). ⊎_map (λ m. (a, is, kind, m)) (λ m. (a, is, kind, m)) ((other-met (ν s) a.boat).0 met),
    ⊎_elim (λ (a, is, kind, met). (a, is, kind, (other-met (ν s) a.boat).1 (inl met))) (λ (a, is, kind, met). (a, is, kind, (other-met (ν s) a.boat).1 (inr met))),
  );
}
