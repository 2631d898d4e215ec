-- Unread numbers, as document 02's request One has them: a test that is met means that both boats are read (`met-read`, and of the language
-- `test_read`), and between read boats every rule is as 001 has it, by plain equality (`read_same`, `read-other`).
use Rattle.std.specs.Prelude.{◌≡◌, refl, Bool, true, false, cond, not, ◌||◌, [], ◌∷◌, ℕ, eqb}
use Rattle.std.proofs.lemmas.Bool.{false≢true}
use Rattle.std.proofs.Math.Option.{Option, none, some}
use Rattle.meaning.specs.Record.{Boat, agree}
use Rattle.meaning.specs.Pattern.{Rule, same, other, sister, foreign, test}
use Rattle.meaning.specs.Language.{Letter, Word, Valuation, Compared, unread, same-boat, same_Class, other-class, is_unread, compared, meets, Meets, L}

-- ---- two boats

pub met-read : (r : Rule) (b kept : Boat) → meets r (compared b kept) ≡ true → (is_unread b ≡ false) × (is_unread kept ≡ false)
met-read r b kept met = go (is_unread b) (is_unread kept) _ met
  where
    none-met : (r : Rule) → meets r unread ≡ true → ⊥
    none-met same e = false≢true e
    none-met other e = false≢true e
    none-met sister e = false≢true e
    none-met foreign e = false≢true e

    go : (x y : Bool) (o : Compared) → meets r (cond (x || y) unread o) ≡ true → (x ≡ false) × (y ≡ false)
    go true y o e = absurd (none-met r e)
    go false true o e = absurd (none-met r e)
    go false false o e = (refl, refl)

module _ (b kept : Boat) (line : is_unread b ≡ false) (slot : is_unread kept ≡ false) where
  pub read_same : meets same (compared b kept) ≡ agree b kept
  read_same = rw (line, slot) (go (agree b kept) (eqb b.class kept.class))
    where
      go : (t u : Bool) → meets same (cond t same-boat (cond u same_Class other-class)) ≡ t
      go true u = refl
      go false true = refl
      go false false = refl

  pub read-other : meets other (compared b kept) ≡ not (agree b kept)
  read-other = rw (line, slot) (go (agree b kept) (eqb b.class kept.class))
    where
      go : (t u : Bool) → meets other (cond t same-boat (cond u same_Class other-class)) ≡ not t
      go true u = refl
      go false true = refl
      go false false = refl

-- ---- the language

-- a word of a test has one letter, with a read boat, and the slot holds a read boat
pub test_read : (r : Rule) (k s : ℕ) (ν : Valuation) (w : Word) → L (test r k s) ν w
    → (a : Letter) × (kept : Boat) × (w ≡ a ∷ []) × (ν s ≡ some kept) × (is_unread a.boat ≡ false) × (is_unread kept ≡ false)
test_read r k s ν w (a, is, kind, met) = go (ν s) refl met
  where
    go : (o : Option Boat) → ν s ≡ o → Meets r o a.boat → (a : Letter) × (kept : Boat) × (w ≡ a ∷ []) × (ν s ≡ some kept) × (is_unread a.boat ≡ false) × (is_unread kept ≡ false)
    go none e m = absurd m
    go (some kept) e m = let (line, slot) = met-read r a.boat kept m in (a, kept, is, e, line, slot)
