-- Two patterns are alike when they have the same words, whatever the slots hold.
-- Claimed: swapping and regrouping an either, regrouping a then, doubling a repeat and putting nothing before or after a pattern
-- give a pattern that is alike, and patterns made of alike ones are alike. Used where two wordings must get one reply.
use Rattle.std.specs.Prelude.{◌≡◌, refl, [], ◌++◌, ◌↔◌, ℕ, zero, suc}
use Rattle.std.proofs.Common.{sym, ap, ◌∙◌, append_assoc, append-nil, inl, inr, ⊎_elim}
use Rattle.std.proofs.Math.Logic.{⊎_swap, ⊎_map}
use mathlib.Core.Logic.Iff
use Rattle.meaning.specs.Pattern.{Pattern, nothing, either, then, repeat, keep, counted}
use Rattle.meaning.specs.Language.{Word, Valuation, bind, Star, stop, more, Power, Times, L}

pub record Alike (p q : Pattern) : Type 0 where
  pub words : (ν : Valuation) (w : Word) → L p ν w ↔ L q ν w

-- ---- an equivalence

pub alike_refl : (p : Pattern) → Alike p p
alike_refl p = record { words = λ ν w. Iff.rfl }

pub alike-sym : {p q : Pattern} → Alike p q → Alike q p
alike-sym a = record { words = λ ν w. Iff.symm (a.words ν w) }

pub alike-trans : {p q r : Pattern} → Alike p q → Alike q r → Alike p r
alike-trans a b = record { words = λ ν w. Iff.trans (a.words ν w) (b.words ν w) }

-- ---- none or more words, one after the other

star-map : {P Q : Word → Type 0} → ((u : Word) → P u → Q u) → {w : Word} → Star P w → Star Q w
star-map f (stop e) = stop e
star-map f (more u v e x s) = more u v e (f u x) (star-map f s)

star-append : {P : Word → Type 0} {u : Word} → Star P u → {v : Word} → Star P v → Star P (u ++ v)
star-append (stop e) t = rw e t
star-append (more a b e x s) {v} t = more a (b ++ v) (ap (◌++ v) e ∙ append_assoc a b v) x (star-append s t)

star-flat : {P : Word → Type 0} {w : Word} → Star (Star P) w → Star P w
star-flat (stop e) = stop e
star-flat (more u v e s t) = rw e (star-append s (star-flat t))

star-once : {P : Word → Type 0} {w : Word} → P w → Star P w
star-once {w} x = more w [] (sym (append-nil w)) x (stop refl)

-- ---- so many words, one after the other

module _ {P Q : Word → Type 0} (f : (u : Word) → P u → Q u) where
  power-map : (n : ℕ) (w : Word) → Power P n w → Power Q n w
  power-map zero w e = e
  power-map (suc n) w (u, v, e, x, y) = (u, v, e, f u x, power-map n v y)

  times-map : (low high : ℕ) (w : Word) → Times P low high w → Times Q low high w
  times-map low high w (n, l, h, x) = (n, l, h, power-map n w x)

-- ---- wordings

pub either-swapped : (p q : Pattern) → Alike (either p q) (either q p)
either-swapped p q = record { words = λ ν w. (⊎_swap, ⊎_swap) }

pub either-regrouped : (p q r : Pattern) → Alike (either (either p q) r) (either p (either q r))
either-regrouped p q r = record {
  words = λ ν w. (
    ⊎_elim (⊎_elim (λ x. inl x) (λ y. inr (inl y))) (λ z. inr (inr z)),
    ⊎_elim (λ x. inl (inl x)) (⊎_elim (λ y. inl (inr y)) (λ z. inr z)),
  );
}

pub then-regrouped : (p q r : Pattern) → Alike (then (then p q) r) (then p (then q r))
then-regrouped p q r = record {
  words = λ ν w. (
    λ (s, t, e, (u, v, f, x, y), z). (u, v ++ t, e ∙ ap (◌++ t) f ∙ append_assoc u v t, x, (v, t, refl, y, z)),
    λ (u, s, e, x, (v, t, f, y, z)). (u ++ v, t, e ∙ ap (u ++◌) f ∙ sym (append_assoc u v t), (u, v, refl, x, y), z),
  );
}

pub repeat-doubled : (p : Pattern) → Alike (repeat (repeat p)) (repeat p)
repeat-doubled p = record { words = λ ν w. (star-flat, star-once) }

pub nothing-before : (p : Pattern) → Alike (then nothing p) p
nothing-before p = record { words = λ ν w. (λ (u, v, e, f, x). let g : w ≡ v = e ∙ ap (◌++ v) f in rw g x, λ x. ([], w, refl, refl, x)) }

pub nothing-after : (p : Pattern) → Alike (then p nothing) p
nothing-after p = record {
  words = λ ν w. (
    λ (u, v, e, x, f). let g : w ≡ u = e ∙ (ap (u ++◌) f ∙ append-nil u) in rw g x,
    λ x. (w, [], sym (append-nil w), x, refl),
  );
}

-- ---- inside any pattern

pub alike-either : {p p' q q' : Pattern} → Alike p p' → Alike q q' → Alike (either p q) (either p' q')
alike-either a b = record { words = λ ν w. (⊎_map (a.words ν w).0 (b.words ν w).0, ⊎_map (a.words ν w).1 (b.words ν w).1) }

pub alike_then : {p p' q q' : Pattern} → Alike p p' → Alike q q' → Alike (then p q) (then p' q')
alike_then a b = record {
  words = λ ν w. (
    λ (u, v, e, x, y). (u, v, e, (a.words ν u).0 x, (b.words ν v).0 y),
    λ (u, v, e, x, y). (u, v, e, (a.words ν u).1 x, (b.words ν v).1 y),
  );
}

pub alike-repeat : {p p' : Pattern} → Alike p p' → Alike (repeat p) (repeat p')
alike-repeat a = record { words = λ ν w. (star-map (λ u. (a.words ν u).0), star-map (λ u. (a.words ν u).1)) }

pub alike-keep : {p p' : Pattern} (k s : ℕ) → Alike p p' → Alike (keep k s p) (keep k s p')
alike-keep k s a = record {
  words = λ ν w. (
    λ (b, u, e, f, x). (b, u, e, f, (a.words (bind ν s b.boat) u).0 x),
    λ (b, u, e, f, x). (b, u, e, f, (a.words (bind ν s b.boat) u).1 x),
  );
}

pub alike-counted : {p p' : Pattern} (low high : ℕ) → Alike p p' → Alike (counted low high p) (counted low high p')
alike-counted low high a = record { words = λ ν w. (times-map (λ u. (a.words ν u).0) low high w, times-map (λ u. (a.words ν u).1) low high w) }
