-- Membership in the lists that the search makes: one law for each, as an equivalence.
-- Lists of states matter by their members: `Forward`, `PhaseTwo`, and the steps between concrete states, go by these laws.
use Rattle.std.specs.Prelude.{◌≡◌, refl, Bool, true, false, ◌↔◌, List, [], ◌∷◌, ◌++◌, ℕ, zero, suc, ◌+◌, ◌<◌, ◌≤◌, eqb}
use Rattle.std.proofs.Common.{ap, sym, ◌∙◌, ⊎_elim, arith, eqb-true, eq-eqb}
use Rattle.std.proofs.lemmas.Bool.{false≢true, eqb-false}
use Rattle.std.proofs.Math.Option.{Option, none, some, none-ne-some, some-injective}
use mathlib.Core.List.Memᴰ
use Rattle.std.proofs.Math.Decide.{ℕ_discrete}
use Rattle.lists.specs.Listed.{◌∈◌, none_in}
use Rattle.graph.specs.Plain.{Entry, states, look, news, count, memb, nub, filt, flat, is_at, level}
use Rattle.graph.proofs.Entries.{look-push, look-push-other, news-old, news-new}

-- ---- the test of membership

pub memb-in : (t : ℕ) (l : List ℕ) → memb t l ≡ true → t ∈ l
unfolding memb
memb-in t [] h = absurd (false≢true h)
memb-in t (x ∷ xs) h = go (eqb t x) refl (memb-in t xs)
  where
    go : (b : Bool) → eqb t x ≡ b → (memb t xs ≡ true → t ∈ xs) → t ∈ (x ∷ xs)
    go true e ih = Memᴰ.head (eqb-true t x e)
    go false e ih = Memᴰ.tail (ih (rw (e, memb) at h))

pub in-memb : (t : ℕ) (l : List ℕ) → t ∈ l → memb t l ≡ true
unfolding memb
in-memb t [] h = none_in h
in-memb t (x ∷ xs) h = go (eqb t x) refl (in-memb t xs)
  where
    go : (b : Bool) → eqb t x ≡ b → (t ∈ xs → memb t xs ≡ true) → memb t (x ∷ xs) ≡ true
    go true e ih = rw (e, memb)
    go false e ih = rw (e, memb) (⊎_elim (λ p. absurd (eqb-false t x e p)) (λ n. ih n) (Memᴰ.cases_cons h))

pub memb-same : (t : ℕ) (l k : List ℕ) → (t ∈ l) ↔ (t ∈ k) → memb t l ≡ memb t k
memb-same t l k e = go (memb t l) (memb t k) refl refl
  where
    go : (a b : Bool) → memb t l ≡ a → memb t k ≡ b → a ≡ b
    go true true p q = refl
    go true false p q = absurd (false≢true (sym q ∙ in-memb t k (e.0 (memb-in t l p))))
    go false true p q = absurd (false≢true (sym p ∙ in-memb t l (e.1 (memb-in t k q))))
    go false false p q = refl

-- ---- new states, each once

-- the new states of a list are those that are not in f
pub news-in : (d : ℕ) (l : List ℕ) (f : List Entry) (t : ℕ) → (t ∈ states (news d f l)) ↔ ((t ∈ l) × (look t f ≡ none))
news-in d [] f t = unfold news in (λ m. none_in m, λ m. m.0)
news-in d (p ∷ ps) f t = go (look p f) refl (λ f'. news-in d ps f' t)
  where
    go : (o : Option ℕ)
        → look p f ≡ o → ((f' : List Entry) → (t ∈ states (news d f' ps)) ↔ ((t ∈ ps) × (look t f' ≡ none)))
        → (t ∈ states (news d f (p ∷ ps))) ↔ ((t ∈ (p ∷ ps)) × (look t f ≡ none))
    go none e ih = rw (news-new d f p ps e) (
      λ m. ⊎_elim
          (λ (q : t ≡ p). (Memᴰ.head q, rw q e))
          (λ n. let r = (ih _).0 n in (Memᴰ.tail r.0, sym (look-push-other f p d t (other r.1)) ∙ r.1))
          (Memᴰ.cases_cons m),
      λ m. elim (ℕ_discrete t p) [
        | yes q ↦ Memᴰ.head q
        | no q ↦ Memᴰ.tail ((ih _).1 (⊎_elim (λ z. absurd (q z)) (λ n. n) (Memᴰ.cases_cons m.0), look-push-other f p d t q ∙ m.1))
      ],
    )
      where
        other : look t (f ++ ((p, d) ∷ [])) ≡ none → t ≡ p → ⊥
        other h q = none-ne-some d (sym h ∙ (ap (λ x. look x (f ++ ((p, d) ∷ []))) q ∙ look-push f p d e))
    go (some y) e ih = rw (news-old d f p ps y e) (
      λ m. let r = (ih f).0 m in (Memᴰ.tail r.0, r.1),
      λ m. (ih f).1 (⊎_elim (λ q. absurd (none-ne-some y (sym m.1 ∙ (ap (λ x. look x f) q ∙ e)))) (λ n. n) (Memᴰ.cases_cons m.0), m.1),
    )

pub nub-in : (l : List ℕ) (t : ℕ) → (t ∈ nub l) ↔ (t ∈ l)
unfolding nub look
nub-in l t = let r = news-in 0 l [] t in (λ m. (r.0 m).0, λ m. r.1 (m, refl))

-- ---- tested, end to end, counted

pub filt-in : (p : ℕ → Bool) (l : List ℕ) (t : ℕ) → (t ∈ filt p l) ↔ ((t ∈ l) × (p t ≡ true))
unfolding filt
filt-in p [] t = (λ m. none_in m, λ m. m.0)
filt-in p (x ∷ xs) t = go (p x) refl (filt-in p xs t)
  where
    go : (b : Bool) → p x ≡ b → (t ∈ filt p xs) ↔ ((t ∈ xs) × (p t ≡ true)) → (t ∈ filt p (x ∷ xs)) ↔ ((t ∈ (x ∷ xs)) × (p t ≡ true))
    go true e ih = rw (e, filt) (
      λ m. ⊎_elim (λ (q : t ≡ x). (Memᴰ.head q, ap p q ∙ e)) (λ n. (Memᴰ.tail (ih.0 n).0, (ih.0 n).1)) (Memᴰ.cases_cons m),
      λ m. ⊎_elim (λ q. Memᴰ.head q) (λ n. Memᴰ.tail (ih.1 (n, m.1))) (Memᴰ.cases_cons m.0),
    )
    go false e ih = rw (e, filt) (
      λ m. (Memᴰ.tail (ih.0 m).0, (ih.0 m).1),
      λ m. ⊎_elim (λ q. absurd (false≢true (sym e ∙ (sym (ap p q) ∙ m.1)))) (λ n. ih.1 (n, m.1)) (Memᴰ.cases_cons m.0),
    )

pub flat_in : (g : ℕ → List ℕ) (l : List ℕ) (t : ℕ) → (t ∈ flat g l) ↔ ((s : ℕ) × (s ∈ l) × (t ∈ g s))
unfolding flat
flat_in g [] t = (λ m. none_in m, λ m. none_in m.1)
flat_in g (x ∷ xs) t = (
  λ m. ⊎_elim (λ n. (x, Memᴰ.head refl, n)) (λ n. let r = (flat_in g xs t).0 n in (r.0, Memᴰ.tail r.1, r.2)) (Memᴰ.append_cases (g x) m),
  λ m. ⊎_elim (λ p. Memᴰ.append_left (flat g xs) (rw p at m.2)) (λ n. Memᴰ.append_right (g x) ((flat_in g xs t).1 (m.0, n, m.2))) (Memᴰ.cases_cons m.1),
)

pub count-in : (k n s : ℕ) → (s ∈ count k n) ↔ ((k ≤ s) × (s < k + n))
unfolding count
count-in k zero s = (λ h. none_in h, λ h. absurd (omega arith))
count-in k (suc n) s =
    let r = count-in (suc k) n s in (
      λ h. ⊎_elim (λ (p : s ≡ k). omega arith) (λ i. let q = r.0 i in omega arith) (Memᴰ.cases_cons h),
      λ h. elim (ℕ_discrete s k) [ yes p ↦ Memᴰ.head p | no p ↦ Memᴰ.tail (r.1 (omega arith)) ],
    )

-- ---- the states at a distance

pub is_at-some : (k : ℕ) (o : Option ℕ) → (is_at k o ≡ true) ↔ (o ≡ some k)
unfolding is_at
is_at-some k none = (λ h. absurd (false≢true h), λ h. absurd (none-ne-some k h))
is_at-some k (some d) = (λ h. ap {B = Option ℕ} some (eqb-true d k h), λ h. eq-eqb d k (some-injective d k h))

module _ (dist : ℕ → Option ℕ) (k : ℕ) (l : List ℕ) (t : ℕ) where
  pub at_in : (t ∈ filt (λ x. is_at k (dist x)) l) ↔ ((t ∈ l) × (dist t ≡ some k))
  at_in =
      let f = filt-in (λ x. is_at k (dist x)) l t in
      let a = is_at-some k (dist t) in
      (λ m. ((f.0 m).0, a.0 (f.0 m).1), λ m. f.1 (m.0, a.1 m.1))

  pub level_in : (t ∈ level dist k l) ↔ ((t ∈ l) × (dist t ≡ some k))
  unfolding level
  level_in = let n = nub-in (filt (λ x. is_at k (dist x)) l) t in (λ m. at_in.0 (n.0 m), λ m. n.1 (at_in.1 m))
