-- The order of chains in the words of `meaning`. Claimed: `first-unique` (the chain that comes before every other is one), from `before-asym`;
-- `lower-number` (of equal lines that chain has the one with the lowest number); and `lex-read` (to come no later means: equal, or lower at the
-- first difference), by which `Answer` reads the search's order.
use Rattle.std.specs.Prelude.{◌≡◌, refl, Bool, ◌⊎◌, ℕ, ◌<◌, length}
use Rattle.std.proofs.Common.{sym, ap, ap₂, ◌∙◌, subst, inl, inr, arith, length-append}
use mathlib.Core.List.{List, [], ◌∷◌, ◌++◌, nil≢cons, cons≢nil, head-eq_of_cons-eq, tail-eq_of_cons-eq}
use Rattle.std.proofs.Math.Decide.{ℕ_discrete}
use Rattle.meaning.specs.Record.{Line}
use Rattle.meaning.specs.Writing.{line_at}
use Rattle.meaning.specs.Windows.{inside}
use Rattle.meaning.specs.Language.{L, Word, unbound}
use Rattle.meaning.specs.Request.{Asked}
use Rattle.meaning.specs.Chain.{Exist, Leads, word, Usable, usable, Accepted, LowerAtFirstDifference, Before, First}
use Rattle.graph.specs.Plain.{Lex}

-- ---- the search's order

pub lex-read : (c c' : List ℕ) → Lex c c' → (c ≡ c') ⊎ LowerAtFirstDifference c c'
lex-read [] [] h = inl refl
lex-read [] (b ∷ c') h = absurd h
lex-read (a ∷ c) [] h = absurd h
lex-read (a ∷ c) (b ∷ c') (inl lt) = inr ([], a, b, c, c', refl, refl, lt)
lex-read (a ∷ c) (b ∷ c') (inr h) = go (lex-read c c' h.1)
  where
    go : (c ≡ c') ⊎ LowerAtFirstDifference c c' → (◌≡◌ {A = List ℕ} (a ∷ c) (b ∷ c')) ⊎ LowerAtFirstDifference (a ∷ c) (b ∷ c')
    go (inl e) = inl (ap₂ {C = List ℕ} ◌∷◌ h.0 e)
    go (inr (u, i, j, v, v', e, e', lt)) = inr (b ∷ u, i, j, v, v', ap₂ {C = List ℕ} ◌∷◌ h.0 e, ap {B = List ℕ} (b ∷◌) e', lt)

-- ---- the first is one

-- two chains that agree as far as u and then differ by i and j, and as far as w and then by l and k
two-differences : (u w v v' x x' : List ℕ) (i j k l : ℕ) → u ++ (i ∷ v) ≡ w ++ (l ∷ x') → u ++ (j ∷ v') ≡ w ++ (k ∷ x) → i < j → k < l → ⊥
two-differences [] [] v v' x x' i j k l e f h g = omega (arith, head-eq_of_cons-eq e, head-eq_of_cons-eq f, h, g)
two-differences [] (m ∷ w) v v' x x' i j k l e f h g = omega (arith, head-eq_of_cons-eq e, head-eq_of_cons-eq f, h)
two-differences (m ∷ u) [] v v' x x' i j k l e f h g = omega (arith, head-eq_of_cons-eq e, head-eq_of_cons-eq f, g)
two-differences (m ∷ u) (n ∷ w) v v' x x' i j k l e f h g = two-differences u w v v' x x' i j k l (tail-eq_of_cons-eq e) (tail-eq_of_cons-eq f) h g

pub before-asym : (c c' : List ℕ) → Before c c' → Before c' c → ⊥
before-asym c c' (inl h) (inl k) = omega (arith, h, k)
before-asym c c' (inl h) (inr (same, k)) = omega (arith, h, same)
before-asym c c' (inr (same, h)) (inl k) = omega (arith, k, same)
before-asym c c' (inr (same, (u, i, j, v, v', e, f, less))) (inr (again, (w, k, l, x, x', g, h, more))) =
    two-differences u w v v' x x' i j k l (sym e ∙ h) (sym f ∙ g) less more

equal_or_not : (c c' : List ℕ) → (c ≡ c') ⊎ (¬ (c ≡ c'))
equal_or_not [] [] = inl refl
equal_or_not [] (j ∷ d) = inr nil≢cons
equal_or_not (i ∷ c) [] = inr cons≢nil
equal_or_not (i ∷ c) (j ∷ d) = go (ℕ_discrete i j) (equal_or_not c d)
  where
    go : Dec (i ≡ j) → (c ≡ d) ⊎ (¬ (c ≡ d)) → (◌≡◌ {A = List ℕ} (i ∷ c) (j ∷ d)) ⊎ (¬ (◌≡◌ {A = List ℕ} (i ∷ c) (j ∷ d)))
    go (yes e) (inl f) = inl (ap₂ {C = List ℕ} ◌∷◌ e f)
    go (yes e) (inr n) = inr (λ f. n (tail-eq_of_cons-eq f))
    go (no n) f = inr (λ e. n (head-eq_of_cons-eq e))

pub first-unique : (q : Asked) (a b : ℕ) (c c' : List ℕ) → First q a b c → First q a b c' → c ≡ c'
first-unique q a b c c' (accepted, first) (accepted', first') = go (equal_or_not c c')
  where
    go : (c ≡ c') ⊎ (¬ (c ≡ c')) → c ≡ c'
    go (inl e) = e
    go (inr n) = absurd (before-asym c c' (first c' accepted' n) (first' c accepted (λ e. n (sym e))))

-- ---- equal lines

-- line i in line j's place, where the two are equal
module _ (lines : List Line) (i j : ℕ) (less : i < j) (same : line_at lines i ≡ line_at lines j) where
  exist-lower : (u v : List ℕ) → Exist lines (u ++ (j ∷ v)) → Exist lines (u ++ (i ∷ v))
  exist-lower [] v (h, rest) = (omega (arith, less, h), rest)
  exist-lower (k ∷ u) v (h, rest) = (h, exist-lower u v rest)

  leads-lower : (u v : List ℕ) (a b : ℕ) → Leads lines a b (u ++ (j ∷ v)) → Leads lines a b (u ++ (i ∷ v))
  leads-lower [] v a b (h, rest) = (ap (λ (l : Line). l.from) same ∙ h, subst (λ (l : Line). Leads lines l.to b v) (sym same) rest)
  leads-lower (k ∷ u) v a b (h, rest) = (h, leads-lower u v (line_at lines k).to b rest)

  word-lower : (u v : List ℕ) → word lines (u ++ (j ∷ v)) ≡ word lines (u ++ (i ∷ v))
  word-lower [] v = ap (λ (l : Line). record { kind = l.kind; boat = l.boat } ∷ word lines v) (sym same)
  word-lower (k ∷ u) v = ap (λ (w : Word). record { kind = (line_at lines k).kind; boat = (line_at lines k).boat } ∷ w) (word-lower u v)

usable-lower : (test : ℕ → Bool) (i j : ℕ) → test i ≡ test j → (u v : List ℕ) → Usable test (u ++ (j ∷ v)) → Usable test (u ++ (i ∷ v))
usable-lower test i j same [] v (h, rest) = (same ∙ h, rest)
usable-lower test i j same (k ∷ u) v (h, rest) = (h, usable-lower test i j same u v rest)

accepted-lower : (q : Asked) (a b : ℕ) (u v : List ℕ) (i j : ℕ) → i < j → line_at q.day.lines i ≡ line_at q.day.lines j → Accepted q a b (u ++ (j ∷ v)) → Accepted q a b (u ++ (i ∷ v))
accepted-lower q a b u v i j less same ((exist, leads, accepts), usables) =
    let lines = q.day.lines in (
      (
        exist-lower lines i j less same u v exist,
        leads-lower lines i j less same u v a b leads,
        subst (L q.pattern unbound) (word-lower lines i j less same u v) accepts,
      ),
      usable-lower (usable q) i j (ap (inside q.options.windows) same) u v usables,
    )

same_length : (u v : List ℕ) (i j : ℕ) → length (u ++ (i ∷ v)) ≡ length (u ++ (j ∷ v))
same_length u v i j = omega (arith, length-append u (i ∷ v), length-append u (j ∷ v))

-- no entry of the first chain has an equal line with a lower number
pub lower-number : (q : Asked) (a b : ℕ) (c u v : List ℕ) (i j : ℕ) → First q a b c → c ≡ u ++ (j ∷ v) → i < j → line_at q.day.lines i ≡ line_at q.day.lines j → ⊥
lower-number q a b c u v i j (accepted, first) e less same =
    let lower = u ++ (i ∷ v) in
    let before : Before lower c = inr (same_length u v i j ∙ ap length (sym e), (u, i, j, v, v, refl, e, less)) in
    let other : ¬ (c ≡ lower) = λ h. let itself = subst (Before lower) h before in before-asym lower lower itself itself in
    before-asym lower c before (first lower (accepted-lower q a b u v i j less same (subst (Accepted q a b) e accepted)) other)
