-- Lists of entries: what `look` and `news` find in them, lists with each state once, lists in order of distance.
-- `Distances` keeps these of all that phase one finds; `Table` and `PhaseTwo` use the laws of `look` and `news` for the words of a table.
use Rattle.std.specs.Prelude.{◌≡◌, refl, Bool, true, false, ◌⊎◌, List, [], ◌∷◌, ◌++◌, ℕ, zero, suc, ◌<◌, ◌≤◌, eqb, length}
use Rattle.std.proofs.Common.{ap, sym, ◌∙◌, inl, inr, ⊎_elim, arith, eqb-true, eq-eqb, ne_eqb}
use Rattle.std.proofs.Math.Option.{Option, none, some, none-ne-some, some-injective}
use mathlib.Core.List.Memᴰ
use Rattle.std.proofs.Math.Decide.{ℕ_discrete}
use Rattle.std.proofs.lemmas.Bool.{eqb-false}
use Rattle.lists.specs.Listed.{◌∈◌, none_in}
use Rattle.graph.specs.Plain.{Entry, look, news}

-- ---- two entries that are equal, part by part

both : {a b c d : ℕ} → a ≡ c → b ≡ d → ◌≡◌ {A = Entry} (a, b) (c, d)
both p q = λ i. (p i, q i)

pub same-state : {x y : Entry} → x ≡ y → x.0 ≡ y.0
same-state p = λ i. (p i).0

pub same-distance : {x y : Entry} → x ≡ y → x.1 ≡ y.1
same-distance p = λ i. (p i).1

-- the entry of a state under an equal state
pub under : {s s' d : ℕ} {f : List Entry} → s ≡ s' → (s', d) ∈ f → (s, d) ∈ f
under p m = Memᴰ.cast (both p refl) m

-- ---- look

look_hit : (s : ℕ) (e : Entry) (f : List Entry) → eqb s e.0 ≡ true → look s (e ∷ f) ≡ some e.1
unfolding look
look_hit s e f t = rw (t, look)

look-miss : (s : ℕ) (e : Entry) (f : List Entry) → eqb s e.0 ≡ false → look s (e ∷ f) ≡ look s f
unfolding look
look-miss s e f t = rw (t, look)

pub look-some : (s : ℕ) (f : List Entry) (d : ℕ) → look s f ≡ some d → (s, d) ∈ f
unfolding look
look-some s [] d h = absurd (none-ne-some d h)
look-some s (e ∷ f) d h = go (λ h'. look-some s f d h') (eqb s e.0) refl
  where
    go : (look s f ≡ some d → (s, d) ∈ f) → (b : Bool) → eqb s e.0 ≡ b → (s, d) ∈ (e ∷ f)
    go ih true t = Memᴰ.head (both {d = e.1} (eqb-true s e.0 t) (some-injective d e.1 (sym h ∙ look_hit s e f t)))
    go ih false t = Memᴰ.tail (ih (sym (look-miss s e f t) ∙ h))

pub look_none : (s : ℕ) (f : List Entry) → look s f ≡ none → (d : ℕ) → (s, d) ∈ f → ⊥
unfolding look
look_none s [] h d m = none_in m
look_none s (e ∷ f) h d m = go (λ h'. look_none s f h' d) (eqb s e.0) refl (Memᴰ.cases_cons m)
  where
    go : (look s f ≡ none → (s, d) ∈ f → ⊥) → (b : Bool) → eqb s e.0 ≡ b → (◌≡◌ {A = Entry} (s, d) e) ⊎ (s, d) ∈ f → ⊥
    go ih true t c = none-ne-some e.1 (sym h ∙ look_hit s e f t)
    go ih false t (inl p) = eqb-false s e.0 t (same-state p)
    go ih false t (inr n) = ih (sym (look-miss s e f t) ∙ h) n

-- an entry put at the end: it is found where its state was not, and nothing else changes
pub look-push : (f : List Entry) (p d : ℕ) → look p f ≡ none → look p (f ++ ((p, d) ∷ [])) ≡ some d
look-push [] p d h = look_hit p (p, d) [] (eq-eqb p p refl)
look-push (e ∷ f) p d h = go (eqb p e.0) refl (look-push f p d)
  where
    go : (b : Bool) → eqb p e.0 ≡ b → (look p f ≡ none → look p (f ++ ((p, d) ∷ [])) ≡ some d) → look p (e ∷ (f ++ ((p, d) ∷ []))) ≡ some d
    go true t ih = absurd (none-ne-some e.1 (sym h ∙ look_hit p e f t))
    go false t ih = look-miss p e _ t ∙ ih (sym (look-miss p e f t) ∙ h)

pub look-push-other : (f : List Entry) (p d s : ℕ) → (s ≡ p → ⊥) → look s (f ++ ((p, d) ∷ [])) ≡ look s f
look-push-other [] p d s h = look-miss s (p, d) [] (ne_eqb s p h)
look-push-other (e ∷ f) p d s h = go (eqb s e.0) refl (look-push-other f p d s h)
  where
    go : (b : Bool) → eqb s e.0 ≡ b → look s (f ++ ((p, d) ∷ [])) ≡ look s f → look s (e ∷ (f ++ ((p, d) ∷ []))) ≡ look s (e ∷ f)
    go true t ih = look_hit s e _ t ∙ sym (look_hit s e f t)
    go false t ih = look-miss s e _ t ∙ ih ∙ sym (look-miss s e f t)

-- ---- news

pub news-old : (d : ℕ) (f : List Entry) (p : ℕ) (ps : List ℕ) (e : ℕ) → look p f ≡ some e → news d f (p ∷ ps) ≡ news d f ps
unfolding news
news-old d f p ps e h = rw (h, news)

pub news-new : (d : ℕ) (f : List Entry) (p : ℕ) (ps : List ℕ) → look p f ≡ none → news d f (p ∷ ps) ≡ (p, d) ∷ news d (f ++ ((p, d) ∷ [])) ps
unfolding news
news-new d f p ps h = rw (h, news)

-- ---- each state once

abbrev pub Fresh : ℕ → List Entry → Type 0
Fresh s f = (d : ℕ) → (s, d) ∈ f → ⊥

abbrev pub Once : List Entry → Type 0
Once [] = Unit {0}
Once (e ∷ f) = Fresh e.0 f × Once f

-- so a state has one distance
pub once-unique : (f : List Entry) → Once f → (s d d' : ℕ) → (s, d) ∈ f → (s, d') ∈ f → d ≡ d'
once-unique [] o s d d' m m' = none_in m
once-unique (e ∷ f) o s d d' m m' = go (once-unique f o.1 s d d') (Memᴰ.cases_cons m) (Memᴰ.cases_cons m')
  where
    go : ((s, d) ∈ f → (s, d') ∈ f → d ≡ d') → (◌≡◌ {A = Entry} (s, d) e) ⊎ (s, d) ∈ f → (◌≡◌ {A = Entry} (s, d') e) ⊎ (s, d') ∈ f → d ≡ d'
    go ih (inl p) (inl p') = same-distance p ∙ sym (same-distance p')
    go ih (inl p) (inr n) = absurd (o.0 d' (under (sym (same-state p)) n))
    go ih (inr n) (inl p) = absurd (o.0 d (under (sym (same-state p)) n))
    go ih (inr n) (inr n') = ih n n'

pub once-look : (f : List Entry) → Once f → (s d : ℕ) → (s, d) ∈ f → look s f ≡ some d
once-look f o s d m = go (look s f) refl
  where
    go : (x : Option ℕ) → look s f ≡ x → look s f ≡ some d
    go none e = absurd (look_none s f e d m)
    go (some y) e = e ∙ ap {B = Option ℕ} some (once-unique f o s y d (look-some s f y e) m)

pub once-snoc : (f : List Entry) (p d : ℕ) → Once f → Fresh p f → Once (f ++ ((p, d) ∷ []))
once-snoc [] p d o h = (λ x m. none_in m, tt)
once-snoc (e ∷ f) p d o h = (λ x m. ⊎_elim (λ n. o.0 x n) (fresh x) (Memᴰ.append_cases f m), once-snoc f p d o.1 (λ x m. h x (Memᴰ.tail m)))
  where
    fresh : (x : ℕ) → ◌∈◌ {A = Entry} (e.0, x) ((p, d) ∷ []) → ⊥
    fresh x n = h e.1 (Memᴰ.head (both {d = e.1} (sym (same-state (Memᴰ.eq_of_singleton n))) refl))

-- f without the state s: at most one entry shorter
pub record Without (s : ℕ) (f g : List Entry) : Type 0 where
  pub once : Once g
  pub of : (x : Entry) → x ∈ g → (x ∈ f) × (x.0 ≡ s → ⊥)
  pub long : length f ≤ suc (length g)

without : (s : ℕ) (f : List Entry) → Once f → (g : List Entry) × Without s f g
without s [] o = ([], record { once = tt; of = λ x m. none_in m; long = omega arith })
without s (e ∷ f) o = go (without s f o.1) (ℕ_discrete e.0 s)
  where
    go : (g : List Entry) × Without s f g → Dec (e.0 ≡ s) → (g : List Entry) × Without s (e ∷ f) g
    go r (yes p) = (f, record { once = o.1; of = λ x m. (Memᴰ.tail m, λ q. o.0 x.1 (under (p ∙ sym q) m)); long = omega arith })
    go (g, w) (no p) = (
      e ∷ g,
      record {
        once = (λ d m. o.0 d (w.of (e.0, d) m).0, w.once);
        of = λ x m. ⊎_elim (λ r. (Memᴰ.head r, λ q. p (sym (same-state r) ∙ q))) (λ n. (Memᴰ.tail (w.of x n).0, (w.of x n).1)) (Memᴰ.cases_cons m);
        long = omega (arith, w.long);
      },
    )

-- there are at most as many entries as states
pub once-length : (N : ℕ) (f : List Entry) → Once f → ((x : Entry) → x ∈ f → x.0 < N) → length f ≤ N
once-length zero [] o h = omega arith
once-length zero (e ∷ f) o h = absurd (let z = h e (Memᴰ.head refl) in omega arith)
once-length (suc N) f o h =
    let (g, w) = without N f o in
    let r = once-length N g w.once (λ x m. let lt = h x (w.of x m).0 in let ne = (w.of x m).1 in omega arith) in
    omega (arith, w.long)

-- ---- in order of distance

abbrev pub Sorted : List Entry → Type 0
Sorted [] = Unit {0}
Sorted (e ∷ q) = ((x : Entry) → x ∈ q → e.1 ≤ x.1) × Sorted q

pub sorted-snoc : (q : List Entry) (p d : ℕ) → Sorted q → ((x : Entry) → x ∈ q → x.1 ≤ d) → Sorted (q ++ ((p, d) ∷ []))
sorted-snoc [] p d s h = (λ x m. none_in m, tt)
sorted-snoc (e ∷ q) p d s h = (
  λ x m. ⊎_elim
      (λ n. s.0 x n)
      (λ n. let le = h e (Memᴰ.head refl) in omega (arith, same-distance (Memᴰ.eq_of_singleton n)))
      (Memᴰ.append_cases q m),
  sorted-snoc q p d s.1 (λ x m. h x (Memᴰ.tail m)),
)
