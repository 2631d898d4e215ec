-- Soundness: a run that begins at a head of a pattern reads a word of the pattern, and goes on after it.
-- A run from a head takes a letter, so each turn of a repeat shortens the word. `Words` uses `enter-sound` and `sound`.
use Rattle.std.specs.Prelude.{◌≡◌, refl, Bool, true, false, ◌||◌, List, [], ◌∷◌, ◌++◌, ◌⊎◌, ℕ, zero, suc, ◌+◌, ◌≤◌, length}
use Rattle.std.proofs.Common.{sym, ap, ◌∙◌, append_assoc, inl, inr, ⊎_elim, le_of_eq, arith, length-append}
use Rattle.std.proofs.Math.Bool.{So, and-eq-true_iff}
use Rattle.std.proofs.lemmas.Bool.{false≢true}
use Rattle.meaning.specs.Record.{Boat}
use Rattle.meaning.specs.Pattern.{Pattern, nothing, line, test, either, then, repeat, keep, counted, unfolded}
use Rattle.meaning.specs.Language.{Letter, Word, Valuation, bind, Star, stop, more, Times, L}
use Rattle.lists.specs.Listed.{when}
use Rattle.automaton.specs.Automaton.{Node, Test, always, taking, before, null_rounds, nullable, heads, enter, heads_counted, enter_counted, by_boat}
use Rattle.automaton.proofs.Rounds.{Round, the-first, a-later}
use Rattle.automaton.proofs.Runs.{From, Taken, from-cases, from-when, from-none, from_cut, step-sound}
use Rattle.automaton.proofs.Scope.{Holds, holds-inside, passes-meets}
use Rattle.automaton.proofs.Placed.{Placed, is-nothing, is-line, is-test, is-either, is-then, is-repeat, is-keep, is-counted, Within, within-heads, within-enter, within-inside, within_low, within-rounds}

-- ---- a nullable pattern has the empty word

or_cases : (x y : Bool) → So (x || y) → So x ⊎ So y
or_cases true y h = inl refl
or_cases false y h = inr h

rounds-null : (P : Word → Type 0) (null : Bool) → (So null → P []) → (m n : ℕ) → So (null_rounds null m n) → Times P m n []
rounds-null P null e zero n h = (0, omega arith, omega arith, refl)
rounds-null P null e (suc m) zero h = absurd (false≢true h)
rounds-null P null e (suc m) (suc n) h =
    let (x, y) = (and-eq-true_iff null (null_rounds null m n)).0 h in
    let (k, low, high, w) = rounds-null P null e m n y in
    (suc k, omega (arith, low), omega (arith, high), ([], [], refl, e x, w))

nullable-sound : (p : Pattern) (ν : Valuation) → So (nullable p) → L p ν []
nullable-sound nothing ν h = refl
nullable-sound (line k) ν h = absurd (false≢true h)
nullable-sound (test r k s) ν h = absurd (false≢true h)
nullable-sound (either p q) ν h = ⊎_elim (λ e. inl (nullable-sound p ν e)) (λ e. inr (nullable-sound q ν e)) (or_cases (nullable p) (nullable q) h)
nullable-sound (then p q) ν h = let (e, f) = (and-eq-true_iff (nullable p) (nullable q)).0 h in ([], [], refl, nullable-sound p ν e, nullable-sound q ν f)
nullable-sound (repeat p) ν h = stop refl
nullable-sound (keep k s p) ν h = absurd (false≢true h)
nullable-sound (counted low high p) ν h = rounds-null (L p ν) (nullable p) (nullable-sound p ν) low high h

-- ---- a word of a language, and then a run

module _ (node : ℕ → Node) (done : ℕ) (P : Word → Type 0) (K : List ℕ) (st : List Boat) (w : Word) where
  pub record Split : Type 0 where
    pub front : Word
    pub back : Word
    pub is : w ≡ front ++ back
    pub word : P front
    pub rest : From by_boat node done K st back

  -- the same, with at least one letter before the run
  pub record Split⁺ : Type 0 where
    pub first : Letter
    pub front : Word
    pub back : Word
    pub is : w ≡ first ∷ (front ++ back)
    pub word : P (first ∷ front)
    pub rest : From by_boat node done K st back

module _ {node : ℕ → Node} {done : ℕ} {K : List ℕ} {st : List Boat} {w : Word} where
  split-any : {P : Word → Type 0} → Split⁺ node done P K st w → Split node done P K st w
  split-any x = record { front = x.first ∷ x.front; back = x.back; is = x.is; word = x.word; rest = x.rest }

  split-as : {P Q : Word → Type 0} → ((u : Word) → P u → Q u) → Split⁺ node done P K st w → Split⁺ node done Q K st w
  split-as f x = record { first = x.first; front = x.front; back = x.back; is = x.is; word = f (x.first ∷ x.front) x.word; rest = x.rest }

  -- the run after the first word begins with a second word
  split-join : {P Q S : Word → Type 0} {K₁ : List ℕ} → ((u v : Word) → P u → Q v → S (u ++ v))
      → (x : Split⁺ node done P K₁ st w) → Split node done Q K st x.back → Split⁺ node done S K st w
  split-join f x y = record {
    first = x.first;
    front = x.front ++ y.front;
    back = y.back;
    is = x.is ∙ ap (x.first ∷◌) (ap (x.front ++◌) y.is ∙ sym (append_assoc x.front y.front y.back));
    word = f (x.first ∷ x.front) y.front x.word y.word;
    rest = y.rest;
  }

-- ---- each command

-- one round, and those after it
one_more : (P : Word → Type 0) (m n : ℕ) (u v : Word) → P u → Times P (before m) n v → Times P m (suc n) (u ++ v)
one_more P zero n u v l (k, low, high, w) = (suc k, omega arith, omega (arith, high), (u, v, refl, l, w))
one_more P (suc m) n u v l (k, low, high, w) = (suc k, omega (arith, low), omega (arith, high), (u, v, refl, l, w))

-- every run from H reads a word of P that has a letter, and goes on from K
abbrev pub Sound : (ℕ → Node) → ℕ → (Word → Type 0) → List ℕ → List ℕ → List Boat → Type 0
Sound node done P H K st = (w : Word) → From by_boat node done H st w → Split⁺ node done P K st w

module _ {node : ℕ → Node} {done : ℕ} where
  one-sound : {k : ℕ} {t : Test} (scope : List ℕ) {K : List ℕ} {st : List Boat} {w : Word} {P : Word → Type 0}
      → (x : Taken by_boat node done (taking k t false scope K) st w) → P (x.head ∷ []) → Split⁺ node done P K st w
  one-sound scope x l = record { first = x.head; front = []; back = x.tail; is = x.is; word = l; rest = x.rest }

  -- from the heads H, or from K where the empty word is in P
  head-or-none : {P : Word → Type 0} (H : List ℕ) (null : Bool) → (So null → P []) → {K : List ℕ} {st : List Boat} → Sound node done P H K st
      → (w : Word) → From by_boat node done (H ++ when null K) st w → Split node done P K st w
  head-or-none H null e f w r =
      ⊎_elim
      (λ r'. split-any (f w r'))
      (λ r'. let (t, r'') = from-when null r' in record { front = []; back = w; is = refl; word = e t; rest = r'' })
      (from-cases H r)

  pub enter-sound : (p : Pattern) (b : ℕ) (ν : Valuation) {K : List ℕ} {st : List Boat} → Sound node done (L p ν) (heads p b) K st
      → (w : Word) → From by_boat node done (enter p b K) st w → Split node done (L p ν) K st w
  enter-sound p b ν f w r = head-or-none (heads p b) (nullable p) (nullable-sound p ν) f w r

  then-sound : (p q : Pattern) (b c : ℕ) (ν : Valuation) {K : List ℕ} {st : List Boat}
      → Sound node done (L p ν) (heads p b) (enter q c K) st → Sound node done (L q ν) (heads q c) K st
      → Sound node done (L (then p q) ν) (heads p b ++ when (nullable p) (heads q c)) K st
  then-sound p q b c ν f g w r =
      ⊎_elim
      (λ r'. let x = f w r' in split-join (λ u v l m. (u, v, refl, l, m)) x (enter-sound q c ν g x.back x.rest))
      (λ r'. let (e, r'') = from-when (nullable p) r' in split-as (λ u l. ([], u, refl, nullable-sound p ν e, l)) (g w r''))
      (from-cases (heads p b) r)

  -- the number bounds the word's length
  repeat-sound : (P : Word → Type 0) (H K : List ℕ) (st : List Boat) → Sound node done P H (H ++ K) st → (n : ℕ) (w : Word) → length w ≤ n
      → From by_boat node done H st w → Split⁺ node done (Star P) K st w
  repeat-sound P H K st f zero w l r = absurd (omega (arith, l, ap length (f w r).is))
  repeat-sound P H K st f (suc n) w l r =
      let x = f w r in
      split-join (λ u v h s. more u v refl h s) x
      (⊎_elim
      (λ r'. split-any (repeat-sound P H K st f n x.back (omega (arith, l, ap length x.is, length-append x.front x.back)) r'))
      (λ r'. record { front = []; back = x.back; is = refl; word = stop refl; rest = r' })
      (from-cases H x.rest))

  -- rounds: the first, if it is not empty, and those after it
  rounds-sound : (p : Pattern) (ν : Valuation) (K : List ℕ) (st : List Boat) (m n b : ℕ)
      → ((m' n' a : ℕ) → Round (unfolded p) m n b m' n' a → Sound node done (L p ν) (heads p a) (enter_counted p m' n' (a + unfolded p) K) st)
      → Sound node done (Times (L p ν) m n) (heads_counted p n b) K st
  rounds-sound p ν K st m zero b f w r = from-none r
  rounds-sound p ν K st m (suc n) b f w r =
      let next = b + unfolded p in
      let later : Sound node done (Times (L p ν) (before m) n) (heads_counted p n next) K st =
      rounds-sound p ν K st (before m) n next (λ m' n' a i. f m' n' a (a-later i)) in
      ⊎_elim
      (λ r'.
      let x = f (before m) n b the-first w r' in
      split-join (one_more (L p ν) m n) x
      (head-or-none (heads_counted p n next) (null_rounds (nullable p) (before m) n) (rounds-null (L p ν) (nullable p) (nullable-sound p ν) (before m) n) later x.back x.rest))
      (λ r'. let (e, r'') = from-when (nullable p) r' in split-as (λ u l. one_more (L p ν) m n [] u (nullable-sound p ν e) l) (later w r''))
      (from-cases (heads p b) r)

  -- a letter that is kept, then a word of p, then a run; leaving p forgets the boat
  keep-sound : {k : ℕ} (s : ℕ) (p : Pattern) (scope : List ℕ) (ν : Valuation) {K K' : List ℕ} {st : List Boat} {w : Word}
      → (x : Taken by_boat node done (taking k always true scope K') st w)
      → Split node done (L p (bind ν s x.head.boat)) K (st ++ (x.head.boat ∷ [])) x.tail
      → ((u : Word) → From by_boat node done K (st ++ (x.head.boat ∷ [])) u → From by_boat node done K st u)
      → Split⁺ node done (L (keep k s p) ν) K st w
  keep-sound s p scope ν x y leave = record {
    first = x.head;
    front = y.front;
    back = y.back;
    is = x.is ∙ ap (x.head ∷◌) y.is;
    word = (x.head, y.front, refl, sym x.kind, y.word);
    rest = leave y.back y.rest;
  }

  -- ---- every pattern

  pub sound : {p : Pattern} {b : ℕ} {scope K : List ℕ} {st : List Boat} (ν : Valuation)
      → Placed node done p b scope K → Holds scope st ν → Within node done K (length scope) → Sound node done (L p ν) (heads p b) K st
  sound ν is-nothing e d w r = from-none r
  sound ν (is-line {scope = scope} s) e d w r = let t = step-sound s e.long w r in one-sound scope t (t.head, refl, sym t.kind)
  sound ν (is-test {r = rule} {s = slot} {scope = scope} s) e d w r =
      let t = step-sound s e.long w r in
      one-sound scope t (t.head, refl, sym t.kind, (passes-meets e rule slot _).0 t.pass)
  sound ν (is-either {p = p} {b = b} hp hq) e d w r =
      ⊎_elim (λ r'. split-as (λ u l. inl l) (sound ν hp e d w r')) (λ r'. split-as (λ u l. inr l) (sound ν hq e d w r')) (from-cases (heads p (suc b)) r)
  sound ν (is-then {p = p} {q = q} hp hq) e d w r = then-sound p q _ _ ν (sound ν hp e (within-enter hq d)) (sound ν hq e d) w r
  sound {st = st} ν (is-repeat {p = p} {b = b} {K = K} hp) e d w r =
      repeat-sound (L p ν) (heads p (suc b)) K st (sound ν hp e (within-heads hp d)) (length w) w (le_of_eq refl) r
  sound {st = st} ν (is-keep {s = slot} {p = p} {b = b} {scope = scope} s hp) e d w r =
      let t = step-sound s e.long w r in
      let v = t.head.boat in
      keep-sound slot p scope ν t
      (enter-sound p (suc b) (bind ν slot v) (sound (bind ν slot v) hp (holds-inside slot v e) (within-inside scope slot d)) t.tail t.rest)
      (λ u r'. (from_cut st (v ∷ []) (within_low e.long d)).0 r')
  sound {st = st} ν (is-counted {low = low} {high = high} {p = p} {b = b} {K = K} h) e d w r =
      rounds-sound p ν K st low high (suc b) (λ m n a i. sound ν (h m n a i) e (within-rounds p h d m n a i)) w r
