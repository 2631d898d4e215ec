-- A run of numbered states along a chain says that the chain exists, leads from a to b, and that the automaton accepts its word.
-- Claimed: `along`, for runs from one of the positions K with an empty stack. `Answer` and `Check` use it.
use Rattle.std.specs.Prelude.{◌≡◌, refl, Bool, true, false, ◌↔◌, ℕ, ◌<◌, ◌≤◌, eqb, length, take}
use Rattle.std.proofs.Math.Path.{sym, ap}
use Rattle.std.proofs.Common.{◌∙◌, subst, ⊎_elim, arith, length-append, length-take-le}
use Rattle.std.proofs.Math.Bool.{So, and-eq-true_iff}
use mathlib.Core.List.Memᴰ
use mathlib.Core.List.{List, [], ◌∷◌, map}
use Rattle.std.proofs.Math.Seq.{take-nil}
use borrow.Author.Tests.{eqb-true, eq-eqb}
use Rattle.meaning.specs.Record.{Line}
use Rattle.meaning.specs.Writing.{line_at}
use Rattle.meaning.specs.Language.{Letter}
use Rattle.meaning.specs.Chain.{Exist, Leads, word}
use Rattle.lists.specs.Listed.{◌∈◌, none_in, any_of-sound, any_of-complete}
use Rattle.automaton.specs.Automaton.{Node, Test, never, always, against, Reading, by_boat, met, accepts_at, accepts_from, pushed as onto, passes as passes_list}
use Rattle.automaton.proofs.Placed.{Within}
use Rattle.automaton.specs.Shape.{deeper}
use Rattle.automaton.proofs.Shape.{Reads}
use Rattle.automaton.proofs.Readings.{AllOf, all_take, all-pushed, Alike, same-accepted}
use Rattle.graph.specs.Plain.{Run}
use Rattle.search.specs.Digits.{push_on}
use Rattle.search.proofs.Digits.{Low, num, num-lt, num-get, num-take, num-pushed, pow_pos}
use Rattle.search.specs.Product.{Setting, stacks, state, cut, passes, pushed, succs}
use Rattle.search.proofs.Steps.{Sound, Ok, Move, fits, succs-sound, succs-complete, state-inj}
use Rattle.search.specs.Along.{goal, starting}

-- ---- a chain's word, read by line numbers

abbrev letter_at : List Line → ℕ → Letter
letter_at lines i = record { kind = (line_at lines i).kind; boat = (line_at lines i).boat }

word-map : (lines : List Line) (c : List ℕ) → word lines c ≡ map (letter_at lines) c
word-map lines [] = refl
word-map lines (i ∷ c) = ap (letter_at lines i ∷◌) (word-map lines c)

exist-all : (lines : List Line) (c : List ℕ) → Exist lines c → AllOf (◌< length lines) c
exist-all lines [] h i m = none_in m
exist-all lines (j ∷ c) h i m = ⊎_elim (λ e. subst (◌< length lines) (sym e) h.0) (exist-all lines c h.1 i) (Memᴰ.cases_cons m)

onto-length : (b : Bool) (st : List ℕ) (x : ℕ) → length (onto b st x) ≡ deeper b (length st)
onto-length true st x = omega (arith, length-append st (x ∷ []))
onto-length false st x = refl

no-entry : (st : List ℕ) → length st ≡ 0 → st ≡ []
no-entry [] e = refl
no-entry (x ∷ st) e = absurd (omega arith)

-- the letters are line numbers, the values boat numbers
abbrev by_number : Setting → Reading ℕ
by_number S = record { Values = ℕ; kind_of = λ i. (line_at S.lines i).kind; value_of = S.code; tells = S.tells }

-- ---- runs of states

abbrev pub Running : Setting → ℕ → ℕ → List ℕ → Type 0
Running S b s c = Run (goal S b ∷ []) (succs S) (length S.lines) s c

module _ (S : Setting) (places : ℕ) (h : Sound S places) where
  abbrev R : ℕ
  R = S.radix

  -- a stack of boat numbers, of the depth of position k
  record Fits (q k : ℕ) (st : List ℕ) : Type 0 where
    place : q < places
    pos : k ≤ S.done
    low : Low R st
    long : length st ≡ (S.node k).depth

  abbrev ok : {q k : ℕ} {st : List ℕ} → Fits q k st → Ok S places (state S q k (num R st))
  ok {q} {k} {st} f = record { place = q; pos = k; stack = num R st; is = refl; place-low = f.place; pos-low = f.pos; stack-low = rw (← f.long) (num-lt R st f.low) }

  -- the test against the number is the test against the stack
  pass-num : (t : Test) (st : List ℕ) (x : ℕ) → Low R st → Reads t (length st) → passes S t (num R st) x ≡ passes_list (by_number S) t st x
  pass-num never st x low rd = refl
  pass-num always st x low rd = refl
  pass-num (against r j) st x low rd = ap (λ o. met (by_number S) r o x) (sym (num-get R st j low rd))

  -- ---- one line

  module _ {q k : ℕ} {st : List ℕ} (f : Fits q k st) (i : ℕ) (li : i < length S.lines) where
    pass-here : passes S (S.node k).test (num R st) (S.code i) ≡ passes_list (by_number S) (S.node k).test st (S.code i)
    pass-here = pass-num (S.node k).test st (S.code i) f.low (rw f.long (h.shape.reads k))

    -- the stack at position j after it
    abbrev after : ℕ → List ℕ
    after j = take (S.node j).depth (onto (S.node k).push st (S.code i))

    onto-low : Low R (onto (S.node k).push st (S.code i))
    onto-low = all-pushed (◌< R) (S.node k).push st (S.code i) f.low (h.code-low i li)

    num-after : (j : ℕ) → num R (after j) ≡ cut S (S.node j).depth (pushed S (S.node k) (num R st) i)
    num-after j =
        num-take R h.radix-pos (S.node j).depth (onto (S.node k).push st (S.code i)) onto-low
        ∙ ap (cut S (S.node j).depth) (num-pushed R (S.node k).push st (S.code i) ∙ ap (λ d. push_on R (S.node k).push d (num R st) (S.code i)) f.long)

    fits_after : (j : ℕ) → j ∈ (S.node k).follow → Fits (line_at S.lines i).to j (after j)
    fits_after j m =
        let (k<, j≤, d≤) = h.shape.goes k j m in
        record {
          place = (h.within i li).1;
          pos = j≤;
          low = all_take (◌< R) (S.node j).depth (onto (S.node k).push st (S.code i)) onto-low;
          long = length-take-le _ _ (rw (onto-length (S.node k).push st (S.code i), f.long) d≤);
        }

  -- ---- a chain

  module _ (b : ℕ) where
    abbrev Leading : ℕ → ℕ → List ℕ → List ℕ → Type 0
    Leading q k st c = Exist S.lines c × Leads S.lines q b c × So (accepts_at (by_number S) S.node S.done c k st)

    zero-fits : 0 < stacks S
    unfolding stacks
    zero-fits = pow_pos R h.radix-pos S.deepest

    run_sound : (c : List ℕ) (q k : ℕ) (st : List ℕ) → Fits q k st → Running S b (state S q k (num R st)) c → Leading q k st c
    unfolding Run
    run_sound [] q k st f r =
        let z = state-inj S q k (num R st) b S.done 0 f.pos (fits S places h k (num R st) (ok f).stack-low) (omega arith) zero-fits (Memᴰ.eq_of_singleton r) in
        (tt, z.0, eq-eqb k S.done z.1)
    run_sound (i ∷ c) q k st f (t, li, m, r) =
        let (q', j, w, x, e) = succs-sound S places h (state S q k (num R st)) i t (ok f) m in
        let st' = after f i li j in
        let e' : t ≡ state S (line_at S.lines i).to j (num R st') = e ∙ (λ z. state S (sym x.to z) j ((x.left ∙ sym (num-after f i li j)) z)) in
        let (ex, ld, ac) = run_sound c (line_at S.lines i).to j st' (fits_after f i li j x.goes) (subst (λ y. Running S b y c) e' r) in
        let taken = (and-eq-true_iff (eqb (S.node k).kind (line_at S.lines i).kind) _).1 (eq-eqb _ _ (sym x.kind), sym (pass-here f i li) ∙ x.pass) in
        ((li, ex), (x.from, ld), (and-eq-true_iff _ _).1 (taken, any_of-complete (λ j. accepts_at (by_number S) S.node S.done c j (after f i li j)) x.goes ac))

    run-complete : (c : List ℕ) (q k : ℕ) (st : List ℕ) → Fits q k st → Leading q k st c → Running S b (state S q k (num R st)) c
    unfolding Run
    run-complete [] q k st f (ex, ld, ac) =
        let e : k ≡ S.done = eqb-true k S.done ac in
        let d : (S.node k).depth ≡ 0 = ap (λ j. (S.node j).depth) e ∙ ap (λ (n : Node). n.depth) h.shape.end in
        Memᴰ.head (λ z. state S (ld z) (e z) (num R (no-entry st (f.long ∙ d) z)))
    run-complete (i ∷ c) q k st f ((li, ex), (fr, ld), ac) =
        let (taken, later) = (and-eq-true_iff _ _).0 ac in
        let (kind, pass) = (and-eq-true_iff (eqb (S.node k).kind (line_at S.lines i).kind) _).0 taken in
        let (j, goes, ac') = any_of-sound (λ j. accepts_at (by_number S) S.node S.done c j (after f i li j)) (S.node k).follow later in
        let q' = (line_at S.lines i).to in
        let st' = after f i li j in
        let x : Move S q k (num R st) i q' j (num R st') =
        record { from = fr; to = refl; kind = sym (eqb-true _ _ kind); pass = pass-here f i li ∙ pass; goes = goes; left = num-after f i li j } in
        (state S q' j (num R st'), li, succs-complete S places h _ i (ok f) q' j (num R st') x, run-complete c q' j st' (fits_after f i li j goes) (ex, ld, ac'))

    -- ---- from an empty stack, by the boats themselves

    module _ (a : ℕ) (ha : a < places) (K : List ℕ) (hK : Within S.node S.done K 0) where
      none-fits : (k : ℕ) → k ∈ K → Fits a k []
      none-fits k m = record { place = ha; pos = (hK.at k m).0; low = λ x i. none_in i; long = let d = (hK.at k m).1 in omega arith }

      alike : Alike by_boat (by_number S) (letter_at S.lines) (◌< length S.lines)
      alike = record { kinds = λ i hi. refl; tells = λ i j hi hj. sym (h.agree i j hi hj) }

      by-boat : (c : List ℕ) → Exist S.lines c
          → accepts_from by_boat S.node S.done K [] (word S.lines c) ≡ accepts_from (by_number S) S.node S.done K [] c
      by-boat c ex =
          ap (accepts_from by_boat S.node S.done K []) (word-map S.lines c)
          ∙ same-accepted by_boat (by_number S) (letter_at S.lines) (◌< length S.lines) alike S.node S.done K [] c (λ i m. none_in m) (exist-all S.lines c ex)

      pub along : (c : List ℕ) → ((s : ℕ) × (s ∈ starting S a K) × Running S b s c)
          ↔ (Exist S.lines c × Leads S.lines a b c × So (accepts_from by_boat S.node S.done K [] (word S.lines c)))
      along c = (sound, complete)
        where
          from_here : ℕ → Bool
          from_here k = accepts_at (by_number S) S.node S.done c k (take (S.node k).depth [])

          sound : (s : ℕ) × (s ∈ starting S a K) × Running S b s c → Exist S.lines c × Leads S.lines a b c × So (accepts_from by_boat S.node S.done K [] (word S.lines c))
          sound (s, m, r) =
              let (k, mk, e) = Memᴰ.of_map (λ k. state S a k 0) K m in
              let (ex, ld, ac) = run_sound c a k [] (none-fits k mk) (subst (λ x. Running S b x c) (sym e) r) in
              (ex, ld, by-boat c ex ∙ any_of-complete from_here mk (ap (accepts_at (by_number S) S.node S.done c k) (take-nil (S.node k).depth) ∙ ac))

          complete : Exist S.lines c × Leads S.lines a b c × So (accepts_from by_boat S.node S.done K [] (word S.lines c)) → (s : ℕ) × (s ∈ starting S a K) × Running S b s c
          complete (ex, ld, ac) =
              let (k, mk, ac') = any_of-sound from_here K (sym (by-boat c ex) ∙ ac) in
              (state S a k 0, Memᴰ.map (λ k. state S a k 0) mk, run-complete c a k [] (none-fits k mk) (ex, ld, ap (accepts_at (by_number S) S.node S.done c k) (sym (take-nil (S.node k).depth)) ∙ ac'))
