-- What `solution` (`Answer` in specs/) says: `solution-none` (none exactly where no chain of any length
-- matches) and `solution-some` (a chain that is given matches, comes before every other, and is shorter than the search size).
-- `Asked` has demand 3 from these two; `Check` uses `runs`, `ReadBack` `solution-any` (the starts may come in any order).
use Rattle.std.specs.Prelude.{◌≡◌, refl, ◌↔◌, ◌⊎◌, ℕ, suc, ◌<◌, ◌≤◌, length}
use Rattle.std.proofs.Common.{sym, inl, inr, ⊎_elim, arith}
use Rattle.std.proofs.Math.Path.{subst}
use mathlib.Core.List.Memᴰ
use mathlib.Core.List.{List, [], ◌∷◌}
use Rattle.std.proofs.Math.Option.{Option, none, some}
use Rattle.meaning.specs.Record.{Line, boats}
use Rattle.meaning.specs.Writing.{line_at}
use Rattle.meaning.specs.Pattern.{Pattern, unfolded}
use Rattle.meaning.specs.Chain.{word, Matches, LowerAtFirstDifference, Before, FirstOf}
use Rattle.meaning.specs.Request.{search_size}
use Rattle.lists.specs.Listed.{◌∈◌}
use Rattle.automaton.specs.Automaton.{start}
use Rattle.automaton.proofs.Words.{same-words}
use Rattle.automaton.proofs.Shape.{shape, start-within}
use Rattle.graph.specs.Plain.{solve, Lex, Answer}
use Rattle.graph.proofs.Forward.{solve-spec}
use Rattle.graph.proofs.Order.{answer-unique, answer-members}
use Rattle.search.proofs.Order.{lex-read}
use Rattle.boats.proofs.Codes.{code-low, code-compared}
use Rattle.search.proofs.Digits.{pow_pos}
use Rattle.search.specs.Product.{stacks, state, succs, preds}
use Rattle.search.proofs.Steps.{Sound, Ok, ok-low, next-ok, preds-ok, edges}
use Rattle.search.specs.Along.{goal}
use Rattle.search.proofs.Along.{Running, along}
use Rattle.search.specs.Answer.{setting, starts, solution}

-- ---- its states are valid

module _ (lines : List Line) (places : ℕ) (p : Pattern) where
  ok_at : (q k : ℕ) → q < places → k ≤ unfolded p → Ok (setting lines p) places (state (setting lines p) q k 0)
  unfolding setting
  ok_at q k hq hk = record { place = q; pos = k; stack = 0; is = refl; place-low = hq; pos-low = hk; stack-low = pow_pos (suc (length (boats lines))) (omega arith) _ }

  pub starts-ok : (a : ℕ) → a < places → (s : ℕ) → s ∈ starts (setting lines p) p a → Ok (setting lines p) places s
  unfolding starts
  starts-ok a ha s m =
      let (k, mk, e) = Memᴰ.of_map (λ k. state (setting lines p) a k 0) (start p) m in
      subst (Ok (setting lines p) places) e (ok_at a k ha ((start-within p []).at k mk).0)

  pub goal-ok : (b : ℕ) → b < places → (s : ℕ) → s ∈ (goal (setting lines p) b ∷ []) → Ok (setting lines p) places s
  unfolding setting
  goal-ok b hb s m = subst (Ok (setting lines p) places) (sym (Memᴰ.eq_of_singleton m)) (ok_at b (unfolded p) hb (omega arith))

-- every line goes between two of the places
abbrev pub LinesWithin : List Line → ℕ → Type 0
LinesWithin lines places = (i : ℕ) → i < length lines → ((line_at lines i).from < places) × ((line_at lines i).to < places)

module _ (lines : List Line) (places : ℕ) (p : Pattern) (within : LinesWithin lines places) where
  pub sound : Sound (setting lines p) places
  unfolding setting
  sound = record { shape = shape p [] (omega arith); radix-pos = omega arith; within = within; code-low = code-low lines; agree = code-compared lines }

  pub below-size : (s : ℕ) → Ok (setting lines p) places s → s < search_size lines places p
  unfolding setting search_size stacks
  below-size = ok-low (setting lines p) places sound

  -- ---- a run from a start along a chain says that the chain matches

  pub runs : (a b : ℕ) → a < places → (c : List ℕ) → ((s : ℕ) × (s ∈ starts (setting lines p) p a) × Running (setting lines p) b s c) ↔ Matches lines p a b c
  unfolding setting starts
  runs a b ha c =
      let r = along (setting lines p) places sound b a ha (start p) (start-within p []) c in
      let l = same-words p (word lines c) in
      (λ x. let (ex, ld, ac) = r.0 x in (ex, ld, l.1 ac), λ x. r.1 (x.0, x.1, l.0 x.2))

  -- ---- what it says

  module _ (a b : ℕ) (ha : a < places) (hb : b < places) where
    -- by the search theorem: of runs of states, from valid states X
    abbrev SolvesFrom : List ℕ → Option (List ℕ) → Type 0
    SolvesFrom X o = Answer (goal (setting lines p) b ∷ []) (succs (setting lines p)) (length lines) (search_size lines places p) X o

    abbrev solve_from : List ℕ → Option (List ℕ)
    solve_from X = let S = setting lines p in solve (search_size lines places p) (goal S b ∷ []) (preds S) (succs S) (length lines) X

    solved-from : (X : List ℕ) → ((s : ℕ) → s ∈ X → Ok (setting lines p) places s) → SolvesFrom X (solve_from X)
    unfolding setting
    solved-from =
        let S = setting lines p in
        solve-spec (search_size lines places p) (goal S b ∷ []) (preds S) (succs S) (length lines)
        (Ok S places) below-size (goal-ok lines places p b hb) (next-ok S places sound) (preds-ok S places sound) (edges S places sound)

    abbrev Solves : Option (List ℕ) → Type 0
    Solves o = SolvesFrom (starts (setting lines p) p a) o

    solved : Solves (solution lines places p a b)
    unfolding solution
    solved = solved-from (starts (setting lines p) p a) (starts-ok lines places p a ha)

    -- and so of chains
    abbrev Says : Option (List ℕ) → Type 0
    Says none = (c : List ℕ) → Matches lines p a b c → ⊥
    Says (some c) = FirstOf (Matches lines p a b) c × (length c < search_size lines places p)

    -- of two chains as long, the one that comes no later and is not the other is lower at the first difference
    first_of : {c c' : List ℕ} → ¬ (c ≡ c') → (length c < length c') ⊎ ((length c ≡ length c') × Lex c c') → Before c c'
    first_of n (inl l) = inl l
    first_of {c} {c'} n (inr (e, x)) = inr (e, ⊎_elim {C = LowerAtFirstDifference c c'} (λ q. absurd (n q)) (λ d. d) (lex-read c c' x))

    solution-says : Says (solution lines places p a b)
    unfolding setting
    solution-says = go (solution lines places p a b) solved
      where
        go : (o : Option (List ℕ)) → Solves o → Says o
        go none none_runs = λ c k. let (s, m, r) = (runs a b ha c).1 k in none_runs s c m r
        go (some c) (short, run, least) = (((runs a b ha c).0 run, λ c' k n. let (s, m, r) = (runs a b ha c').1 k in first_of n (least s c' m r)), short)

    pub solution-none : (solution lines places p a b ≡ none) ↔ ((c : List ℕ) → Matches lines p a b c → ⊥)
    solution-none = go (solution lines places p a b) solution-says
      where
        go : (o : Option (List ℕ)) → Says o → (o ≡ none) ↔ ((c : List ℕ) → Matches lines p a b c → ⊥)
        go none h = (λ e. h, λ k. refl)
        go (some c) h = (λ e. absurd (let z : ◌≡◌ {A = ℕ} 0 1 = cc in omega arith), λ k. absurd (k c h.0.0))

    pub solution-some : (c : List ℕ) → solution lines places p a b ≡ some c → FirstOf (Matches lines p a b) c × (length c < search_size lines places p)
    solution-some c e = subst Says e solution-says

    -- ---- the starts may come in any order

    pub solution-any : (X : List ℕ) → ((s : ℕ) → (s ∈ X) ↔ (s ∈ starts (setting lines p) p a)) → solve_from X ≡ solution lines places p a b
    unfolding solution
    solution-any X e =
        let S = setting lines p in
        answer-unique (goal S b ∷ []) (succs S) (length lines) (search_size lines places p) X (solve_from X) (solution lines places p a b)
        (solved-from X (λ s m. starts-ok lines places p a ha s ((e s).0 m)))
        (answer-members (goal S b ∷ []) (succs S) (length lines) (search_size lines places p) X (starts S p a) e (solution lines places p a b) solved)
