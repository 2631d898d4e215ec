-- The two-phase search over any finite graph, as plain definitions that compute, and what an answer has to say.
-- Phase one goes backward, breadth first, from the goals and gives every state its distance; phase two goes forward over sets of states, least line first.
-- `Forward` proves that `solve` gives the first of the shortest chains; `Phases` that the counting loops give what `solve` gives.
use Rattle.std.specs.Prelude.{◌≡◌, ◌⊎◌, Bool, true, false, List, [], ◌∷◌, ◌++◌, map, ℕ, zero, suc, ◌<◌, ◌≤◌, min, length, drop, eqb}
use Rattle.std.proofs.Math.Option.{Option, none, some}
use Rattle.lists.specs.Listed.{◌∈◌}

-- ---- what is found: states with their distances

-- a state and its distance to the goals
abbrev pub Entry : Type 0
Entry = ℕ × ℕ

abbrev pub state_of : Entry → ℕ
state_of e = e.0

-- the states of the entries, in order
abbrev pub states : List Entry → List ℕ
states f = map state_of f

-- the distance found for the state s
unfoldable pub look : ℕ → List Entry → Option ℕ
look s [] = none
look s (e ∷ f) = elim (eqb s e.0) [ true ↦ some e.1 | false ↦ look s f ]

-- those of the states that are not in f yet, each once, in order, with distance d
unfoldable pub news : ℕ → List Entry → List ℕ → List Entry
news d f [] = []
news d f (p ∷ ps) = elim (look p f) [ none ↦ (p, d) ∷ news d (f ++ ((p, d) ∷ [])) ps | some e ↦ news d f ps ]

-- ---- phase one: `preds t` has the states from which some line leads to t

-- f: all entries found, in the order found; q: the queue, the end of f that is not expanded yet; at most k states are expanded
unfoldable pub bfs : (ℕ → List ℕ) → ℕ → List Entry → List Entry → List Entry
bfs preds zero f q = f
bfs preds (suc k) f [] = f
bfs preds (suc k) f (e ∷ q) =
    let new = news (suc e.1) f (preds e.0) in
    bfs preds k (f ++ new) (q ++ new)

-- the same with the queue given by the count of expanded entries: one step expands one state, if any waits
unfoldable pub step : (ℕ → List ℕ) → List Entry × ℕ → List Entry × ℕ
step preds x =
    elim (drop x.1 x.0) [ [] ↦ x | e ∷ q ↦ (x.0 ++ news (suc e.1) x.0 (preds e.0), suc x.1) ]

unfoldable pub steps : (ℕ → List ℕ) → ℕ → List Entry × ℕ → List Entry × ℕ
steps preds zero x = x
steps preds (suc k) x = steps preds k (step preds x)

-- all that is found: states are numbers below N, and the goals have distance 0
unfoldable pub found : ℕ → List ℕ → (ℕ → List ℕ) → List Entry
found N goals preds = let start = news 0 [] goals in bfs preds N start start

-- ---- chains: lines are the numbers below m, and `succs s l` has the states to which line l leads from s

module _ (goals : List ℕ) (succs : ℕ → ℕ → List ℕ) (m : ℕ) where
  -- the chain c leads from the state s to a goal
  unfoldable pub Run : ℕ → List ℕ → Type 0
  Run s [] = s ∈ goals
  Run s (l ∷ c) = (t : ℕ) × (l < m) × (t ∈ succs s l) × Run t c

  -- a chain of length d leads from s to a goal
  abbrev pub Reaches : ℕ → ℕ → Type 0
  Reaches s d = (c : List ℕ) × Run s c × (length c ≡ d)

  -- d is the least length of such a chain
  abbrev pub Least : ℕ → ℕ → Type 0
  Least s d = Reaches s d × ((c : List ℕ) → Run s c → d ≤ length c)

  -- what a distance says: it is the least length, and below N; or there is no chain
  abbrev pub Distance : ℕ → ℕ → Option ℕ → Type 0
  Distance N s none = (c : List ℕ) → Run s c → ⊥
  Distance N s (some d) = Least s d × (d < N)

-- ---- sets of states, as lists

unfoldable pub memb : ℕ → List ℕ → Bool
memb t [] = false
memb t (x ∷ xs) = elim (eqb t x) [ true ↦ true | false ↦ memb t xs ]

-- each once, where it first stands
unfoldable pub nub : List ℕ → List ℕ
nub ts = states (news 0 [] ts)

-- those that pass the test
unfoldable pub filt : (ℕ → Bool) → List ℕ → List ℕ
filt p [] = []
filt p (t ∷ ts) = elim (p t) [ true ↦ t ∷ filt p ts | false ↦ filt p ts ]

-- the lists of all members, end to end
unfoldable pub flat : (ℕ → List ℕ) → List ℕ → List ℕ
flat g [] = []
flat g (s ∷ ss) = g s ++ flat g ss

-- the n numbers from k on
unfoldable pub count : ℕ → ℕ → List ℕ
count k zero = []
count k (suc n) = k ∷ count (suc k) n

-- the lesser of two distances
unfoldable pub lesser : Option ℕ → Option ℕ → Option ℕ
lesser none o = o
lesser (some d) none = some d
lesser (some d) (some e) = some (min d e)

-- is it the distance k?
unfoldable pub is_at : ℕ → Option ℕ → Bool
is_at k none = false
is_at k (some d) = eqb d k

-- ---- phase two: by the distances that phase one found

module _ (dist : ℕ → Option ℕ) where
  -- those of the states that have distance k, each once
  unfoldable pub level : ℕ → List ℕ → List ℕ
  level k S = nub (filt (λ t. is_at k (dist t)) S)

  -- the least distance of a state of S
  unfoldable pub nearest : List ℕ → Option ℕ
  nearest [] = none
  nearest (s ∷ S) = lesser (dist s) (nearest S)

  module _ (succs : ℕ → ℕ → List ℕ) where
    -- all states at distance k to which line l leads from the frontier S
    unfoldable pub next : ℕ → List ℕ → ℕ → List ℕ
    next k S l = level k (flat (λ s. succs s l) S)

    -- the first of the n lines from l on that leads from S to distance k, and the states to which it leads
    unfoldable pub first : ℕ → List ℕ → ℕ → ℕ → ℕ × List ℕ
    first k S zero l = (l, [])
    first k S (suc n) l = elim (next k S l) [ [] ↦ first k S n (suc l) | t ∷ ts ↦ (l, t ∷ ts) ]

    module _ (m : ℕ) where
      -- the lines chosen from the frontier S, whose states have distance k
      unfoldable pub pick : ℕ → List ℕ → List ℕ
      pick zero S = []
      pick (suc k) S = let r = first k S m 0 in r.0 ∷ pick k r.1

      -- the chain from the nearest of the states S
      unfoldable pub chosen : List ℕ → Option (List ℕ)
      chosen S = elim (nearest S) [ none ↦ none | some k ↦ some (pick k (level k S)) ]

-- ---- both phases: from the states S, by the lines below m, to the goals

unfoldable pub solve : ℕ → List ℕ → (ℕ → List ℕ) → (ℕ → ℕ → List ℕ) → ℕ → List ℕ → Option (List ℕ)
solve N goals preds succs m S = let f = found N goals preds in chosen (λ s. look s f) succs m S

-- ---- what an answer has to say

-- c comes no later than c' among chains of one length: they are equal, or c has the lower line at the first difference (`lex-read`)
abbrev pub Lex : List ℕ → List ℕ → Type 0
Lex [] [] = Unit {0}
Lex [] (b ∷ c') = ⊥
Lex (a ∷ c) [] = ⊥
Lex (a ∷ c) (b ∷ c') = (a < b) ⊎ ((a ≡ b) × Lex c c')

-- none: no chain of any length leads from a state of S to a goal;
-- some c: c is shorter than N and leads from S to a goal, and every other chain is longer, or as long and no earlier
abbrev pub Answer : List ℕ → (ℕ → ℕ → List ℕ) → ℕ → ℕ → List ℕ → Option (List ℕ) → Type 0
Answer goals succs m N S none = (s : ℕ) (c : List ℕ) → s ∈ S → Run goals succs m s c → ⊥
Answer goals succs m N S (some c) =
    (length c < N)
    × ((s : ℕ) × (s ∈ S) × Run goals succs m s c)
    × ((s : ℕ) (c' : List ℕ) → s ∈ S → Run goals succs m s c' → (length c < length c') ⊎ ((length c ≡ length c') × Lex c c'))
