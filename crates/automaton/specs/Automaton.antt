-- The position automaton of a pattern and its runs, as plain definitions that compute.
-- Positions are the pattern's commands in byte order, those of a counted pattern as often as it may come, and `done`, their count, is the
-- end; every move takes one letter.
-- `Words` proves that it accepts exactly the pattern's words; the search runs it along the lines of a record.
use Rattle.std.specs.Prelude.{Bool, true, false, cond, ◌&&◌, ◌||◌, List, [], ◌∷◌, ◌++◌, ℕ, zero, suc, ◌+◌, eqb, get_or, take, length}
use Rattle.std.proofs.Math.Option.{Option, none, some}
use Rattle.std.proofs.Math.ListN.{get_elem?}
use Rattle.meaning.specs.Record.{Boat}
use Rattle.meaning.specs.Pattern.{Rule, Pattern, nothing, line, test, either, then, repeat, keep, counted, unfolded}
use Rattle.meaning.specs.Language.{Letter, Word, Compared, compared, meets}
use Rattle.lists.specs.Listed.{any_of, when}

-- ---- a node: what stands at a position

-- what is asked of a letter's value: it never passes, it always passes, or it meets a rule against the stack's value of a level
pub data Test : Type 0 where
  never always : Test
  against : Rule → ℕ → Test

-- it takes a letter of the kind whose value passes the test, and may push the value;
-- `depth` is the stack's before it, `follow` the positions that may come after it
pub record Node : Type 0 where
  pub kind : ℕ
  pub test : Test
  pub push : Bool
  pub depth : ℕ
  pub follow : List ℕ

-- a position that takes no letter: nothing, either, then, repeat, counted and the end
abbrev pub silent : Node
silent = record { kind = 0; test = never; push = false; depth = 0; follow = [] }

-- a position that takes a letter; `scope` has the slots of the keeps around it, the outermost first
abbrev pub taking : ℕ → Test → Bool → List ℕ → List ℕ → Node
taking k t push scope K = record { kind = k; test = t; push = push; depth = length scope; follow = K }

-- ---- which positions a pattern can begin with

-- rounds of a counted pattern, side by side: at most n of them, the first m needed; each has c positions, and may be empty where `null` says so

-- how many are needed after the first
abbrev pub before : ℕ → ℕ
before zero = zero
before (suc m) = m

-- can they have the empty word?
abbrev pub null_rounds : Bool → ℕ → ℕ → Bool
null_rounds null zero n = true
null_rounds null (suc m) zero = false
null_rounds null (suc m) (suc n) = null && null_rounds null m n

-- the positions that take their words' first letters; `first` has those of the round that begins at a position
abbrev pub head_rounds : (ℕ → List ℕ) → Bool → ℕ → ℕ → ℕ → List ℕ
head_rounds first null c zero b = []
head_rounds first null c (suc n) b = first b ++ when null (head_rounds first null c n (b + c))

-- the positions that come next where they stand and K may come after them
abbrev pub enter_rounds : (ℕ → List ℕ) → Bool → ℕ → ℕ → ℕ → ℕ → List ℕ → List ℕ
enter_rounds first null c m n b K = head_rounds first null c n b ++ when (null_rounds null m n) K

-- has it the empty word?
abbrev pub nullable : Pattern → Bool
nullable nothing = true
nullable (line k) = false
nullable (test r k s) = false
nullable (either p q) = nullable p || nullable q
nullable (then p q) = nullable p && nullable q
nullable (repeat p) = true
nullable (keep k s p) = false
nullable (counted low high p) = null_rounds (nullable p) low high

-- the positions that take its words' first letters; its own positions begin at b
abbrev pub heads : Pattern → ℕ → List ℕ
heads nothing b = []
heads (line k) b = b ∷ []
heads (test r k s) b = b ∷ []
heads (either p q) b = heads p (suc b) ++ heads q (suc b + unfolded p)
heads (then p q) b = heads p (suc b) ++ when (nullable p) (heads q (suc b + unfolded p))
heads (repeat p) b = heads p (suc b)
heads (keep k s p) b = b ∷ []
heads (counted low high p) b = head_rounds (λ a. heads p a) (nullable p) (unfolded p) high (suc b)

-- the positions that come next where p stands and K may come after it
abbrev pub enter : Pattern → ℕ → List ℕ → List ℕ
enter p b K = heads p b ++ when (nullable p) K

-- the same two of rounds of p
abbrev pub heads_counted : Pattern → ℕ → ℕ → List ℕ
heads_counted p n b = head_rounds (λ a. heads p a) (nullable p) (unfolded p) n b

abbrev pub enter_counted : Pattern → ℕ → ℕ → ℕ → List ℕ → List ℕ
enter_counted p m n b K = enter_rounds (λ a. heads p a) (nullable p) (unfolded p) m n b K

-- ---- the level of a slot

-- from whether the first slot is the one, and its level among the slots under it
abbrev pub under : Bool → Option ℕ → Option ℕ
under here none = cond here (some zero) none
under here (some j) = some (suc j)

-- the innermost keep with the slot s: the last index of s in the scope
abbrev pub level_of : ℕ → List ℕ → Option ℕ
level_of s [] = none
level_of s (x ∷ scope) = under (eqb s x) (level_of s scope)

-- no keep has the slot: no value meets the rule
abbrev pub test_of : Rule → Option ℕ → Test
test_of r none = never
test_of r (some j) = against r j

-- ---- the nodes of a pattern

-- the nodes of rounds; `round` has those of the round that begins at a position, with the positions that may come after it
abbrev pub nodes_rounds : (ℕ → List ℕ → List Node) → (ℕ → List ℕ) → Bool → ℕ → ℕ → ℕ → ℕ → List ℕ → List Node
nodes_rounds round first null c m zero b K = []
nodes_rounds round first null c m (suc n) b K =
    round b (enter_rounds first null c (before m) n (b + c) K) ++ nodes_rounds round first null c (before m) n (b + c) K

-- its positions begin at b, the slots around it are `scope`, and K are the positions that may come after it
abbrev pub compile : Pattern → ℕ → List ℕ → List ℕ → List Node
compile nothing b scope K = silent ∷ []
compile (line k) b scope K = taking k always false scope K ∷ []
compile (test r k s) b scope K = taking k (test_of r (level_of s scope)) false scope K ∷ []
compile (either p q) b scope K = silent ∷ (compile p (suc b) scope K ++ compile q (suc b + unfolded p) scope K)
compile (then p q) b scope K = silent ∷ (compile p (suc b) scope (enter q (suc b + unfolded p) K) ++ compile q (suc b + unfolded p) scope K)
compile (repeat p) b scope K = silent ∷ compile p (suc b) scope (heads p (suc b) ++ K)
compile (keep k s p) b scope K = taking k always true scope (enter p (suc b) K) ∷ compile p (suc b) (scope ++ (s ∷ [])) K
compile (counted low high p) b scope K =
    silent ∷ nodes_rounds (λ a J. compile p a scope J) (λ a. heads p a) (nullable p) (unfolded p) low high (suc b) K

-- the nodes of rounds of p
abbrev pub compile_counted : Pattern → ℕ → ℕ → ℕ → List ℕ → List ℕ → List Node
compile_counted p m n b scope K = nodes_rounds (λ a J. compile p a scope J) (λ a. heads p a) (nullable p) (unfolded p) m n b K

-- the whole automaton of a pattern; `scope` has the slots whose boats come from outside
abbrev pub nodes : Pattern → List ℕ → List Node
nodes p scope = compile p 0 scope (unfolded p ∷ [])

-- where its runs begin
abbrev pub start : Pattern → List ℕ
start p = enter p 0 (unfolded p ∷ [])

-- the node at a position: silent at the end, which has none
abbrev pub node_at : List Node → ℕ → Node
node_at ns k = get_or ns k silent

-- ---- a run

-- how a run reads letters: each has a kind and a value, and comparing two values tells something
pub record Reading (Letters : Type 0) : Type 1 where
  pub Values : Type 0
  pub kind_of : Letters → ℕ
  pub value_of : Letters → Values
  pub tells : Values → Values → Compared

-- the language's own letters: the value is the boat
abbrev pub by_boat : Reading Letter
by_boat = record { Values = Boat; kind_of = λ a. a.kind; value_of = λ a. a.boat; tells = compared }

-- the stack has the values of the keeps around a position, the outermost first; a push puts the newest last
abbrev pub pushed : {A : Type 0} → Bool → List A → A → List A
pushed true st v = st ++ (v ∷ [])
pushed false st v = st

module _ {Letters : Type 0} (R : Reading Letters) where
  -- does a value meet the rule against what the stack has at a level? Never where it has none there
  abbrev pub met : Rule → Option R.Values → R.Values → Bool
  met r none v = false
  met r (some kept) v = meets r (R.tells v kept)

  abbrev pub passes : Test → List R.Values → R.Values → Bool
  passes never st v = false
  passes always st v = true
  passes (against r j) st v = met r (get_elem? st j) v

  abbrev pub takes : Node → List R.Values → Letters → Bool
  takes n st a = eqb n.kind (R.kind_of a) && passes n.test st (R.value_of a)

  module _ (node : ℕ → Node) (done : ℕ) where
    -- from position k, with a stack of its depth: the letter is taken, and the rest accepted from a position that may come after;
    -- the stack is cut to that position's depth, which forgets the values of the keeps that are left
    abbrev pub accepts_at : List Letters → ℕ → List R.Values → Bool
    accepts_at [] k st = eqb k done
    accepts_at (a ∷ w) k st =
        takes (node k) st a && any_of (λ j. accepts_at w j (take (node j).depth (pushed (node k).push st (R.value_of a)))) (node k).follow

    -- from one of the positions K
    abbrev pub accepts_from : List ℕ → List R.Values → List Letters → Bool
    accepts_from K st w = any_of (λ k. accepts_at w k (take (node k).depth st)) K

-- does the automaton of p accept the word, with these boats in the slots of `scope`?
abbrev pub accepts : Pattern → List ℕ → List Boat → Word → Bool
accepts p scope st w = accepts_from by_boat (node_at (nodes p scope)) (unfolded p) (start p) st w
