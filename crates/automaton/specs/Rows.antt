-- Computed examples: the automata of document 01's patterns P and S and of some more, and words that they accept or not. Nothing to believe.
use Rattle.std.specs.Prelude.{◌≡◌, refl, Bool, true, false, List, [], ◌∷◌, ℕ, zero, suc}
use Rattle.meaning.specs.Record.{Boat}
use Rattle.meaning.specs.Pattern.{Pattern, nothing, line, test, same, other, either, then, repeat, keep, counted}
use Rattle.meaning.specs.Language.{Letter, Word}
use Rattle.automaton.specs.Automaton.{Node, Test, always, against, silent, nodes, start, accepts}

boat : ℕ → ℕ → Boat
boat c n = record { class = c; sail = n }

letter : ℕ → Boat → Letter
letter k b = record { kind = k; boat = b }

node : ℕ → Test → Bool → ℕ → List ℕ → Node
node k t push d follow = record { kind = k; test = t; push = push; depth = d; follow = follow }

-- ---- P: entered, then that boat started, rounded or not, finished

P : Pattern
P = keep 1 0 (then (test same 2 0) (then (repeat (test same 3 0)) (test same 4 0)))

nodes-P : nodes P []
    ≡ node 1 always true 0 (2 ∷ [])
    ∷ silent
    ∷ node 2 (against same 0) false 1 (5 ∷ 6 ∷ [])
    ∷ silent
    ∷ silent
    ∷ node 3 (against same 0) false 1 (5 ∷ 6 ∷ [])
    ∷ node 4 (against same 0) false 1 (7 ∷ [])
    ∷ []
unfolding P node
nodes-P = refl

start-P : start P ≡ 0 ∷ []
unfolding P
start-P = refl

-- lines 1 2 5 of record R, with a rounding, and lines 0 2 5: the sail numbers agree, the classes do not
P-accepts : accepts P [] [] (letter 1 (boat 2 150) ∷ letter 2 (boat 2 150) ∷ letter 4 (boat 2 150) ∷ []) ≡ true
unfolding P letter boat
P-accepts = refl

P-rounded : accepts P [] [] (letter 1 (boat 2 150) ∷ letter 2 (boat 2 150) ∷ letter 3 (boat 2 150) ∷ letter 3 (boat 2 150) ∷ letter 4 (boat 2 150) ∷ []) ≡ true
unfolding P letter boat
P-rounded = refl

P-class : accepts P [] [] (letter 1 (boat 1 150) ∷ letter 2 (boat 2 150) ∷ letter 4 (boat 2 150) ∷ []) ≡ false
unfolding P letter boat
P-class = refl

P-unfinished : accepts P [] [] (letter 1 (boat 2 150) ∷ letter 2 (boat 2 150) ∷ []) ≡ false
unfolding P letter boat
P-unfinished = refl

-- ---- S: an inner keep of the same slot, after which the outer boat is back

S : Pattern
S = keep 1 0 (then (keep 1 0 (test other 1 0)) (test same 1 0))

nodes-S : nodes S []
    ≡ node 1 always true 0 (2 ∷ [])
    ∷ silent
    ∷ node 1 always true 1 (3 ∷ [])
    ∷ node 1 (against other 1) false 2 (4 ∷ [])
    ∷ node 1 (against same 0) false 1 (5 ∷ [])
    ∷ []
unfolding S node
nodes-S = refl

-- chains 0 1 0 0 and 0 1 0 1 of record T
S-outer-back : accepts S [] [] (letter 1 (boat 1 1) ∷ letter 1 (boat 1 2) ∷ letter 1 (boat 1 1) ∷ letter 1 (boat 1 1) ∷ []) ≡ true
unfolding S letter boat
S-outer-back = refl

S-inner-gone : accepts S [] [] (letter 1 (boat 1 1) ∷ letter 1 (boat 1 2) ∷ letter 1 (boat 1 1) ∷ letter 1 (boat 1 2) ∷ []) ≡ false
unfolding S letter boat
S-inner-gone = refl

-- ---- what P and S do not have

-- either, and a repeat over a pattern that can be empty
E : Pattern
E = repeat (then (either nothing (line 1)) (repeat (line 2)))

nodes-E : nodes E []
    ≡ silent
    ∷ silent
    ∷ silent
    ∷ silent
    ∷ node 1 always false 0 (6 ∷ 4 ∷ 6 ∷ 7 ∷ [])
    ∷ silent
    ∷ node 2 always false 0 (6 ∷ 4 ∷ 6 ∷ 7 ∷ [])
    ∷ []
unfolding E node
nodes-E = refl

start-E : start E ≡ 4 ∷ 6 ∷ 7 ∷ []
unfolding E
start-E = refl

E-empty : accepts E [] [] [] ≡ true
unfolding E
E-empty = refl

-- one part can be empty, the other not
half-empty : accepts (then nothing (line 1)) [] [] [] ≡ false
half-empty = refl

-- two keeps side by side: the second's boat takes the first's place on the stack
D : Pattern
D = then (keep 1 0 (repeat (test same 1 0))) (keep 2 0 (test same 2 0))

nodes-D : nodes D []
    ≡ silent
    ∷ node 1 always true 0 (3 ∷ 4 ∷ [])
    ∷ silent
    ∷ node 1 (against same 0) false 1 (3 ∷ 4 ∷ [])
    ∷ node 2 always true 0 (5 ∷ [])
    ∷ node 2 (against same 0) false 1 (6 ∷ [])
    ∷ []
unfolding D node
nodes-D = refl

D-accepts : accepts D [] [] (letter 1 (boat 1 1) ∷ letter 2 (boat 1 2) ∷ letter 2 (boat 1 2) ∷ []) ≡ true
unfolding D letter boat
D-accepts = refl

D-first-gone : accepts D [] [] (letter 1 (boat 1 1) ∷ letter 2 (boat 1 2) ∷ letter 2 (boat 1 1) ∷ []) ≡ false
unfolding D letter boat
D-first-gone = refl

-- a boat in slot 3 from outside
G : Pattern
G = then (test same 1 3) (keep 1 3 (test other 1 3))

nodes-G : nodes G (3 ∷ [])
    ≡ silent
    ∷ node 1 (against same 0) false 1 (2 ∷ [])
    ∷ node 1 always true 1 (3 ∷ [])
    ∷ node 1 (against other 1) false 2 (4 ∷ [])
    ∷ []
unfolding G node
nodes-G = refl

G-given : accepts G (3 ∷ []) (boat 1 1 ∷ []) (letter 1 (boat 1 1) ∷ letter 1 (boat 1 2) ∷ letter 1 (boat 1 1) ∷ []) ≡ true
unfolding G letter boat
G-given = refl

-- a slot that no keep around it has: no letter is taken
unkept : accepts (test other 1 0) [] [] (letter 1 (boat 1 1) ∷ []) ≡ false
unfolding letter boat
unkept = refl

-- ---- counted patterns

-- so many letters of kind 3
letters : ℕ → Word
letters zero = []
letters (suc n) = letter 3 (boat 1 1) ∷ letters n

-- a round may be the last where one is needed and two are allowed
nodes-counted : nodes (counted 1 2 (line 3)) []
    ≡ silent
    ∷ node 3 always false 0 (2 ∷ 3 ∷ [])
    ∷ node 3 always false 0 (3 ∷ [])
    ∷ []
unfolding node
nodes-counted = refl

start-counted : start (counted 1 2 (line 3)) ≡ 1 ∷ []
start-counted = refl

-- from two to five: below, at both ends, above
C : Pattern
C = counted 2 5 (line 3)

C-one : accepts C [] [] (letters 1) ≡ false
unfolding C letters letter boat
C-one = refl

C-two : accepts C [] [] (letters 2) ≡ true
unfolding C letters letter boat
C-two = refl

C-five : accepts C [] [] (letters 5) ≡ true
unfolding C letters letter boat
C-five = refl

C-six : accepts C [] [] (letters 6) ≡ false
unfolding C letters letter boat
C-six = refl

-- no round at all
none-nodes : nodes (counted 0 0 (line 3)) [] ≡ silent ∷ []
none-nodes = refl

none-empty : accepts (counted 0 0 (line 3)) [] [] [] ≡ true
none-empty = refl

none-one : accepts (counted 0 0 (line 3)) [] [] (letters 1) ≡ false
unfolding letters letter boat
none-one = refl

-- rounds that have the empty word
empty-rounds : accepts (counted 1 3 nothing) [] [] [] ≡ true
empty-rounds = refl

N : Pattern
N = counted 2 3 (repeat (line 3))

nodes-N : nodes N []
    ≡ silent
    ∷ silent
    ∷ node 3 always false 0 (2 ∷ 4 ∷ 6 ∷ 7 ∷ [])
    ∷ silent
    ∷ node 3 always false 0 (4 ∷ 6 ∷ 7 ∷ [])
    ∷ silent
    ∷ node 3 always false 0 (6 ∷ 7 ∷ [])
    ∷ []
unfolding N node
nodes-N = refl

start-N : start N ≡ 2 ∷ 4 ∷ 6 ∷ 7 ∷ []
unfolding N
start-N = refl

-- counted in counted: from two to four
I : Pattern
I = counted 2 2 (counted 1 2 (line 3))

nodes-I : nodes I []
    ≡ silent
    ∷ silent
    ∷ node 3 always false 0 (3 ∷ 5 ∷ [])
    ∷ node 3 always false 0 (5 ∷ [])
    ∷ silent
    ∷ node 3 always false 0 (6 ∷ 7 ∷ [])
    ∷ node 3 always false 0 (7 ∷ [])
    ∷ []
unfolding I node
nodes-I = refl

I-one : accepts I [] [] (letters 1) ≡ false
unfolding I letters letter boat
I-one = refl

I-two : accepts I [] [] (letters 2) ≡ true
unfolding I letters letter boat
I-two = refl

I-four : accepts I [] [] (letters 4) ≡ true
unfolding I letters letter boat
I-four = refl

I-five : accepts I [] [] (letters 5) ≡ false
unfolding I letters letter boat
I-five = refl

-- each round keeps its own boat, and the boat of the round before is gone
O : Pattern
O = counted 2 2 (keep 1 0 (test same 1 0))

nodes-O : nodes O []
    ≡ silent
    ∷ node 1 always true 0 (2 ∷ [])
    ∷ node 1 (against same 0) false 1 (3 ∷ [])
    ∷ node 1 always true 0 (4 ∷ [])
    ∷ node 1 (against same 0) false 1 (5 ∷ [])
    ∷ []
unfolding O node
nodes-O = refl

O-own : accepts O [] [] (letter 1 (boat 1 1) ∷ letter 1 (boat 1 1) ∷ letter 1 (boat 1 2) ∷ letter 1 (boat 1 2) ∷ []) ≡ true
unfolding O letter boat
O-own = refl

O-gone : accepts O [] [] (letter 1 (boat 1 1) ∷ letter 1 (boat 1 1) ∷ letter 1 (boat 1 2) ∷ letter 1 (boat 1 1) ∷ []) ≡ false
unfolding O letter boat
O-gone = refl

-- after a round that keeps a boat the boat from outside is back
B : Pattern
B = counted 2 2 (either (keep 1 0 (line 1)) (test same 2 0))

B-outer-back : accepts B (0 ∷ []) (boat 1 1 ∷ []) (letter 1 (boat 1 2) ∷ letter 1 (boat 1 2) ∷ letter 2 (boat 1 1) ∷ []) ≡ true
unfolding B letter boat
B-outer-back = refl

B-inner-gone : accepts B (0 ∷ []) (boat 1 1 ∷ []) (letter 1 (boat 1 2) ∷ letter 1 (boat 1 2) ∷ letter 2 (boat 1 2) ∷ []) ≡ false
unfolding B letter boat
B-inner-gone = refl
