-- The finder's and the checker's definitions computed on small records, as read: nothing to believe, and something that breaks where a
-- definition is changed. Document 01's starred rows stand in crate `starred`, from the bytes.
use Rattle.std.specs.Prelude.{◌≡◌, refl, true, false, List, [], ◌∷◌, ◌++◌, map, ℕ}
use Rattle.std.proofs.Math.Option.{none, some}
use Rattle.meaning.specs.Record.{Line, boats_after}
use Rattle.meaning.specs.Pattern.{Rule, Pattern, line, test, same, other, sister, foreign, either, then, keep}
use Rattle.meaning.specs.Request.{search_size}
use Rattle.meaning.specs.Chain.{exist}
use Rattle.boats.specs.Codes.{codes}
use Rattle.graph.specs.Plain.{solve, found, news, look, bfs, chosen, pick, first, next, level, nearest, lesser, is_at, memb, nub, filt, flat, count}
use Rattle.search.specs.Product.{stacks, state, place_of, pos_of, stack_of, succs, preds}
use Rattle.search.specs.Answer.{setting, starts, solution}
use Rattle.search.specs.Check.{moved, checked}

-- from, kind, class and sail number, to
ln : ℕ → ℕ → ℕ → ℕ → ℕ → Line
ln from kind class sail to = record { from = from; kind = kind; boat = record { class = class; sail = sail }; to = to; time = none }

-- ---- kept boats

-- a boat entered, then one that the rule takes
by : Rule → Pattern
by r = keep 1 0 (test r 2 0)

-- a boat entered, another started
Q : List Line
Q = ln 0 1 1 150 1 ∷ ln 1 2 2 150 2 ∷ []

codes-Q : codes Q ≡ 1 ∷ 2 ∷ []
unfolding codes boats_after Q ln
codes-Q = refl

not-the-same : solution Q 3 (by same) 0 2 ≡ none
unfolding Q by ln boats_after codes solve found news look bfs chosen pick first next level nearest lesser is_at memb nub filt flat count stacks state place_of pos_of stack_of succs preds setting search_size starts solution
not-the-same = refl

-- two boats at one place
B : List Line
B = ln 0 1 1 1 0 ∷ ln 0 1 1 2 0 ∷ []

-- a keep inside a keep, and the outer boat asked for after it: a chain that comes back to its place, and longer than there are places
N : Pattern
N = keep 1 0 (then (keep 1 1 (test other 1 0)) (test same 1 0))

inner-keep : solution B 1 N 0 0 ≡ some (0 ∷ 0 ∷ 1 ∷ 0 ∷ [])
unfolding B N ln boats_after codes solve found news look bfs chosen pick first next level nearest lesser is_at memb nub filt flat count stacks state place_of pos_of stack_of succs preds setting search_size starts solution
inner-keep = refl

-- ---- two positions alive after the same lines

-- two patterns that begin alike, and the second's chain lower than the first's
U : List Line
U = ln 0 1 1 1 1 ∷ ln 1 3 1 1 2 ∷ ln 1 2 1 1 2 ∷ []

A : Pattern
A = either (then (line 1) (line 2)) (then (line 1) (line 3))

both-followed : solution U 3 A 0 2 ≡ some (0 ∷ 1 ∷ [])
unfolding U A ln boats_after codes solve found news look bfs chosen pick first next level nearest lesser is_at memb nub filt flat count stacks state place_of pos_of stack_of succs preds setting search_size starts solution
both-followed = refl

both-checked : map (checked U A 0 2) ((0 ∷ 1 ∷ []) ∷ (0 ∷ 2 ∷ []) ∷ (0 ∷ 3 ∷ []) ∷ []) ≡ true ∷ true ∷ false ∷ []
unfolding U A ln boats_after codes news look memb nub filt flat count stacks state place_of pos_of stack_of succs setting starts exist moved checked
both-checked = refl

-- ---- unread numbers

-- boat 1-1 entered; then from one place an unread number, that boat and another
W : List Line
W = ln 0 1 1 1 1 ∷ ln 1 2 0 0 2 ∷ ln 1 2 1 1 2 ∷ ln 1 2 1 2 2 ∷ []

unread-passed-over : map (λ (r : Rule). solution W 3 (by r) 0 2) (same ∷ other ∷ sister ∷ foreign ∷ []) ≡ some (0 ∷ 2 ∷ []) ∷ some (0 ∷ 3 ∷ []) ∷ some (0 ∷ 3 ∷ []) ∷ none ∷ []
unfolding W by ln boats_after codes solve found news look bfs chosen pick first next level nearest lesser is_at memb nub filt flat count stacks state place_of pos_of stack_of succs preds setting search_size starts solution
unread-passed-over = refl

unread-checked : map (checked W (by other) 0 2) ((0 ∷ 1 ∷ []) ∷ (0 ∷ 2 ∷ []) ∷ (0 ∷ 3 ∷ []) ∷ []) ≡ false ∷ false ∷ true ∷ []
unfolding W by ln boats_after codes news look memb nub filt flat count stacks state place_of pos_of stack_of succs setting starts exist moved checked
unread-checked = refl

-- an unread number entered: no line of it or of another boat is known to be the same, another, or of one class or another
E : List Line
E = ln 0 1 0 0 1 ∷ ln 1 2 0 0 1 ∷ ln 1 2 1 1 1 ∷ []

unread-entered : map (λ (p : Pattern). solution E 2 p 0 1) (map by (same ∷ other ∷ sister ∷ foreign ∷ []) ++ (keep 1 0 (line 2) ∷ []))
    ≡ none ∷ none ∷ none ∷ none ∷ some (0 ∷ 1 ∷ []) ∷ []
unfolding E by ln boats_after codes solve found news look bfs chosen pick first next level nearest lesser is_at memb nub filt flat count stacks state place_of pos_of stack_of succs preds setting search_size starts solution
unread-entered = refl

-- ---- classes

-- boat 2-1 entered; then from one place two boats of class 1, that boat, another of its class, and one of class 3
C : List Line
C = ln 0 1 2 1 1 ∷ ln 1 2 1 7 2 ∷ ln 1 2 1 8 2 ∷ ln 1 2 2 1 2 ∷ ln 1 2 2 9 2 ∷ ln 1 2 3 1 2 ∷ []

classes-told : map (λ (r : Rule). solution C 3 (by r) 0 2) (same ∷ other ∷ sister ∷ foreign ∷ [])
    ≡ some (0 ∷ 3 ∷ []) ∷ some (0 ∷ 1 ∷ []) ∷ some (0 ∷ 4 ∷ []) ∷ some (0 ∷ 1 ∷ []) ∷ []
unfolding C by ln boats_after codes solve found news look bfs chosen pick first next level nearest lesser is_at memb nub filt flat count stacks state place_of pos_of stack_of succs preds setting search_size starts solution
classes-told = refl

-- each line in turn: those of other classes are foreign, one is a sister, and every other is one of the two
classes-checked : map (λ (r : Rule). map (checked C (by r) 0 2) ((0 ∷ 1 ∷ []) ∷ (0 ∷ 2 ∷ []) ∷ (0 ∷ 3 ∷ []) ∷ (0 ∷ 4 ∷ []) ∷ (0 ∷ 5 ∷ []) ∷ [])) (same ∷ other ∷ sister ∷ foreign ∷ [])
    ≡ (false ∷ false ∷ true ∷ false ∷ false ∷ [])
    ∷ (true ∷ true ∷ false ∷ true ∷ true ∷ [])
    ∷ (false ∷ false ∷ false ∷ true ∷ false ∷ [])
    ∷ (true ∷ true ∷ false ∷ false ∷ true ∷ [])
    ∷ []
unfolding C by ln boats_after codes news look memb nub filt flat count stacks state place_of pos_of stack_of succs setting starts exist moved checked
classes-checked = refl

-- boat 1-1 entered: two sisters are passed over, and the first of another class has its number
D : List Line
D = ln 0 1 1 1 1 ∷ ln 1 2 1 7 2 ∷ ln 1 2 1 8 2 ∷ ln 1 2 2 1 2 ∷ []

sisters-passed-over : solution D 3 (by foreign) 0 2 ≡ some (0 ∷ 3 ∷ [])
unfolding D by ln boats_after codes solve found news look bfs chosen pick first next level nearest lesser is_at memb nub filt flat count stacks state place_of pos_of stack_of succs preds setting search_size starts solution
sisters-passed-over = refl
