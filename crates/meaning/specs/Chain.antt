-- Chains of lines (document 01, "The pattern", the paragraph on chains, and "Asking"; document 02, request Seven): which are accepted, and
-- which comes first.
-- A chain is a path: a list, of any length, of numbers of lines; a line may come in it more than once.
use Rattle.std.specs.Prelude.{◌≡◌, Bool, true, cond, ◌&&◌, List, [], ◌∷◌, ◌++◌, ◌⊎◌, ℕ, suc, ◌<◌, ltb, length}
use Rattle.meaning.specs.Record.{Line}
use Rattle.meaning.specs.Writing.{line_at}
use Rattle.meaning.specs.Pattern.{Pattern}
use Rattle.meaning.specs.Language.{Word, L, unbound}
use Rattle.meaning.specs.Windows.{inside}
use Rattle.meaning.specs.Request.{Asked}

-- each number is that of a line in the record
abbrev pub Exist : List Line → List ℕ → Type 0
Exist lines [] = Unit {0}
Exist lines (i ∷ c) = (i < length lines) × Exist lines c

-- question 18 of a chain, for a record of m lines: does each named line exist?
unfoldable pub exist : ℕ → List ℕ → Bool
exist m [] = true
exist m (i ∷ c) = ltb i m && exist m c

-- it leads from a to b: its first line is from a, each later one from the place that the line before it leads to,
-- and its last line leads to b; an empty chain leads from a place to itself
abbrev pub Leads : List Line → ℕ → ℕ → List ℕ → Type 0
Leads lines a b [] = a ≡ b
Leads lines a b (i ∷ c) = ((line_at lines i).from ≡ a) × Leads lines (line_at lines i).to b c

-- its word: the kind and boat of its lines in order
abbrev pub word : List Line → List ℕ → Word
word lines [] = []
word lines (i ∷ c) = record { kind = (line_at lines i).kind; boat = (line_at lines i).boat } ∷ word lines c

-- it leads from a to b, and the pattern accepts its word, whichever lines may be used
abbrev pub Matches : List Line → Pattern → ℕ → ℕ → List ℕ → Type 0
Matches lines p a b c = Exist lines c × Leads lines a b c × L p unbound (word lines c)

-- each of its lines passes a test of the line's number
abbrev pub Usable : (ℕ → Bool) → List ℕ → Type 0
Usable test [] = Unit {0}
Usable test (i ∷ c) = (test i ≡ true) × Usable test c

-- may line i be used, for a request? Where it is inside its kind's window
abbrev pub usable : Asked → ℕ → Bool
usable q i = inside q.options.windows (line_at q.day.lines i)

-- accepted, for a request: it leads from the first asked place to the second, the pattern accepts its word, and its lines may be used
abbrev pub Accepted : Asked → ℕ → ℕ → List ℕ → Type 0
Accepted q a b c = Matches q.day.lines q.pattern a b c × Usable (usable q) c

-- the two agree as far as u, and then c has the lower line number
abbrev pub LowerAtFirstDifference : List ℕ → List ℕ → Type 0
LowerAtFirstDifference c c' =
    (u : List ℕ) × (i : ℕ) × (j : ℕ) × (v : List ℕ) × (v' : List ℕ) × (c ≡ u ++ (i ∷ v)) × (c' ≡ u ++ (j ∷ v')) × (i < j)

-- shorter, or as long with the lower line number at the first difference
abbrev pub Before : List ℕ → List ℕ → Type 0
Before c c' = (length c < length c') ⊎ ((length c ≡ length c') × LowerAtFirstDifference c c')

-- the one of some chains that comes before every other
abbrev pub FirstOf : (List ℕ → Type 0) → List ℕ → Type 0
FirstOf P c = P c × ((c' : List ℕ) → P c' → ¬ (c ≡ c') → Before c c')

-- the one accepted chain that does
abbrev pub First : Asked → ℕ → ℕ → List ℕ → Type 0
First q a b c = FirstOf (Accepted q a b) c

-- ---- the lines as a search meets them

-- a line that may not be used has kind 0, which no pattern has; its places and its boat stay
abbrev pub struck : Line → Line
struck l = record { from = l.from; kind = 0; boat = l.boat; to = l.to; time = l.time }

-- the lines from line i on, those that fail a test of their number struck
unfoldable pub masked : (ℕ → Bool) → ℕ → List Line → List Line
masked test i [] = []
masked test i (l ∷ ls) = cond (test i) l (struck l) ∷ masked test (suc i) ls

-- those of a request
abbrev pub lines_met : Asked → List Line
lines_met q = masked (usable q) 0 q.day.lines
