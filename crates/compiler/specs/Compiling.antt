-- What the functions of the compiler ask and promise, in the terms of the pattern that stands in the bytes and of its automaton.
-- `Passes` and `Compiled` of `Program` are what callers see; every other definition is the compiler's own.
use Rattle.std.specs.Prelude.{◌≡◌, Bool, true, false, cond, not, ◌&&◌, List, [], ◌∷◌, ◌++◌, ◌⊎◌, ℕ, suc, ◌+◌, ◌*◌, ◌-◌, ◌≤◌, ◌<◌, eqb, length, get_or, Some, None}
use Rattle.std.specs.Prelude.{Option as Maybe}
use Rattle.std.proofs.Math.Option.{Option, none, some}
use Rattle.meaning.specs.Outcome.{passed}
use Rattle.meaning.specs.Pattern.{Pattern, counted, unfolded, Command, is_keep, is_counted, Outside, command_at, leaf, around, joined, Part, read_pattern, none_given}
-- the code's command
use Rattle.pattern.specs.declared.Command.{Command as Step}
use Rattle.pattern.specs.Reading.{byte_of, command_of, pattern_at}
use Rattle.pattern.specs.Passed.{OneOf}
use Rattle.automaton.specs.Automaton.{Node, Test, taking, nullable, heads, enter, level_of, compile, node_at, before, heads_counted, enter_counted, compile_counted}
use Rattle.positions.specs.Program.{row_at, follow_at, test_in, said, Alike, Compiled}
use Rattle.positions.specs.Masks.{Marks}
use Rattle.positions.specs.declared.Row.{Row}
use Rattle.positions.specs.declared.Rule.{Rule}
use Rattle.compiler.specs.declared.Begin.{Begin}
use Rattle.compiler.specs.declared.Round.{Round}
use Rattle.compiler.specs.declared.Task.{Task}
use Rattle.compiler.specs.declared.Rounds.{Rounds}
use Rattle.compiler.specs.declared.Entry.{Entry}

-- ---- what stands in the bytes

-- the bytes are a pattern that passes its questions, no slot having a boat from outside
pub record Passes (s : List ℕ) : Type 0 where
  pub tree : Pattern
  pub is : read_pattern none_given s ≡ passed tree

-- the pattern at a place was read as x, with `o` around it, after some count of commands
pub record ReadAs (s : List ℕ) (at : ℕ) (o : Outside) (x : Part) : Type 0 where
  pub before : ℕ
  pub is : pattern_at s at before o ≡ passed x

-- and its positions from b on come before the end's
pub record PartAt (s : List ℕ) (at b : ℕ) (o : Outside) (x : Part) : Type 0 where
  pub stands : ReadAs s at o x
  pub fits : b + unfolded x.tree ≤ 63

-- a pattern stands at a place, whatever it was read as; and its positions fit from b on
pub record Stands (s : List ℕ) (at : ℕ) : Type 0 where
  pub outside : Outside
  pub part : Part
  pub is : ReadAs s at outside part

pub record Reads (s : List ℕ) (at b : ℕ) : Type 0 where
  pub outside : Outside
  pub part : Part
  pub is : PartAt s at b outside part

-- the place after it
pub record EndsAt (s : List ℕ) (at r : ℕ) : Type 0 where
  pub ends : (o : Outside) (x : Part) → ReadAs s at o x → r ≡ x.next

-- the command at a place passed its questions
pub record Commands (s : List ℕ) (at : ℕ) : Type 0 where
  pub before : ℕ
  pub outside : Outside
  pub command : Command
  pub is : command_at s at before outside ≡ passed command

-- it is the command that stands at the place
pub record StepAt (s : List ℕ) (at : ℕ) (r : Step) : Type 0 where
  pub is : (before : ℕ) (o : Outside) (c : Command) → command_at s at before o ≡ passed c → command_of r ≡ c

-- a counted pattern that may come no time
abbrev pub skips : ℕ → ℕ → Bool
skips code high = is_counted code && eqb high 0

-- a counted pattern whose rounds are compiled one by one
abbrev pub rounded : ℕ → ℕ → Bool
rounded code high = is_counted code && not (eqb high 1)

-- a repeat, a keep, or a counted pattern that comes once at most
abbrev pub OnePattern : Step → Type 0
OnePattern c = (byte_of c.op ≡ 0x26) ⊎ ((byte_of c.op ≡ 0x27) ⊎ ((byte_of c.op ≡ 0x2A) × (c.first ≤ 1) × (c.second ≡ 1)))

-- the trees of a command
abbrev pub leaf_of : Step → Pattern
leaf_of c = leaf (byte_of c.op) c.first c.second

abbrev pub around_of : Step → Pattern → Pattern
around_of c p = around (byte_of c.op) c.first c.second p

abbrev pub joined_of : Step → Pattern → Pattern → Pattern
joined_of c p q = joined (byte_of c.op) p q

-- ---- what a pattern begins with

-- p has its positions from b on and ends at the place `next`
pub record Begins (p : Pattern) (b next : ℕ) (r : Begin) : Type 0 where
  pub next-is : r.next ≡ next
  pub after_is : r.after ≡ b + unfolded p
  pub heads-are : Marks r.heads (heads p b)
  pub nullable-is : r.nullable ≡ nullable p

-- whatever pattern stands at the place
pub record BeginsAt (s : List ℕ) (at b : ℕ) (r : Begin) : Type 0 where
  pub begins : (o : Outside) (x : Part) → PartAt s at b o x → Begins x.tree b x.next r

-- p begins inside the command c at b, and the command's numbers are small
pub record Surrounds (c : Step) (b : ℕ) (p : Begin) : Type 0 where
  pub later : b + 1 ≤ p.after
  pub low : p.after ≤ 63
  pub count : c.second ≤ 20

-- r of a repeat or keep around the pattern of p, of that pattern counted, and of an either or then of the patterns of p and q
abbrev pub BeginsAround : Step → ℕ → Begin → Begin → Type 0
BeginsAround c b p r =
    (x : Pattern) (next : ℕ) → OneOf (byte_of c.op) → (is_counted (byte_of c.op) ≡ true → c.first ≤ c.second) → b + unfolded (around_of c x) ≤ 63
    → Begins x (b + 1) next p → Begins (around_of c x) b next r

abbrev pub BeginsCounted : Step → ℕ → Begin → Begin → Type 0
BeginsCounted c b p r =
    (x : Pattern) (next : ℕ) → c.first ≤ c.second → b + unfolded (counted c.first c.second x) ≤ 63
    → Begins x (b + 1) next p → Begins (counted c.first c.second x) b next r

abbrev pub BeginsJoined : Step → Begin → Begin → Begin → Type 0
BeginsJoined c p q r =
    (b : ℕ) (x y : Pattern) (n m : ℕ) → Begins x (b + 1) n p → Begins y (b + 1 + unfolded x) m q → Begins (joined_of c x y) b m r

-- ---- the rounds of a counted pattern

-- r is one round of p, from b on
pub record RoundOf (p : Pattern) (b : ℕ) (r : Round) : Type 0 where
  pub heads-are : Marks r.heads (heads p b)
  pub nullable-is : r.nullable ≡ nullable p
  pub width_is : r.width ≡ unfolded p

-- it is the round that begins with p at b
pub record RoundFrom (p : Begin) (b : ℕ) (r : Round) : Type 0 where
  pub width-from : r.width ≡ p.after - b
  pub is : (x : Pattern) (next : ℕ) → Begins x b next p → RoundOf x b r

-- r is the mask of one round more than `later` is, and of n rounds
abbrev pub OneMore : Round → ℕ → ℕ → Type 0
OneMore round later r =
    (x : Pattern) (b n : ℕ) → RoundOf x b round → b + suc n * unfolded x ≤ 63 → Marks later (heads_counted x n b) → Marks r (heads_counted x (suc n) b)

abbrev pub HeadsOf : Round → ℕ → ℕ → Type 0
HeadsOf round n r = (x : Pattern) (b : ℕ) → RoundOf x b round → b + n * unfolded x ≤ 63 → Marks r (heads_counted x n b)

-- the mask of what comes next where p stands and `after` may come after it
abbrev pub Entered : Begin → ℕ → ℕ → Type 0
Entered p after r = (x : Pattern) (b next : ℕ) (K : List ℕ) → Begins x b next p → Marks after K → Marks r (enter x b K)

-- ---- what stands around a pattern

-- a slot's level, where a keep has it
abbrev pub level_shown : Option ℕ → Maybe ℕ
level_shown none = None
level_shown (some j) = Some j

-- the task says that the slots of `scope` are kept around its pattern, and that K may come after it
pub record Fits (t : Task) (scope K : List ℕ) : Type 0 where
  pub depth_is : t.depth ≡ length scope
  pub levels-are : (s : ℕ) → s < 4 → get_or t.levels s None ≡ level_shown (level_of s scope)
  pub after-marks : Marks t.after K

-- its pattern was read, in no more than three keeps
pub record Ready (s : List ℕ) (t : Task) : Type 0 where
  pub reads : Reads s t.at t.base
  pub depth_is : reads.outside.depth ≡ t.depth
  pub shallow : t.depth ≤ 3

-- the numbers of a command whose rounds are not compiled one by one, and of its task, are in their bounds
pub record Allowed (c : Step) (t : Task) : Type 0 where
  pub kind : c.first ≤ 15
  pub slot : c.second < 4
  pub depth : t.depth ≤ 3
  pub base : t.base < 63

-- how many keeps are around the pattern in a command, and which slots they keep; what may come after it, H being its heads
abbrev pub depth_in : ℕ → ℕ → ℕ
depth_in code depth = cond (is_keep code) (depth + 1) depth

abbrev pub scope_in : ℕ → ℕ → List ℕ → List ℕ
scope_in code slot scope = cond (is_keep code) (scope ++ (slot ∷ [])) scope

abbrev pub after_in : ℕ → List ℕ → List ℕ → List ℕ
after_in code H K = cond (eqb code 0x26) (H ++ K) K

-- what may come after the first pattern of an either or then; q, the second one, begins at b
abbrev pub after_first : ℕ → Pattern → ℕ → List ℕ → List ℕ
after_first code q b K = cond (eqb code 0x24) K (enter q b K)

abbrev pub AfterFirst : Step → Task → Begin → ℕ → Type 0
AfterFirst c t q r = (K : List ℕ) (x : Pattern) (b next : ℕ) → Marks t.after K → Begins x b next q → Marks r (after_first (byte_of c.op) x b K)

abbrev pub AfterInner : Step → Task → Begin → ℕ → Type 0
AfterInner c t p r = (K : List ℕ) (x : Pattern) (b next : ℕ) → Marks t.after K → Begins x b next p → Marks r (after_in (byte_of c.op) (heads x b) K)

-- r is the task of the pattern in a command, p what that pattern begins with
pub record Inner (c : Step) (t : Task) (p : Begin) (r : Task) : Type 0 where
  pub at-is : r.at ≡ c.next
  pub base-is : r.base ≡ t.base + 1
  pub depth_is : r.depth ≡ depth_in (byte_of c.op) t.depth
  pub fits : (scope K : List ℕ) (x : Pattern) (b next : ℕ) → Fits t scope K → Begins x b next p
      → Fits r (scope_in (byte_of c.op) c.second scope) (after_in (byte_of c.op) (heads x b) K)

-- r is the task of the first pattern of an either or then, q what the second one begins with
pub record First (c : Step) (t : Task) (q : Begin) (r : Task) : Type 0 where
  pub at-is : r.at ≡ c.next
  pub base-is : r.base ≡ t.base + 1
  pub depth_is : r.depth ≡ t.depth
  pub fits : (scope K : List ℕ) (x : Pattern) (b next : ℕ) → Fits t scope K → Begins x b next q → Fits r scope (after_first (byte_of c.op) x b K)

-- r is the task of the second, p what the first one begins with
pub record Second (t : Task) (p : Begin) (r : Task) : Type 0 where
  pub at-is : r.at ≡ p.next
  pub base-is : r.base ≡ p.after
  pub depth_is : r.depth ≡ t.depth
  pub fits : (scope K : List ℕ) → Fits t scope K → Fits r scope K

-- ---- the rounds that are to be compiled

-- the pattern of the rounds was read as x, and the positions of all of them come before the end's
pub record RoundsAt (s : List ℕ) (r : Rounds) (o : Outside) (x : Part) : Type 0 where
  pub stands : ReadAs s r.task.at o x
  pub fits : r.task.base + r.left * unfolded x.tree ≤ 63

-- it was read, in no more than three keeps
pub record ReadyRounds (s : List ℕ) (r : Rounds) : Type 0 where
  pub outside : Outside
  pub part : Part
  pub reads : RoundsAt s r outside part
  pub depth_is : outside.depth ≡ r.task.depth
  pub shallow : r.task.depth ≤ 3
  pub few : r.left ≤ 20

-- r are the rounds of the counted pattern c
pub record Counts (c : Step) (t : Task) (r : Rounds) : Type 0 where
  pub at-is : r.task.at ≡ c.next
  pub base-is : r.task.base ≡ t.base + 1
  pub depth_is : r.task.depth ≡ t.depth
  pub lowest-is : r.lowest ≡ c.first
  pub left_is : r.left ≡ c.second
  pub fits : (scope K : List ℕ) → Fits t scope K → Fits r.task scope K

-- what may come after the next of them
abbrev pub AfterRound : Rounds → Round → ℕ → Type 0
AfterRound rounds round r =
    (x : Pattern) (K : List ℕ) → RoundOf x rounds.task.base round → rounds.lowest ≤ rounds.left → rounds.task.base + rounds.left * unfolded x ≤ 63
    → Marks rounds.task.after K → Marks r (enter_counted x (before rounds.lowest) (rounds.left - 1) (rounds.task.base + unfolded x) K)

-- r is the task of the next, which begins with p, and the rounds after it
pub record NextRound (rounds : Rounds) (p : Begin) (r : Task) : Type 0 where
  pub at-is : r.at ≡ rounds.task.at
  pub base-is : r.base ≡ rounds.task.base
  pub depth_is : r.depth ≡ rounds.task.depth
  pub fits : (scope K : List ℕ) (x : Pattern) (next : ℕ) → Fits rounds.task scope K → rounds.lowest ≤ rounds.left
      → rounds.task.base + rounds.left * unfolded x ≤ 63 → Begins x rounds.task.base next p
      → Fits r scope (enter_counted x (before rounds.lowest) (rounds.left - 1) (rounds.task.base + unfolded x) K)

pub record Rest (rounds : Rounds) (p : Begin) (r : Rounds) : Type 0 where
  pub at-is : r.task.at ≡ rounds.task.at
  pub base-is : r.task.base ≡ p.after
  pub depth_is : r.task.depth ≡ rounds.task.depth
  pub lowest-is : r.lowest ≡ before rounds.lowest
  pub left_is : r.left ≡ rounds.left - 1
  pub fits : (scope K : List ℕ) → Fits rounds.task scope K → Fits r.task scope K

-- ---- the program's entries

-- what the program has at a position
abbrev pub entry_at : List ℕ → ℕ → Entry
entry_at a c = record { row = row_at a c; follow = follow_at a c }

-- the bounds of a row's numbers
pub record Small (x : Row) : Type 0 where
  pub kind : x.kind ≤ 15
  pub level : x.level ≤ x.depth
  pub depth : x.depth ≤ 3

pub record Says (x : Entry) (n : Node) : Type 0 where
  pub alike : Alike (said x.row x.follow) n
  pub small : Small x.row

-- the entries from b on say the nodes
abbrev pub Stand : List ℕ → ℕ → List Node → Type 0
Stand a b [] = Unit {0}
Stand a b (n ∷ ns) = Says (entry_at a b) n × Stand a (suc b) ns

-- one entry was written at i, and no other
pub record Put (i : ℕ) (x : Entry) (before now : List ℕ) : Type 0 where
  pub here : entry_at now i ≡ x
  pub elsewhere : (k : ℕ) → (k ≡ i → ⊥) → entry_at now k ≡ entry_at before k

-- the nodes were written from b on, and nothing before them
pub record Written (b : ℕ) (ns : List Node) (before now : List ℕ) : Type 0 where
  pub nodes : Stand now b ns
  pub earlier : (k : ℕ) → k < b → entry_at now k ≡ entry_at before k

-- the node of a pattern's first command
abbrev pub first_node : Pattern → ℕ → List ℕ → List ℕ → Node
first_node p b scope K = node_at (compile p b scope K) 0

-- the rule of a test
abbrev pub asked_rule : ℕ → Rule
asked_rule code = cond (eqb code 0x22) Rule.Same (cond (eqb code 0x23) Rule.Other (cond (eqb code 0x28) Rule.Sister Rule.Foreign))

-- the entry of a command that takes a letter and pushes nothing, with its rule and level
abbrev pub TakingSaid : Step → Task → Rule → ℕ → Entry → Type 0
TakingSaid c t rule level r = (scope K : List ℕ) (n : Test) → Fits t scope K → test_in rule level ≡ n → level ≤ t.depth → Says r (taking c.first n false scope K)

-- the entry of a command without patterns, and of one around the pattern that p begins
abbrev pub LeafSaid : Step → Task → Entry → Type 0
LeafSaid c t r = (scope K : List ℕ) → Fits t scope K → Says r (first_node (leaf_of c) t.base scope K)

abbrev pub AroundSaid : Step → Task → Begin → Entry → Type 0
AroundSaid c t p r =
    (scope K : List ℕ) (x : Pattern) (next : ℕ) → OnePattern c → Fits t scope K → Begins x (t.base + 1) next p
    → Says r (first_node (around_of c x) t.base scope K)

-- the pattern's automaton was written
pub record CompiledAt (s : List ℕ) (t : Task) (before now : List ℕ) : Type 0 where
  pub writes : (o : Outside) (x : Part) (scope K : List ℕ) → PartAt s t.at t.base o x → Fits t scope K
      → Written t.base (compile x.tree t.base scope K) before now

-- the rounds' automaton was written
pub record RoundsCompiled (s : List ℕ) (r : Rounds) (before now : List ℕ) : Type 0 where
  pub writes : (o : Outside) (x : Part) (scope K : List ℕ) → RoundsAt s r o x → r.lowest ≤ r.left → Fits r.task scope K
      → Written r.task.base (compile_counted x.tree r.lowest r.left r.task.base scope K) before now

-- ---- the whole

-- the program says the automaton of the pattern that the bytes are, up to its end, and its numbers are small
abbrev pub CompiledFrom : List ℕ → List ℕ → ℕ → Type 0
CompiledFrom s a begin = (p : Pattern) → read_pattern none_given s ≡ passed p → Compiled p a begin

abbrev pub SmallUpTo : List ℕ → List ℕ → Type 0
SmallUpTo s a = (p : Pattern) → read_pattern none_given s ≡ passed p → (k : ℕ) → k ≤ unfolded p → Small (row_at a k)
