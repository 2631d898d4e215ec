-- The pattern (document 01, "The pattern" and questions 8 to 14, and document 02's request Three with questions 24 and 25): what its bytes say.
-- `read_pattern` is the whole of it: the number of the first question that fails, or the pattern as a tree.
use Rattle.std.specs.Prelude.{Bool, cond, not, ◌&&◌, ◌||◌, List, [], ◌∷◌, ℕ, zero, suc, ◌+◌, ◌*◌, ◌-◌, max, ltb, leb, eqb, length, get_or, set}
use Rattle.std.proofs.Math.Option.{Option, none, some}
use Rattle.meaning.specs.Outcome.{Outcome, refused, passed, ask, and_then}
use Rattle.meaning.specs.Record.{byte, kind_allowed}

-- what a test of a slot's boat asks of a line's boat: that boat (22), another boat (23), another boat of its class (28), a boat of another
-- class (29)
pub data Rule : Type 0 where
  same other sister foreign : Rule

-- a pattern; the first number is a kind, the second, where there is one, a slot (a variable); of `counted` they are the lowest and the
-- highest count of times that its pattern comes in a row
pub data Pattern : Type 0 where
  nothing : Pattern
  line : ℕ → Pattern
  test : Rule → ℕ → ℕ → Pattern
  either then : Pattern → Pattern → Pattern
  repeat : Pattern → Pattern
  keep counted : ℕ → ℕ → Pattern → Pattern

-- how many commands it has, as written
abbrev pub commands : Pattern → ℕ
commands nothing = 1
commands (line k) = 1
commands (test r k s) = 1
commands (either p q) = suc (commands p + commands q)
commands (then p q) = suc (commands p + commands q)
commands (repeat p) = suc (commands p)
commands (keep k s p) = suc (commands p)
commands (counted low high p) = suc (commands p)

-- its unfolded count: what is counted counts as often as it may come
abbrev pub unfolded : Pattern → ℕ
unfolded nothing = 1
unfolded (line k) = 1
unfolded (test r k s) = 1
unfolded (either p q) = suc (unfolded p + unfolded q)
unfolded (then p q) = suc (unfolded p + unfolded q)
unfolded (repeat p) = suc (unfolded p)
unfolded (keep k s p) = suc (unfolded p)
unfolded (counted low high p) = suc (high * unfolded p)

-- its keeps: the deepest nesting of keep commands
abbrev pub keeps : Pattern → ℕ
keeps nothing = 0
keeps (line k) = 0
keeps (test r k s) = 0
keeps (either p q) = max (keeps p) (keeps q)
keeps (then p q) = max (keeps p) (keeps q)
keeps (repeat p) = keeps p
keeps (keep k s p) = suc (keeps p)
keeps (counted low high p) = keeps p

-- ---- the command table: bytes of operands, patterns after the command

pub record Shape : Type 0 where
  pub operands : ℕ
  pub patterns : ℕ

abbrev shape : ℕ → ℕ → Option Shape
shape w n = some (record { operands = w; patterns = n })

-- from byte 20 on: nothing, line, same, other, either, then, repeat, keep, sister, foreign, counted
abbrev pub table : List (Option Shape)
table = shape 0 0 ∷ shape 1 0 ∷ shape 2 0 ∷ shape 2 0 ∷ shape 0 2 ∷ shape 0 2 ∷ shape 0 1 ∷ shape 2 1 ∷ shape 2 0 ∷ shape 2 0 ∷ shape 2 1 ∷ []

-- none: the byte is no command
unfoldable pub shape_of : ℕ → Option Shape
shape_of b = cond (ltb b 0x20) none (get_or table (b - 0x20) none)

abbrev pub is_test : ℕ → Bool
is_test b = eqb b 0x22 || (eqb b 0x23 || (eqb b 0x28 || eqb b 0x29))

abbrev pub is_keep : ℕ → Bool
is_keep b = eqb b 0x27

abbrev pub is_counted : ℕ → Bool
is_counted b = eqb b 0x2A

-- ---- one command

-- its byte; its first and second operand, 0 where it has none: a kind and a slot, or a lowest and a highest count; the count of patterns
-- after it; the place after its operands
pub record Command : Type 0 where
  pub code : ℕ
  pub first : ℕ
  pub second : ℕ
  pub patterns : ℕ
  pub next : ℕ

-- what stands around a pattern: for each of the four slots 1 where a keep around it, or the caller, gives the slot a boat, else 0;
-- the same for the caller alone; and how many keeps there are
pub record Outside : Type 0 where
  pub kept : List ℕ
  pub given : List ℕ
  pub depth : ℕ

-- question 8: is there a row for the byte?
abbrev pub known : {A : Type 0} → Option Shape → (Shape → Outcome A) → Outcome A
known none rest = refused 8
known (some x) rest = rest x

-- operand i of the command at a place, 0 where it has none
abbrev pub operand : List ℕ → ℕ → ℕ → ℕ → ℕ
operand s at w i = cond (ltb i w) (byte s (at + 1 + i)) 0

-- question 11 of a command with w operands; the two counts of 2A are no kind and no slot
abbrev pub operands_allowed : ℕ → ℕ → ℕ → ℕ → Bool
operands_allowed b w first second = is_counted b || ((not (ltb 0 w) || kind_allowed first) && (not (ltb 1 w) || ltb second 4))

-- question 24
abbrev pub counts_allowed : ℕ → ℕ → ℕ → Bool
counts_allowed b low high = not (is_counted b) || (leb low high && leb high 20)

-- question 12
abbrev pub slot_known : ℕ → ℕ → List ℕ → Bool
slot_known b slot kept = not (is_test b) || ltb 0 (get_or kept slot 0)

-- question 13
abbrev pub keep_fits : ℕ → ℕ → Bool
keep_fits b depth = not (is_keep b) || ltb depth 3

-- the command that a row of the table makes of the bytes at a place
abbrev pub command_with : List ℕ → ℕ → Shape → Command
command_with s at x =
    record { code = byte s at; first = operand s at x.operands 0; second = operand s at x.operands 1; patterns = x.patterns; next = at + 1 + x.operands }

-- the command at a place, questions 8 to 13 and 24: `before` commands stand before it and `o` around it
unfoldable pub command_at : List ℕ → ℕ → ℕ → Outside → Outcome Command
command_at s at before o =
    ask (ltb at (length s)) 8
    (known (shape_of (byte s at)) (λ x.
    let c = command_with s at x in
    ask (ltb before 63) 9
    (ask (leb x.operands (length s - (at + 1))) 10
    (ask (operands_allowed c.code x.operands c.first c.second) 11
    (ask (counts_allowed c.code c.first c.second) 24
    (ask (slot_known c.code c.second o.kept) 12
    (ask (keep_fits c.code o.depth) 13
    (passed c))))))))

-- ---- a pattern

-- the rule of a test
abbrev pub test_rule : ℕ → Rule
test_rule b = cond (eqb b 0x22) same (cond (eqb b 0x23) other (cond (eqb b 0x28) sister foreign))

-- the tree of a command with no, one and two patterns after it
abbrev pub leaf : ℕ → ℕ → ℕ → Pattern
leaf b kind slot = cond (eqb b 0x20) nothing (cond (eqb b 0x21) (line kind) (test (test_rule b) kind slot))

abbrev pub around : ℕ → ℕ → ℕ → Pattern → Pattern
around b first second p = cond (eqb b 0x26) (repeat p) (cond (is_keep b) (keep first second p) (counted first second p))

abbrev pub joined : ℕ → Pattern → Pattern → Pattern
joined b p q = cond (eqb b 0x24) (either p q) (then p q)

-- what stands around the inside of a command: a keep gives its slot a boat there, and is one keep more
abbrev pub inside : ℕ → ℕ → Outside → Outside
inside b slot o = cond (is_keep b) (record { kept = set o.kept slot 1; given = o.given; depth = o.depth + 1 }) o

-- a pattern that was read, and the place after it
pub record Part : Type 0 where
  pub tree : Pattern
  pub next : ℕ

abbrev pub part : Pattern → ℕ → Outcome Part
part p n = passed (record { tree = p; next = n })

-- a command and the patterns after it, none, one or two, which `read` reads
abbrev pub whole : ℕ → (ℕ → ℕ → Outside → Outcome Part) → Command → ℕ → Outside → Outcome Part
whole zero read c before o = part (leaf c.code c.first c.second) c.next
whole (suc zero) read c before o =
    and_then (read c.next (before + 1) (inside c.code c.second o)) (λ p.
    part (around c.code c.first c.second p.tree) p.next)
whole (suc (suc n)) read c before o =
    and_then (read c.next (before + 1) o) (λ p.
    and_then (read p.next (before + 1 + commands p.tree) o) (λ q.
    part (joined c.code p.tree q.tree) q.next))

-- the pattern at a place; the first number only bounds how deep patterns stand in each other
unfoldable pub read_at : ℕ → List ℕ → ℕ → ℕ → Outside → Outcome Part
read_at zero s at before o = refused 8
read_at (suc bound) s at before o =
    and_then (command_at s at before o) (λ c. whole c.patterns (λ a b i. read_at bound s a b i) c before o)

-- around a whole pattern: `given` marks the slots that have a boat from outside
abbrev pub outermost : List ℕ → Outside
outermost given = record { kept = given; given = given; depth = 0 }

-- a pattern's bytes: questions 8 to 14, 24 and 25
unfoldable pub read_pattern : List ℕ → List ℕ → Outcome Pattern
read_pattern given s =
    and_then (read_at (suc (length s)) s 0 0 (outermost given)) (λ p.
    ask (eqb p.next (length s)) 14
    (ask (leb (unfolded p.tree) 63) 25
    (passed p.tree)))

-- no slot has a boat from outside
abbrev pub none_given : List ℕ
none_given = 0 ∷ 0 ∷ 0 ∷ 0 ∷ []
