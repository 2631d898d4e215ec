-- The automaton of a pattern in one array of 128 words, its program: for each position a word that packs its node, and the mask of the
-- positions that may come after it. `packed-back`: a node that is packed is read back. `Compiled` is what the compiler promises.
use Rattle.std.specs.Prelude.{◌≡◌, refl, Bool, true, false, cond, List, [], ◌∷◌, ◌↔◌, ℕ, zero, suc, ◌+◌, ◌*◌, ◌≤◌, ◌<◌, ◌^◌, ◌/◌, ◌%◌, eqb, length, get_or, set}
use Rattle.std.specs.Int.{from_bool}
use Rattle.std.proofs.Common.{sym, ap, ◌∙◌, subst, mod-lt, arith, length-set, get_or-set_same, get_or-set_other}
use Rattle.meaning.specs.Pattern.{Pattern, same, other, sister, foreign, unfolded}
use Rattle.lists.specs.Listed.{◌∈◌}
use Rattle.automaton.specs.Automaton.{Node, Test, never, always, against, nodes, node_at, start}
use Rattle.automaton.specs.Shape.{deeper}
use Rattle.positions.specs.declared.Row.{Row}
use Rattle.positions.specs.declared.Rule.{Rule}

-- ---- sets of positions as a mask of 64 bits

abbrev pub bit_of : ℕ → ℕ → ℕ
bit_of mask k = mask / 2 ^ k % 2

-- those of the n positions from k on that are in the mask
abbrev pub members_from : ℕ → ℕ → ℕ → List ℕ
members_from mask k zero = []
members_from mask k (suc n) = cond (eqb (bit_of mask k) 1) (k ∷ members_from mask (suc k) n) (members_from mask (suc k) n)

unfoldable pub members : ℕ → List ℕ
members mask = members_from mask 0 64

-- ---- a row in one word: a byte each for kind, rule, level, depth and the push, so that each is read without the others

abbrev pub rule_code : Rule → ℕ
rule_code Rule.Never = 0
rule_code Rule.Always = 1
rule_code Rule.Same = 2
rule_code Rule.Other = 3
rule_code Rule.Sister = 4
rule_code Rule.Foreign = 5

abbrev pub rule_of : ℕ → Rule
rule_of t =
    cond (eqb t 1) Rule.Always
    (cond (eqb t 2) Rule.Same
    (cond (eqb t 3) Rule.Other
    (cond (eqb t 4) Rule.Sister
    (cond (eqb t 5) Rule.Foreign Rule.Never))))

unfoldable pub packed : Row → ℕ
packed x = x.kind + rule_code x.rule * 256 + x.level * 65536 + x.depth * 16777216 + from_bool x.push * 4294967296

unfoldable pub unpacked : ℕ → Row
unpacked w = record { kind = w % 16; rule = rule_of (w / 256 % 16); level = w / 65536 % 4; depth = w / 16777216 % 4; push = eqb (w / 4294967296 % 2) 1 }

-- the numbers fit their bits
pub record Packs (x : Row) : Type 0 where
  pub kind : x.kind ≤ 15
  pub level : x.level ≤ 3
  pub depth : x.depth ≤ 3

pub packed-back : (x : Row) → Packs x → unpacked (packed x) ≡ x
unfolding packed unpacked
packed-back x h = λ i. record { kind = kind i; rule = rule i; level = level i; depth = depth i; push = push i }
  where
    w : ℕ
    w = x.kind + rule_code x.rule * 256 + x.level * 65536 + x.depth * 16777216 + from_bool x.push * 4294967296

    few : (t : Rule) → rule_code t ≤ 15
    few Rule.Never = omega arith
    few Rule.Always = omega arith
    few Rule.Same = omega arith
    few Rule.Other = omega arith
    few Rule.Sister = omega arith
    few Rule.Foreign = omega arith

    kind : w % 16 ≡ x.kind
    kind = omega (arith, h.kind)

    code : w / 256 % 16 ≡ rule_code x.rule
    code = omega (arith, h.kind, few x.rule)

    back : (t : Rule) → rule_of (rule_code t) ≡ t
    back Rule.Never = refl
    back Rule.Always = refl
    back Rule.Same = refl
    back Rule.Other = refl
    back Rule.Sister = refl
    back Rule.Foreign = refl

    rule : rule_of (w / 256 % 16) ≡ x.rule
    rule = ap rule_of code ∙ back x.rule

    level : w / 65536 % 4 ≡ x.level
    level = omega (arith, h.kind, few x.rule, h.level)

    depth : w / 16777216 % 4 ≡ x.depth
    depth = omega (arith, h.kind, few x.rule, h.level, h.depth)

    one : (b : Bool) → from_bool b ≤ 1
    one true = omega arith
    one false = omega arith

    top : w / 4294967296 % 2 ≡ from_bool x.push
    top = omega (arith, h.kind, few x.rule, h.level, h.depth, one x.push)

    is : (b : Bool) → eqb (from_bool b) 1 ≡ b
    is true = refl
    is false = refl

    push : eqb (w / 4294967296 % 2) 1 ≡ x.push
    push = ap (λ n. eqb n 1) top ∙ is x.push

-- ---- the program

-- the row of position c, and its mask
unfoldable pub row_at : List ℕ → ℕ → Row
row_at a c = unpacked (get_or a (2 * c) 0)

unfoldable pub follow_at : List ℕ → ℕ → ℕ
follow_at a c = get_or a (2 * c + 1) 0

abbrev pub depth_at : List ℕ → ℕ → ℕ
depth_at a c = (row_at a c).depth

-- the stack's depth after a position
abbrev pub leaves_at : List ℕ → ℕ → ℕ
leaves_at a c = deeper (row_at a c).push (depth_at a c)

pub kind-few : (a : List ℕ) (c : ℕ) → (row_at a c).kind ≤ 15
unfolding row_at unpacked
kind-few a c = omega (arith, mod-lt (get_or a (2 * c) 0) {m = 16} (omega arith))

-- levels and depths are at most three
pub level-few : (a : List ℕ) (c : ℕ) → (row_at a c).level ≤ 3
unfolding row_at unpacked
level-few a c = omega (arith, mod-lt (get_or a (2 * c) 0 / 65536) {m = 4} (omega arith))

pub depth-few : (a : List ℕ) (c : ℕ) → depth_at a c ≤ 3
unfolding row_at unpacked
depth-few a c = omega (arith, mod-lt (get_or a (2 * c) 0 / 16777216) {m = 4} (omega arith))

abbrev pub test_in : Rule → ℕ → Test
test_in Rule.Never j = never
test_in Rule.Always j = always
test_in Rule.Same j = against same j
test_in Rule.Other j = against other j
test_in Rule.Sister j = against sister j
test_in Rule.Foreign j = against foreign j

-- the node that a row and a mask say
abbrev pub said : Row → ℕ → Node
said x mask = record { kind = x.kind; test = test_in x.rule x.level; push = x.push; depth = x.depth; follow = members mask }

-- the node that the program says
unfoldable pub node_in : List ℕ → ℕ → Node
node_in a c = said (row_at a c) (follow_at a c)

-- the row and the mask of one position are written, and no other
pub record Put (c : ℕ) (x : Row) (mask : ℕ) (before now : List ℕ) : Type 0 where
  pub row : row_at now c ≡ x
  pub mask_is : follow_at now c ≡ mask
  pub rows : (k : ℕ) → (k ≡ c → ⊥) → row_at now k ≡ row_at before k
  pub masks : (k : ℕ) → (k ≡ c → ⊥) → follow_at now k ≡ follow_at before k

-- both words are set
pub put-set : (a : List ℕ) (c : ℕ) (x : Row) (mask : ℕ) → 2 * c + 1 < length a → Packs x → Put c x mask a (set (set a (2 * c) (packed x)) (2 * c + 1) mask)
unfolding row_at follow_at
put-set a c x mask h small =
    let b = set a (2 * c) (packed x) in
    record {
      row = ap unpacked (get_or-set_other b (2 * c + 1) (2 * c) mask 0 (λ e. omega (arith, e)) ∙ get_or-set_same a (2 * c) (packed x) 0 (omega (arith, h))) ∙ packed-back x small;
      mask_is = get_or-set_same b (2 * c + 1) mask 0 (omega (arith, h, length-set a (2 * c) (packed x)));
      rows = λ k ne. ap unpacked (get_or-set_other b (2 * c + 1) (2 * k) mask 0 (λ e. omega (arith, e)) ∙ get_or-set_other a (2 * c) (2 * k) (packed x) 0 (λ e. omega (arith, e, ne)));
      masks = λ k ne. get_or-set_other b (2 * c + 1) (2 * k + 1) mask 0 (λ e. omega (arith, e, ne)) ∙ get_or-set_other a (2 * c) (2 * k + 1) (packed x) 0 (λ e. omega (arith, e));
    }

-- the same, one after the other
pub put_as : (c : ℕ) (x : Row) (mask : ℕ) (a b v : List ℕ) {word : ℕ} → word ≡ packed x → b ≡ set a (2 * c) word → v ≡ set b (2 * c + 1) mask
    → 2 * c + 1 < length a → Packs x → Put c x mask a v
put_as c x mask a b v e f g h small =
    subst (Put c x mask a) (sym (g ∙ ap (λ l. set l (2 * c + 1) mask) (f ∙ ap (set a (2 * c)) e))) (put-set a c x mask h small)

-- ---- what the compiler promises

-- two nodes that say the same: their follow lists have the same members
pub record Alike (n m : Node) : Type 0 where
  pub kind : n.kind ≡ m.kind
  pub test : n.test ≡ m.test
  pub push : n.push ≡ m.push
  pub depth : n.depth ≡ m.depth
  pub follow : (k : ℕ) → (k ∈ n.follow) ↔ (k ∈ m.follow)

-- the program says the automaton of p up to its end, and the mask its start
pub record Compiled (p : Pattern) (a : List ℕ) (begin : ℕ) : Type 0 where
  pub nodes-are : (c : ℕ) → c ≤ unfolded p → Alike (node_in a c) (node_at (nodes p []) c)
  pub start_is : (k : ℕ) → (k ∈ members begin) ↔ (k ∈ start p)
