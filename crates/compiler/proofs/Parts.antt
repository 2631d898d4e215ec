-- A pattern that was read is its command and the patterns after it: `none_after`, `one-after`, `two-after` say which tree it is
-- and that the patterns after it were read; `inner-part`, `rounds-part`, `first_part` and `second-part` that their positions fit.
-- Assumes nothing.
use mathlib.Core.Path.{◌≡◌, refl, sym, ◌∙◌, ap, subst}
use mathlib.Core.Bool.{Bool, true, false, cond, not, ◌&&◌, false≢true}
use mathlib.Core.List.{List}
use mathlib.Core.Logic.{inl, inr}
use mathlib.Core.Option.{Option, none, some}
use Prim.Native.Nat.{ℕ, zero, suc, ◌+◌, ◌*◌, ◌-◌, ◌<◌, ◌≤◌}
use native.Mathlib.Omega.{arith}
use lib.Dec.{leb, eqb}
use lib.ListN.{length, set}
use native.Mathlib.Nat.{suc-mul}
use borrow.Author.Tests.{leb-true, eq-eqb, eqb-true, eqb-false, ne_eqb}
use Rattle.meaning.specs.Outcome.{passed, and_then, ask}
use Rattle.meaning.specs.Record.{byte}
use Rattle.meaning.specs.Pattern.{Shape, Pattern, nothing, line, test, either, then, repeat, keep, counted, commands, unfolded, Command, command_with, shape_of, is_keep, is_counted, Outside, outermost, inside, command_at, around, Part, part, whole, read_pattern, none_given}
use Rattle.pattern.specs.Reading.{byte_of, command_of, pattern_at}
use Rattle.automaton.specs.Automaton.{before}
use Rattle.pattern.specs.Passed.{passed-same, ask-passed, and-then-passed, Passed, command-passed, OneOf, one-pattern, kind-below, slot-below, counts-below, code_is, next-later, next-inside}
use Rattle.pattern.proofs.Bound.{Within, read-within, pattern-step, joined-counts}
use Rattle.pattern.specs.declared.Command.{Command as Step}
use Rattle.compiler.specs.declared.Begin.{Begin}
use Rattle.compiler.specs.declared.Task.{Task}
use Rattle.compiler.specs.declared.Rounds.{Rounds}
use Rattle.compiler.specs.Compiling.{ReadAs, PartAt, Stands, Reads, EndsAt, Commands, StepAt, skips, rounded, OnePattern, leaf_of, around_of, joined_of, Begins, BeginsAt, Surrounds, Ready, Allowed, depth_in, RoundsAt, Counts, Rest}

abbrev pub part_of : Pattern → ℕ → Part
part_of p n = record { tree = p; next = n }

-- ---- the command at a place

some_same : (x y : Shape) → ◌≡◌ {A = Option Shape} (some x) (some y) → x ≡ y
some_same x y e = cc

pub none-some : (x : Shape) → ◌≡◌ {A = Option Shape} none (some x) → ⊥
none-some x e = let z : ◌≡◌ {A = ℕ} 0 1 = cc in omega arith

-- what the command that passed tells of its row
pub there : {s : List ℕ} {at : ℕ} (h : Commands s at) → Passed s at h.before h.outside h.command
there {s} {at} h = command-passed s at h.before h.outside h.command h.is

module _ {s : List ℕ} {at : ℕ} (row : Shape) (e : some row ≡ shape_of (byte s at)) where
  pub operands-there : Commands s at → at + 1 + row.operands ≤ length s
  operands-there h =
      let p = there h in
      omega (arith, p.there, p.whole, ap (λ x. x.operands) (some_same row p.row (e ∙ p.shaped)))

  pub step_is : (r : Step) → command_of r ≡ command_with s at row → StepAt s at r
  step_is r f = record {
    is = λ before o c g. let p = command-passed s at before o c g in f ∙ (ap (command_with s at) (some_same row p.row (e ∙ p.shaped)) ∙ p.is);
  }

-- ---- the command of a pattern

pub record Led (s : List ℕ) (at before : ℕ) (o : Outside) (x : Part) (r : Step) : Type 0 where
  pub ok : Passed s at before o (command_of r)
  pub rest : whole r.patterns (pattern_at s) (command_of r) before o ≡ passed x

module _ {s : List ℕ} {at : ℕ} {o : Outside} {x : Part} (e : ReadAs s at o x) where
  parts : (c : Command) × (command_at s at e.before o ≡ passed c) × (whole c.patterns (pattern_at s) c e.before o ≡ passed x)
  parts = and-then-passed (command_at s at e.before o) (λ c. whole c.patterns (pattern_at s) c e.before o) x (sym (pattern-step s at e.before o) ∙ e.is)

  pub commands-there : Commands s at
  commands-there = record { before = e.before; outside = o; command = parts.0; is = parts.1 }

  -- the command that was found is the one that was read
  pub led : {r : Step} → StepAt s at r → Led s at e.before o x r
  led f =
      let same = sym (f.is e.before o parts.0 parts.1) in
      record {
        ok = subst (Passed s at e.before o) same (command-passed s at e.before o parts.0 parts.1);
        rest = subst (λ c. whole c.patterns (pattern_at s) c e.before o ≡ passed x) same parts.2;
      }

  pub within : Within s at e.before o x
  within = read-within (suc (length s)) s at e.before o x e.is

-- ---- the patterns after it

pub record OneAfter (s : List ℕ) (o : Outside) (x : Part) (r : Step) : Type 0 where
  pub inner : Part
  pub reads : ReadAs s r.next (inside (byte_of r.op) r.second o) inner
  pub code : OneOf (byte_of r.op)
  pub counts : is_counted (byte_of r.op) ≡ true → (r.first ≤ r.second) × (r.second ≤ 20)
  pub is : part_of (around_of r inner.tree) inner.next ≡ x

pub record TwoAfter (s : List ℕ) (o : Outside) (x : Part) (r : Step) : Type 0 where
  pub first : Part
  pub second : Part
  pub reads : ReadAs s r.next o first
  pub reads_then : ReadAs s first.next o second
  pub is : part_of (joined_of r first.tree second.tree) second.next ≡ x

module _ {s : List ℕ} {at before : ℕ} {o : Outside} {x : Part} {r : Step} (l : Led s at before o x r) where
  at_count : (n : ℕ) → r.patterns ≡ n → whole n (pattern_at s) (command_of r) before o ≡ passed x
  at_count n e = ap (λ i. whole i (pattern_at s) (command_of r) before o) (sym e) ∙ l.rest

  pub none_after : r.patterns ≡ 0 → part_of (leaf_of r) r.next ≡ x
  none_after e = passed-same (part_of (leaf_of r) r.next) x (at_count 0 e)

  pub one-after : r.patterns ≡ 1 → OneAfter s o x r
  one-after e =
      let q = and-then-passed (pattern_at s r.next (before + 1) (inside (byte_of r.op) r.second o)) (λ p. part (around_of r p.tree) p.next) x (at_count 1 e) in
      record {
        inner = q.0;
        reads = record { before = before + 1; is = q.1 };
        code = one-pattern l.ok e;
        counts = counts-below l.ok;
        is = passed-same (part_of (around_of r q.0.tree) q.0.next) x q.2;
      }

  two-more : (n : ℕ) → (n ≡ 0 → ⊥) → (n ≡ 1 → ⊥) → whole n (pattern_at s) (command_of r) before o ≡ passed x → TwoAfter s o x r
  two-more zero h k e = absurd (h refl)
  two-more (suc zero) h k e = absurd (k refl)
  two-more (suc (suc n)) h k e =
      let q = and-then-passed (pattern_at s r.next (before + 1) o) (λ p. and_then (pattern_at s p.next (before + 1 + commands p.tree) o) (λ t. part (joined_of r p.tree t.tree) t.next)) x e in
      let u = and-then-passed (pattern_at s q.0.next (before + 1 + commands q.0.tree) o) (λ t. part (joined_of r q.0.tree t.tree) t.next) x q.2 in
      record {
        first = q.0;
        second = u.0;
        reads = record { before = before + 1; is = q.1 };
        reads_then = record { before = before + 1 + commands q.0.tree; is = u.1 };
        is = passed-same (part_of (joined_of r q.0.tree u.0.tree) u.0.next) x u.2;
      }

  pub two-after : (r.patterns ≡ 0 → ⊥) → (r.patterns ≡ 1 → ⊥) → TwoAfter s o x r
  two-after h k = two-more r.patterns h k l.rest

-- ---- their positions

-- every pattern has one
pub some-position : (p : Pattern) → 0 < unfolded p
some-position nothing = omega arith
some-position (line k) = omega arith
some-position (test r k s) = omega arith
some-position (either p q) = omega arith
some-position (then p q) = omega arith
some-position (repeat p) = omega arith
some-position (keep k s p) = omega arith
some-position (counted low high p) = omega arith

pub base-low : {s : List ℕ} {at b : ℕ} {o : Outside} {x : Part} → PartAt s at b o x → b < 63
base-low {x = x} e = omega (arith, e.fits, some-position x.tree)

-- a counted pattern that may come has at least one round
some-round : (high c b : ℕ) → (high ≡ 0 → ⊥) → b + suc (high * c) ≤ 63 → b + 1 + c ≤ 63
some-round zero c b h e = absurd (h refl)
some-round (suc n) c b h e = omega (arith, e, suc-mul n c)

-- a repeat or keep, or a counted pattern that may come: the pattern in it fits after its own position
inner-fits : (code first high b : ℕ) (p : Pattern) → OneOf code → skips code high ≡ false → b + unfolded (around code first high p) ≤ 63 → b + 1 + unfolded p ≤ 63
inner-fits code first high b p (inl e) k h = omega (arith, subst (λ c. b + unfolded (around c first high p) ≤ 63) e h)
inner-fits code first high b p (inr (inl e)) k h = omega (arith, subst (λ c. b + unfolded (around c first high p) ≤ 63) e h)
inner-fits code first high b p (inr (inr e)) k h =
    some-round high (unfolded p) b (eqb-false high 0 (subst (λ c. skips c high ≡ false) e k)) (subst (λ c. b + unfolded (around c first high p) ≤ 63) e h)

module _ {s : List ℕ} {at b : ℕ} {o : Outside} {x : Part} {r : Step} (f : StepAt s at r) (e : PartAt s at b o x) where
  pub next_place : (at < r.next) × (r.next ≤ length s)
  next_place = let l = led e.stands f in (next-later l.ok, next-inside l.ok)

  pub fits-as : {y : Part} → y ≡ x → b + unfolded y.tree ≤ 63
  fits-as h = omega (arith, e.fits, ap (λ z. unfolded z.tree) h)

  pub inner-part : (q : OneAfter s o x r) → skips (byte_of r.op) r.second ≡ false → PartAt s r.next (b + 1) (inside (byte_of r.op) r.second o) q.inner
  inner-part q k = record { stands = q.reads; fits = inner-fits (byte_of r.op) r.first r.second b q.inner.tree q.code k (fits-as q.is) }

  -- the two patterns of an either or then
  both-fit : (q : TwoAfter s o x r) → b + 1 + unfolded q.first.tree + unfolded q.second.tree ≤ 63
  both-fit q = omega (arith, fits-as q.is, (joined-counts (byte_of r.op) q.first.tree q.second.tree).unfolded_is)

  pub first_part : (q : TwoAfter s o x r) → PartAt s r.next (b + 1) o q.first
  first_part q = record { stands = q.reads; fits = omega (arith, both-fit q) }

  -- the second of the two stands where the first one ends
  pub second-part : (q : TwoAfter s o x r) {p : Begin} → BeginsAt s r.next (b + 1) p → PartAt s p.next p.after o q.second
  second-part q g =
      let h = g.begins o q.first (first_part q) in
      record { stands = subst (λ i. ReadAs s i o q.second) (sym h.next-is) q.reads_then; fits = omega (arith, both-fit q, h.after_is) }

  -- what stands after the command, wherever it has a pattern
  after-at : (n : ℕ) → r.patterns ≡ n → (n ≡ 0 → ⊥) → skips (byte_of r.op) r.second ≡ false → Reads s r.next (b + 1)
  after-at zero c h k = absurd (h refl)
  after-at (suc zero) c h k = let q = one-after (led e.stands f) c in record { outside = inside (byte_of r.op) r.second o; part = q.inner; is = inner-part q k }
  after-at (suc (suc n)) c h k =
      let q = two-after (led e.stands f) (λ z. omega (arith, c, z)) (λ z. omega (arith, c, z)) in
      record { outside = o; part = q.first; is = first_part q }

  pub after-reads : (r.patterns ≡ 0 → ⊥) → skips (byte_of r.op) r.second ≡ false → Reads s r.next (b + 1)
  after-reads h k = after-at r.patterns refl h k

  module _ (h : r.patterns ≡ 0 → ⊥) (k : r.patterns ≡ 1 → ⊥) {p : Begin} (g : BeginsAt s r.next (b + 1) p) where
    pub second_reads : Reads s p.next p.after
    second_reads = let q = two-after (led e.stands f) h k in record { outside = o; part = q.second; is = second-part q g }

    pub second-place : (at < p.next) × (p.next ≤ length s)
    second-place =
        let q = two-after (led e.stands f) h k in
        let y = g.begins o q.first (first_part q) in
        let w = within q.reads in
        (omega (arith, w.later, next_place.0, y.next-is), omega (arith, w.inside, y.next-is))

-- ---- a pattern that is passed over

module _ {s : List ℕ} {at : ℕ} {o : Outside} {x : Part} {r : Step} (f : StepAt s at r) (e : ReadAs s at o x) where
  pub over-next : (at < r.next) × (r.next ≤ length s)
  over-next = let l = led e f in (next-later l.ok, next-inside l.ok)

  over-at : (n : ℕ) → r.patterns ≡ n → (n ≡ 0 → ⊥) → Stands s r.next
  over-at zero c h = absurd (h refl)
  over-at (suc zero) c h = let q = one-after (led e f) c in record { outside = inside (byte_of r.op) r.second o; part = q.inner; is = q.reads }
  over-at (suc (suc n)) c h =
      let q = two-after (led e f) (λ z. omega (arith, c, z)) (λ z. omega (arith, c, z)) in
      record { outside = o; part = q.first; is = q.reads }

  pub over-stands : (r.patterns ≡ 0 → ⊥) → Stands s r.next
  over-stands h = over-at r.patterns refl h

  module _ (h : r.patterns ≡ 0 → ⊥) (k : r.patterns ≡ 1 → ⊥) {n : ℕ} (g : EndsAt s r.next n) where
    pub over-second : (q : TwoAfter s o x r) → ReadAs s n o q.second
    over-second q = subst (λ i. ReadAs s i o q.second) (sym (g.ends o q.first q.reads)) q.reads_then

    pub second-stands : Stands s n
    second-stands = let q = two-after (led e f) h k in record { outside = o; part = q.second; is = over-second q }

    pub over-place : (at < n) × (n ≤ length s)
    over-place =
        let q = two-after (led e f) h k in
        let w = within q.reads in
        (omega (arith, w.later, over-next.0, g.ends o q.first q.reads), omega (arith, w.inside, g.ends o q.first q.reads))

-- ---- a counted pattern

-- a slot or a highest count
second-low : {s : List ℕ} {at before : ℕ} {o : Outside} {c : Command} → Passed s at before o c → c.second ≤ 20
second-low {c = c} p = go (is_counted c.code) refl
  where
    go : (t : Bool) → is_counted c.code ≡ t → c.second ≤ 20
    go true e = (counts-below p e).1
    go false e = omega (arith, slot-below p e)

abbrev patterns_of : Option Shape → ℕ
patterns_of none = 0
patterns_of (some row) = row.patterns

-- it has one pattern after it
counted-shape : (b : ℕ) → b ≡ 0x2A → patterns_of (shape_of b) ≡ 1
unfolding shape_of
counted-shape b e = rw e

pub counted-one : {s : List ℕ} {at before : ℕ} {o : Outside} {x : Part} {r : Step} → Led s at before o x r → byte_of r.op ≡ 0x2A → r.patterns ≡ 1
counted-one {s} {at} l e =
    sym (ap patterns_of l.ok.shaped ∙ ap (λ d. d.patterns) l.ok.is) ∙ counted-shape (byte s at) (code_is l.ok ∙ e)

-- where its rounds are not compiled one by one, what is inside has positions
pub no-skip : (code high : ℕ) → rounded code high ≡ false → skips code high ≡ false
no-skip code high e = go (is_counted code) (eqb high 1) refl e
  where
    go : (t u : Bool) → eqb high 1 ≡ u → (t && not u) ≡ false → (t && eqb high 0) ≡ false
    go false u f h = refl
    go true true f h = ne_eqb high 0 (λ z. omega (arith, z, eqb-true high 1 f))
    go true false f h = absurd (false≢true (sym h))

-- where they are, it is counted
pub rounded-is : (code high : ℕ) → rounded code high ≡ true → code ≡ 0x2A
rounded-is code high e = go (is_counted code) refl e
  where
    go : (t : Bool) → is_counted code ≡ t → (t && not (eqb high 1)) ≡ true → code ≡ 0x2A
    go true c h = eqb-true code 0x2A c
    go false c h = absurd (false≢true h)

-- where they are not, and it is counted, it comes once at most
once-most : {s : List ℕ} {at before : ℕ} {o : Outside} {c : Command} → Passed s at before o c → rounded c.code c.second ≡ false → c.code ≡ 0x2A → (c.first ≤ 1) × (c.second ≡ 1)
once-most {c = c} p e code = go (eqb c.second 1) refl (subst (λ (n : ℕ). rounded n c.second ≡ false) code e)
  where
    go : (u : Bool) → eqb c.second 1 ≡ u → not u ≡ false → (c.first ≤ 1) × (c.second ≡ 1)
    go true f h = let one = eqb-true c.second 1 f in (omega (arith, one, (counts-below p (eq-eqb _ _ code)).0), one)
    go false f h = absurd (false≢true (sym h))

pub one-pattern-of : {s : List ℕ} {at before : ℕ} {o : Outside} (r : Step) → Passed s at before o (command_of r) → rounded (byte_of r.op) r.second ≡ false → OneOf (byte_of r.op) → OnePattern r
one-pattern-of r p e (inl c) = inl c
one-pattern-of r p e (inr (inl c)) = inr (inl c)
one-pattern-of r p e (inr (inr c)) = let (low, one) = once-most p e c in inr (inr (c, low, one))

pub inside-depth : (code slot : ℕ) (o : Outside) → (inside code slot o).depth ≡ depth_in code o.depth
inside-depth code slot o = go (is_keep code)
  where
    go : (t : Bool) → (cond t (record { kept = set o.kept slot 1; given = o.given; depth = o.depth + 1 }) o).depth ≡ cond t (o.depth + 1) o.depth
    go true = refl
    go false = refl

-- where its inside has no position, it is counted and may come no time
pub skip_is : (code high : ℕ) → skips code high ≡ true → (code ≡ 0x2A) × (high ≡ 0)
skip_is code high e = go (is_counted code) refl e
  where
    go : (t : Bool) → is_counted code ≡ t → (t && eqb high 0) ≡ true → (code ≡ 0x2A) × (high ≡ 0)
    go true c h = (eqb-true code 0x2A c, eqb-true high 0 h)
    go false c h = absurd (false≢true h)

-- what is asked of a pattern that begins inside a command
pub surrounds : {s : List ℕ} {at b : ℕ} {o : Outside} {x : Part} {r : Step} {p : Begin} (f : StepAt s at r) (e : PartAt s at b o x) → r.patterns ≡ 1
    → skips (byte_of r.op) r.second ≡ false → BeginsAt s r.next (b + 1) p → Surrounds r b p
surrounds {o = o} {r = r} f e one k g =
    let q = one-after (led e.stands f) one in
    let in-it = inner-part f e q k in
    let h = g.begins (inside (byte_of r.op) r.second o) q.inner in-it in
    record { later = omega (arith, h.after_is); low = omega (arith, h.after_is, in-it.fits); count = second-low (led e.stands f).ok }

-- all its rounds fit after its own position
pub rounds-part : {s : List ℕ} {task : Task} {o : Outside} {x : Part} {r : Step} {rounds : Rounds} → StepAt s task.at r → PartAt s task.at task.base o x
    → Counts r task rounds → byte_of r.op ≡ 0x2A → (q : OneAfter s o x r) → RoundsAt s rounds (inside (byte_of r.op) r.second o) q.inner
rounds-part {s} {task} {o} {r = r} {rounds = rounds} f e i code q =
    let tree : around (byte_of r.op) r.first r.second q.inner.tree ≡ counted r.first r.second q.inner.tree = rw code in
    let many : rounds.left * unfolded q.inner.tree ≡ r.second * unfolded q.inner.tree = ap (◌* unfolded q.inner.tree) i.left_is in
    record {
      stands = subst (λ n. ReadAs s n (inside (byte_of r.op) r.second o) q.inner) (sym i.at-is) q.reads;
      fits = omega (arith, i.base-is, many, ap unfolded tree, fits-as f e q.is);
    }

module _ {s : List ℕ} {rounds : Rounds} {o : Outside} {x : Part} (e : RoundsAt s rounds o x) (some : rounds.left ≡ 0 → ⊥) where
  -- so many rounds are one and one less
  one_of : rounds.left * unfolded x.tree ≡ unfolded x.tree + (rounds.left - 1) * unfolded x.tree
  one_of = go rounds.left some
    where
      go : (n : ℕ) → (n ≡ 0 → ⊥) → n * unfolded x.tree ≡ unfolded x.tree + (n - 1) * unfolded x.tree
      go zero h = absurd (h refl)
      go (suc n) h = let less : suc n - 1 ≡ n = omega arith in rw less (omega (arith, suc-mul n (unfolded x.tree)))

  pub round-part : PartAt s rounds.task.at rounds.task.base o x
  round-part = record { stands = e.stands; fits = omega (arith, e.fits, one_of) }

  pub rest_part : {p : Begin} {later : Rounds} → Begins x.tree rounds.task.base x.next p → Rest rounds p later → RoundsAt s later o x
  rest_part {later = later} b i =
      let many : later.left * unfolded x.tree ≡ (rounds.left - 1) * unfolded x.tree = ap (◌* unfolded x.tree) i.left_is in
      record {
        stands = subst (λ n. ReadAs s n o x) (sym i.at-is) e.stands;
        fits = omega (arith, e.fits, one_of, many, i.base-is, b.after_is);
      }

before-low : (m n : ℕ) → m ≤ n → before m ≤ n - 1
before-low zero n h = omega arith
before-low (suc m) n h = omega (arith, h)

pub fewer-left : {rounds later : Rounds} {p : Begin} → rounds.lowest ≤ rounds.left → (rounds.left ≡ 0 → ⊥) → Rest rounds p later → later.lowest ≤ later.left
fewer-left {rounds} l left i = omega (arith, before-low rounds.lowest rounds.left l, i.lowest-is, i.left_is)

-- ---- the bounds of a command

operands-low : {s : List ℕ} {at before : ℕ} {o : Outside} {c : Command} → Passed s at before o c → rounded c.code c.second ≡ false → (c.first ≤ 15) × (c.second < 4)
operands-low {c = c} p e = go (is_counted c.code) refl
  where
    go : (t : Bool) → is_counted c.code ≡ t → (c.first ≤ 15) × (c.second < 4)
    go true k = let once = once-most p e (eqb-true c.code 0x2A k) in (omega (arith, once.0), omega (arith, once.1))
    go false k = (kind-below p k, slot-below p k)

pub allowed : {s : List ℕ} {t : Task} {r : Step} → Ready s t → StepAt s t.at r → rounded (byte_of r.op) r.second ≡ false → Allowed r t
allowed d f k =
    let low = operands-low (led d.reads.is.stands f).ok k in
    record { kind = low.0; slot = low.1; depth = d.shallow; base = base-low d.reads.is }

-- ---- the whole

-- a pattern that passes its questions was read, and its positions fit
pub whole-read : (s : List ℕ) (p : Pattern) → read_pattern none_given s ≡ passed p → (x : Part) × PartAt s 0 0 (outermost none_given) x × (x.tree ≡ p)
unfolding read_pattern
whole-read s p e =
    let q = and-then-passed (pattern_at s 0 0 (outermost none_given)) (λ y. ask (eqb y.next (length s)) 14 (ask (leb (unfolded y.tree) 63) 25 (passed y.tree))) p e in
    let y = q.0 in
    let last = ask-passed (eqb y.next (length s)) 14 (ask (leb (unfolded y.tree) 63) 25 (passed y.tree)) p q.2 in
    let few = ask-passed (leb (unfolded y.tree) 63) 25 (passed y.tree) p last.1 in
    (y, record { stands = record { before = 0; is = q.1 }; fits = omega (arith, leb-true (unfolded y.tree) 63 few.0) }, passed-same _ p few.1)
