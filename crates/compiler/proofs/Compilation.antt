-- A pattern's automaton is written: its first command's entry, and what the calls for the patterns after it write. One law for each
-- way through `compile_at` and `compile_rounds`, and `whole-compiled` for the whole pattern and its end. Assumes nothing.
use mathlib.Core.Path.{◌≡◌, sym, ◌∙◌, ap, subst, subst₂}
use mathlib.Core.Bool.{false}
use mathlib.Core.List.{List, [], ◌∷◌}
use Prim.Native.Nat.{ℕ, suc, ◌+◌, ◌-◌, ◌<◌, ◌≤◌}
use native.Mathlib.Numerals.{add-one}
use native.Mathlib.Omega.{arith}
use borrow.Author.Tests.{eq-eqb}
use Rattle.meaning.specs.Outcome.{passed}
use Rattle.meaning.specs.Pattern.{Pattern, counted, unfolded, Outside, outermost, inside, Part, read_pattern, none_given}
use Rattle.pattern.specs.Passed.{inside-small}
use Rattle.automaton.specs.Automaton.{Node, silent, compile, nodes, node_at, before as first-left, enter_counted, compile_counted}
use Rattle.automaton.proofs.Lengths.{compile-length}
use Rattle.positions.specs.Program.{node_in, Compiled}
use Rattle.positions.specs.Masks.{Marks}
use Rattle.pattern.specs.declared.Command.{Command as Step}
use Rattle.pattern.specs.Reading.{byte_of}
use Rattle.compiler.specs.declared.Begin.{Begin}
use Rattle.compiler.specs.declared.Task.{Task}
use Rattle.compiler.specs.declared.Rounds.{Rounds}
use Rattle.compiler.specs.declared.Entry.{Entry}
use Rattle.compiler.specs.Compiling.{Passes, PartAt, Reads, StepAt, rounded, OnePattern, leaf_of, around_of, Begins, BeginsAt, Entered, Ready, ReadyRounds, Fits, depth_in, after_first, Inner, First, Second, Counts, NextRound, Rest, entry_at, Small, Says, Put, Written, CompiledAt, RoundsCompiled, first_node, CompiledFrom, SmallUpTo}
use Rattle.compiler.proofs.Parts.{led, none_after, one-after, two-after, counted-one, no-skip, one-pattern-of, inside-depth, inner-part, first_part, second-part, rounds-part, round-part, rest_part, fewer-left, whole-read}
use Rattle.compiler.proofs.Beginnings.{begins-suc, around-counted}
use Rattle.compiler.proofs.Entries.{compile-leaf, compile-around, compile-joined}
use Rattle.compiler.proofs.Standing.{written_none, written_then, written_both, whole_says}

written_as : {b : ℕ} {ns ms : List Node} {before now : List ℕ} → ms ≡ ns → Written b ns before now → Written b ms before now
written_as {b} {before = before} {now = now} e w = subst (λ l. Written b l before now) (sym e) w

-- the pattern of a task was read
part-as : {s : List ℕ} {at at' b b' : ℕ} {o : Outside} {x : Part} → at ≡ at' → b ≡ b' → PartAt s at' b' o x → PartAt s at b o x
part-as {s} {at} {at'} {b} {b'} {o} {x} e f h = subst₂ (λ i j. PartAt s i j o x) (sym e) (sym f) h

-- what a call writes, from another name of its first position on
written_from : {s : List ℕ} {t : Task} {before now : List ℕ} {o : Outside} {x : Part} {scope K : List ℕ} {b : ℕ}
    → CompiledAt s t before now → PartAt s t.at t.base o x → Fits t scope K → t.base ≡ b → Written b (compile x.tree b scope K) before now
written_from {before = before} {now = now} {o = o} {x = x} {scope = scope} {K = K} w e f h =
    subst (λ i. Written i (compile x.tree i scope K) before now) h (w.writes o x scope K e f)

module _ {s : List ℕ} {task : Task} {r : Step} {o : Outside} {x : Part} {scope K : List ℕ}
    (f : StepAt s task.at r) (e : PartAt s task.at task.base o x) (fits : Fits task scope K) where
  -- ---- no pattern after the command

  pub leaf-written : {row : Entry} {before now : List ℕ} → r.patterns ≡ 0 → Says row (first_node (leaf_of r) task.base scope K)
      → Put task.base row before now → Written task.base (compile x.tree task.base scope K) before now
  leaf-written none says put =
      written_as (ap (λ y. compile y.tree task.base scope K) (sym (none_after (led e.stands f) none)) ∙ compile-leaf (byte_of r.op) r.first r.second task.base scope K)
      (written_then put says written_none)

  -- ---- a counted pattern

  pub counted-written : {row : Entry} {rounds : Rounds} {before mid now : List ℕ} → byte_of r.op ≡ 0x2A → Says row silent → Put task.base row before mid
      → Counts r task rounds → RoundsCompiled s rounds mid now → Written task.base (compile x.tree task.base scope K) before now
  counted-written {rounds = rounds} {mid = mid} {now = now} code says put i w =
      let q = one-after (led e.stands f) (counted-one (led e.stands f) code) in
      let y = q.inner.tree in
      let tree : x.tree ≡ counted r.first r.second y = ap (λ z. z.tree) (sym q.is) ∙ around-counted r.first r.second y code in
      let all = w.writes (inside (byte_of r.op) r.second o) q.inner scope K (rounds-part f e i code q) (omega (arith, i.lowest-is, i.left_is, (q.counts (eq-eqb _ _ code)).0)) (i.fits scope K fits) in
      written_as (ap (λ z. compile z task.base scope K) tree)
      (written_then put says
      (subst (λ n. Written n (compile_counted y r.first r.second n scope K) mid now) (i.base-is ∙ add-one task.base)
      (subst₂ (λ m n. Written rounds.task.base (compile_counted y m n rounds.task.base scope K) mid now) i.lowest-is i.left_is all)))

  -- ---- one pattern after it

  module _ {p : Begin} (g : BeginsAt s r.next (task.base + 1) p) {row : Entry} {before mid : List ℕ} (put : Small row.row → Put task.base row before mid) where
    pub around-written : {inner : Task} {now : List ℕ} → r.patterns ≡ 1 → rounded (byte_of r.op) r.second ≡ false
        → ((y : Pattern) (next : ℕ) → OnePattern r → Begins y (task.base + 1) next p → Says row (first_node (around_of r y) task.base scope K))
        → Inner r task p inner → CompiledAt s inner mid now → Written task.base (compile x.tree task.base scope K) before now
    around-written one plain says i w =
        let q = one-after (led e.stands f) one in
        let two = one-pattern-of _ (led e.stands f).ok plain q.code in
        let reads = inner-part f e q (no-skip (byte_of r.op) r.second plain) in
        let b = g.begins (inside (byte_of r.op) r.second o) q.inner reads in
        written_as (ap (λ y. compile y.tree task.base scope K) (sym q.is) ∙ compile-around r task.base q.inner.tree scope K two)
        (written_then (put (says q.inner.tree q.inner.next two b).small) (says q.inner.tree q.inner.next two b)
        (written_from w (part-as i.at-is i.base-is reads) (i.fits scope K q.inner.tree (suc task.base) q.inner.next fits (begins-suc b)) (i.base-is ∙ add-one task.base)))

    -- ---- two patterns after it

    pub joined-written : {q : Begin} {first second : Task} {half now : List ℕ} → (r.patterns ≡ 0 → ⊥) → (r.patterns ≡ 1 → ⊥) → BeginsAt s p.next p.after q → Says row silent
        → First r task q first → CompiledAt s first mid half → Second task p second → CompiledAt s second half now
        → Written task.base (compile x.tree task.base scope K) before now
    joined-written {q} none one g₂ says i w i₂ w₂ =
        let t = two-after (led e.stands f) none one in
        let y = t.first.tree in
        let z = t.second.tree in
        let c : ℕ = suc task.base + unfolded y in
        let after : p.after ≡ c = (g.begins o t.first (first_part f e t)).after_is ∙ ap (◌+ unfolded y) (add-one task.base) in
        let b : Begins z c t.second.next q = subst (λ j. Begins z j t.second.next q) after (g₂.begins o t.second (second-part f e t g)) in
        let K₁ = after_first (byte_of r.op) z c K in
        written_as (ap (λ d. compile d.tree task.base scope K) (sym t.is) ∙ compile-joined (byte_of r.op) task.base y z scope K)
        (written_then (put says.small) says
        (written_both (compile y (suc task.base) scope K₁) (compile z c scope K) (compile-length y (suc task.base) scope K₁)
        (written_from w (part-as i.at-is i.base-is (first_part f e t)) (i.fits scope K z c t.second.next fits b) (i.base-is ∙ add-one task.base))
        (written_from w₂ (part-as i₂.at-is i₂.base-is (second-part f e t g)) (i₂.fits scope K fits) (i₂.base-is ∙ after))))

-- ---- rounds

-- none are left
pub rounds-written-none : {s : List ℕ} {rounds : Rounds} {now : List ℕ} → rounds.left ≡ 0 → RoundsCompiled s rounds now now
rounds-written-none {rounds = rounds} {now = now} none = record {
  writes = λ o x scope K e l f. subst (λ n. Written rounds.task.base (compile_counted x.tree rounds.lowest n rounds.task.base scope K) now now) (sym none) written_none;
}

-- the next one, and those after it
pub rounds-written : {s : List ℕ} {rounds later : Rounds} {task : Task} {p : Begin} {before mid now : List ℕ} → (rounds.left ≡ 0 → ⊥) → BeginsAt s rounds.task.at rounds.task.base p
    → NextRound rounds p task → CompiledAt s task before mid → Rest rounds p later → RoundsCompiled s later mid now → RoundsCompiled s rounds before now
rounds-written {s} {rounds} {later} {task} {p} {before} {mid} {now} some g i w i₂ w₂ = record {
  writes = λ o x scope K e l fits.
      let y = x.tree in
      let b = rounds.task.base in
      let n : ℕ = rounds.left - 1 in
      let more : suc n ≡ rounds.left = omega (arith, some) in
      let here = round-part e some in
      let begins = g.begins o x here in
      let J = enter_counted y (first-left rounds.lowest) n (b + unfolded y) K in
      let one : Written b (compile y b scope J) before mid = written_from w (part-as i.at-is i.base-is here) (i.fits scope K y x.next fits l e.fits begins) i.base-is in
      let rest = w₂.writes o x scope K (rest_part e some begins i₂) (fewer-left l some i₂) (i₂.fits scope K fits) in
      let two : Written (b + unfolded y) (compile_counted y (first-left rounds.lowest) n (b + unfolded y) scope K) mid now =
      subst (λ c. Written c (compile_counted y (first-left rounds.lowest) n c scope K) mid now) (i₂.base-is ∙ begins.after_is)
      (subst₂ (λ m k. Written later.task.base (compile_counted y m k later.task.base scope K) mid now) i₂.lowest-is i₂.left_is rest) in
      subst (λ k. Written b (compile_counted y rounds.lowest k b scope K) before now) more
      (written_both (compile y b scope J) (compile_counted y (first-left rounds.lowest) n (b + unfolded y) scope K) (compile-length y b scope J) one two);
}

-- ---- what the calls ask

module _ {s : List ℕ} {task : Task} {r : Step} (d : Ready s task) (f : StepAt s task.at r) where
  pub rounds-ready : {rounds : Rounds} → byte_of r.op ≡ 0x2A → Counts r task rounds → ReadyRounds s rounds
  rounds-ready code i =
      let l = led d.reads.is.stands f in
      let q = one-after l (counted-one l code) in
      record {
        outside = inside (byte_of r.op) r.second d.reads.outside;
        part = q.inner;
        reads = rounds-part f d.reads.is i code q;
        depth_is = inside-depth (byte_of r.op) r.second d.reads.outside ∙ (rw code (d.depth_is ∙ sym i.depth_is));
        shallow = subst (λ (n : ℕ). n ≤ 3) (sym i.depth_is) d.shallow;
        few = omega (arith, i.left_is, (q.counts (eq-eqb _ _ code)).1);
      }

  pub inner-ready : {p : Begin} {inner : Task} → r.patterns ≡ 1 → rounded (byte_of r.op) r.second ≡ false → Inner r task p inner → Ready s inner
  inner-ready one plain i =
      let l = led d.reads.is.stands f in
      let q = one-after l one in
      let deep : (inside (byte_of r.op) r.second d.reads.outside).depth ≡ depth_in (byte_of r.op) task.depth = inside-depth (byte_of r.op) r.second d.reads.outside ∙ ap (depth_in (byte_of r.op)) d.depth_is in
      record {
        reads = record { outside = inside (byte_of r.op) r.second d.reads.outside; part = q.inner; is = part-as i.at-is i.base-is (inner-part f d.reads.is q (no-skip (byte_of r.op) r.second plain)) };
        depth_is = deep ∙ sym i.depth_is;
        shallow = subst (λ (n : ℕ). n ≤ 3) (deep ∙ sym i.depth_is) (inside-small l.ok (subst (λ (n : ℕ). n ≤ 3) (sym d.depth_is) d.shallow));
      }

  module _ (none : r.patterns ≡ 0 → ⊥) (one : r.patterns ≡ 1 → ⊥) where
    pub first-ready : {q : Begin} {first : Task} → First r task q first → Ready s first
    first-ready i =
        let t = two-after (led d.reads.is.stands f) none one in
        record {
          reads = record { outside = d.reads.outside; part = t.first; is = part-as i.at-is i.base-is (first_part f d.reads.is t) };
          depth_is = d.depth_is ∙ sym i.depth_is;
          shallow = subst (λ (n : ℕ). n ≤ 3) (sym i.depth_is) d.shallow;
        }

    pub second-ready : {p : Begin} {second : Task} → BeginsAt s r.next (task.base + 1) p → Second task p second → Ready s second
    second-ready g i =
        let t = two-after (led d.reads.is.stands f) none one in
        record {
          reads = record { outside = d.reads.outside; part = t.second; is = part-as i.at-is i.base-is (second-part f d.reads.is t g) };
          depth_is = d.depth_is ∙ sym i.depth_is;
          shallow = subst (λ (n : ℕ). n ≤ 3) (sym i.depth_is) d.shallow;
        }

-- a round, and those after it
module _ {s : List ℕ} {rounds : Rounds} (d : ReadyRounds s rounds) (some : rounds.left ≡ 0 → ⊥) where
  pub round-reads : Reads s rounds.task.at rounds.task.base
  round-reads = record { outside = d.outside; part = d.part; is = round-part d.reads some }

  -- it ends before the end's position
  pub round-low : {p : Begin} → BeginsAt s rounds.task.at rounds.task.base p → (0 < rounds.left) × (rounds.task.base ≤ p.after) × (p.after < 64)
  round-low g =
      let e = round-part d.reads some in
      let b = g.begins d.outside d.part e in
      (omega (arith, some), omega (arith, b.after_is), omega (arith, b.after_is, e.fits))

  pub round-ready : {p : Begin} {task : Task} → NextRound rounds p task → Ready s task
  round-ready i = record {
    reads = record { outside = d.outside; part = d.part; is = part-as i.at-is i.base-is (round-part d.reads some) };
    depth_is = d.depth_is ∙ sym i.depth_is;
    shallow = subst (λ (n : ℕ). n ≤ 3) (sym i.depth_is) d.shallow;
  }

  pub rest-ready : {p : Begin} {later : Rounds} → BeginsAt s rounds.task.at rounds.task.base p → Rest rounds p later → ReadyRounds s later
  rest-ready g i = record {
    outside = d.outside;
    part = d.part;
    reads = rest_part d.reads some (g.begins d.outside d.part (round-part d.reads some)) i;
    depth_is = d.depth_is ∙ sym i.depth_is;
    shallow = subst (λ (n : ℕ). n ≤ 3) (sym i.depth_is) d.shallow;
    few = omega (arith, i.left_is, d.few);
  }

-- ---- the whole pattern and its end

pub whole-reads : {s : List ℕ} → Passes s → Reads s 0 0
whole-reads {s} h = let r = whole-read s h.tree h.is in record { outside = outermost none_given; part = r.0; is = r.1 }

pub whole_ready : {s : List ℕ} {t : Task} → Passes s → t.at ≡ 0 → t.base ≡ 0 → t.depth ≡ 0 → Ready s t
whole_ready {s} h at base depth =
    let r = whole-read s h.tree h.is in
    record { reads = record { outside = outermost none_given; part = r.0; is = part-as at base r.1 }; depth_is = sym depth; shallow = omega (arith, depth) }

-- the end is a position too
pub end_low : {s : List ℕ} {p : Begin} → Passes s → BeginsAt s 0 0 p → p.after < 64
end_low h b =
    let r = whole-reads h in
    omega (arith, (b.begins r.outside r.part r.is).after_is, r.is.fits)

module _ {s : List ℕ} {p : Begin} {task : Task} {row : Entry} {begin : ℕ} {before mid now : List ℕ} (b : BeginsAt s 0 0 p) (w : CompiledAt s task before mid)
    (at : task.at ≡ 0) (base : task.base ≡ 0) (fits : (K : List ℕ) → Marks task.after K → Fits task [] K)
    (end : Marks task.after (p.after ∷ [])) (put : Put p.after row mid now) (says : Says row silent) (enters : Entered p task.after begin) where
  module _ (t : Pattern) (e : read_pattern none_given s ≡ passed t) where
    read : (x : Part) × PartAt s 0 0 (outermost none_given) x × (x.tree ≡ t)
    read = whole-read s t e

    -- what the pattern begins with, and where it ends
    begins : Begins t 0 read.0.next p
    begins = subst (λ z. Begins z 0 read.0.next p) read.2 (b.begins (outermost none_given) read.0 read.1)

    done : p.after ≡ unfolded t
    done = omega (arith, begins.after_is)

    marks : Marks task.after (unfolded t ∷ [])
    marks = subst (λ i. Marks task.after (i ∷ [])) done end

    whole-written : (k : ℕ) → k ≤ unfolded t → Says (entry_at now k) (node_at (nodes t []) k)
    whole-written =
        whole_says t
        (subst (λ z. Written 0 (compile z 0 [] (unfolded t ∷ [])) before mid) read.2 (written_from w (part-as at base read.1) (fits (unfolded t ∷ []) marks) base))
        (subst (λ i. Put i row mid now) done put)
        says

    said : Compiled t now begin
    unfolding node_in
    said = record {
      nodes-are = λ k l. (whole-written k l).alike;
      start_is = (enters t 0 read.0.next (unfolded t ∷ []) begins marks).has;
    }

  pub whole-compiled : CompiledFrom s now begin × SmallUpTo s now
  whole-compiled = (said, λ t e k l. (whole-written t e k l).small)
