-- The bound of `read_at` is no part of what it says: `bound-enough` shows that every bound that is at least the bytes left gives
-- the same outcome, `pattern-step` that a pattern is its command and the patterns after it, with no bound to count down.
-- `read-within` says where a pattern ends, `pattern-small` that it has at most 63 commands, as written and unfolded, and three keeps
-- in each other. Laws of meaning's definitions. Assumes nothing.
use Rattle.std.specs.Prelude.{◌≡◌, refl, Bool, true, false, cond, List, ℕ, zero, suc, ◌+◌, ◌-◌, ◌<◌, ◌≤◌, max, eqb, leb, length, set}
use Rattle.std.proofs.Common.{◌∙◌, ap, subst, inl, inr, arith, leb-true}
use Rattle.std.proofs.Math.Path.{fun_ext}
use Rattle.meaning.specs.Outcome.{Outcome, refused, passed, and_then}
use Rattle.meaning.specs.Pattern.{Rule, Pattern, nothing, line, test, either, then, commands, unfolded, keeps, Command, Outside, command_at, test_rule, leaf, around, joined, is_keep, inside, Part, part, whole, read_at, outermost, read_pattern}
use Rattle.pattern.specs.Reading.{pattern_at, times_around, keeps_around}
use Rattle.pattern.specs.Passed.{passed-same, not-passed, ask-passed, and-then-passed, Passed, command-passed, command-none, next-later, next-inside, inside-small, OneOf, one-pattern}
use Rattle.pattern.specs.Bound.{Reader}

-- ---- the trees' counts

pub record CountsAre (p : Pattern) (c u k : ℕ) : Type 0 where
  pub commands-is : commands p ≡ c
  pub unfolded_is : unfolded p ≡ u
  pub keeps-is : keeps p ≡ k

leaf-tree : (a b : Bool) (r : Rule) (kind slot : ℕ) → CountsAre (cond a nothing (cond b (line kind) (test r kind slot))) 1 1 0
leaf-tree true b r kind slot = record { commands-is = refl; unfolded_is = refl; keeps-is = refl }
leaf-tree false true r kind slot = record { commands-is = refl; unfolded_is = refl; keeps-is = refl }
leaf-tree false false r kind slot = record { commands-is = refl; unfolded_is = refl; keeps-is = refl }

-- a command without patterns: one command, no keep
pub leaf-counts : (b first second : ℕ) → CountsAre (leaf b first second) 1 1 0
leaf-counts b first second = leaf-tree (eqb b 0x20) (eqb b 0x21) (test_rule b) first second

-- a command around a pattern: one command more, what is counted as often as it may come, and one keep more where it is a keep
pub around-counts : (b first second : ℕ) (p : Pattern) → OneOf b → CountsAre (around b first second p) (suc (commands p)) (suc (times_around b second (unfolded p))) (keeps_around b (keeps p))
around-counts b first second p (inl e) = rw e (record { commands-is = refl; unfolded_is = refl; keeps-is = refl })
around-counts b first second p (inr (inl e)) = rw e (record { commands-is = refl; unfolded_is = refl; keeps-is = omega arith })
around-counts b first second p (inr (inr e)) = rw e (record { commands-is = refl; unfolded_is = refl; keeps-is = refl })

joined-tree : (t : Bool) (p q : Pattern) → CountsAre (cond t (either p q) (then p q)) (suc (commands p + commands q)) (suc (unfolded p + unfolded q)) (max (keeps p) (keeps q))
joined-tree true p q = record { commands-is = refl; unfolded_is = refl; keeps-is = refl }
joined-tree false p q = record { commands-is = refl; unfolded_is = refl; keeps-is = refl }

-- two patterns after a command: their commands and one, the deeper one's keeps
pub joined-counts : (b : ℕ) (p q : Pattern) → CountsAre (joined b p q) (suc (commands p + commands q)) (suc (unfolded p + unfolded q)) (max (keeps p) (keeps q))
joined-counts b p q = joined-tree (eqb b 0x24) p q

-- ---- where a pattern ends, and that it is small

pub record Within (s : List ℕ) (at before : ℕ) (o : Outside) (p : Part) : Type 0 where
  pub later : at < p.next
  pub inside : p.next ≤ length s
  pub few : before + commands p.tree ≤ 63
  pub shallow : o.depth ≤ 3 → o.depth + keeps p.tree ≤ 3

deeper : (t : Bool) (o : Outside) (kept : List ℕ) (k : ℕ) → (cond t (record { kept = kept; given = o.given; depth = o.depth + 1 }) o).depth + k ≤ 3 → o.depth + cond t (k + 1) k ≤ 3
deeper true o kept k h = omega (arith, h)
deeper false o kept k h = h

module _ (s : List ℕ) (read : Reader) (within : (at before : ℕ) (o : Outside) (p : Part) → read at before o ≡ passed p → Within s at before o p) where
  module _ {at before : ℕ} {o : Outside} {c : Command} (ok : Passed s at before o c) where
    whole-within : (n : ℕ) → c.patterns ≡ n → (p : Part) → whole n read c before o ≡ passed p → Within s at before o p
    whole-within zero e p r =
        let counts = leaf-counts c.code c.first c.second in
        subst (Within s at before o) (passed-same _ p r)
        (record {
          later = next-later ok;
          inside = next-inside ok;
          few = omega (arith, ok.few, counts.commands-is);
          shallow = λ h. omega (arith, h, counts.keeps-is);
        })
    whole-within (suc zero) e p r =
        let parts = and-then-passed (read c.next (before + 1) (inside c.code c.second o)) _ p r in
        let q = parts.0 in
        let in-it = within _ _ _ q parts.1 in
        let counts = around-counts c.code c.first c.second q.tree (one-pattern ok e) in
        subst (Within s at before o) (passed-same _ p parts.2)
        (record {
          later = omega (arith, in-it.later, next-later ok);
          inside = in-it.inside;
          few = omega (arith, in-it.few, counts.commands-is);
          shallow = λ h. rw counts.keeps-is (deeper (is_keep c.code) o (set o.kept c.second 1) (keeps q.tree) (in-it.shallow (inside-small ok h)));
        })
    whole-within (suc (suc n)) e p r =
        let parts = and-then-passed (read c.next (before + 1) o) _ p r in
        let q = parts.0 in
        let more = and-then-passed (read q.next (before + 1 + commands q.tree) o) _ p parts.2 in
        let t = more.0 in
        let first = within _ _ _ q parts.1 in
        let second = within _ _ _ t more.1 in
        let counts = joined-counts c.code q.tree t.tree in
        subst (Within s at before o) (passed-same _ p more.2)
        (record {
          later = omega (arith, first.later, second.later, next-later ok);
          inside = second.inside;
          few = omega (arith, second.few, counts.commands-is);
          shallow = λ h. omega (arith, first.shallow h, second.shallow h, counts.keeps-is);
        })

pub read-within : (bound : ℕ) (s : List ℕ) (at before : ℕ) (o : Outside) (p : Part) → read_at bound s at before o ≡ passed p → Within s at before o p
unfolding read_at
read-within zero s at before o p e = absurd (not-passed 8 p e)
read-within (suc bound) s at before o p e =
    let parts = and-then-passed (command_at s at before o) _ p e in
    let c = parts.0 in
    whole-within s (λ a b i. read_at bound s a b i) (λ a b i q. read-within bound s a b i q) (command-passed s at before o c parts.1) c.patterns refl p parts.2

-- a pattern that passed all its questions is small
pub record SmallTree (p : Pattern) : Type 0 where
  pub few : commands p ≤ 63
  pub few-unfolded : unfolded p ≤ 63
  pub shallow : keeps p ≤ 3

pub pattern-small : (given s : List ℕ) (p : Pattern) → read_pattern given s ≡ passed p → SmallTree p
unfolding read_pattern
pattern-small given s p e =
    let parts = and-then-passed (read_at (suc (length s)) s 0 0 (outermost given)) _ p e in
    let q14 = ask-passed (eqb parts.0.next (length s)) 14 _ p parts.2 in
    let q25 = ask-passed (leb (unfolded parts.0.tree) 63) 25 _ p q14.1 in
    let w = read-within (suc (length s)) s 0 0 (outermost given) parts.0 parts.1 in
    subst SmallTree (passed-same _ p q25.1)
    (record {
      few = omega (arith, w.few);
      few-unfolded = leb-true (unfolded parts.0.tree) 63 q25.0;
      shallow = omega (arith, w.shallow (omega arith));
    })

-- ---- the bound

module _ (read other-read : Reader) (c : Command) (alike : (at before : ℕ) (o : Outside) → c.next ≤ at → read at before o ≡ other-read at before o) (later : (at before : ℕ) (o : Outside) (p : Part) → read at before o ≡ passed p → at < p.next) where
  abbrev second : Reader → ℕ → Outside → Part → Outcome Part
  second reader before o p = and_then (reader p.next (before + 1 + commands p.tree) o) (λ q. part (joined c.code p.tree q.tree) q.next)

  second_alike : (before : ℕ) (o : Outside) (x : Outcome Part) → read c.next (before + 1) o ≡ x → and_then x (second read before o) ≡ and_then x (second other-read before o)
  second_alike before o (refused number) e = refl
  second_alike before o (passed p) e =
      ap (λ x. and_then x (λ q. part (joined c.code p.tree q.tree) q.next))
      (alike p.next (before + 1 + commands p.tree) o (omega (arith, later _ _ _ p e)))

  whole-alike : (n before : ℕ) (o : Outside) → whole n read c before o ≡ whole n other-read c before o
  whole-alike zero before o = refl
  whole-alike (suc zero) before o =
      ap (λ x. and_then x (λ p. part (around c.code c.first c.second p.tree) p.next))
      (alike c.next (before + 1) (inside c.code c.second o) (omega arith))
  whole-alike (suc (suc n)) before o =
      second_alike before o (read c.next (before + 1) o) refl
      ∙ ap (λ x. and_then x (second other-read before o)) (alike c.next (before + 1) o (omega arith))

-- every bound that is at least the bytes left gives the same
pub bound-enough : (bound larger : ℕ) (s : List ℕ) (at before : ℕ) (o : Outside) → length s - at ≤ bound → length s - at ≤ larger → read_at bound s at before o ≡ read_at larger s at before o
unfolding read_at
bound-enough zero zero s at before o h k = refl
bound-enough zero (suc g) s at before o h k = rw (command-none s at before o (omega (arith, h)))
bound-enough (suc f) zero s at before o h k = rw (command-none s at before o (omega (arith, k)))
bound-enough (suc f) (suc g) s at before o h k =
    step (command_at s at before o) refl (λ a b i l. bound-enough f g s a b i)
  where
    step : (x : Outcome Command) → command_at s at before o ≡ x
        → ((a b : ℕ) (i : Outside) → at < a → length s - a ≤ f → length s - a ≤ g → read_at f s a b i ≡ read_at g s a b i)
        → and_then x (λ c. whole c.patterns (λ a b i. read_at f s a b i) c before o) ≡ and_then x (λ c. whole c.patterns (λ a b i. read_at g s a b i) c before o)
    step (refused number) e same-below = refl
    step (passed c) e same-below =
        let on = next-later (command-passed s at before o c e) in
        whole-alike (λ a b i. read_at f s a b i) (λ a b i. read_at g s a b i) c
        (λ a b i far. same-below a b i (omega (arith, on, far)) (omega (arith, on, far, h)) (omega (arith, on, far, k)))
        (λ a b i p r. (read-within f s a b i p r).later)
        c.patterns before o

-- a pattern is its command and the patterns after it
pub pattern-step : (s : List ℕ) (at before : ℕ) (o : Outside) → pattern_at s at before o ≡ and_then (command_at s at before o) (λ c. whole c.patterns (pattern_at s) c before o)
unfolding read_at
pattern-step s at before o =
    ap (λ (read : Reader). and_then (command_at s at before o) (λ c. whole c.patterns read c before o))
    (fun_ext (λ a. fun_ext (λ b. fun_ext (λ i. bound-enough (length s) (suc (length s)) s a b i (omega arith) (omega arith)))))
