-- A pattern's extent, from its command's and those of the patterns after it: what the recursive reader adds up.
-- Each law gives `extent_at` for one way through the reader. Assumes nothing.
use mathlib.Core.Path.{◌≡◌, refl, sym, ◌∙◌, ap}
use mathlib.Core.Bool.{Bool, true, false, cond}
use mathlib.Core.List.{List}
use Prim.Native.Nat.{ℕ, zero, suc, ◌+◌, ◌*◌, ◌<◌, ◌≤◌}
use native.Mathlib.Omega.{arith}
use lib.Dec.{eqb, leb}
use lib.ListN.{length}
use borrow.Author.Tests.{leb-true, leb-false, le-leb, lt-leb}
use Rattle.meaning.specs.Outcome.{Outcome, refused, passed, ask, and_then, told}
use Rattle.meaning.specs.Pattern.{commands, unfolded, keeps, is_counted, Command, Outside, command_at, leaf, around, joined, inside, Part, part, whole, outermost, read_pattern}
use Rattle.pattern.specs.declared.Extent.{Extent}
use Rattle.pattern.specs.Capped.{capped, capped-below, capped_same, capped-many, capped-next, capped-sum, capped-times}
use Rattle.refusals.specs.Refusal.{mapped}
use Rattle.pattern.specs.Reading.{extent_of, pattern_at, extent_at, around_extent, joined_extent, Few}
use Rattle.pattern.specs.Promise.{Counts, counts_of}
use Rattle.pattern.specs.Passed.{passed-same, not-passed, Passed, OneOf, one-pattern}
use Rattle.pattern.proofs.Bound.{leaf-counts, around-counts, joined-counts, read-within, pattern-step}

abbrev pub counts : ℕ → ℕ → ℕ → ℕ → Extent
counts n c u k = record { next = n; commands = c; unfolded = u; keeps = k }

abbrev extent : Outcome Part → Outcome Extent
extent x = mapped extent_of x

-- ---- the extent of a command with no, one and two patterns after it

leaf-extent : (b first second next : ℕ) → extent (part (leaf b first second) next) ≡ passed (counts next 1 1 0)
leaf-extent b first second next =
    let is = leaf-counts b first second in
    rw (is.commands-is, is.unfolded_is, is.keeps-is)

-- the count of what is inside may be capped first
times_capped : (t : Bool) (high n : ℕ) → capped (suc (cond t (high * n) n)) ≡ capped (suc (cond t (high * capped n) (capped n)))
times_capped true high n = capped-times high n
times_capped false high n = capped-next n

around-extent : (b first second : ℕ) → OneOf b → (o : Outcome Part) → extent (and_then o (λ p. part (around b first second p.tree) p.next)) ≡ mapped (around_extent b second) (extent o)
around-extent b first second h (refused n) = refl
around-extent b first second h (passed p) =
    let is = around-counts b first second p.tree h in
    rw (is.commands-is, is.unfolded_is, is.keeps-is, times_capped (is_counted b) second (unfolded p.tree))

joined-extent : (b : ℕ) (p : Part) (o : Outcome Part) → extent (and_then o (λ q. part (joined b p.tree q.tree) q.next)) ≡ mapped (joined_extent (extent_of p)) (extent o)
joined-extent b p (refused n) = refl
joined-extent b p (passed q) =
    let is = joined-counts b p.tree q.tree in
    rw (is.commands-is, is.unfolded_is, is.keeps-is, capped-sum (unfolded p.tree) (unfolded q.tree))

module _ (s : List ℕ) (at before : ℕ) (o : Outside) where
  pub refused-command : (number : ℕ) → command_at s at before o ≡ refused number → refused number ≡ extent_at s at before o
  refused-command number e =
      sym (ap extent (pattern-step s at before o ∙ ap (λ x. and_then x (λ c. whole c.patterns (pattern_at s) c before o)) e))

module _ {s : List ℕ} {at before : ℕ} {o : Outside} {c : Command} (ok : Passed s at before o c) where
  step : pattern_at s at before o ≡ whole c.patterns (pattern_at s) c before o
  step = pattern-step s at before o ∙ ap (λ x. and_then x (λ c. whole c.patterns (pattern_at s) c before o)) ok.command-is

  pub no-pattern : c.patterns ≡ 0 → passed (counts c.next 1 1 0) ≡ extent_at s at before o
  no-pattern e = sym (ap extent (step ∙ ap (λ n. whole n (pattern_at s) c before o) e) ∙ leaf-extent c.code c.first c.second c.next)

  pub one_more : c.patterns ≡ 1 → mapped (around_extent c.code c.second) (extent_at s c.next (before + 1) (inside c.code c.second o)) ≡ extent_at s at before o
  one_more e =
      sym (ap extent (step ∙ ap (λ n. whole n (pattern_at s) c before o) e)
      ∙ around-extent c.code c.first c.second (one-pattern ok e) (pattern_at s c.next (before + 1) (inside c.code c.second o)))

  module _ (some : c.patterns ≡ 0 → ⊥) (more : c.patterns ≡ 1 → ⊥) where
    abbrev second : Part → Outcome Part
    second p = and_then (pattern_at s p.next (before + 1 + commands p.tree) o) (λ q. part (joined c.code p.tree q.tree) q.next)

    two-after : (n : ℕ) → (n ≡ 0 → ⊥) → (n ≡ 1 → ⊥) → whole n (pattern_at s) c before o ≡ and_then (pattern_at s c.next (before + 1) o) second
    two-after zero h k = absurd (h refl)
    two-after (suc zero) h k = absurd (k refl)
    two-after (suc (suc n)) h k = refl

    both : extent_at s at before o ≡ extent (and_then (pattern_at s c.next (before + 1) o) second)
    both = ap extent (step ∙ two-after c.patterns some more)

    -- the second pattern's extent, after the first one's
    abbrev pub extent-after : Extent → Outcome Extent
    extent-after e = mapped (joined_extent e) (extent_at s e.next (before + 1 + e.commands) o)

    after-first : (x : Outcome Part) → and_then (extent x) extent-after ≡ extent (and_then x second)
    after-first (refused n) = refl
    after-first (passed p) = sym (joined-extent c.code p (pattern_at s p.next (before + 1 + commands p.tree) o))

    pub two-more : and_then (extent_at s c.next (before + 1) o) extent-after ≡ extent_at s at before o
    two-more = after-first (pattern_at s c.next (before + 1) o) ∙ sym both

module _ (s : List ℕ) (at before : ℕ) (o : Outside) where
  -- ---- where it ends, and that it is small

  pub record Bounded (e : Extent) : Type 0 where
    pub later : at < e.next
    pub inside : e.next ≤ length s
    pub few : before + e.commands ≤ 63
    pub capped : e.unfolded ≤ 64
    pub shallow : o.depth + e.keeps ≤ 3

  bounded-as : (e : Extent) (x : Outcome Part) → pattern_at s at before o ≡ x → o.depth ≤ 3 → passed e ≡ extent x → Bounded e
  bounded-as e (refused n) r h k = absurd (not-passed n e (sym k))
  bounded-as e (passed p) r h k =
      let w = read-within (suc (length s)) s at before o p r in
      rw (passed-same _ _ k)
      (record {
        later = w.later;
        inside = w.inside;
        few = w.few;
        capped = capped-below (unfolded p.tree);
        shallow = w.shallow h;
      })

  pub bounded : (e : Extent) → o.depth ≤ 3 → passed e ≡ extent_at s at before o → Bounded e
  bounded e h k = bounded-as e (pattern_at s at before o) refl h k

  pub few : (e : Extent) → o.depth ≤ 3 → passed e ≡ extent_at s at before o → Few e
  few e h k = let b = bounded e h k in (omega (arith, b.few), b.capped, omega (arith, b.shallow))

-- ---- a pattern's bytes: questions 14 and 25

module _ (s given : List ℕ) where
  -- asked of the extent
  abbrev pub asked : Extent → Outcome Counts
  asked e =
      ask (eqb e.next (length s)) 14
      (ask (leb e.unfolded 63) 25
      (passed (record { commands = e.commands; unfolded = e.unfolded; keeps = e.keeps })))

  -- and of the pattern
  abbrev answered : Outcome Part → Outcome Counts
  answered x = counts_of (and_then x (λ p. ask (eqb p.next (length s)) 14 (ask (leb (unfolded p.tree) 63) 25 (passed p.tree))))

  -- question 25 is asked of a count that may be capped
  asked-25 : (p : Part) (t : Bool) → leb (capped (unfolded p.tree)) 63 ≡ t
      → ask t 25 (passed (record { commands = commands p.tree; unfolded = capped (unfolded p.tree); keeps = keeps p.tree })) ≡ counts_of (ask (leb (unfolded p.tree) 63) 25 (passed p.tree))
  asked-25 p true e =
      let low = leb-true (capped (unfolded p.tree)) 63 e in
      let same = capped_same (unfolded p.tree) low in
      rw (same, le-leb (unfolded p.tree) 63 (omega (arith, same, low)))
  asked-25 p false e = rw (lt-leb (unfolded p.tree) 63 (capped-many (unfolded p.tree) (leb-false (capped (unfolded p.tree)) 63 e)))

  asked-same : (x : Outcome Part) → and_then (extent x) asked ≡ answered x
  asked-same (refused n) = refl
  asked-same (passed p) = go (eqb p.next (length s))
    where
      go : (t : Bool) → ask t 14 (ask (leb (capped (unfolded p.tree)) 63) 25 (passed (record { commands = commands p.tree; unfolded = capped (unfolded p.tree); keeps = keeps p.tree })))
          ≡ counts_of (ask t 14 (ask (leb (unfolded p.tree) 63) 25 (passed p.tree)))
      go true = asked-25 p (leb (capped (unfolded p.tree)) 63) refl
      go false = refl

  pub asked_is : and_then (extent_at s 0 0 (outermost given)) asked ≡ counts_of (read_pattern given s)
  unfolding read_pattern
  asked_is = asked-same (pattern_at s 0 0 (outermost given))

  -- as it is told, from what `read_at` promises
  pub told-read : {o : Outside} (x : Outcome Extent) → x ≡ extent_at s 0 0 o → o ≡ outermost given → told (and_then x asked) ≡ told (counts_of (read_pattern given s))
  told-read x e k = ap told (ap (λ y. and_then y asked) (e ∙ ap (extent_at s 0 0) k) ∙ asked_is)
