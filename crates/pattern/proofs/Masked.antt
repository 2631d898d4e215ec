-- The lines as a search meets them, those that may not be used struck: the search goes by the language alone, and still finds what is
-- accepted. Claimed: `masked-matches` and `accepted-met` (the chains that match the masked lines are those that match the lines and use none
-- that is struck), `first_by` (so the first of the ones is the first of the others), and what stays of each line (`masked-length`,
-- `masked-at`, `masked-within`, `masked-boats`). Windows over the whole day strike no line: `whole-day-met`, `whole-day-accepts`.
-- Used by the crates of the search, of the boats and of the request. Laws of meaning's definitions. Assumes nothing.
use Rattle.std.specs.Prelude.{◌≡◌, refl, Bool, true, false, cond, List, [], ◌∷◌, map, ◌↔◌, ℕ, zero, suc, ◌+◌, ◌-◌, ◌<◌, ◌≤◌, length, get_or, replicate}
use Rattle.std.proofs.Common.{sym, ap, ap₂, ◌∙◌, subst, arith}
use mathlib.Core.Logic.Iff
use Rattle.std.proofs.Math.Option.{Option, none, some}
use Rattle.std.proofs.Math.Dec.{leb-zero}
use Rattle.meaning.specs.Record.{Line, Day, time_allowed}
use Rattle.meaning.specs.Writing.{line_at}
use Rattle.meaning.specs.Pattern.{Pattern}
use Rattle.meaning.specs.Language.{L, unbound}
use Rattle.meaning.specs.Windows.{within, inside, whole_day, plain}
use Rattle.meaning.specs.Request.{Asked}
use Rattle.meaning.specs.Chain.{Exist, Leads, word, Matches, Usable, usable, Accepted, FirstOf, struck, masked, lines_met}
use Rattle.pattern.specs.Kinds.{Kinds, AllKinds, word-kinds}
use Rattle.pattern.specs.Masked.{Passes}
use Rattle.pattern.proofs.Struck.{masked-length, masked-at}

-- ---- line by line

-- a line that is struck or not has its places, and a kind that is no larger
pub masked-within : (test : ℕ → Bool) (k : ℕ) (lines : List Line) (i : ℕ) → i < length lines
    → ((line_at (masked test k lines) i).from ≡ (line_at lines i).from) × ((line_at (masked test k lines) i).to ≡ (line_at lines i).to) × ((line_at (masked test k lines) i).kind ≤ (line_at lines i).kind)
masked-within test k lines i there = rw (masked-at test k lines i there) (either_way (test (k + i)) (line_at lines i))
  where
    either_way : (t : Bool) (l : Line) → ((cond t l (struck l)).from ≡ l.from) × ((cond t l (struck l)).to ≡ l.to) × ((cond t l (struck l)).kind ≤ l.kind)
    either_way true l = (refl, refl, omega arith)
    either_way false l = (refl, refl, omega arith)

-- and its boat
pub masked-boats : (test : ℕ → Bool) (k : ℕ) (lines : List Line) → map (λ (l : Line). l.boat) (masked test k lines) ≡ map (λ (l : Line). l.boat) lines
unfolding masked
masked-boats test k [] = refl
masked-boats test k (l ∷ lines) = ap₂ ◌∷◌ (either_way (test k)) (masked-boats test (suc k) lines)
  where
    either_way : (t : Bool) → (cond t l (struck l)).boat ≡ l.boat
    either_way true = refl
    either_way false = refl

-- where no line fails the test, none is struck
pub all-met : (test : ℕ → Bool) (k : ℕ) (lines : List Line) → ((i : ℕ) → i < length lines → test (k + i) ≡ true) → masked test k lines ≡ lines
unfolding masked
all-met test k [] met = refl
all-met test k (l ∷ lines) met =
    let first : test k ≡ true = subst (λ n. test n ≡ true) (omega arith) (met 0 (omega arith)) in
    let others : (i : ℕ) → i < length lines → test (suc k + i) ≡ true = λ i there. subst (λ n. test n ≡ true) (omega arith) (met (suc i) (omega (arith, there))) in
    rw first (ap (l ∷◌) (all-met test (suc k) lines others))

-- ---- chains of masked lines

module _ (test : ℕ → Bool) (lines : List Line) where
  abbrev met : List Line
  met = masked test 0 lines

  line-met : (i : ℕ) → i < length lines → line_at met i ≡ cond (test i) (line_at lines i) (struck (line_at lines i))
  line-met i there = let e : 0 + i ≡ i = omega arith in subst (λ n. line_at met i ≡ cond (test n) (line_at lines i) (struck (line_at lines i))) e (masked-at test 0 lines i there)

  line_kept : (i : ℕ) → i < length lines → test i ≡ true → line_at met i ≡ line_at lines i
  line_kept i there passes = line-met i there ∙ ap (λ t. cond t (line_at lines i) (struck (line_at lines i))) passes

  -- a line whose kind is not 0 was not struck
  not-struck : (i : ℕ) → i < length lines → 1 ≤ (line_at met i).kind → test i ≡ true
  not-struck i there h = go (test i) (subst (λ (l : Line). 1 ≤ l.kind) (line-met i there) h)
    where
      go : (t : Bool) → 1 ≤ (cond t (line_at lines i) (struck (line_at lines i))).kind → t ≡ true
      go true k = refl
      go false k = absurd (omega (arith, k))

  exist-met : (c : List ℕ) → Exist met c ↔ Exist lines c
  exist-met [] = Iff.rfl
  exist-met (i ∷ c) = (
    λ (there, others). (omega (arith, masked-length test 0 lines, there), (exist-met c).0 others),
    λ (there, others). (omega (arith, masked-length test 0 lines, there), (exist-met c).1 others),
  )

  usable-met : (c : List ℕ) → Exist lines c → AllKinds (word met c) → Usable test c
  usable-met [] exists kinds = tt
  usable-met (i ∷ c) (there, exists) (kind, kinds) = (not-struck i there kind, usable-met c exists kinds)

  word-met : (c : List ℕ) → Exist lines c → Usable test c → word met c ≡ word lines c
  word-met [] exists passes = refl
  word-met (i ∷ c) (there, exists) (first, passes) = ap₂ (λ (l : Line) w. record { kind = l.kind; boat = l.boat } ∷ w) (line_kept i there first) (word-met c exists passes)

  leads-met : (a b : ℕ) (c : List ℕ) → Exist lines c → Leads met a b c ↔ Leads lines a b c
  leads-met a b [] exists = Iff.rfl
  leads-met a b (i ∷ c) (there, exists) =
      let same = masked-within test 0 lines i there in
      let others = leads-met (line_at lines i).to b c exists in (
        λ (from, rest). (sym same.0 ∙ from, others.0 (subst (λ n. Leads met n b c) same.1 rest)),
        λ (from, rest). (same.0 ∙ from, subst (λ n. Leads met n b c) (sym same.1) (others.1 rest)),
      )

  pub masked-matches : (p : Pattern) → Kinds p → (a b : ℕ) (c : List ℕ) → Matches (masked test 0 lines) p a b c ↔ (Matches lines p a b c × Usable test c)
  masked-matches p kinds a b c = (forward, backward)
    where
      forward : Matches met p a b c → Matches lines p a b c × Usable test c
      forward (exists, leads, accepted) =
          let there = (exist-met c).0 exists in
          let passes = usable-met c there (word-kinds p kinds unbound (word met c) accepted) in
          ((there, (leads-met a b c there).0 leads, subst (L p unbound) (word-met c there passes) accepted), passes)

      backward : Matches lines p a b c × Usable test c → Matches met p a b c
      backward ((there, leads, accepted), passes) = ((exist-met c).1 there, (leads-met a b c there).1 leads, subst (L p unbound) (sym (word-met c there passes)) accepted)

pub accepted-met : (q : Asked) → Kinds q.pattern → (a b : ℕ) (c : List ℕ) → Matches (lines_met q) q.pattern a b c ↔ Accepted q a b c
accepted-met q kinds a b c = masked-matches (usable q) q.day.lines q.pattern kinds a b c

-- the first of some chains is the first of the same chains
pub first_by : (P Q : List ℕ → Type 0) → ((c : List ℕ) → P c ↔ Q c) → (c : List ℕ) → FirstOf P c → FirstOf Q c
first_by P Q same c (is, others) = ((same c).0 is, λ c' x different. others c' ((same c').1 x) different)

-- ---- windows over the whole day

replicated : (n i x : ℕ) → i < n → get_or (replicate n x) i 0 ≡ x
replicated zero i x h = absurd (omega (arith, h))
replicated (suc n) zero x h = refl
replicated (suc n) (suc i) x h = replicated n i x (omega (arith, h))

pub whole-day-inside : (l : Line) → Passes l → inside whole_day l ≡ true
whole-day-inside l (kind, below) =
    rw (replicated 15 (l.kind - 1) 0 (omega (arith, kind)), replicated 15 (l.kind - 1) 86400 (omega (arith, kind))) (by-time l.time below)
  where
    by-time : (t : Option ℕ) → time_allowed t ≡ true → within 0 86400 t ≡ true
    by-time none h = refl
    by-time (some t) h = rw (leb-zero t) h

module _ (day : Day) (p : Pattern) (below : (i : ℕ) → i < length day.lines → Passes (line_at day.lines i)) where
  abbrev asked : Asked
  asked = record { day = day; pattern = p; options = plain }

  all-usable : (i : ℕ) → i < length day.lines → usable asked i ≡ true
  all-usable i there = whole-day-inside (line_at day.lines i) (below i there)

  pub whole-day-met : lines_met (record { day = day; pattern = p; options = plain }) ≡ day.lines
  whole-day-met = all-met (usable asked) 0 day.lines (λ i there. all-usable (0 + i) (omega (arith, there)))

  pub whole-day-accepts : (a b : ℕ) (c : List ℕ) → Accepted (record { day = day; pattern = p; options = plain }) a b c ↔ Matches day.lines p a b c
  whole-day-accepts a b c = (λ accepted. accepted.0, λ matches. (matches, go c matches.0))
    where
      go : (c : List ℕ) → Exist day.lines c → Usable (usable asked) c
      go [] exists = tt
      go (i ∷ c) (there, exists) = (all-usable i there, go c exists)
