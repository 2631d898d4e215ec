-- The definition that the promise of all starts cites, `starts_of`, meets demand 3: `starts-shortest`. By the outcome of the questions:
-- `starts-refused`, `starts-short`, `starts-lengths`. Where the bytes are read, refusals are 15 and later (`starts-late`).
use Rattle.std.specs.Prelude.{◌≡◌, refl, Bool, true, false, cond, List, ◌++◌, ℕ, ◌<◌, ◌≤◌, leb, length, get_or, drop}
use Rattle.std.proofs.Common.{sym, ◌∙◌, subst, arith}
use Rattle.std.proofs.lemmas.List.{length-map}
use Rattle.std.proofs.Math.ListN.{get_or-append}
use borrow.Author.Tests.{le-leb, lt-leb}
use Rattle.meaning.specs.Outcome.{Outcome, refused, passed, Reply, value, refusal}
use Rattle.meaning.specs.Record.{Day, read_record}
use Rattle.meaning.specs.Pattern.{Pattern, read_pattern, none_given}
use Rattle.meaning.specs.Windows.{Options}
use Rattle.meaning.specs.Request.{Asked, ask_starts}
use Rattle.record.specs.Outcomes.{passed-inj}
use Rattle.request.specs.Told.{Parts, asked-parts, Late, asked-late}
use Rattle.starts.specs.Highest.{highest_of, starts-asked, asked-from}
use Rattle.starts.specs.Promise.{length_from, lengths_of, stopped, too_short, lengths, searched, starts_of, told, lengths_after, LengthSays, Shortest}
use Rattle.starts.proofs.Theorems.{entry_in, length-says}

-- ---- the definition, by the questions' outcome

module _ (rec pat starts : List ℕ) (to : ℕ) (options : Options) (words room : ℕ) where
  pub starts-refused : (number : ℕ) → ask_starts rec pat starts to options words ≡ refused number → starts_of rec pat starts to options words room ≡ stopped number
  unfolding starts_of
  starts-refused number e = simp e

  module _ (q : Asked) (e : ask_starts rec pat starts to options words ≡ passed q) where
    pub starts-short : room < length starts → starts_of rec pat starts to options words room ≡ too_short (length starts)
    unfolding starts_of
    starts-short h = simp (e, lt-leb (length starts) room h)

    pub starts-lengths : length starts ≤ room → starts_of rec pat starts to options words room ≡ lengths (lengths_of q starts to)
    unfolding starts_of
    starts-lengths h = simp (e, le-leb (length starts) room h)

-- ---- demand 3

pub starts-shortest : (rec pat starts : List ℕ) (to : ℕ) (options : Options) (words room : ℕ) (old : List ℕ) → ((i : ℕ) → get_or rec i 0 < 256)
    → Shortest rec pat starts to options (told (starts_of rec pat starts to options words room)) (lengths_after (starts_of rec pat starts to options words room) old)
unfolding starts_of
starts-shortest rec pat starts to options words room old low = go (ask_starts rec pat starts to options words) (λ q e. e)
  where
    -- the lengths that are written, of what passed
    right : (q : Asked) → ask_starts rec pat starts to options words ≡ passed q → Shortest rec pat starts to options (told (lengths (lengths_of q starts to))) (lengths_after (lengths (lengths_of q starts to)) old)
    right q e = (
      length-map starts (length_from q to),
      λ day p r s i h.
          let parts : Parts rec pat (get_or starts i 0) to options q = asked-parts rec pat (get_or starts i 0) to options words q (asked-from rec pat starts to options words q e (get_or starts i 0) (entry_in starts i h)) in
          let l = lengths_of q starts to in
          let days : q.day ≡ day = passed-inj (sym parts.day-read ∙ r) in
          let patterns : q.pattern ≡ p = passed-inj (sym parts.pattern-read ∙ s) in
          let here : get_or (l ++ drop (length l) old) i 0 ≡ get_or l i 0 = get_or-append l (drop (length l) old) 0 i (omega (arith, h, length-map starts (length_from q to))) in
          let said : LengthSays q (get_or starts i 0) to (get_or l i 0) = length-says rec pat starts to options words low q e i h in
          let same : q ≡ record { day = day; pattern = p; options = options } = λ t. record { day = days t; pattern = patterns t; options = parts.options-are t } in
          subst (λ n. LengthSays (record { day = day; pattern = p; options = options }) (get_or starts i 0) to n) (sym here)
          (subst (λ (z : Asked). LengthSays z (get_or starts i 0) to (get_or l i 0)) same said),
    )

    go : (o : Outcome Asked) → ((q : Asked) → o ≡ passed q → ask_starts rec pat starts to options words ≡ passed q)
        → Shortest rec pat starts to options (told (searched o starts to room)) (lengths_after (searched o starts to room) old)
    go (refused number) h = tt
    go (passed q) h = fits (leb (length starts) room)
      where
        fits : (t : Bool) → let x = cond t (lengths (lengths_of q starts to)) (too_short (length starts)) in Shortest rec pat starts to options (told x) (lengths_after x old)
        fits true = right q (h q refl)
        fits false = tt

-- ---- where the bytes are read as a record and a pattern, a refusal has a number from 15 on

abbrev pub LateTold : Reply ℕ → Type 0
LateTold (value n) = Unit {0}
LateTold (refusal number second) = 15 ≤ number

pub starts-late : (rec pat starts : List ℕ) (to : ℕ) (options : Options) (words room : ℕ) (day : Day) (p : Pattern) → read_record rec ≡ passed day → read_pattern none_given pat ≡ passed p
    → LateTold (told (starts_of rec pat starts to options words room))
unfolding starts_of
starts-late rec pat starts to options words room day p r s =
    go (ask_starts rec pat starts to options words) (subst Late (sym (starts-asked rec pat starts to options words)) (asked-late rec pat (highest_of starts to) to options words day p r s))
  where
    go : (o : Outcome Asked) → Late o → LateTold (told (searched o starts to room))
    go (refused number) late = late
    go (passed q) late = fits (leb (length starts) room)
      where
        fits : (t : Bool) → LateTold (told (cond t (lengths (lengths_of q starts to)) (too_short (length starts))))
        fits true = tt
        fits false = omega arith
