-- The definition that the finder's promise cites, `find_of`, meets demand 3.
-- Claimed: `finds`; for callers `find-bounds` (lengths fit and are small) and `find-late` (where the bytes are read, refusals are 15 and later).
use Rattle.std.specs.Prelude.{◌≡◌, refl, Bool, true, false, cond, ◌&&◌, List, ◌++◌, ℕ, ◌<◌, ◌≤◌, ltb, leb, length, take, drop, get_or}
use Rattle.std.proofs.Common.{sym, ap, subst, lt_of_lt_of_le, arith, ltb-true, leb-true, leb-false}
use Rattle.std.proofs.Math.Option.{Option, none, some}
use Rattle.std.proofs.Math.Seq.{take-append_seam}
use Rattle.meaning.specs.Outcome.{Outcome, refused, passed, ask}
use Rattle.meaning.specs.Record.{Day, read_record}
use Rattle.meaning.specs.Pattern.{Pattern, read_pattern, none_given}
use Rattle.meaning.specs.Windows.{Options, windows_allowed}
use Rattle.meaning.specs.Chain.{First}
use Rattle.meaning.specs.Request.{Asked, size_of, need, ask_request}
use Rattle.record.specs.Outcomes.{and-true}
use Rattle.record.specs.Fit.{record-fits}
use Rattle.pattern.specs.Kinds.{Kinds, read-kinds}
use Rattle.request.specs.Told.{Parts, asked-parts, asked_of, Late, asked-late}
use Rattle.search.proofs.Answer.{LinesWithin}
use Rattle.search.specs.Asked.{answer}
use Rattle.search.proofs.Asked.{answer-none, answer-some}
use Rattle.finder.specs.Promise.{chain, too_long, settled, searched, find_of, Said, found, none_found, refusal, said, out_after, Answers, Demand3}
use Rattle.finder.specs.Demand.{Bounds}

-- ---- the definition meets it

module _ (q : Asked) (kinds : Kinds q.pattern) (a b : ℕ) (within : LinesWithin q.day.lines q.day.places) (ha : a < q.day.places) (hb : b < q.day.places) (room : ℕ) (out : List ℕ) where
  -- a chain that fits is read off the output's front
  written : (c : List ℕ) → take (length c) (c ++ drop (length c) out) ≡ c
  written c = take-append_seam c (drop (length c) out)

  pub settled-right : Answers q a b room (said (settled room (answer q a b))) (out_after (settled room (answer q a b)) out)
  settled-right = go (answer q a b) refl
    where
      go : (o : Option (List ℕ)) → answer q a b ≡ o → Answers q a b room (said (settled room o)) (out_after (settled room o) out)
      go none e = (answer-none q kinds within a b ha hb).0 e
      go (some c) e = fits (leb (length c) room) refl
        where
          first : First q a b c
          first = (answer-some q kinds within a b ha hb c e).0

          fits : (t : Bool) → leb (length c) room ≡ t → Answers q a b room (said (cond t (chain c) (too_long (length c)))) (out_after (cond t (chain c) (too_long (length c))) out)
          fits true h = (leb-true _ _ h, ap length (written c), subst (First q a b) (sym (written c)) first)
          fits false h = λ n. (c, first, refl, leb-false _ _ h)

pub finds : (rec pat : List ℕ) (from to : ℕ) (options : Options) (words room : ℕ) (out : List ℕ) → ((i : ℕ) → get_or rec i 0 < 256)
    → Demand3 rec pat from to options room (said (find_of rec pat from to options words room)) (out_after (find_of rec pat from to options words room) out)
unfolding find_of
finds rec pat from to options words room out low day p r s =
    rw (asked_of rec pat from to options words day p r s)
    (go (ltb from day.places && ltb to day.places) refl (windows_allowed options.windows) (leb (size_of q) 1048576) (leb (need (size_of q)) words))
  where
    q : Asked
    q = record { day = day; pattern = p; options = options }

    never : {A : Type 0} (m n : ℕ) → (m ≡ n → ⊥) → m ≡ n → A
    never m n less e = absurd (less e)

    go : (t : Bool) → (ltb from day.places && ltb to day.places) ≡ t → (u v x : Bool)
        → let f = searched (ask t 15 (ask u 27 (ask v 16 (ask x 17 (passed (record { day = day; pattern = p; options = options })))))) from to room in
        Answers (record { day = day; pattern = p; options = options }) from to room (said f) (out_after f out)
    go true e true true true =
        let (f, g) = and-true (ltb from day.places) (ltb to day.places) e in
        settled-right (record { day = day; pattern = p; options = options }) (read-kinds none_given pat p s) from to (record-fits rec day r low).within (ltb-true _ _ f) (ltb-true _ _ g) room out
    go true e true true false = never 17 19 (λ h. omega (arith, h))
    go true e true false x = never 16 19 (λ h. omega (arith, h))
    go true e false v x = never 27 19 (λ h. omega (arith, h))
    go false e u v x = never 15 19 (λ h. omega (arith, h))

-- ---- lengths are small: they fit the output where a chain is found, and are always below the largest search size

pub find-bounds : (rec pat : List ℕ) (from to : ℕ) (options : Options) (words room : ℕ) → ((i : ℕ) → get_or rec i 0 < 256) → Bounds room (said (find_of rec pat from to options words room))
unfolding find_of
find-bounds rec pat from to options words room low = go (ask_request rec pat from to options words) refl
  where
    short : (q : Asked) → Parts rec pat from to options q → (c : List ℕ) → answer q from to ≡ some c → length c < 1048576
    short q x c e =
        let less = (answer-some q (read-kinds none_given pat q.pattern x.pattern-read) (record-fits rec q.day x.day-read low).within from to x.from_low x.to_low c e).1 in
        lt_of_lt_of_le less x.small

    settled-bounds : (o : Option (List ℕ)) → ((c : List ℕ) → o ≡ some c → length c < 1048576) → Bounds room (said (settled room o))
    settled-bounds none h = tt
    settled-bounds (some c) h = fits (leb (length c) room) refl
      where
        fits : (t : Bool) → leb (length c) room ≡ t → Bounds room (said (cond t (chain c) (too_long (length c))))
        fits true e = (leb-true _ _ e, h c refl)
        fits false e = h c refl

    go : (o : Outcome Asked) → ask_request rec pat from to options words ≡ o → Bounds room (said (searched o from to room))
    go (refused number) e = omega arith
    go (passed q) e = settled-bounds (answer q from to) (short q (asked-parts rec pat from to options words q e))

-- ---- where the bytes are read as a record and a pattern, a refusal has a number from 15 on

abbrev pub LateSaid : Said → Type 0
LateSaid (found n) = Unit {0}
LateSaid none_found = Unit {0}
LateSaid (refusal number n) = 15 ≤ number

pub settled-late : (room : ℕ) (o : Option (List ℕ)) → LateSaid (said (settled room o))
settled-late room none = tt
settled-late room (some c) = fits (leb (length c) room)
  where
    fits : (t : Bool) → LateSaid (said (cond t (chain c) (too_long (length c))))
    fits true = tt
    fits false = omega arith

pub find-late : (rec pat : List ℕ) (from to : ℕ) (options : Options) (words room : ℕ) (day : Day) (p : Pattern) → read_record rec ≡ passed day → read_pattern none_given pat ≡ passed p → LateSaid (said (find_of rec pat from to options words room))
unfolding find_of
find-late rec pat from to options words room day p r s = go (ask_request rec pat from to options words) (asked-late rec pat from to options words day p r s)
  where
    go : (o : Outcome Asked) → Late o → LateSaid (said (searched o from to room))
    go (refused number) late = late
    go (passed q) late = settled-late room (answer q from to)
