-- One turn of the code's walk over a record: what is left to count after an entry, by what the code was told of it.
-- Assumes nothing.
use mathlib.Core.Path.{◌≡◌, refl, sym, ap, ◌∙◌}
use mathlib.Core.Bool.{Bool, true, false}
use mathlib.Core.List.{List, ◌∷◌}
use Prim.Native.Nat.{ℕ, suc, ◌+◌, ◌*◌, ◌-◌, ◌<◌, ◌≤◌}
use native.Mathlib.Nat.{add-zero, zero-add}
use native.Mathlib.Omega.{arith}
use lib.ListN.{length, take, drop, length-drop}
use lib.Seq.{take_all}
use Rattle.std.specs.Prelude.{Some, None, Ok}
use Rattle.meaning.specs.Outcome.{Outcome, refused, passed, ask, and_then}
use Rattle.meaning.specs.Record.{Line, Entry, line, end, two, width, places_whole, entry_at, lines_from}
use Rattle.refusals.specs.Refusal.{number, outcome, mapped}
use Rattle.refusals.specs.declared.Refusal.{Refusal}
use Rattle.record.specs.Outcomes.{passed-inj, not-both}
use Rattle.record.specs.Reading.{entry_width, counts_of}
use Rattle.record.specs.Walk.{line-stands-at, width-least, step-refused, step_end, step_line}

-- how many lines there are, of which `before` stand before these
abbrev pub counted : ℕ → Outcome (List Line) → Outcome ℕ
counted before x = mapped (λ ls. before + length ls) x

more-lines : (k : ℕ) (l : Line) (x : Outcome (List Line)) → counted k (and_then x (λ ls. passed (l ∷ ls))) ≡ counted (k + 1) x
more-lines k l (refused number) = refl
more-lines k l (passed ls) = ap passed (omega arith)

-- where none stand before them
pub counted-all : (x : Outcome (List Line)) → counted 0 x ≡ mapped length x
counted-all (refused number) = refl
counted-all (passed ls) = ap passed (zero-add (length ls))

-- a width that was told is that of a line
some-inj : {a b : ℕ} → Some a ≡ Some b → a ≡ b
some-inj h = cc

module _ (places : ℕ) (s : List ℕ) (k bound : ℕ) where
  -- at a line of so many bytes the walk goes on after them, with one line more
  pub at-line : (n : ℕ) → outcome (Ok (Some n)) ≡ mapped entry_width (entry_at places k s)
      → (10 ≤ n) × (n ≤ length s) × (k < 4096) × (counted k (lines_from (suc bound) places k s) ≡ counted (k + 1) (lines_from bound places (k + 1) (drop n s)))
  at-line n t = go (entry_at places k s) refl t
    where
      go : (o : Outcome Entry) → entry_at places k s ≡ o → outcome (Ok (Some n)) ≡ mapped entry_width o
          → (10 ≤ n) × (n ≤ length s) × (k < 4096) × (counted k (lines_from (suc bound) places k s) ≡ counted (k + 1) (lines_from bound places (k + 1) (drop n s)))
      go (refused number) e h = absurd (not-both (sym h))
      go (passed end) e h = absurd (let z : ◌≡◌ {A = ℕ} 0 1 = let i = passed-inj h in cc in omega arith)
      go (passed (line l)) e h =
          let wide : n ≡ width l = some-inj (passed-inj h) in
          let stands = line-stands-at places k s l e in
          let next : suc k ≡ k + 1 = omega arith in (
            omega (arith, wide, width-least l),
            omega (arith, wide, stands.long),
            stands.few,
            ap (counted k) (step_line bound places k s l e)
                ∙ (more-lines k l (lines_from bound places (suc k) (drop (width l) s))
                ∙ (λ i. counted (k + 1) (lines_from bound places (next i) (drop (sym wide i) s)))),
          )

  -- at the end it stops
  pub at-end : outcome (Ok None) ≡ mapped entry_width (entry_at places k s) → passed k ≡ counted k (lines_from (suc bound) places k s)
  at-end t = go (entry_at places k s) refl t
    where
      go : (o : Outcome Entry) → entry_at places k s ≡ o → outcome (Ok None) ≡ mapped entry_width o → passed k ≡ counted k (lines_from (suc bound) places k s)
      go (refused number) e h = absurd (not-both (sym h))
      go (passed (line l)) e h = absurd (let z : ◌≡◌ {A = ℕ} 0 1 = let i = passed-inj h in cc in omega arith)
      go (passed end) e h = ap passed (sym (add-zero k)) ∙ ap (counted k) (sym (step_end bound places k s e))

  -- and at an entry that is refused it is refused
  pub at-refusal : (r : Refusal) → refused (number r) ≡ mapped entry_width (entry_at places k s) → refused (number r) ≡ counted k (lines_from (suc bound) places k s)
  at-refusal r t = go (entry_at places k s) refl t
    where
      go : (o : Outcome Entry) → entry_at places k s ≡ o → refused (number r) ≡ mapped entry_width o → refused (number r) ≡ counted k (lines_from (suc bound) places k s)
      go (refused q) e h = let same : number r ≡ q = cc in ap refused same ∙ ap (counted k) (sym (step-refused bound places k s q e))
      go (passed x) e h = absurd (not-both h)

-- all of a slice from a place on, as it is lent
pub lent : (day : List ℕ) (at : ℕ) → take (length day - at) (drop at day) ≡ drop at day
lent day at = take_all (length day - at) (drop at day) (omega (arith, length-drop at day))

-- a turn of the loop, `lines` lines having been passed and these bytes of a record of `bound` being left
module _ (bound places : ℕ) (rest : List ℕ) (lines : ℕ) (room : 3 + 10 * lines + length rest ≤ bound) where
  left : bound - lines ≡ suc (bound - (lines + 1))
  left = omega (arith, room)

  pub turn : (n : ℕ) → outcome (Ok (Some n)) ≡ mapped entry_width (entry_at places lines rest)
      → (10 ≤ n) × (n ≤ length rest) × (lines < 4096)
      × (counted (lines + 1) (lines_from (bound - (lines + 1)) places (lines + 1) (take (length rest - n) (drop n rest))) ≡ counted lines (lines_from (bound - lines) places lines rest))
  turn n t =
      let h = at-line places rest lines (bound - (lines + 1)) n t in (
        h.0,
        h.1,
        h.2,
        ap (λ s. counted (lines + 1) (lines_from (bound - (lines + 1)) places (lines + 1) s)) (lent rest n)
            ∙ (sym h.3 ∙ ap (λ b. counted lines (lines_from b places lines rest)) (sym left)),
      )

  pub stop-here : outcome (Ok None) ≡ mapped entry_width (entry_at places lines rest) → passed lines ≡ counted lines (lines_from (bound - lines) places lines rest)
  stop-here t = rw left (at-end places rest lines (bound - (lines + 1)) t)

  pub refused-here : (r : Refusal) → refused (number r) ≡ mapped entry_width (entry_at places lines rest) → refused (number r) ≡ counted lines (lines_from (bound - lines) places lines rest)
  refused-here r t = rw left (at-refusal places rest lines (bound - (lines + 1)) r t)

-- ---- the places command, and the whole record

pub head-wrong : (s : List ℕ) (r : Refusal) → refused (number r) ≡ ask (places_whole s) 2 (passed (two s 1)) → (places_whole s ≡ false) × (number r ≡ 2)
head-wrong s r t = go (places_whole s) t
  where
    go : (b : Bool) → refused (number r) ≡ ask b 2 (passed (two s 1)) → (b ≡ false) × (number r ≡ 2)
    go true h = absurd (not-both h)
    go false h = (refl, cc)

pub head-right : (s : List ℕ) (n : ℕ) → passed n ≡ ask (places_whole s) 2 (passed (two s 1)) → (places_whole s ≡ true) × (n ≡ two s 1)
head-right s n t = go (places_whole s) t
  where
    go : (b : Bool) → passed n ≡ ask b 2 (passed (two s 1)) → (b ≡ true) × (n ≡ two s 1)
    go true h = (refl, passed-inj h)
    go false h = absurd (not-both (sym h))

-- the counts of a record are its places and how many lines there are
pub counted_right : (n places m : ℕ) (x : Outcome (List Line)) → n ≡ places → passed m ≡ mapped length x
    → passed (record { places = n; lines = m }) ≡ mapped counts_of (and_then x (λ ls. passed (record { places = places; lines = ls })))
counted_right n places m (refused q) e h = absurd (not-both (sym h))
counted_right n places m (passed ls) e h = let k = passed-inj h in λ i. passed (record { places = e i; lines = k i })

pub counted_wrong : (places q : ℕ) (x : Outcome (List Line)) → refused q ≡ mapped length x → refused q ≡ mapped counts_of (and_then x (λ ls. passed (record { places = places; lines = ls })))
counted_wrong places q (refused r) h = let same : q ≡ r = cc in ap refused same
counted_wrong places q (passed ls) h = absurd (not-both h)
