-- A record that passes fits the words that a search loads of it: at most 1,024 places, lines between them, kinds up to 15,
-- and boats of a class of one byte and a sail number of three.
-- Claimed: `record-fits`, for bytes below 256. The search reads its loaded words back by `Fit`.
use Rattle.std.specs.Prelude.{◌≡◌, true, ◌&&◌, List, ℕ, ◌+◌, ◌<◌, ◌≤◌, leb, eqb, length, get_or, take, drop}
use Rattle.std.proofs.Common.{sym, subst, arith, get_or-drop, leb-true, ltb-true}
use Rattle.meaning.specs.Outcome.{passed}
use Rattle.meaning.specs.Record.{Boat, Line, Day, line_of, count_allowed, places_whole, byte, two, read_record}
use Rattle.meaning.specs.Writing.{line_at}
use Rattle.record.specs.Outcomes.{and-true}
use Rattle.record.specs.Walk.{widths}
use Rattle.record.specs.Whole.{whole_of, line-stands, line-passes}

-- ---- what is claimed

-- a boat's class and sail number, in one byte and three
abbrev pub Small : Boat → Type 0
Small b = (b.class < 256) × (b.sail < 16777216)

pub record Fit (lines : List Line) (places : ℕ) : Type 0 where
  pub few-places : places ≤ 1024
  pub within : (i : ℕ) → i < length lines → ((line_at lines i).from < places) × ((line_at lines i).to < places)
  pub kind : (i : ℕ) → i < length lines → (line_at lines i).kind ≤ 15
  pub boat : (i : ℕ) → i < length lines → Small (line_at lines i).boat

-- ---- question 2

few-places : (s : List ℕ) → places_whole s ≡ true → two s 1 ≤ 1024
few-places s h =
    let counted = (and-true (leb 3 (length s) && eqb (byte s 0) 0x01) (count_allowed (two s 1)) h).1 in
    leb-true _ _ (and-true (leb 1 (two s 1)) (leb (two s 1) 1024) counted).1

-- ---- numbers in bytes

small-boat : (s : List ℕ) → ((i : ℕ) → get_or s i 0 < 256) → Small (line_of s).boat
small-boat s low = (low 4, omega (arith, low 5, low 6, low 7))

-- ---- of a record that passes

module _ (s : List ℕ) (day : Day) (h : read_record s ≡ passed day) (low : (i : ℕ) → get_or s i 0 < 256) where
  low-after : (n i : ℕ) → get_or (drop n s) i 0 < 256
  low-after n i = subst (◌< 256) (sym (get_or-drop n s i 0)) (low (n + i))

  pub record-fits : Fit day.lines day.places
  record-fits = record {
    few-places = let w = whole_of s day h in omega (arith, w.count, few-places s w.head);
    within = λ i less. let (a, b) = and-true _ _ (line-stands s day h i less).below in (ltb-true _ _ a, ltb-true _ _ b);
    kind = λ i less. (line-passes s day h i less).1;
    boat = λ i less. let at = 3 + widths (take i day.lines) in subst (λ (l : Line). Small l.boat) (sym (line-stands s day h i less).is) (small-boat (drop at s) (low-after at));
  }
