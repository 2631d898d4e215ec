-- Demands 2 and 3 of the numbers for C, Rust and Python: `check-number`, `find-number` and `starts-number` read them off the demands of the replies.
-- A refusal of a record and a pattern that are read has a number from 15 on, so it is none of the numbers that speak of chains. Assumes nothing.
use mathlib.Core.Path.{◌≡◌, sym, ap, subst}
use mathlib.Core.Bool.{Bool, true, false}
use mathlib.Core.List.{List}
use Prim.Native.Nat.{ℕ, ◌<◌}
use native.Mathlib.Omega.{arith}
use lib.ListN.{length, get_or}
use Rattle.meaning.specs.Outcome.{Outcome, refused, passed, Reply, told}
use Rattle.meaning.specs.Record.{Day, read_record}
use Rattle.meaning.specs.Windows.{Options}
use Rattle.meaning.specs.Request.{Asked}
use Rattle.meaning.specs.Pattern.{Pattern, read_pattern, none_given}
use Rattle.request.specs.Told.{Late}
use Rattle.checker.specs.Promise.{check_of, Says, Demand2}
use Rattle.checker.specs.Demand.{check-late}
use Rattle.finder.specs.Promise.{find_of, Said, found, none_found, refusal, said, Answers, Demand3}
use Rattle.finder.specs.Demand.{Bounds}
use Rattle.finder.proofs.Demand.{find-bounds, LateSaid, find-late}
use Rattle.starts.specs.Promise as OfStarts
use Rattle.starts.specs.Promise.{LengthSays, Shortest}
use Rattle.starts.proofs.Demand.{LateTold, starts-late}
use Rattle.meaning.specs.Outcome as Told
use Rattle.exports.specs.Fits.{SaidFits}
use Rattle.exports.specs.Promise.{check_number, YesNo, Membership, find_number, LengthOrNone, FirstShortest, counted, starts_number, EachShortest}

-- ---- demand 2

module _ (rec pat : List ℕ) (a b : ℕ) (c : List ℕ) (options : Options) (words : ℕ) where
  abbrev checked : Outcome Bool
  checked = check_of rec pat a b c options words

  told-yes-no : Demand2 rec pat a b c options (told checked) → Membership rec pat a b c options (check_number (told checked))
  told-yes-no demand day p r s = go checked (demand day p r s) (check-late rec pat a b c options words day p r s)
    where
      go : (o : Outcome Bool) → Says (record { day = day; pattern = p; options = options }) a b c (told o) → Late o → YesNo (record { day = day; pattern = p; options = options }) a b c (check_number (told o))
      go (passed true) says late = (λ e. says, λ e. absurd (omega (arith, e)))
      go (passed false) says late = (λ e. absurd (omega (arith, e)), λ e. says)
      go (refused number) says late = (λ e. absurd (omega (arith, e, late)), λ e. absurd (omega (arith, e, late)))

  -- the number of a reply that meets demand 2
  pub check-number : (s : Reply Bool) → s ≡ told checked → Demand2 rec pat a b c options s → (r : ℕ) → r ≡ check_number (told checked) → Membership rec pat a b c options r
  check-number s e demand r n = subst (Membership rec pat a b c options) (sym n) (told-yes-no (subst (Demand2 rec pat a b c options) e demand))

-- ---- demand 3

-- small lengths fit 32 bits
pub bounds-fit : (room : ℕ) (t : Said) → Bounds room t → SaidFits t
bounds-fit room none_found small = tt
bounds-fit room (found n) small = tt
bounds-fit room (refusal number n) small = omega (arith, small)

-- lengths that leave room for the number of none
abbrev pub Low : Said → Type 0
Low (found n) = n < 4294967295
Low none_found = Unit {0}
Low (refusal number n) = n < 4294967295

-- the number of a reply that says what it is to say
length-or-none : (q : Asked) (a b room : ℕ) (out : List ℕ) (t : Said) → Low t → LateSaid t → Answers q a b room t out → LengthOrNone q a b room (find_number t) out
length-or-none q a b room out none_found small late says = (λ e. says, λ l. absurd (omega (arith, l)), λ e. absurd (omega (arith, e)))
length-or-none q a b room out (found n) small late says = (λ e. absurd (omega (arith, e, small)), λ l. says, λ e. absurd (omega (arith, e, small)))
length-or-none q a b room out (refusal number n) small late says = (
  λ e. absurd (omega (arith, e, late)),
  λ l. absurd (omega (arith, l, late)),
  λ e. let (c, first, long, less) = says (omega (arith, e, small)) in (c, first, omega (arith, long, small), omega (arith, long, less)),
)

-- for every record and pattern that the bytes read as
pub first-shortest : (rec pat : List ℕ) (a b : ℕ) (options : Options) (room : ℕ) (out : List ℕ) (t : Said) → Low t → ((day : Day) (p : Pattern) → read_record rec ≡ passed day → read_pattern none_given pat ≡ passed p → LateSaid t)
    → Demand3 rec pat a b options room t out → FirstShortest rec pat a b options room (find_number t) out
unfolding FirstShortest
first-shortest rec pat a b options room out t small late demand day p r s = length-or-none (record { day = day; pattern = p; options = options }) a b room out t small (late day p r s) (demand day p r s)

module _ (rec pat : List ℕ) (a b : ℕ) (options : Options) (words room : ℕ) (out : List ℕ) (low : (i : ℕ) → get_or rec i 0 < 256) where
  abbrev answered : Said
  answered = said (find_of rec pat a b options words room)

  said-first : Demand3 rec pat a b options room answered out → FirstShortest rec pat a b options room (find_number answered) out
  said-first demand = first-shortest rec pat a b options room out answered (low-bounds answered (find-bounds rec pat a b options words room low)) (find-late rec pat a b options words room) demand
    where
      low-bounds : (t : Said) → Bounds room t → Low t
      low-bounds none_found small = tt
      low-bounds (found n) small = omega (arith, small)
      low-bounds (refusal number n) small = omega (arith, small)

  -- the number of a reply that meets demand 3
  pub find-number : (s : Said) → s ≡ answered → Demand3 rec pat a b options room s out → (r : ℕ) → r ≡ find_number answered → FirstShortest rec pat a b options room r out
  find-number s e demand r n = subst (λ k. FirstShortest rec pat a b options room k out) (sym n) (said-first (subst (λ x. Demand3 rec pat a b options room x out) e demand))

-- ---- demand 3 of all starts

module _ (rec pat starts : List ℕ) (to : ℕ) (options : Options) (words room : ℕ) (after : List ℕ) where
  abbrev all_told : Reply ℕ
  all_told = OfStarts.told (OfStarts.starts_of rec pat starts to options words room)

  told-each : Shortest rec pat starts to options all_told after → EachShortest rec pat starts to options (starts_number all_told) after
  unfolding EachShortest
  told-each shortest day p r s = go all_told (starts-late rec pat starts to options words room day p r s) shortest
    where
      go : (t : Reply ℕ) → LateTold t → Shortest rec pat starts to options t after → starts_number t < 4294967296
          → (starts_number t ≡ counted (length starts)) × ((i : ℕ) → i < length starts → LengthSays (record { day = day; pattern = p; options = options }) (get_or starts i 0) to (get_or after i 0))
      go (Told.value n) late says less = (ap counted says.0, says.1 day p r s)
      go (Told.refusal number second) late says less = absurd (omega (arith, late, less))

  -- the number of a reply that meets it
  pub starts-number : (t : Reply ℕ) → t ≡ all_told → Shortest rec pat starts to options t after → (n : ℕ) → n ≡ starts_number all_told → EachShortest rec pat starts to options n after
  starts-number t e shortest n is = subst (λ k. EachShortest rec pat starts to options k after) (sym is) (told-each (subst (λ x. Shortest rec pat starts to options x after) e shortest))
