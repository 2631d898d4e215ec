-- What is answered to a request (`Asked` in specs/).
-- Claimed, of a request whose lines go between its places and whose pattern has kinds from 1 on: demand 3, `answer-none` (none exactly where no
-- chain of any length is accepted) and `answer-some` (a chain that is given is accepted, comes before every other, and is shorter than the search
-- size), and demand 2, `check-says`. The contracts of the open functions rest on these three. Assumes nothing.
use Rattle.std.specs.Prelude.{◌≡◌, refl, Bool, true, false, cond, List, ◌↔◌, length}
use Rattle.std.proofs.Common.{sym, ◌∙◌, subst, arith}
use Rattle.std.proofs.Math.Path.{ap}
use Rattle.std.proofs.Math.Option.{none, some}
use Prim.Native.Nat.{ℕ, suc, ◌*◌, ◌^◌, ◌<◌, ◌≤◌}
use Rattle.meaning.specs.Record.{Line}
use Rattle.meaning.specs.Writing.{line_at}
use Rattle.meaning.specs.Pattern.{unfolded, keeps}
use Rattle.meaning.specs.Request.{Asked, search_size, size_of}
use Rattle.meaning.specs.Chain.{Matches, Accepted, First, struck, lines_met, usable}
use Rattle.pattern.specs.Kinds.{Kinds}
use Rattle.pattern.proofs.Masked.{masked-within, accepted-met, first_by}
use Rattle.pattern.proofs.Struck.{masked-length}
use Rattle.request.specs.Layout.{Planned}
use Rattle.request.specs.Met.{met-long, met_at, met-boats}
use Rattle.request.specs.declared.Plan.{Plan}
use Rattle.search.proofs.Answer.{LinesWithin, solution-none, solution-some}
use Rattle.search.proofs.Check.{checked-says}
use Rattle.search.specs.Asked.{answer, check, met_asked}

-- ---- its numbers

module _ (q : Asked) where
  pub met-size : size_of (met_asked q) ≡ size_of q
  unfolding search_size
  met-size = ap (λ bs. q.day.places * suc (unfolded q.pattern) * suc (length bs) ^ keeps q.pattern) (met-boats q.options.windows q.day.lines)

  pub met-planned : {plan : Plan} → Planned q plan → Planned (met_asked q) plan
  met-planned p = record {
    places-are = p.places-are;
    lines_are = p.lines_are ∙ sym (met-long q.options.windows q.day.lines);
    done-is = p.done-is;
    keeps-are = p.keeps-are;
    radix-is = p.radix-is ∙ ap (λ bs. suc (length bs)) (sym (met-boats q.options.windows q.day.lines));
  }

  met-lines-within : (i : ℕ) → i < length q.day.lines
      → ((line_at (lines_met q) i).from ≡ (line_at q.day.lines i).from) × ((line_at (lines_met q) i).to ≡ (line_at q.day.lines i).to) × ((line_at (lines_met q) i).kind ≤ (line_at q.day.lines i).kind)
  met-lines-within i less = masked-within (usable q) 0 q.day.lines i less

  -- its lines go between its places
  pub met-within : LinesWithin q.day.lines q.day.places → LinesWithin (lines_met q) q.day.places
  met-within within i less =
      let there : i < length q.day.lines = omega (arith, less, masked-length (usable q) 0 q.day.lines) in
      let (from, to, kind) = met-lines-within i there in
      let (a, b) = within i there in
      (omega (arith, from, a), omega (arith, to, b))

  -- and each has its boat
  pub met-boat : (i : ℕ) → i < length q.day.lines → (line_at (lines_met q) i).boat ≡ (line_at q.day.lines i).boat
  met-boat i less = ap (λ (l : Line). l.boat) (met_at q.options.windows q.day.lines i less) ∙ go (usable q i) (line_at q.day.lines i)
    where
      go : (t : Bool) (l : Line) → (cond t l (struck l)).boat ≡ l.boat
      go true l = refl
      go false l = refl

-- ---- what is answered

module _ (q : Asked) (kinds : Kinds q.pattern) (within : LinesWithin q.day.lines q.day.places) (a b : ℕ) (ha : a < q.day.places) where
  same : (c : List ℕ) → Matches (lines_met q) q.pattern a b c ↔ Accepted q a b c
  same c = accepted-met q kinds a b c

  pub check-says : (c : List ℕ) → (check q a b c ≡ true) ↔ Accepted q a b c
  check-says c =
      let r = checked-says (lines_met q) q.day.places q.pattern (met-within q within) a b ha c in
      (λ e. (same c).0 (r.0 e), λ k. r.1 ((same c).1 k))

  module _ (hb : b < q.day.places) where
    pub answer-none : (answer q a b ≡ none) ↔ ((c : List ℕ) → Accepted q a b c → ⊥)
    answer-none =
        let r = solution-none (lines_met q) q.day.places q.pattern (met-within q within) a b ha hb in
        (λ e c k. r.0 e c ((same c).1 k), λ none-accepted. r.1 (λ c m. none-accepted c ((same c).0 m)))

    pub answer-some : (c : List ℕ) → answer q a b ≡ some c → First q a b c × (length c < size_of q)
    answer-some c e =
        let (first, short) = solution-some (lines_met q) q.day.places q.pattern (met-within q within) a b ha hb c e in
        (first_by (Matches (lines_met q) q.pattern a b) (Accepted q a b) same c first, subst (length c <◌) (met-size q) short)
