-- Demand 2 of the checker's definition: `check-demand`, for every request, since a chain is checked exactly where all questions are passed.
-- For callers `check-late`: where the bytes are read as a record and a pattern, refusals are 15 and later. Where no windows are given, what is
-- accepted is what it is without them: `whole-day-accepted`.
use Rattle.std.specs.Prelude.{◌≡◌, refl, Bool, true, false, List, ◌↔◌, ℕ, ◌<◌, get_or}
use Rattle.std.proofs.Common.{sym, ◌∙◌, arith}
use Rattle.std.proofs.Math.Path.{subst}
use Rattle.std.proofs.lemmas.Bool.{false≢true}
use Rattle.meaning.specs.Outcome.{Outcome, refused, passed, ask, and_then, told}
use Rattle.meaning.specs.Record.{Day, read_record}
use Rattle.meaning.specs.Pattern.{Pattern, read_pattern, none_given}
use Rattle.meaning.specs.Windows.{Options, plain}
use Rattle.meaning.specs.Request.{Asked, ask_request}
use Rattle.meaning.specs.Chain.{Matches, Accepted}
use Rattle.record.specs.Outcomes.{passed-inj}
use Rattle.record.specs.Whole.{line-passes}
use Rattle.record.specs.Fit.{record-fits}
use Rattle.pattern.specs.Kinds.{read-kinds}
use Rattle.pattern.proofs.Masked.{whole-day-accepts}
use Rattle.request.specs.Told.{Parts, asked-parts, Late, asked-late}
use Rattle.search.specs.Asked.{check}
use Rattle.search.proofs.Asked.{check-says}
use Rattle.checker.specs.Promise.{lines_exist, check_of, Says, Demand2}

-- ---- demand 2, for bytes below 256

module _ (rec pat : List ℕ) (from to : ℕ) (chain : List ℕ) (options : Options) (low : (i : ℕ) → get_or rec i 0 < 256) where
  -- a yes or no by what is checked
  says-what : (q : Asked) → Parts rec pat from to options q → (b : Bool) → check q from to chain ≡ b → Says q from to chain (told (passed b))
  says-what q x true h = (check-says q (read-kinds none_given pat q.pattern x.pattern-read) (record-fits rec q.day x.day-read low).within from to x.from_low chain).0 h
  says-what q x false h = λ k.
      false≢true (sym h ∙ (check-says q (read-kinds none_given pat q.pattern x.pattern-read) (record-fits rec q.day x.day-read low).within from to x.from_low chain).1 k)

  -- a refusal says nothing of the chain
  says-asked : (q : Asked) (t : Bool) (number : ℕ) (o : Outcome Bool) → Says q from to chain (told o) → Says q from to chain (told (ask t number o))
  says-asked q true number o h = h
  says-asked q false number o h = tt

  says-passed : (r : Asked) (f : Asked → Outcome Bool) (o : Outcome Asked) → ((q : Asked) → o ≡ passed q → Says r from to chain (told (f q))) → Says r from to chain (told (and_then o f))
  says-passed r f (refused number) h = tt
  says-passed r f (passed q) h = h q refl

  pub check-demand : (words : ℕ) → Demand2 rec pat from to chain options (told (check_of rec pat from to chain options words))
  unfolding check_of
  check-demand words day p e f =
      let r : Asked = record { day = day; pattern = p; options = options } in
      says-passed r (λ q. ask (lines_exist q chain) 18 (passed (check q from to chain))) (ask_request rec pat from to options words) (λ q h.
      let x = asked-parts rec pat from to options words q h in
      let d : q.day ≡ day = passed-inj (sym x.day-read ∙ e) in
      let t : q.pattern ≡ p = passed-inj (sym x.pattern-read ∙ f) in
      let same : q ≡ r = λ i. record { day = d i; pattern = t i; options = x.options-are i } in
      subst (λ (z : Asked). Says z from to chain (told (ask (lines_exist q chain) 18 (passed (check q from to chain))))) same
      (says-asked q (lines_exist q chain) 18 (passed (check q from to chain)) (says-what q x (check q from to chain) refl)))

-- ---- where the bytes are read as a record and a pattern, a refusal has a number from 15 on

pub check-late : (rec pat : List ℕ) (from to : ℕ) (chain : List ℕ) (options : Options) (words : ℕ) (day : Day) (p : Pattern) → read_record rec ≡ passed day → read_pattern none_given pat ≡ passed p
    → Late (check_of rec pat from to chain options words)
unfolding check_of
check-late rec pat from to chain options words day p r s = go (ask_request rec pat from to options words) (asked-late rec pat from to options words day p r s)
  where
    existing : (t b : Bool) → Late (ask t 18 (passed b))
    existing true b = tt
    existing false b = omega arith

    go : (o : Outcome Asked) → Late o → Late (and_then o (λ q. ask (lines_exist q chain) 18 (passed (check q from to chain))))
    go (refused number) late = late
    go (passed q) late = existing (lines_exist q chain) (check q from to chain)

-- ---- the whole day, for every record that passes its questions

pub whole-day-accepted : (rec : List ℕ) (day : Day) (p : Pattern) → read_record rec ≡ passed day → (a b : ℕ) (c : List ℕ)
    → Accepted (record { day = day; pattern = p; options = plain }) a b c ↔ Matches day.lines p a b c
whole-day-accepted rec day p e = whole-day-accepts day p (λ i less. let (least, most, time) = line-passes rec day e i less in (most, time))
