-- A request posed is one to search by: `posed-loaded` and `posed-from` (the area after loading is posed, with the lines as the search meets them),
-- `posed-fit` (its tables fit), `posed-tables` (they are those of its record), `line-is` and `code_below` (so are its lines and boat numbers).
-- `met-fit`: lines as the search meets them fit where the record's do. `fit-from`: tables fit a compiled program where their lines and boat numbers do, posed or not.
use mathlib.Core.Path.{◌≡◌, sym, ap, ◌∙◌, subst}
use mathlib.Core.List.{List, ◌++◌, map, append_assoc}
use Prim.Native.Nat.{ℕ, ◌+◌, ◌<◌, ◌≤◌}
use native.Mathlib.Omega.{arith}
use lib.ListN.{length, get_or, take, drop, length-append, length-take, length-drop, length-map}
use lib.Seq.{take_at, drop_at, take-take}
use Rattle.meaning.specs.Record.{Line}
use Rattle.meaning.specs.Writing.{line_at}
use Rattle.meaning.specs.Pattern.{Pattern, unfolded, keeps}
use Rattle.meaning.specs.Windows.{Options}
use Rattle.meaning.specs.Request.{Asked, ask_request}
use Rattle.meaning.specs.Chain.{usable, lines_met}
use Rattle.pattern.proofs.Masked.{masked-within}
use Rattle.pattern.proofs.Struck.{masked-length}
use Rattle.record.specs.Fit as Record
use Rattle.record.specs.Fit.{Small, record-fits}
use Rattle.record.specs.Whole.{lines_in, lines_of}
use Rattle.positions.specs.Program.{row_at, Compiled}
use Rattle.compiler.specs.Compiling.{Small as Narrow}
use Rattle.positions.specs.Limits.{compiled-depth}
use Rattle.boats.specs.Codes.{codes}
use Rattle.boats.proofs.Codes.{code-low, codes-length}
use Rattle.request.specs.Layout.{Laid, Planned, boat_words, line_word, met_by, from_in, to_in, line-from, line-to, boats_loaded, table-long, loaded_of}
use Rattle.request.specs.Told.{Parts, Told}
use Rattle.request.specs.declared.Plan.{Plan}
use Rattle.search.specs.Asked.{met_asked}
use Rattle.search.proofs.Asked.{met-planned, met-within, met-boat}
use Rattle.search.specs.Loaded.{code_at, word_at}
use Rattle.search.specs.Front.{tables}
use Rattle.search.proofs.Front.{line-at}
use Rattle.search.proofs.ReadBack.{code-back, line-back}
use Rattle.states.specs.Spots.{front, Fit}
use Rattle.forward.specs.Posed.{Posed}

-- the tables fill the words from `boats` up to `base`
pub tables-long : {q : Asked} {plan : Plan} {area : ℕ} → Planned q plan → Laid plan area → plan.boats + length (loaded_of plan.keeps q.day.lines) ≡ plan.base
tables-long {q} {plan} p l =
    let lines = q.day.lines in
    omega (
      arith,
      length-append (boats_loaded plan.keeps lines) (codes lines ++ map line_word lines),
      length-append (codes lines) (map line_word lines),
      table-long q.day.lines plan.keeps ∙ ap (boat_words plan.keeps) (sym p.radix-is),
      codes-length lines,
      length-map lines line_word,
      p.lines_are,
      l.codes_at,
      l.words-at,
      l.base-at,
    )

-- lines that are met fit where the record's do
pub met-fit : (q : Asked) → Record.Fit q.day.lines q.day.places → Record.Fit (lines_met q) q.day.places
met-fit q fit = record {
  few-places = fit.few-places;
  within = met-within q fit.within;
  kind = λ i less. let there = low i less in omega (arith, (masked-within (usable q) 0 q.day.lines i there).2, fit.kind i there);
  boat = λ i less. let there = low i less in subst Small (sym (met-boat q i there)) (fit.boat i there);
}
  where
    low : (i : ℕ) → i < length (lines_met q) → i < length q.day.lines
    low i less = omega (arith, less, masked-length (usable q) 0 q.day.lines)

-- the area after loading, by a plan that fits it, is posed with the lines that are met; `old` is what it was before
pub posed-loaded : {rec pat : List ℕ} {from to : ℕ} {options : Options} {q : Asked} {plan : Plan} (old : List ℕ) → Planned q plan → Laid plan (length old) → Parts rec pat from to options q
    → ((i : ℕ) → get_or rec i 0 < 256) → (w : List ℕ) → w ≡ take plan.boats old ++ (loaded_of plan.keeps (met_by options.windows (lines_of rec)) ++ drop plan.base old)
    → Posed (met_asked q) pat plan from to w
posed-loaded {rec} {options = options} {q = q} {plan = plan} old planned laid p low w is =
    let g = loaded_of plan.keeps (lines_met q) in
    let before = take plan.boats old in
    let after = drop plan.base old in
    let lines : met_by options.windows (lines_of rec) ≡ lines_met q = λ t. met_by (sym p.options-are t).windows (lines_in (p.day-read t)) in
    let made : w ≡ before ++ (g ++ after) = is ∙ ap (λ ls. before ++ (loaded_of plan.keeps ls ++ after)) lines in
    let whole : plan.boats + length g ≡ plan.base = tables-long (met-planned q planned) laid in
    let short : length before ≡ plan.boats = omega (arith, length-take plan.boats old, laid.codes_at, laid.words-at, laid.base-at, laid.room) in
    let long : length w ≡ length old = omega (arith, ap length made, length-append before (g ++ after), length-append g after, short, whole, length-drop plan.base old, laid.room) in
    record {
      reads = p.pattern-read;
      planned = met-planned q planned;
      laid = subst (Laid plan) (sym long) laid;
      fit = met-fit q (record-fits rec q.day p.day-read low);
      from_low = p.from_low;
      to_low = p.to_low;
      loaded =
          ap (λ l. drop plan.boats (take plan.base l)) (made ∙ sym (append_assoc before g after))
          ∙ (ap (drop plan.boats) (take_at (before ++ g) after plan.base (omega (arith, length-append before g, short, whole))) ∙ drop_at before g plan.boats short);
    }

-- and by the plan of a request that passed
pub posed-from : {rec pat : List ℕ} {from to : ℕ} {options : Options} {plan : Plan} (old : List ℕ) (t : Told (ask_request rec pat from to options (length old)) (length old) plan) → Parts rec pat from to options t.asked
    → ((i : ℕ) → get_or rec i 0 < 256) → (w : List ℕ) → w ≡ take plan.boats old ++ (loaded_of plan.keeps (met_by options.windows (lines_of rec)) ++ drop plan.base old)
    → Posed (met_asked t.asked) pat plan from to w
posed-from old t = posed-loaded old t.planned t.laid

-- the tables fit where lines and boat numbers do: no stack of the pattern is deeper than its keeps
pub fit-from : {tree : Pattern} {program : List ℕ} {begin : ℕ} → Compiled tree program begin → ((k : ℕ) → k ≤ unfolded tree → Narrow (row_at program k))
    → {plan : Plan} {w : List ℕ} → plan.done ≡ unfolded tree → plan.keeps ≡ keeps tree → Laid plan (length w)
    → ((i : ℕ) → i < plan.lines → from_in (word_at plan (front plan w) i) < plan.places)
    → ((i : ℕ) → i < plan.lines → to_in (word_at plan (front plan w) i) < plan.places)
    → ((i : ℕ) → i < plan.lines → code_at plan (front plan w) i < plan.radix)
    → Fit plan program w
fit-from {tree} compiled small {plan} done-is keeps-are laid starts ends codes-low =
    let low : (c : ℕ) → c ≤ plan.done → c ≤ unfolded tree = λ c h. omega (arith, done-is) in
    record {
      laid = laid;
      starts = starts;
      ends = ends;
      codes-low = codes-low;
      levels-low = λ c h. omega (arith, keeps-are, (small c (low c h)).level, (compiled-depth compiled c (low c h)).0);
      depths-low = λ c h. omega (arith, keeps-are, (compiled-depth compiled c (low c h)).0);
      leaves-low = λ c h. omega (arith, keeps-are, (compiled-depth compiled c (low c h)).1);
    }

module _ {q : Asked} {pat : List ℕ} {plan : Plan} {from to : ℕ} {w : List ℕ} (posed : Posed q pat plan from to w) where
  abbrev lines : List Line
  lines = q.day.lines

  abbrev tree : Pattern
  tree = q.pattern

  pub posed-tables : tables plan (front plan w) ≡ loaded_of plan.keeps lines
  posed-tables = ap (drop plan.boats) (take-take plan.base plan.base w (omega arith)) ∙ posed.loaded

  -- the tables' lines are the request's
  pub line-is : (i : ℕ) → i < plan.lines → (from_in (word_at plan (front plan w) i) < plan.places) × (to_in (word_at plan (front plan w) i) < plan.places)
  line-is i h =
      let li : i < length lines = omega (arith, posed.planned.lines_are) in
      let (a, b) = posed.fit.within i li in
      let kind = posed.fit.kind i li in
      let few = posed.fit.few-places in
      let l = line_at lines i in
      let word = sym (line-at plan (front plan w) i h) ∙ line-back q plan (length w) posed.planned posed.laid (front plan w) posed-tables i li in
      let starts : from_in (word_at plan (front plan w) i) ≡ l.from = ap (λ (x : Line). x.from) word ∙ line-from l (omega (arith, a, few)) (omega (arith, b, few)) kind in
      let ends : to_in (word_at plan (front plan w) i) ≡ l.to = ap (λ (x : Line). x.to) word ∙ line-to l (omega (arith, a, few)) (omega (arith, b, few)) kind in
      (omega (arith, starts, a, posed.planned.places-are), omega (arith, ends, b, posed.planned.places-are))

  -- and so are its boats' numbers
  pub code_below : (i : ℕ) → i < plan.lines → code_at plan (front plan w) i < plan.radix
  code_below i h =
      let li : i < length lines = omega (arith, posed.planned.lines_are) in
      omega (arith, code-back q plan (length w) posed.planned posed.laid (front plan w) posed-tables i li, code-low lines i li, posed.planned.radix-is)

  pub posed-fit : {program : List ℕ} {begin : ℕ} (compiled : Compiled tree program begin) (small : (k : ℕ) → k ≤ unfolded tree → Narrow (row_at program k)) → Fit plan program w
  posed-fit compiled small =
      fit-from compiled small posed.planned.done-is posed.planned.keeps-are posed.laid (λ i h. (line-is i h).0) (λ i h. (line-is i h).1) code_below
