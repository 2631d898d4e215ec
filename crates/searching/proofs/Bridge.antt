-- From an area that a begin and its moves left to the search that is taken out of it. Claimed: what is under way in the area is the request's own
-- search (`left-underway`), what is done by the loaded words is what the request's search does (`left-taken`), and the area passes every check (`left-sound`).
-- Of any search that is sound, as stepping asks it: `sound-standing` and `sound-fit`. Assumes nothing.
use mathlib.Core.Path.{◌≡◌, refl, sym, ap, ◌∙◌, subst}
use mathlib.Core.Bool.{Bool, true, false, false≢true}
use mathlib.Core.List.{List, [], ◌∷◌, ◌++◌, map}
use Prim.Native.Nat.{ℕ, zero, suc, ◌+◌, ◌*◌, ◌^◌, ◌≤◌, ◌<◌}
use native.Mathlib.Omega.{arith}
use lib.Dec.{eqb}
use lib.ListN.{length, get_or, take, drop, length-append, length-map, length-drop}
use lib.Seq.{take_all, take-length, length-take-le}
use borrow.Author.Tests.{eqb-true, eqb-false}
use Rattle.meaning.specs.Record.{Line, boats}
use Rattle.meaning.specs.Pattern.{Pattern, unfolded, keeps}
use Rattle.meaning.specs.Windows.{Options}
use Rattle.meaning.specs.Request.{Asked, search_size, size_of, search_need}
use Rattle.record.specs.Outcomes.{passed-inj}
use Rattle.record.specs.Whole.{places-few, lines-few}
use Rattle.record.specs.Fit.{Fit as RecordFit, record-fits}
use Rattle.boats.proofs.Boats.{boats-few}
use Rattle.boats.specs.Codes.{codes}
use Rattle.boats.proofs.Codes.{codes-length}
use Rattle.pattern.proofs.Bound.{pattern-small}
use Rattle.pattern.proofs.Short.{read-few}
use Rattle.automaton.specs.Automaton.{start}
use Rattle.positions.specs.Program.{bit_of, members, Compiled}
use Rattle.positions.specs.Masks.{members-bit}
use Rattle.compiler.specs.Compiling.{CompiledFrom, SmallUpTo}
use Rattle.graph.specs.Plain.{memb, filt, count}
use Rattle.graph.proofs.Sets.{memb-in, in-memb, memb-same, count-in}
use Rattle.graph.specs.Table.{Search}
use Rattle.graph.specs.Underway.{Underway, queue_of, taken_by}
use Rattle.graph.proofs.SameSearch.{same_taken}
use Rattle.graph.proofs.Marking.{count_marked, WordsFound}
use Rattle.request.specs.Met.{met-long}
use Rattle.request.specs.Layout.{largest, table_words, boat_words, line_word, boats_loaded, table-long, loaded_of, Planned}
use Rattle.request.specs.Told.{Parts, search-parts}
use Rattle.request.specs.declared.Plan.{Plan}
use Rattle.request.proofs.Sizes.{boats-in-radix}
use Rattle.search.specs.Product.{state, succs}
use Rattle.search.specs.Traced.{trace}
use Rattle.search.proofs.TracedRight.{same-trace}
use Rattle.search.specs.Answer.{setting}
use Rattle.search.proofs.Answer.{LinesWithin}
use Rattle.search.specs.Asked.{met_asked}
use Rattle.search.proofs.Asked.{met-size}
use Rattle.search.specs.Loaded.{setting_at}
use Rattle.search.specs.Front.{state_in}
use Rattle.search.proofs.Front.{state-in}
use Rattle.search.proofs.Same.{Same, filt-same, same-state, same-succs}
use Rattle.search.proofs.ReadBack.{size-asked, loaded-same}
use Rattle.area.specs.Area.{stretch, marked, Good, found}
use Rattle.area.proofs.Stretches.{stretch-take}
use Rattle.states.specs.Spots.{Fit, front}
use Rattle.forward.specs.Firsts.{first_states}
use Rattle.forward.specs.Posed.{Posed}
use Rattle.forward.proofs.Posing.{met-fit, tables-long, posed-tables, line-is, code_below, fit-from}
use Rattle.holding.specs.Holding.{radix_in, places_in, lines_in, asked_in, counters_in, bytes_in, InRange, PlanIs, StateIs, Sound}
use Rattle.holding.specs.Plans.{plan_for, laid_from, size_for, from-numbers}
use Rattle.holding.specs.declared.Counters.{Counters}
use Rattle.holding.specs.declared.SearchState.{SearchState}
use Rattle.holding.proofs.Fitted.{fitting-read, plan-is}
use Rattle.tracing.specs.Tracing.{reached_in}
use Rattle.stepping.specs.Stepping.{underway_in, firsts, taken_by_in, Standing, Searched}
use Rattle.searching.specs.Promise.{firsts_of, search_at, numbers_in, Left}
use Rattle.searching.specs.Words.{base_of, Stretched, held-stretched, number_at, bytes-are}
use Rattle.searching.specs.Theorems.{Proper, at-sized, at-standing, at-good, at-add}

-- ---- any search that is sound

module _ {w pat : List ℕ} {s : SearchState} (sound : Sound w pat s) where
  -- it stands as stepping asks
  pub sound-standing : Standing s w
  sound-standing = record {
    laid = sound.planned.is.laid;
    from_low = omega (arith, sound.state.from_is, sound.range.from_low, sound.planned.is.places-are);
    room = sound.planned.is.room;
    order = sound.state.order;
    fits = sound.state.fits;
    ready = record {
      room = omega (arith, sound.planned.is.laid.room);
      small = omega (arith, sound.planned.is.laid.small);
      fits = sound.state.fits.found-low;
    };
  }

  -- its tables fit a program that is compiled from the pattern's bytes
  pub sound-fit : {program : List ℕ} {begin : ℕ} → CompiledFrom pat program begin → SmallUpTo pat program → Fit s.plan program w
  sound-fit compiled small =
      let p = sound.planned in
      let lines = sound.state.lines in
      fit-from (compiled p.tree p.reads) (small p.tree p.reads) p.is.done-is p.is.keeps-are p.is.laid
      (λ i h. (lines i h).starts) (λ i h. (lines i h).ends) (λ i h. (lines i h).code-low)

-- ---- words

-- the words from b up to c are a stretch
drop-take : (b n c : ℕ) (w : List ℕ) → b + n ≡ c → c ≤ length w → drop b (take c w) ≡ stretch b n w
unfolding stretch
drop-take b n c w e h =
    let part = drop b (take c w) in
    let long : length part ≡ n = length-drop b (take c w) ∙ omega (arith, length-take-le c w h, e) in
    sym (take_all n part (omega (arith, long))) ∙ stretch-take c b n w (omega (arith, e)) h

-- the boats' words, then two for each line
loaded-long : (q : Asked) → let lines = q.day.lines in
    length (loaded_of (keeps q.pattern) lines) ≡ boat_words (keeps q.pattern) (suc (length (boats lines))) + length lines + length lines
loaded-long q =
    let lines = q.day.lines in
    omega (
      arith,
      length-append (boats_loaded (keeps q.pattern) lines) (codes lines ++ map line_word lines),
      length-append (codes lines) (map line_word lines),
      table-long lines (keeps q.pattern),
      codes-length lines,
      length-map lines line_word,
    )

-- area and graph count the words that are not 0 alike
marked-counted : (l : List ℕ) → marked l ≡ count_marked l
unfolding marked count_marked
marked-counted [] = refl
marked-counted (zero ∷ l) = marked-counted l
marked-counted (suc n ∷ l) = ap suc (marked-counted l)

found-good : {N : ℕ} {st : Search} → WordsFound N st → Good N st
found-good {N} {st} f = record {
  sized = f.sized;
  counted = f.counted ∙ sym (marked-counted st.dist);
  within = f.within;
  near = λ i. omega (arith, f.near i, marked-counted st.dist);
}

-- ---- an area that was left

module _ {rec pat : List ℕ} {from to : ℕ} {options : Options} {asked : Asked} {k : ℕ} {w : List ℕ} (left : Left rec pat from to options asked k w) where
  -- the request as the search meets it
  abbrev q : Asked
  q = met_asked asked

  abbrev lines : List Line
  lines = q.day.lines

  abbrev places : ℕ
  places = q.day.places

  abbrev tree : Pattern
  tree = q.pattern

  -- the request's search
  abbrev u : Underway
  u = search_at q from to k

  pub left-parts : Parts rec pat from to options asked
  left-parts = (search-parts rec pat from to options (length w) asked left.begins.asked).0

  -- no line less, and no boat
  as_many : length lines ≡ length asked.day.lines
  as_many = met-long asked.options.windows asked.day.lines

  pub left-need : search_need q ≤ length w
  left-need = omega (arith, (search-parts rec pat from to options (length w) asked left.begins.asked).1, met-size asked, as_many)

  pub left-small : size_of q ≤ largest
  left-small = omega (arith, left-parts.small, met-size asked)

  few-lines : length lines ≤ 4096
  few-lines = omega (arith, as_many, lines-few rec asked.day left-parts.day-read)

  pub left-within : LinesWithin asked.day.lines places
  left-within = (record-fits rec asked.day left-parts.day-read left.begins.rec-bytes).within

  pub left-fit : RecordFit lines places
  left-fit = met-fit asked (record-fits rec asked.day left-parts.day-read left.begins.rec-bytes)

  pub left-short : length pat ≤ 189
  left-short = read-few _ pat tree left-parts.pattern-read

  pub left-proper : Proper q from to
  left-proper = record { within = left-fit.within; from_low = left-parts.from_low; to_low = left-parts.to_low }

  few-boats : length (boats lines) ≤ length lines
  few-boats = omega (arith, boats-few lines (length lines) (omega arith), ap (λ ls. length (boats ls)) (take-length lines))

  -- the four stretches stand in it, and the lines by place after them
  pub left-room : base_of q + 4 * size_of q + table_words places (length lines) ≤ length w
  left-room =
      omega (
        arith,
        loaded-long q,
        boats-in-radix (suc (length (boats lines))) (keeps tree),
        few-boats,
        few-lines,
        (places-few rec asked.day left-parts.day-read).1,
        left-need,
      )

  pub left-stretched : Stretched q pat from u w
  left-stretched = held-stretched q pat from u w (at-sized q from to left-proper k) (omega (arith, left-short)) (omega (arith, left-room)) left.held

  -- the numbers in front
  number : (i : ℕ) → i < 12 → get_or w i 0 ≡ get_or (numbers_in q pat from u) i 0
  number = number_at q pat from u w left-stretched

  -- the first is not 0, and the pattern's bytes are read back
  pub left-some : 0 < get_or w 0 0
  left-some = omega (arith, number 0 (omega arith))

  pub left-bytes : bytes_in w ≡ pat
  left-bytes = bytes-are q pat from u w left-stretched left.begins.pat-bytes (omega (arith, left-short))

  -- ---- by a plan of those numbers

  module _ {plan : Plan} (is : PlanIs w (unfolded tree) (keeps tree) plan) where
    plan-planned : Planned q plan
    plan-planned = record {
      places-are = is.places-are ∙ number 1 (omega arith);
      lines_are = is.lines_are ∙ number 2 (omega arith);
      done-is = is.done-is;
      keeps-are = is.keeps-are;
      radix-is = is.radix-is ∙ number 0 (omega arith);
    }

    plan-size : plan.size ≡ size_of q
    plan-size = size-asked q plan (length w) plan-planned is.laid

    plan-base : plan.base ≡ base_of q
    plan-base = sym (tables-long plan-planned is.laid) ∙ (λ i. is.boats-at i + length (loaded_of (is.keeps-are i) lines))

    plan-posed : Posed q pat plan from to w
    plan-posed =
        let n = length (loaded_of (keeps tree) lines) in
        record {
          reads = left-parts.pattern-read;
          planned = plan-planned;
          laid = is.laid;
          fit = left-fit;
          from_low = left-parts.from_low;
          to_low = left-parts.to_low;
          loaded =
              (λ i. drop (is.boats-at i) (take (plan-base i) w))
              ∙ (drop-take 209 n (base_of q) w refl (omega (arith, left-room)) ∙ (left-stretched.tables ∙ ap (λ j. loaded_of j lines) (sym is.keeps-are)));
        }

    -- the search in the pair
    plan-found : (tail : ℕ) → tail ≡ length (queue_of u) → found plan.base plan.size tail w ≡ u.found.table
    unfolding found
    plan-found tail e =
        let dist = (λ i. stretch (plan-base i) (plan-size i) w) ∙ left-stretched.dist in
        let queue = (λ i. stretch (plan-base i + plan-size i) (e i) w) ∙ left-stretched.queue in
        λ i. record { dist = dist i; queue = queue i }

  -- ---- the search that is taken out of it

  module _ {s : SearchState} (sound : Sound w pat s) where
    -- its pattern is the request's
    own-plan : PlanIs w (unfolded tree) (keeps tree) s.plan
    own-plan =
        let own = sound.planned in
        let same : own.tree ≡ tree = passed-inj (sym own.reads ∙ left-parts.pattern-read) in
        subst (λ (p : Pattern). PlanIs w (unfolded p) (keeps p) s.plan) same own.is

    pub left-from : s.from ≡ from
    left-from = sound.state.from_is ∙ number 3 (omega arith)

    pub left-planned : Planned q s.plan
    left-planned = plan-planned own-plan

    pub left-size : s.plan.size ≡ size_of q
    left-size = plan-size own-plan

    pub left-base : s.plan.base ≡ base_of q
    left-base = plan-base own-plan

    pub left-posed : Posed q pat s.plan from to w
    left-posed = plan-posed own-plan

    pub left-underway : underway_in s w ≡ u
    unfolding underway_in reached_in counters_in
    left-underway =
        let at = sound.state.at-is in
        let tail : s.at.found ≡ length (queue_of u) = ap (λ (c : Counters). c.found) at ∙ number 7 (omega arith) in
        let table = plan-found own-plan s.at.found tail in
        let how = (λ i. stretch (left-base i + 2 * left-size i) (tail i) w) ∙ left-stretched.how in
        let phase = ap (λ (c : Counters). c.phase) at ∙ number 5 (omega arith) in
        let expanded = ap (λ (c : Counters). c.expanded) at ∙ number 6 (omega arith) in
        let far = ap (λ (c : Counters). c.far) at ∙ number 8 (omega arith) in
        let rest = ap (λ (c : Counters). c.rest) at ∙ number 9 (omega arith) in
        let chosen = ap (λ (c : Counters). c.chosen) at ∙ number 10 (omega arith) in
        let noted = ap (λ (c : Counters). c.noted) at ∙ number 11 (omega arith) in
        let marks = (λ i. stretch (left-base i + 3 * left-size i) (left-size i) w) ∙ left-stretched.marks in
        λ i. record {
          found = record { table = table i; how = how i };
          expanded = expanded i;
          phase = phase i;
          far = far i;
          sweep = record { rest = rest i; chosen = chosen i; noted = record { line = noted i; marks = marks i } };
        }

    -- a search stands in the area
    pub left-searched : Searched s w
    unfolding underway_in reached_in
    left-searched =
        subst (λ n. Good n (underway_in s w).found.table) (sym left-size)
        (subst (λ (x : Underway). Good (size_of q) x.found.table) (sym left-underway) (found-good (at-good q from to left-proper k)))

    -- ---- by a program that is compiled from the pattern

    module _ {program : List ℕ} {begin : ℕ} (compiled : Compiled asked.pattern program begin) where
      pub left-same : Same (setting_at program s.plan w) (setting lines tree) (length lines)
      left-same =
          loaded-same q s.plan (length w) left-planned left-posed.laid (front s.plan w) (posed-tables left-posed) left-fit program begin compiled

      -- the mask has the positions where the pattern begins
      begin-bit : (c : ℕ) → c < 64 → eqb (bit_of begin c) 1 ≡ memb c (start tree)
      begin-bit c low = go (eqb (bit_of begin c) 1) (memb c (members begin)) refl refl ∙ memb-same c (members begin) (start tree) (compiled.start_is c)
        where
          go : (a b : Bool) → eqb (bit_of begin c) 1 ≡ a → memb c (members begin) ≡ b → a ≡ b
          go true true e f = refl
          go true false e f = absurd (false≢true (sym f ∙ in-memb c (members begin) ((members-bit begin c).1 (low, eqb-true _ _ e))))
          go false true e f = absurd (eqb-false _ _ e ((members-bit begin c).0 (memb-in c (members begin) f)).1)
          go false false e f = refl

      pub left-firsts : firsts s begin ≡ firsts_of q from to
      unfolding first_states
      left-firsts =
          let plan = s.plan in
          let all : plan.done + 1 ≡ suc (unfolded tree) = omega (arith, left-planned.done-is) in
          let ks = count 0 (suc (unfolded tree)) in
          let low : unfolded tree ≤ 63 = (pattern-small _ pat tree left-parts.pattern-read).few-unfolded in
          let same = filt-same (λ c. eqb (bit_of begin c) 1) (λ c. memb c (start tree)) ks (λ c m. begin-bit c (omega (arith, low, ((count-in 0 (suc (unfolded tree)) c).0 m).1))) in
          let at : (c : ℕ) → state_in plan from c 0 ≡ state (setting lines tree) from c 0 =
          λ c. state-in program plan (length w) left-posed.laid (front plan w) from c 0 ∙ same-state left-same from c 0 in
          (λ i. map (λ c. state_in plan (left-from i) c 0) (filt (λ c. eqb (bit_of begin c) 1) (count 0 (all i)))) ∙ (λ i. map (λ c. at c i) (same i))

      pub left-taken : (j : ℕ) → taken_by_in s program begin w j (underway_in s w) ≡ search_at q from to (k + j)
      left-taken j =
          let S = setting_at program s.plan w in
          let T = setting lines tree in
          let m = length lines in
          (λ i. taken_by (left-firsts i) (left-planned.lines_are i) (trace S) (succs S) j (left-underway i))
          ∙ (same_taken (succs S) (succs T) m (same-succs left-same) (firsts_of q from to) (trace S) (trace T) (same-trace left-same) j u
          ∙ sym (at-add q from to k j))

  -- ---- it passes every check

  left-range : InRange w
  left-range =
      let (some, few) = places-few rec asked.day left-parts.day-read in
      record {
        counts = record {
          some-radix = omega (arith, number 0 (omega arith));
          few-boats = omega (arith, number 0 (omega arith), few-boats, few-lines);
          some-place = omega (arith, number 1 (omega arith), some);
          few-places = omega (arith, number 1 (omega arith), few);
          few-lines = omega (arith, number 2 (omega arith), few-lines);
        };
        from_low = omega (arith, number 3 (omega arith), number 1 (omega arith), left-parts.from_low);
        short = omega (arith, number 4 (omega arith), left-short);
      }

  -- the plan by the numbers in front
  abbrev plan : Plan
  plan = plan_for w (unfolded tree) (keeps tree)

  plan-size-for : size_for w (unfolded tree) (keeps tree) ≡ size_of q
  unfolding search_size
  plan-size-for = λ i. number 1 (omega arith) i * suc (unfolded tree) * number 0 (omega arith) i ^ keeps tree

  left-plan : PlanIs w (unfolded tree) (keeps tree) plan
  left-plan =
      let small = pattern-small _ pat tree left-parts.pattern-read in
      let size = size_for w (unfolded tree) (keeps tree) in
      let few : size ≤ 1048576 = omega (arith, plan-size-for, left-small) in
      let boat-words : boat_words (keeps tree) (radix_in w) ≡ boat_words (keeps tree) (suc (length (boats lines))) = ap (boat_words (keeps tree)) (number 0 (omega arith)) in
      let room : 209 + boat_words (keeps tree) (radix_in w) + lines_in w + lines_in w + 4 * size + (places_in w + 1 + lines_in w) ≤ length w =
      omega (arith, left-room, loaded-long q, boat-words, plan-size-for, number 1 (omega arith), number 2 (omega arith)) in
      let fits = fitting-read w (unfolded tree) (keeps tree) left-range small.few-unfolded small.shallow size refl few room (places_in w) (lines_in w) (radix_in w) refl refl refl in
      let n = from-numbers (places_in w) (lines_in w) (unfolded tree) (keeps tree) (radix_in w) size 209 (length w) in
      plan-is w (unfolded tree) (keeps tree) left-range small.few-unfolded small.shallow size refl few room plan
      (laid_from (places_in w) (lines_in w) (unfolded tree) (keeps tree) (radix_in w) size 209 (length w) fits)
      (n.0, n.1, n.2, n.3, n.4, n.6)

  abbrev held : SearchState
  held = record { plan = plan; from = asked_in w; at = counters_in w }

  left-state : StateIs plan w held
  unfolding counters_in
  left-state =
      let s = at-standing q from to left-proper k in
      let m : plan.lines ≡ length lines = (plan-planned left-plan).lines_are in
      let posed = plan-posed left-plan in
      record {
        plan-is = refl;
        from_is = refl;
        at-is = refl;
        order = record {
          expanded-low = omega (arith, number 6 (omega arith), number 7 (omega arith), s.within);
          rest-low = omega (arith, number 9 (omega arith), number 7 (omega arith), s.rest-low);
          phases = omega (arith, number 5 (omega arith), s.phases);
        };
        fits = record {
          found-low = omega (arith, number 7 (omega arith), plan-size left-plan, s.room);
          chosen-low = omega (arith, number 10 (omega arith), m, s.chosen-low);
          noted-low = omega (arith, number 11 (omega arith), m, s.line_low);
        };
        lines = λ i h. record { starts = (line-is posed i h).0; ends = (line-is posed i h).1; code-low = code_below posed i h };
      }

  pub left-sound : (s : SearchState) × Sound w pat s
  left-sound = (held, record { range = left-range; planned = record { tree = tree; reads = left-parts.pattern-read; is = left-plan }; state = left-state })
