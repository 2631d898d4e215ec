-- The laws of the search state by state (crate graph), for the request's own search `search_at`: what document 02 says of moves and of the end.
-- Claimed, of every request whose lines and places are proper: at every count the search stands as it should (`at-standing`, `at-sized`, `at-good`,
-- `at-marks`); its table is the plain search's at that count (`found-at-count`, `count-back`), and how each state was reached is right
-- (`reached-right`, `reached-first`). Amounts add up (`at-add`, `moves-any`); an amount is taken up whole or the search has ended (`takes-amount`,
-- `takes-no-more`, `takes_one`, `begun-none`); 2 · size + 2 moves of at least 1 end it (`moves-end`), and the end is one (`end_stays`, `end_same`).
-- At the end it says what the unbroken search says (`finish-is-find`). Two days with the same places and lines get the same (`same-day`).
use Rattle.std.specs.Prelude.{◌≡◌, refl, Bool, true, false, List, [], ◌∷◌, map, ◌↔◌, ◌⊎◌, ℕ, suc, ◌+◌, ◌*◌, ◌<◌, ◌≤◌, length, get_or}
use Rattle.std.proofs.Common.{sym, ap, ◌∙◌, subst, arith}
use mathlib.Core.List.Memᴰ
use Rattle.meaning.specs.Outcome.{passed}
use Rattle.meaning.specs.Record.{Day, read_record}
use Rattle.meaning.specs.Pattern.{Pattern, unfolded}
use Rattle.meaning.specs.Windows.{Options}
use Rattle.meaning.specs.Request.{Asked, size_of, ask_search}
use Rattle.lists.specs.Listed.{◌∈◌}
use Rattle.record.specs.Fit.{record-fits}
use Rattle.request.specs.Told.{search-parts}
use Rattle.automaton.specs.Automaton.{start}
use Rattle.automaton.proofs.Shape.{start-within}
use Rattle.graph.specs.Plain.{memb, filt, count, news, steps}
use Rattle.graph.proofs.Sets.{memb-in, in-memb, filt-in, count-in}
use Rattle.graph.proofs.Table.{Holds}
use Rattle.graph.specs.Trace.{Reached, tag_of}
use Rattle.graph.proofs.Trace.{Tagged}
use Rattle.graph.specs.Underway.{dist_of, queue_of, begun_from, taken_by, taken_up, at_end, outcome}
use Rattle.graph.proofs.Taking as Taking
use Rattle.graph.specs.Taking.{taken_each}
use Rattle.graph.proofs.Taking.{sum_of, Standing}
use Rattle.graph.proofs.Marking as Marking
use Rattle.graph.proofs.Marking.{WordsFound}
use Rattle.graph.proofs.Finishing as Finishing
use Rattle.graph.proofs.Reaching as Reaching
use Rattle.search.specs.Product.{Setting, state, preds, succs}
use Rattle.search.proofs.Steps.{Sound, Ok, next-ok, preds-ok, edges}
use Rattle.search.specs.Moves.{expand, from_state}
use Rattle.search.proofs.Moves.{expand-law, from-law}
use Rattle.search.specs.Traced.{trace}
use Rattle.search.proofs.Traced.{trace-table, trace-long}
use Rattle.search.proofs.TracedRight.{trace-right}
use Rattle.search.specs.Along.{goal, starting}
use Rattle.search.specs.Answer.{setting, starts, solution}
use Rattle.search.proofs.Answer.{starts-ok, goal-ok, LinesWithin, sound, below-size, solution-any}
use Rattle.search.specs.Asked.{met_asked}
use Rattle.search.proofs.Asked.{met-within}
use Rattle.searching.specs.Promise.{firsts_of, search_at, begun_told, begun_after, Begins}
use Rattle.searching.specs.Words.{Sized}

-- what is known of a request that passes its questions
pub record Proper (q : Asked) (from to : ℕ) : Type 0 where
  pub within : LinesWithin q.day.lines q.day.places
  pub from_low : from < q.day.places
  pub to_low : to < q.day.places

-- its lines as the search meets them
pub begins-proper : (rec pat : List ℕ) (from to : ℕ) (options : Options) (words : ℕ) (q : Asked) → Begins rec pat from to options words q → Proper (met_asked q) from to
begins-proper rec pat from to options words q b =
    let parts = (search-parts rec pat from to options words q b.asked).0 in
    record { within = met-within q (record-fits rec q.day parts.day-read b.rec-bytes).within; from_low = parts.from_low; to_low = parts.to_low }

-- ---- amounts of at least 1

sum-many : (amounts : List ℕ) → ((a : ℕ) → a ∈ amounts → 1 ≤ a) → length amounts ≤ sum_of amounts
unfolding sum_of
sum-many [] h = omega arith
sum-many (a ∷ rest) h = omega (arith, h a (Memᴰ.head refl), sum-many rest (λ b i. h b (Memᴰ.tail i)))

-- ---- the first states

module _ (q : Asked) (from to : ℕ) where
  abbrev S : Setting
  S = setting q.day.lines q.pattern

  abbrev m : ℕ
  m = length q.day.lines

  abbrev firsts : List ℕ
  firsts = firsts_of q from to

  -- they are the starts, in order
  firsts_same : (s : ℕ) → (s ∈ firsts) ↔ (s ∈ starts S q.pattern from)
  unfolding starts
  firsts_same s = (over in_order (start p) (λ k i. memb-in k (start p) ((filt-in may all k).0 i).1), over (start p) in_order back)
    where
      p : Pattern
      p = q.pattern

      may : ℕ → Bool
      may k = memb k (start p)

      all : List ℕ
      all = count 0 (suc (unfolded p))

      in_order : List ℕ
      in_order = filt may all

      back : (k : ℕ) → k ∈ start p → k ∈ in_order
      back k i = (filt-in may all k).1 ((count-in 0 (suc (unfolded p)) k).1 (omega arith, omega (arith, ((start-within p []).at k i).0)), in-memb k (start p) i)

      over : (K K' : List ℕ) → ((k : ℕ) → k ∈ K → k ∈ K') → s ∈ starting S from K → s ∈ starting S from K'
      over K K' f i =
          let at : ℕ → ℕ = λ k. state S from k 0 in
          let (k, j, e) = Memᴰ.of_map at K i in
          subst (◌∈ map at K') e (Memᴰ.map at (f k j))

  -- ---- the count, whatever the request

  pub at-add : (k j : ℕ) → search_at q from to (k + j) ≡ taken_by (firsts_of q from to) (length q.day.lines) (trace S) (succs S) j (search_at q from to k)
  unfolding search_at
  at-add k j = Taking.taken-add firsts m (trace S) (succs S) k j (begun_from firsts m (size_of q) (goal S to ∷ []))

  -- however the amounts are chosen, their sum counts
  pub moves-any : (amounts : List ℕ)
      → taken_each (firsts_of q from to) (length q.day.lines) (trace S) (succs S) amounts (search_at q from to 0) ≡ search_at q from to (sum_of amounts)
  unfolding search_at taken_by
  moves-any amounts = Taking.taken-each firsts m (trace S) (succs S) amounts (begun_from firsts m (size_of q) (goal S to ∷ []))

  -- at the end nothing changes any more
  pub end_stays : (k : ℕ) → at_end (search_at q from to k) ≡ true → (j : ℕ) → search_at q from to (k + j) ≡ search_at q from to k
  end_stays k e j = at-add k j ∙ Taking.end-stays-by firsts m (trace S) (succs S) j (search_at q from to k) e

  -- ---- of a proper request

  module _ (h : Proper q from to) where
    -- a state has one of the places, one of the positions, and a stack of its depth
    abbrev Valid : ℕ → Type 0
    Valid s = Ok S q.day.places s

    safe : Sound S q.day.places
    safe = sound q.day.lines q.day.places q.pattern h.within

    low : (s : ℕ) → Valid s → s < size_of q
    low = below-size q.day.lines q.day.places q.pattern h.within

    goals-ok : (s : ℕ) → s ∈ (goal S to ∷ []) → Valid s
    goals-ok = goal-ok q.day.lines q.day.places q.pattern to h.to_low

    before_ok : (s t : ℕ) → Valid t → s ∈ preds S t → Valid s
    before_ok = preds-ok S q.day.places safe

    after_ok : (s l t : ℕ) → Valid s → l < m → t ∈ succs S s l → Valid t
    unfolding setting
    after_ok = next-ok S q.day.places safe

    both_ways : (s t : ℕ) → Valid s → Valid t → (s ∈ preds S t) ↔ ((l : ℕ) × (l < m) × (t ∈ succs S s l))
    unfolding setting
    both_ways = edges S q.day.places safe

    firsts-ok : (s : ℕ) → s ∈ firsts → Valid s
    firsts-ok s i = starts-ok q.day.lines q.day.places q.pattern from h.from_low s ((firsts_same s).0 i)

    tags-right : (w t : ℕ) (x : Reached) → Valid t → Tagged (succs S) m t x (trace S w t x)
    unfolding setting
    tags-right w t x o = trace-right S q.day.places safe w t o x

    -- ---- what every count keeps

    pub at-standing : (k : ℕ) → Standing (size_of q) (firsts_of q from to) (length q.day.lines) (search_at q from to k)
    unfolding search_at
    at-standing =
        Taking.standing (size_of q) (goal S to ∷ []) (preds S) (succs S) m (expand S) (expand-law S)
        Valid low goals-ok before_ok firsts (trace S) (trace-table S) (trace-long S)

    pub at-sized : (k : ℕ) → Sized (size_of q) (search_at q from to k)
    at-sized k = let s = at-standing k in record { dist-long = s.sized; queue-fits = s.room; how-long = s.long; marks-long = s.marks-long }

    pub at-good : (k : ℕ) → WordsFound (size_of q) (search_at q from to k).found.table
    unfolding search_at
    at-good =
        Marking.words-found (size_of q) (goal S to ∷ []) (preds S) (succs S) m (expand S) (expand-law S)
        Valid low goals-ok before_ok firsts (trace S) (trace-table S) (trace-long S)

    pub at-marks : (k t : ℕ) → get_or (search_at q from to k).sweep.noted.marks t 0 ≤ suc (length q.day.lines)
    unfolding search_at
    at-marks =
        Marking.marks-low (size_of q) (goal S to ∷ []) (preds S) (succs S) m (expand S) (expand-law S)
        Valid low goals-ok before_ok firsts (trace S) (trace-table S)

    -- ---- the search as it stands at that count

    -- the table holds the entries of the plain search by the count of expanded states
    pub found-at-count : (k : ℕ) → let u = search_at q from to k in
        Holds (size_of q) (Ok S q.day.places) (steps (preds S) u.expanded (news 0 [] (goal S to ∷ []), 0)).0 u.found.table
    unfolding search_at
    found-at-count =
        Taking.plain-at-count (size_of q) (goal S to ∷ []) (preds S) (succs S) m (expand S) (expand-law S)
        Valid low goals-ok before_ok firsts (trace S) (trace-table S)

    -- which in phase 0 is the count itself
    pub count-back : (k : ℕ) → (search_at q from to k).phase ≡ 0 → (search_at q from to k).expanded ≡ k
    unfolding search_at
    count-back =
        Taking.count-back (size_of q) (goal S to ∷ []) (preds S) (succs S) m (expand S) (expand-law S)
        Valid low goals-ok before_ok firsts (trace S) (trace-table S)

    -- every other state than the goal was reached from one found earlier, one nearer, and its tag says by which line
    pub reached-right : (k j : ℕ) → let u = search_at q from to k in 0 < j → j < length (queue_of u)
        → (i : ℕ) × (l : ℕ) × (i < j) × (l < length q.day.lines)
        × (get_or u.found.how j 0 ≡ tag_of l (get_or (queue_of u) i 0))
        × (get_or (queue_of u) i 0 ∈ succs S (get_or (queue_of u) j 0) l)
        × (get_or (dist_of u) (get_or (queue_of u) j 0) 0 ≡ suc (get_or (dist_of u) (get_or (queue_of u) i 0) 0))
    unfolding search_at
    reached-right =
        Reaching.reached-right (size_of q) (goal S to) (preds S) (succs S) m (expand S) (expand-law S)
        Valid low goals-ok before_ok firsts (trace S) (trace-table S) tags-right

    -- the goal
    pub reached-first : (k : ℕ) → let u = search_at q from to k in (get_or (queue_of u) 0 0 ≡ goal S to) × (get_or u.found.how 0 0 ≡ 0)
    unfolding search_at
    reached-first =
        Reaching.reached-first (size_of q) (goal S to) (preds S) (succs S) m (expand S) (expand-law S)
        Valid low goals-ok before_ok firsts (trace S) (trace-table S) tags-right

    -- ---- that many, or all that remain

    -- nothing is taken up when the search is begun
    pub begun-none : taken_up (search_at q from to 0) ≡ 0
    unfolding search_at
    begun-none =
        Taking.begun-none (size_of q) (goal S to ∷ []) (preds S) (succs S) m (expand S) (expand-law S)
        Valid low goals-ok before_ok firsts (trace S) (trace-table S)

    pub takes_one : (k : ℕ) → at_end (search_at q from to k) ≡ false → taken_up (search_at q from to (suc k)) ≡ suc (taken_up (search_at q from to k))
    unfolding search_at
    takes_one =
        Taking.takes_one (size_of q) (goal S to ∷ []) (preds S) (succs S) m (expand S) (expand-law S)
        Valid low goals-ok before_ok firsts (trace S) (trace-table S)

    -- an amount is taken up whole, or the search has ended
    pub takes-amount : (k a : ℕ)
        → (taken_up (search_at q from to (k + a)) ≡ taken_up (search_at q from to k) + a) ⊎ (at_end (search_at q from to (k + a)) ≡ true)
    unfolding search_at
    takes-amount =
        Taking.takes-amount (size_of q) (goal S to ∷ []) (preds S) (succs S) m (expand S) (expand-law S)
        Valid low goals-ok before_ok firsts (trace S) (trace-table S)

    -- never more, and nothing is taken back
    pub takes-no-more : (k a : ℕ) → (taken_up (search_at q from to k) ≤ taken_up (search_at q from to (k + a)))
        × (taken_up (search_at q from to (k + a)) ≤ taken_up (search_at q from to k) + a)
    unfolding search_at
    takes-no-more =
        Taking.takes-no-more (size_of q) (goal S to ∷ []) (preds S) (succs S) m (expand S) (expand-law S)
        Valid low goals-ok before_ok firsts (trace S) (trace-table S)

    -- ---- the end

    -- 2 · size + 2 states are more than there are
    pub ends_by : (k : ℕ) → 2 * size_of q + 2 ≤ k → at_end (search_at q from to k) ≡ true
    unfolding search_at
    ends_by =
        Taking.moves-end (size_of q) (goal S to ∷ []) (preds S) (succs S) m (expand S) (expand-law S)
        Valid low goals-ok before_ok firsts (trace S) (trace-table S)

    -- so many moves of at least 1 are enough
    pub moves-end : (amounts : List ℕ) → ((a : ℕ) → a ∈ amounts → 1 ≤ a) → 2 * size_of q + 2 ≤ length amounts
        → at_end (search_at q from to (sum_of amounts)) ≡ true
    moves-end amounts each many = let sum = sum-many amounts each in ends_by (sum_of amounts) (omega (arith, sum, many))

    -- all counts at the end are one search
    pub end_same : (j k : ℕ) → at_end (search_at q from to j) ≡ true → at_end (search_at q from to k) ≡ true → search_at q from to j ≡ search_at q from to k
    unfolding search_at
    end_same =
        Taking.end_same (size_of q) (goal S to ∷ []) (preds S) (succs S) m (expand S) (expand-law S)
        Valid low goals-ok before_ok firsts (trace S) (trace-table S)

    -- it says what the unbroken search says
    pub finish-is-find : (k : ℕ) → at_end (search_at q from to k) ≡ true
        → outcome (succs S) (length q.day.lines) (search_at q from to k) ≡ solution q.day.lines q.day.places q.pattern from to
    unfolding search_at
    finish-is-find k e =
        Finishing.finish-is (size_of q) (goal S to) (preds S) (succs S) m (expand S) (expand-law S) (from_state S) (from-law S)
        Valid low goals-ok after_ok before_ok both_ways firsts firsts-ok (trace S) (trace-table S) k e
        ∙ solution-any q.day.lines q.day.places q.pattern h.within from to h.from_low h.to_low firsts firsts_same

-- ---- two days with the same places and lines

pub same_read : (rec₁ rec₂ : List ℕ) (day₁ day₂ : Day) → read_record rec₁ ≡ passed day₁ → read_record rec₂ ≡ passed day₂
    → day₁.places ≡ day₂.places → day₁.lines ≡ day₂.lines → read_record rec₁ ≡ read_record rec₂
same_read rec₁ rec₂ day₁ day₂ r₁ r₂ places lines = r₁ ∙ ((λ i. passed (record { places = places i; lines = lines i })) ∙ sym r₂)

pub same-day : (rec₁ rec₂ pat : List ℕ) (from to : ℕ) (options : Options) (words : ℕ) → read_record rec₁ ≡ read_record rec₂ → ask_search rec₁ pat from to options words ≡ ask_search rec₂ pat from to options words
unfolding ask_search
same-day rec₁ rec₂ pat from to options words e = rw e

-- so begin says the same and leaves the same area, and move and finish see the area alone
pub same-told : (rec₁ rec₂ pat : List ℕ) (from to : ℕ) (options : Options) (words : ℕ) → read_record rec₁ ≡ read_record rec₂
    → begun_told (ask_search rec₁ pat from to options words) ≡ begun_told (ask_search rec₂ pat from to options words)
same-told rec₁ rec₂ pat from to options words e = ap begun_told (same-day rec₁ rec₂ pat from to options words e)

pub same_after : (rec₁ rec₂ pat : List ℕ) (from to : ℕ) (options : Options) (w : List ℕ) → read_record rec₁ ≡ read_record rec₂
    → begun_after (ask_search rec₁ pat from to options (length w)) pat from to w ≡ begun_after (ask_search rec₂ pat from to options (length w)) pat from to w
same_after rec₁ rec₂ pat from to options w e = ap (λ o. begun_after o pat from to w) (same-day rec₁ rec₂ pat from to options (length w) e)
