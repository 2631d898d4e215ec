-- What document 02 says of all starts in one go, as laws of the definition that the promise cites.
-- Claimed, where the questions are passed: a listed place gets what the finder says for it alone (`start-as-find`), so its length is that of the first
-- accepted chain or there is none (`length-says`); a place listed twice is answered twice (`listed-twice`); and the search takes up no state twice,
-- whatever the list, so at most the search size (`no-state-twice`, `none-waits`).
use Rattle.std.specs.Prelude.{◌≡◌, refl, Bool, true, false, cond, List, [], ◌∷◌, map, ◌↔◌, ℕ, zero, suc, ◌<◌, ◌≤◌, leb, length, get_or}
use Rattle.std.proofs.Common.{sym, ap, ◌∙◌, subst, arith, le-leb}
use mathlib.Core.List.Memᴰ
use Rattle.std.proofs.Math.Option.{Option, none, some}
use Rattle.meaning.specs.Outcome.{passed}
use Rattle.meaning.specs.Windows.{Options}
use Rattle.meaning.specs.Pattern.{none_given}
use Rattle.meaning.specs.Request.{Asked, size_of, ask_starts}
use Rattle.meaning.specs.Chain.{lines_met}
use Rattle.pattern.specs.Kinds.{Kinds, read-kinds}
use Rattle.lists.specs.Listed.{◌∈◌}
use Rattle.record.specs.Fit.{record-fits}
use Rattle.request.specs.Told.{Parts, asked-parts}
use Rattle.graph.specs.PhaseOne.{Progress, waiting, begun, advance_by}
use Rattle.graph.proofs.PhaseOne.{advances-within, queue-distinct, queue-room, all-expanded}
use Rattle.graph.proofs.Queue.{Distinct}
use Rattle.search.specs.Along.{goal}
use Rattle.search.specs.Answer.{setting}
use Rattle.search.proofs.Answer.{LinesWithin, goal-ok, sound, below-size}
use Rattle.search.specs.Asked.{answer}
use Rattle.search.proofs.Asked.{met-size, met-within, answer-none, answer-some}
use Rattle.search.specs.Moves.{expand}
use Rattle.search.proofs.Moves.{expand-law}
use Rattle.search.specs.Product.{Setting, preds}
use Rattle.search.proofs.Steps.{Ok, preds-ok}
use Rattle.finder.specs.Promise.{chain, too_long, settled, find_of, found, none_found, said}
use Rattle.starts.specs.Promise.{no_length, length_of, length_from, lengths_of, LengthSays}
use Rattle.starts.specs.Highest.{asked-from}

-- ---- an entry of a list

pub entry_in : (l : List ℕ) (i : ℕ) → i < length l → get_or l i 0 ∈ l
entry_in [] i h = absurd (omega arith)
entry_in (x ∷ l) zero h = Memᴰ.head refl
entry_in (x ∷ l) (suc i) h = Memᴰ.tail (entry_in l i (omega arith))

pub entry-map : (f : ℕ → ℕ) (l : List ℕ) (i : ℕ) → i < length l → get_or (map f l) i 0 ≡ f (get_or l i 0)
entry-map f [] i h = absurd (omega arith)
entry-map f (x ∷ l) zero h = refl
entry-map f (x ∷ l) (suc i) h = entry-map f l i (omega arith)

-- the length of listed place i
pub length-at : (q : Asked) (starts : List ℕ) (to i : ℕ) → i < length starts → get_or (lengths_of q starts to) i 0 ≡ length_from q to (get_or starts i 0)
length-at q starts to = entry-map (length_from q to) starts

pub listed-twice : (q : Asked) (starts : List ℕ) (to i j : ℕ) → i < length starts → j < length starts
    → get_or starts i 0 ≡ get_or starts j 0 → get_or (lengths_of q starts to) i 0 ≡ get_or (lengths_of q starts to) j 0
listed-twice q starts to i j hi hj e = length-at q starts to i hi ∙ (ap (length_from q to) e ∙ sym (length-at q starts to j hj))

-- ---- a listed place of a request that passes

module _ (rec pat starts : List ℕ) (to : ℕ) (options : Options) (words : ℕ) (low : (i : ℕ) → get_or rec i 0 < 256) (q : Asked) (asked : ask_starts rec pat starts to options words ≡ passed q)
    (i : ℕ) (listed : i < length starts) where
  abbrev a : ℕ
  a = get_or starts i 0

  abbrev n : ℕ
  n = get_or (lengths_of q starts to) i 0

  abbrev chain_from : Option (List ℕ)
  chain_from = answer q a to

  parts : Parts rec pat a to options q
  parts = asked-parts rec pat a to options words q (asked-from rec pat starts to options words q asked a (entry_in starts i listed))

  within : LinesWithin q.day.lines q.day.places
  within = (record-fits rec q.day parts.day-read low).within

  kinds : Kinds q.pattern
  kinds = read-kinds none_given pat q.pattern parts.pattern-read

  -- what the finder says for it alone, with an output of so many entries
  find-is : (room : ℕ) → find_of rec pat a to options words room ≡ settled room chain_from
  unfolding find_of
  find-is room = simp (asked-from rec pat starts to options words q asked a (entry_in starts i listed))

  -- a length is far below the mark
  short : (c : List ℕ) → chain_from ≡ some c → length c < no_length
  short c e = omega (arith, (answer-some q kinds within a to parts.from_low parts.to_low c e).1, parts.small)

  -- it is n exactly when the finder says found n, and the mark exactly when it says none
  pub start-as-find : (room : ℕ)
      → ((m : ℕ) → m ≤ room → (m ≡ no_length → ⊥) → (n ≡ m) ↔ (said (find_of rec pat a to options words room) ≡ found m))
      × ((n ≡ no_length) ↔ (said (find_of rec pat a to options words room) ≡ none_found))
  start-as-find room = rw (length-at q starts to i listed, find-is room) (go chain_from refl)
    where
      go : (o : Option (List ℕ)) → chain_from ≡ o
          → ((m : ℕ) → m ≤ room → (m ≡ no_length → ⊥) → (length_of o ≡ m) ↔ (said (settled room o) ≡ found m))
          × ((length_of o ≡ no_length) ↔ (said (settled room o) ≡ none_found))
      go none e = (
        λ m fits other. (λ is. absurd (other (sym is)), λ (is : none_found ≡ found m). absurd (let z : ◌≡◌ {A = ℕ} 0 1 = cc in omega arith)),
        (λ is. refl, λ is. refl),
      )
      go (some c) e = (
        λ m fits other. (λ is. rw (le-leb (length c) room (omega (arith, is, fits))) (ap found is), λ is. same (leb (length c) room) m is),
        (λ is. absurd (omega (arith, is, short c e)), λ is. absurd (never (leb (length c) room) is)),
      )
        where
          same : (t : Bool) (m : ℕ) → said (cond t (chain c) (too_long (length c))) ≡ found m → length c ≡ m
          same true m is = cc
          same false m is = absurd (let z : ◌≡◌ {A = ℕ} 0 1 = cc in omega arith)

          never : (t : Bool) → said (cond t (chain c) (too_long (length c))) ≡ none_found → ⊥
          never true is = let z : ◌≡◌ {A = ℕ} 0 1 = cc in omega arith
          never false is = let z : ◌≡◌ {A = ℕ} 0 1 = cc in omega arith

  -- so it is the length of the accepted chain that comes before every other, or no chain of any length is accepted
  pub length-says : LengthSays q a to n
  length-says = rw (length-at q starts to i listed) (go chain_from refl)
    where
      go : (o : Option (List ℕ)) → chain_from ≡ o → LengthSays q a to (length_of o)
      go none e = record {
        none-accepted = λ is. (answer-none q kinds within a to parts.from_low parts.to_low).0 e;
        first-has = λ other. absurd (other refl);
      }
      go (some c) e = record {
        none-accepted = λ is. absurd (omega (arith, is, short c e));
        first-has = λ other. (c, (answer-some q kinds within a to parts.from_low parts.to_low c e).0, refl);
      }

-- ---- one search

-- the search from the finishing place when k states are taken up, or all of them; the list has no part in it
abbrev pub search_of : Asked → ℕ → ℕ → Progress
search_of q to k = let S = setting (lines_met q) q.pattern in advance_by (expand S) k (begun (size_of q) (goal S to ∷ []))

module _ (q : Asked) (to : ℕ) (within : LinesWithin q.day.lines q.day.places) (to_low : to < q.day.places) where
  abbrev S : Setting
  S = setting (lines_met q) q.pattern

  -- a state has one of the places, one of the positions, and a stack of its depth
  abbrev Valid : ℕ → Type 0
  Valid s = Ok S q.day.places s

  low : (s : ℕ) → Valid s → s < size_of q
  low s ok = subst (s <◌) (met-size q) (below-size (lines_met q) q.day.places q.pattern (met-within q within) s ok)

  goals-ok : (s : ℕ) → s ∈ (goal S to ∷ []) → Valid s
  goals-ok = goal-ok (lines_met q) q.day.places q.pattern to to_low

  before_ok : (s t : ℕ) → Valid t → s ∈ preds S t → Valid s
  before_ok = preds-ok S q.day.places (sound (lines_met q) q.day.places q.pattern (met-within q within))

  -- the states taken up are the first of the queue, in which no state stands twice, and which has at most as many as the search size
  pub no-state-twice : (k : ℕ) → let u = search_of q to k in Distinct u.table.queue × (length u.table.queue ≤ size_of q) × (u.expanded ≤ length u.table.queue)
  unfolding begun
  no-state-twice k = (
    queue-distinct (preds S) (expand S) (expand-law S) (size_of q) Valid low before_ok (goal S to ∷ []) goals-ok k,
    queue-room (preds S) (expand S) (expand-law S) (size_of q) Valid low before_ok (goal S to ∷ []) goals-ok k,
    advances-within (preds S) (expand S) (expand-law S) k (begun (size_of q) (goal S to ∷ [])) (omega arith),
  )

  -- and after so many nothing waits
  pub none-waits : waiting (search_of q to (size_of q)) ≡ []
  none-waits = all-expanded (preds S) (expand S) (expand-law S) (size_of q) Valid low before_ok (goal S to ∷ []) goals-ok
