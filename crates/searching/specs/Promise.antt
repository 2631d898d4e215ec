-- What a search that is begun, moved on and finished promises (document 02, request Five).
-- `search_at` is the search of a request after so many states, `held_in` every word of the area that holds it. Begin leaves `held_in … 0` of the request
-- with its lines as the search meets them (`met_asked`); a move by an amount makes of `held_in … k` `held_in … (k + amount)`, and finish says what the
-- finder says of the record at the beginning.
-- Move and finish see the area alone. `Moving` and `Finishing` name three cases: the area that a begin and its moves left, an area without a search,
-- and any other, which was altered or cut short.
use Rattle.std.specs.Prelude.{◌≡◌, List, [], ◌∷◌, ◌++◌, ℕ, suc, ◌+◌, ◌-◌, ◌≤◌, ◌<◌, length, get_or, replicate, Result}
use Rattle.meaning.specs.Outcome.{Outcome, refused, passed, Reply, value, refusal}
use Rattle.meaning.specs.Record.{boats}
use Rattle.meaning.specs.Pattern.{unfolded, keeps}
use Rattle.meaning.specs.Windows.{Options}
use Rattle.meaning.specs.Request.{Asked, size_of, ask_search}
use Rattle.refusals.specs.Refusal.{reply, reply_mapped}
use Rattle.refusals.specs.declared.Refusal.{Refusal}
use Rattle.automaton.specs.Automaton.{start}
use Rattle.graph.specs.Plain.{memb, filt, count}
use Rattle.graph.specs.Underway.{Underway, dist_of, queue_of, begun_from, taken_by, taken_up}
use Rattle.request.specs.Layout.{loaded_of}
use Rattle.search.specs.Product.{succs}
use Rattle.search.specs.Along.{goal, starting}
use Rattle.search.specs.Traced.{trace}
use Rattle.search.specs.Answer.{setting}
use Rattle.search.specs.Asked.{answer, met_asked}
use Rattle.finder.specs.Promise.{settled, Said, found, none_found, refusal as refusing, said, out_after, Demand3}

-- ---- the search of a request, state by state

module _ (q : Asked) (from to : ℕ) where
  -- where chains begin: at the place `from`, at the positions with which the pattern can begin, in order
  abbrev pub firsts_of : List ℕ
  firsts_of = starting (setting q.day.lines q.pattern) from (filt (λ k. memb k (start q.pattern)) (count 0 (suc (unfolded q.pattern))))

  -- after k states are taken up
  unfoldable pub search_at : ℕ → Underway
  search_at k =
      let S = setting q.day.lines q.pattern in
      let m = length q.day.lines in
      taken_by firsts_of m (trace S) (succs S) k (begun_from firsts_of m (size_of q) (goal S to ∷ []))

-- ---- the area that holds it

-- a list, and zeros after it up to n entries
unfoldable pub padded : ℕ → List ℕ → List ℕ
padded n l = l ++ replicate (n - length l) 0

-- the numbers in front: the first is never 0
abbrev pub numbers_in : Asked → List ℕ → ℕ → Underway → List ℕ
numbers_in q pat from u =
    suc (length (boats q.day.lines))
    ∷ q.day.places ∷ length q.day.lines ∷ from ∷ length pat
    ∷ u.phase ∷ u.expanded ∷ length (queue_of u) ∷ u.far ∷ u.sweep.rest ∷ u.sweep.chosen ∷ u.sweep.noted.line
    ∷ []

-- the numbers, the pattern's bytes, the boats, the lines' boat numbers, the lines; the distances, the queue, how each was reached, the marks; zeros
unfoldable pub held_of : Asked → List ℕ → ℕ → ℕ → Underway → List ℕ
held_of q pat from words u =
    let N = size_of q in
    padded words
    (padded 17 (numbers_in q pat from u)
    ++ (padded 192 pat
    ++ (loaded_of (keeps q.pattern) q.day.lines
    ++ (dist_of u
    ++ (padded N (queue_of u)
    ++ (padded N u.found.how
    ++ u.sweep.noted.marks))))))

-- after k states
abbrev pub held_in : Asked → List ℕ → ℕ → ℕ → ℕ → ℕ → List ℕ
held_in q pat from to words k = held_of q pat from words (search_at q from to k)

-- ---- begin

abbrev pub begin_reply : Result (Unit {0}) Refusal → Reply ℕ
begin_reply r = reply_mapped (λ _. 0) (reply r)

abbrev pub begun_told : Outcome Asked → Reply ℕ
begun_told (refused number) = refusal number 0
begun_told (passed q) = value 0

-- the area after it, whatever it held
abbrev pub begun_after : Outcome Asked → List ℕ → ℕ → ℕ → List ℕ → List ℕ
begun_after (refused number) pat from to w = w
begun_after (passed q) pat from to w = held_in (met_asked q) pat from to (length w) 0

-- a begin of these bytes with an area of so many words is not refused
pub record Begins (rec pat : List ℕ) (from to : ℕ) (options : Options) (words : ℕ) (q : Asked) : Type 0 where
  pub rec-bytes : (i : ℕ) → get_or rec i 0 < 256
  pub pat-bytes : (i : ℕ) → get_or pat i 0 < 256
  pub asked : ask_search rec pat from to options words ≡ passed q

-- the area w is as such a begin and moves by k states left it
pub record Left (rec pat : List ℕ) (from to : ℕ) (options : Options) (q : Asked) (k : ℕ) (w : List ℕ) : Type 0 where
  pub begins : Begins rec pat from to options (length w) q
  pub held : w ≡ held_in (met_asked q) pat from to (length w) k

-- ---- move

abbrev pub move_reply : Result ℕ Refusal → Reply ℕ
move_reply r = reply r

-- an area that was altered: a refusal is 26 and alters nothing; a count is no more than the amount, and than any search has
abbrev pub MoveHarmless : ℕ → Reply ℕ → List ℕ → List ℕ → Type 0
MoveHarmless amount (value n) w v = (n ≤ amount) × (n ≤ 2097154)
MoveHarmless amount (refusal number second) w v = (number ≡ 26) × (second ≡ 0) × (v ≡ w)

pub record Moving (amount : ℕ) (w : List ℕ) (r : Reply ℕ) (v : List ℕ) : Type 0 where
  pub begun : (rec pat : List ℕ) (from to : ℕ) (options : Options) (q : Asked) (k : ℕ) → Left rec pat from to options q k w
      → (r ≡ value (taken_up (search_at (met_asked q) from to (k + amount)) - taken_up (search_at (met_asked q) from to k))) × (v ≡ held_in (met_asked q) pat from to (length w) (k + amount))
  pub none-begun : get_or w 0 0 ≡ 0 → (r ≡ refusal 26 0) × (v ≡ w)
  pub altered : (length v ≡ length w) × MoveHarmless amount r w v

-- ---- finish

-- an area that was altered: what is found fits the output, none and a refusal leave the output; a refusal is 26, which leaves the area too, or 19 with
-- a length that does not fit, and after every other reply the area is all zeros; lengths are numbers of 32 bits
abbrev pub FinishHarmless : Said → List ℕ → List ℕ → List ℕ → List ℕ → Type 0
FinishHarmless (found n) w v out out' = (n ≤ length out) × (n < 4294967295) × (v ≡ replicate (length w) 0)
FinishHarmless none_found w v out out' = (out' ≡ out) × (v ≡ replicate (length w) 0)
FinishHarmless (refusing number second) w v out out' =
    (out' ≡ out) × (second < 4294967295)
    × (number ≡ 26 → (second ≡ 0) × (v ≡ w))
    × ((number ≡ 26 → ⊥) → (number ≡ 19) × (length out < second) × (v ≡ replicate (length w) 0))

pub record Finishing (w out : List ℕ) (r : Said) (v out' : List ℕ) : Type 0 where
  -- what the finder says of the record at the beginning, and demand 3
  pub begun : (rec pat : List ℕ) (from to : ℕ) (options : Options) (q : Asked) (k : ℕ) → Left rec pat from to options q k w
      → let finding = settled (length out) (answer q from to) in
      (r ≡ said finding) × (v ≡ replicate (length w) 0) × (out' ≡ out_after finding out) × Demand3 rec pat from to options (length out) r out'
  pub none-begun : get_or w 0 0 ≡ 0 → (r ≡ refusing 26 0) × (v ≡ w) × (out' ≡ out)
  pub altered : (length v ≡ length w) × (length out' ≡ length out) × FinishHarmless r w v out out'
