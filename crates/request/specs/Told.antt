-- A request that is answered, for the checker and the finder alike: what a request that passes says of its bytes and places (`asked-parts`),
-- what is left to ask where the bytes are read (`asked_of`, `asked-late`),
-- and the cases of the code's result against the outcome of questions 1 to 17 (`answers-refused`, `answers-asked`).
-- The same of a search that is begun: `search-parts`, `search-refused`, `search-asked`.
use Rattle.std.specs.Prelude.{◌≡◌, refl, Bool, true, false, ◌&&◌, List, ℕ, suc, ◌+◌, ◌*◌, ◌<◌, ◌≤◌, length, replicate, Ok, Err}
use Rattle.std.proofs.Common.{sym, ap, ◌∙◌, subst, arith, ltb-true, leb-true}
use Rattle.std.proofs.Math.Dec.{ltb, leb}
use Rattle.std.proofs.lemmas.List.{length-replicate}
use Rattle.meaning.specs.Outcome.{Outcome, refused, passed, ask, and_then}
use Rattle.meaning.specs.Record.{Day, boats, read_record}
use Rattle.meaning.specs.Pattern.{Pattern, read_pattern, none_given}
use Rattle.meaning.specs.Windows.{Options, windows_allowed}
use Rattle.meaning.specs.Request.{Asked, size_of, need, ask_both, ask_request, search_need, ask_search}
use Rattle.record.specs.Outcomes.{passed-inj, not-both, and-true, ask-passed, and_then-passed}
use Rattle.record.specs.Whole.{lines_in, lines_of}
use Rattle.request.specs.Layout.{largest, table_words, Laid, Planned}
use Rattle.request.specs.Asking.{ask_sized, Answers, AnswersSearch, tables}
use Rattle.request.specs.declared.Plan.{Plan}
use Rattle.refusals.specs.Refusal.{number}
use Rattle.refusals.specs.declared.Refusal.{Refusal}

-- ---- a request that passes

pub record Parts (rec pat : List ℕ) (from to : ℕ) (options : Options) (q : Asked) : Type 0 where
  pub day-read : read_record rec ≡ passed q.day
  pub pattern-read : read_pattern none_given pat ≡ passed q.pattern
  pub from_low : from < q.day.places
  pub to_low : to < q.day.places
  pub options-are : q.options ≡ options
  pub small : size_of q ≤ largest

-- all questions up to 16 say that much
sized-parts : (rec pat : List ℕ) (from to : ℕ) (options : Options) (q : Asked) → ask_sized rec pat from to options ≡ passed q → Parts rec pat from to options q
unfolding ask_sized
sized-parts rec pat from to options q h =
    let (b, e, rest) = and_then-passed (ask_both rec pat options) _ q h in
    let (places, more) = ask-passed (ltb from b.day.places && ltb to b.day.places) 15 _ q rest in
    let (windows, sized) = ask-passed (windows_allowed b.options.windows) 27 _ q more in
    let (small, same) = ask-passed (leb (size_of b) largest) 16 (passed b) q sized in
    let (day, r, f) = and_then-passed (read_record rec) _ b e in
    let (p, s, g) = and_then-passed (read_pattern none_given pat) _ b f in
    let (x, y) = and-true (ltb from b.day.places) (ltb to b.day.places) places in
    subst (Parts rec pat from to options) (passed-inj same) (record {
      day-read = r ∙ ap (λ (z : Asked). passed z.day) (passed-inj g);
      pattern-read = s ∙ ap (λ (z : Asked). passed z.pattern) (passed-inj g);
      from_low = ltb-true _ _ x;
      to_low = ltb-true _ _ y;
      options-are = sym (ap (λ (z : Asked). z.options) (passed-inj g));
      small = leb-true _ _ small;
    })

-- ---- question 17 after those before it

-- an area of so many words against those that are needed
abbrev pub ask_room : (Asked → ℕ) → ℕ → Asked → Outcome Asked
ask_room needed words q = ask (leb (needed q) words) 17 (passed q)

-- a question at the end can be asked apart
ask-after : (o : Outcome Asked) (t u v : Asked → Bool) (f : Asked → Outcome Asked)
    → and_then o (λ q. ask (t q) 15 (ask (u q) 27 (ask (v q) 16 (f q)))) ≡ and_then (and_then o (λ q. ask (t q) 15 (ask (u q) 27 (ask (v q) 16 (passed q))))) f
ask-after (refused number) t u v f = refl
ask-after (passed q) t u v f = go (t q) (u q) (v q)
  where
    go : (x y z : Bool) → ask x 15 (ask y 27 (ask z 16 (f q))) ≡ and_then (ask x 15 (ask y 27 (ask z 16 (passed q)))) f
    go true true true = refl
    go true true false = refl
    go true false z = refl
    go false y z = refl

module _ (rec pat : List ℕ) (from to : ℕ) (options : Options) (words : ℕ) where
  sized-first : (needed : Asked → ℕ)
      → and_then (ask_both rec pat options) (λ q. ask (ltb from q.day.places && ltb to q.day.places) 15 (ask (windows_allowed q.options.windows) 27 (ask (leb (size_of q) largest) 16 (ask_room needed words q))))
      ≡ and_then (ask_sized rec pat from to options) (ask_room needed words)
  unfolding ask_sized
  sized-first needed =
      ask-after (ask_both rec pat options) (λ q. ltb from q.day.places && ltb to q.day.places) (λ q. windows_allowed q.options.windows) (λ q. leb (size_of q) largest) (ask_room needed words)

  pub request-sized : ask_request rec pat from to options words ≡ and_then (ask_sized rec pat from to options) (ask_room (λ q. need (size_of q)) words)
  unfolding ask_request
  request-sized = sized-first (λ q. need (size_of q))

  pub search-sized : ask_search rec pat from to options words ≡ and_then (ask_sized rec pat from to options) (ask_room search_need words)
  unfolding ask_search
  search-sized = sized-first search_need

  room-parts : (needed : Asked → ℕ) (q : Asked) → and_then (ask_sized rec pat from to options) (ask_room needed words) ≡ passed q → Parts rec pat from to options q × (needed q ≤ words)
  room-parts needed q h =
      let (b, e, rest) = and_then-passed (ask_sized rec pat from to options) (ask_room needed words) q h in
      let (room, same) = ask-passed (leb (needed b) words) 17 (passed b) q rest in
      (sized-parts rec pat from to options q (e ∙ same), subst (λ (z : Asked). needed z ≤ words) (passed-inj same) (leb-true _ _ room))

  pub asked-parts : (q : Asked) → ask_request rec pat from to options words ≡ passed q → Parts rec pat from to options q
  asked-parts q h = (room-parts (λ q. need (size_of q)) q (sym request-sized ∙ h)).0

  -- a search that is begun has its words too
  pub search-parts : (q : Asked) → ask_search rec pat from to options words ≡ passed q → Parts rec pat from to options q × (search_need q ≤ words)
  search-parts q h = room-parts search_need q (sym search-sized ∙ h)

-- ---- bytes that are read as a day and a pattern

-- a refusal has a number from 15 on
abbrev pub Late : {A : Type 0} → Outcome A → Type 0
Late (refused number) = 15 ≤ number
Late (passed a) = Unit {0}

module _ (rec pat : List ℕ) (from to : ℕ) (options : Options) (words : ℕ) (day : Day) (p : Pattern) (r : read_record rec ≡ passed day) (s : read_pattern none_given pat ≡ passed p) where
  -- what is asked about
  abbrev pub asking : Asked
  asking = record { day = day; pattern = p; options = options }

  -- only 15, 27, 16 and 17 are left to ask
  pub asked_of : ask_request rec pat from to options words
      ≡ ask (ltb from day.places && ltb to day.places) 15 (ask (windows_allowed options.windows) 27 (ask (leb (size_of asking) 1048576) 16 (ask (leb (need (size_of asking)) words) 17 (passed asking))))
  unfolding ask_request
  asked_of = simp (r, s)

  pub asked-late : Late (ask_request rec pat from to options words)
  asked-late = rw asked_of (go (ltb from day.places && ltb to day.places) (windows_allowed options.windows) (leb (size_of asking) 1048576) (leb (need (size_of asking)) words) asking)
    where
      go : (t u v w : Bool) (q : Asked) → Late (ask t 15 (ask u 27 (ask v 16 (ask w 17 (passed q)))))
      go true true true true q = tt
      go true true true false q = omega arith
      go true true false w q = omega arith
      go true false v w q = omega arith
      go false u v w q = omega arith

-- ---- the result's cases

pub answers-refused : (o : Outcome Asked) (area : ℕ) (e : Refusal) → Answers o area (Err e) → o ≡ refused (number e)
answers-refused (refused n) area e a = ap refused cc
answers-refused (passed q) area e (own, is, planned, laid) = absurd (let z : ◌≡◌ {A = ℕ} 0 1 = cc in omega arith)

-- a plan that was told is that of what passed
pub record Told (o : Outcome Asked) (area : ℕ) (plan : Plan) : Type 0 where
  pub asked : Asked
  pub is : o ≡ passed asked
  pub planned : Planned asked plan
  pub laid : Laid plan area

pub answers-asked : (o : Outcome Asked) (area : ℕ) (plan : Plan) → Answers o area (Ok plan) → Told o area plan
answers-asked (refused n) area plan a = absurd (not-both (sym a))
answers-asked (passed q) area plan (own, is, planned, laid) =
    let plans : own ≡ plan = cc in
    record { asked = q; is = refl; planned = subst (Planned q) plans planned; laid = subst (λ (p : Plan). Laid p area) plans laid }

-- the same of a search that is begun
pub search-refused : (o : Outcome Asked) (area : ℕ) (e : Refusal) → AnswersSearch o area (Err e) → o ≡ refused (number e)
search-refused (refused n) area e a = ap refused cc
search-refused (passed q) area e (own, is, planned, laid, at, room) = absurd (let z : ◌≡◌ {A = ℕ} 0 1 = cc in omega arith)

pub record ToldSearch (o : Outcome Asked) (area : ℕ) (plan : Plan) : Type 0 where
  pub asked : Asked
  pub is : o ≡ passed asked
  pub planned : Planned asked plan
  pub laid : Laid plan area
  pub boats-at : plan.boats ≡ tables
  pub room : plan.base + 4 * plan.size + table_words plan.places plan.lines ≤ area

pub search-asked : (o : Outcome Asked) (area : ℕ) (plan : Plan) → AnswersSearch o area (Ok plan) → ToldSearch o area plan
search-asked (refused n) area plan a = absurd (not-both (sym a))
search-asked (passed q) area plan (own, is, planned, laid, at, room) =
    let plans : own ≡ plan = cc in
    subst (ToldSearch (passed q) area) plans (record { asked = q; is = refl; planned = planned; laid = laid; boats-at = at; room = room })

-- ---- loading by a plan

-- it has the record's lines, and a number for each boat of the record and one more
module _ {rec pat : List ℕ} {from to : ℕ} {options : Options} {q : Asked} {plan : Plan} (planned : Planned q plan) (p : Parts rec pat from to options q) where
  pub planned-lines : plan.lines ≡ length (lines_of rec)
  planned-lines = planned.lines_are ∙ sym (ap length (ap lines_in p.day-read))

  pub planned-radix : plan.radix ≡ suc (length (boats (lines_of rec)))
  planned-radix = planned.radix-is ∙ sym (ap (λ ls. suc (length (boats ls))) (ap lines_in p.day-read))

module _ {rec pat : List ℕ} {from to : ℕ} {options : Options} {area : ℕ} {plan : Plan} (t : Told (ask_request rec pat from to options area) area plan) (p : Parts rec pat from to options t.asked) where
  -- the record can be loaded by it
  pub told-loading : Laid plan area × (plan.lines ≡ length (lines_of rec))
  told-loading = (t.laid, planned-lines t.planned p)

  -- the plan has a number for each boat of the record, and one more: what loading asks of it
  pub told-radix : plan.radix ≡ suc (length (boats (lines_of rec)))
  told-radix = planned-radix t.planned p

-- ---- the area after clearing

-- words that are all zeros, as many as there were
pub all-zero : (n m : ℕ) (v : List ℕ) → v ≡ replicate n 0 → length v ≡ m → v ≡ replicate m 0
all-zero n m v e l = e ∙ ap (λ k. replicate k 0) (sym (length-replicate {A = ℕ} n 0) ∙ (sym (ap length e) ∙ l))
