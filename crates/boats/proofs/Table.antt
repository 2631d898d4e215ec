-- The boats by their numbers as a table of words, which the search goes by.
-- Claimed: `table-told` (comparing two numbers by the table tells what comparing their boats does, where sail numbers are below 2^24); no boat
-- has two numbers; `next-new` and `next_known` (a line adds its boat to the table exactly where its number is the next one), for the writer.
use Rattle.std.specs.Prelude.{◌≡◌, Bool, true, false, cond, ◌||◌, List, [], ◌∷◌, ◌++◌, eqb, ltb, length, get_or, take}
use Rattle.std.proofs.Math.Path.{refl}
use Rattle.std.proofs.Common.{sym, ap, ◌∙◌, subst, arith, length-append, get_or-append-add, eq-eqb, ne_eqb, ltb-true, ltb-false}
use Rattle.std.proofs.Math.Bool.{or-true}
use Rattle.std.proofs.lemmas.Bool.{false≢true}
use mathlib.Core.List.Memᴰ
use Prim.Native.Nat.{ℕ, zero, suc, ◌<◌, ◌≤◌}
use Rattle.std.proofs.Math.Decide.{ℕ_discrete}
use Rattle.std.proofs.Math.ListN.{get_or-append, get_or-map}
use Rattle.meaning.specs.Record.{Boat, Line, agree, among, boats_after, boats}
use Rattle.meaning.specs.Writing.{no_line, line_at}
use Rattle.meaning.specs.Language.{Compared, unread, same-boat, same_Class, other-class, is_unread}
use Rattle.meaning.specs.Count.{first_with, first_same}
use Rattle.lists.specs.Listed.{◌∈◌}
use Rattle.boats.specs.Boats.{as_number}
use Rattle.boats.proofs.Boats.{agree_same, agree-self, noted, first-le, boats-next, boats-more}
use Rattle.boats.specs.Codes.{numbered, telling}
use Rattle.boats.proofs.Codes.{same-agree, among_in, first-has, code, code-earlier, code-new}
use Rattle.boats.specs.Table.{boat_table, class_in, told_by}

-- ---- no boat has two numbers

abbrev Apart : List Boat → Type 0
Apart bs = (i j : ℕ) → i < j → j < length bs → get_or bs i no_line.boat ≡ get_or bs j no_line.boat → ⊥

at_in : (bs : List Boat) (i : ℕ) (d : Boat) → i < length bs → get_or bs i d ∈ bs
at_in [] i d h = absurd (omega (arith, h))
at_in (b ∷ bs) zero d h = Memᴰ.head refl
at_in (b ∷ bs) (suc i) d h = Memᴰ.tail (at_in bs i d (omega (arith, h)))

noted-apart : (seen : List Boat) (x : Boat) → Apart seen → Apart (noted seen x)
noted-apart seen x apart = go (among x seen) refl
  where
    go : (t : Bool) → among x seen ≡ t → Apart (cond t seen (seen ++ (x ∷ [])))
    go true e = apart
    go false e = λ i j less low q. elim (ℕ_discrete j (length seen)) [
      | yes last ↦
          new (subst (◌∈ seen) (sym (get_or-append seen (x ∷ []) no_line.boat i (omega arith)) ∙ (q ∙ (ap (λ k. get_or (seen ++ (x ∷ [])) k no_line.boat) (last ∙ omega arith) ∙ get_or-append-add seen (x ∷ []) 0 no_line.boat))) (at_in seen i no_line.boat (omega arith)))
      | no n ↦
          let inside : j < length seen = omega (arith, low, n, length-append seen (x ∷ [])) in
          apart i j less inside (sym (get_or-append seen (x ∷ []) no_line.boat i (omega arith)) ∙ (q ∙ get_or-append seen (x ∷ []) no_line.boat j inside))
    ]
      where
        new : x ∈ seen → ⊥
        new m = false≢true (sym e ∙ (among_in x seen).1 m)

after-apart : (ls : List Line) (seen : List Boat) → Apart seen → Apart (boats_after seen ls)
unfolding boats_after
after-apart [] seen apart = apart
after-apart (l ∷ ls) seen apart = after-apart ls (noted seen l.boat) (noted-apart seen l.boat apart)

-- ---- sail numbers of three bytes

abbrev LowSails : List Boat → Type 0
LowSails bs = (i : ℕ) → (get_or bs i no_line.boat).sail < 16777216

append-low : (bs : List Boat) (x : Boat) → x.sail < 16777216 → LowSails bs → LowSails (bs ++ (x ∷ []))
append-low [] x h low zero = h
append-low [] x h low (suc i) = omega arith
append-low (b ∷ bs) x h low zero = low 0
append-low (b ∷ bs) x h low (suc i) = append-low bs x h (λ k. low (suc k)) i

noted-low : (seen : List Boat) (x : Boat) → x.sail < 16777216 → LowSails seen → LowSails (noted seen x)
noted-low seen x h low = go (among x seen)
  where
    go : (t : Bool) → LowSails (cond t seen (seen ++ (x ∷ [])))
    go true = low
    go false = append-low seen x h low

after-low : (ls : List Line) (seen : List Boat) → ((i : ℕ) → i < length ls → (line_at ls i).boat.sail < 16777216) → LowSails seen → LowSails (boats_after seen ls)
unfolding boats_after
after-low [] seen h low = low
after-low (l ∷ ls) seen h low = after-low ls (noted seen l.boat) (λ i less. h (suc i) (omega (arith, less))) (noted-low seen l.boat (h 0 (omega arith)) low)

word-class : (b : Boat) → b.sail < 16777216 → class_in (as_number b) ≡ b.class
word-class b h = omega (arith, h)

module _ (lines : List Line) where
  abbrev bs : List Boat
  bs = boats lines

  boats-apart : Apart bs
  boats-apart = after-apart lines [] (λ i j less low q. omega (arith, low))

  -- so two numbers of boats are one exactly where the boats are
  numbers-agree : (x y : ℕ) → x < length bs → y < length bs → eqb (suc x) (suc y) ≡ agree (numbered bs (suc x)) (numbered bs (suc y))
  numbers-agree x y hx hy = elim (ℕ_discrete x y) [
    | yes e ↦ (eq-eqb (suc x) (suc y) (ap suc e) ∙ sym (same-agree (ap (λ z. numbered bs (suc z)) e)))
    | no n ↦ (ne_eqb (suc x) (suc y) (λ e. n (omega (arith, e))) ∙ sym (differ n (agree (numbered bs (suc x)) (numbered bs (suc y))) refl))
  ]
    where
      differ : (x ≡ y → ⊥) → (t : Bool) → agree (numbered bs (suc x)) (numbered bs (suc y)) ≡ t → t ≡ false
      differ n true e = go (ltb x y) refl
        where
          go : (t : Bool) → ltb x y ≡ t → true ≡ false
          go true l = absurd (boats-apart x y (ltb-true x y l) hy (agree_same _ _ e))
          go false l = absurd (boats-apart y x (omega (arith, ltb-false x y l, n)) hx (sym (agree_same _ _ e)))
      differ n false e = refl

  -- ---- the table tells what the boats do

  abbrev its_word : ℕ → ℕ
  its_word x = get_or (boat_table lines) x 0

  unread-word : (b : Boat) → eqb (as_number b) 0 ≡ is_unread b
  unread-word b = go (ℕ_discrete b.class 0) (ℕ_discrete b.sail 0)
    where
      go : Dec (b.class ≡ 0) → Dec (b.sail ≡ 0) → eqb (as_number b) 0 ≡ is_unread b
      go (yes c) (yes n) = rw (c, n)
      go (yes c) (no n) = ne_eqb (as_number b) 0 (λ e. n (omega (arith, e))) ∙ sym (rw (c, ne_eqb b.sail 0 n))
      go (no n) d = ne_eqb (as_number b) 0 (λ e. n (omega (arith, e))) ∙ sym (rw (ne_eqb b.class 0 n))

  word-is : (x : ℕ) → x ≤ length bs → its_word x ≡ as_number (numbered bs x)
  unfolding boat_table
  word-is zero h = refl
  word-is (suc x) h = get_or-map as_number bs x no_line.boat

  module _ (sails : (i : ℕ) → i < length lines → (line_at lines i).boat.sail < 16777216) where
    low : (x : ℕ) → (numbered bs x).sail < 16777216
    low zero = omega arith
    low (suc x) = after-low lines [] sails (λ i. omega arith) x

    -- what two boats tell, where t says whether they are one
    abbrev by : Bool → ℕ → ℕ → Compared
    by t x y =
        cond (is_unread (numbered bs x) || is_unread (numbered bs y)) unread
        (cond t same-boat (cond (eqb (numbered bs x).class (numbered bs y).class) same_Class other-class))

    pub table-told : (x y : ℕ) → x ≤ length bs → y ≤ length bs → told_by its_word x y ≡ telling bs x y
    table-told x y hx hy =
        (λ i. cond (read_is x hx i || read_is y hy i) unread (cond (eqb x y) same-boat (cond (eqb (class-is x hx i) (class-is y hy i)) same_Class other-class)))
        ∙ go x y hx hy
      where
        read_is : (x : ℕ) → x ≤ length bs → eqb (its_word x) 0 ≡ is_unread (numbered bs x)
        read_is x h = ap (λ w. eqb w 0) (word-is x h) ∙ unread-word (numbered bs x)

        class-is : (x : ℕ) → x ≤ length bs → class_in (its_word x) ≡ (numbered bs x).class
        class-is x h = ap class_in (word-is x h) ∙ word-class (numbered bs x) (low x)

        go : (x y : ℕ) → x ≤ length bs → y ≤ length bs → by (eqb x y) x y ≡ telling bs x y
        go zero y hx hy = refl
        go (suc x) zero hx hy = rw (or-true (is_unread (numbered bs (suc x))))
        go (suc x) (suc y) hx hy = ap (λ t. by t (suc x) (suc y)) (numbers-agree x y (omega arith) (omega arith))

-- ---- line by line: a line's number is the next one exactly where no earlier line has its boat

module _ (lines : List Line) where
  abbrev count : ℕ → ℕ
  count i = length (boats (take i lines))

  count-grows : (i j : ℕ) → i ≤ j → j ≤ length lines → count i ≤ count j
  count-grows i zero le h = let e : i ≡ 0 = omega (arith, le) in omega (arith, ap count e)
  count-grows i (suc j) le h = elim (ℕ_discrete i (suc j)) [
    | yes e ↦ omega (arith, ap count e)
    | no n ↦ go (eqb (first_same lines j) j) (boats-more lines j (omega (arith, h))) (count-grows i j (omega (arith, le, n)) (omega (arith, h)))
  ]
    where
      go : (t : Bool) → count (suc j) ≡ cond t (suc (count j)) (count j) → count i ≤ count j → count i ≤ count (suc j)
      go true e less = omega (arith, e, less)
      go false e less = omega (arith, e, less)

  module _ (i : ℕ) (h : i < length lines) where
    -- the first line with its boat is its boat's first
    first-first : first_same lines (first_same lines i) ≡ first_same lines i
    first-first = ap (λ b. first_with b lines) (sym (first-has (line_at lines i).boat lines (omega (arith, h, first-le (line_at lines i).boat lines i h (agree-self (line_at lines i).boat)))))

    -- where an earlier line has its boat, its number is below the next one
    code_below : first_same lines i < i → code lines i ≤ count i
    code_below e =
        let f = first_same lines i in
        let low : f < length lines = omega (arith, e, h) in
        let more : count (suc f) ≡ suc (count f) = boats-more lines f low ∙ ap (λ t. cond t (suc (count f)) (count f)) (eq-eqb (first_same lines f) f first-first) in
        let later : count (suc f) ≤ count i = count-grows (suc f) i (omega (arith, e)) (omega (arith, h)) in
        omega (arith, code-earlier lines i h e, code-new lines f low first-first, more, later)

    -- a line with the next number adds its boat at the end
    pub next-new : code lines i ≡ suc (length (boats (take i lines))) → boats (take (suc i) lines) ≡ boats (take i lines) ++ ((line_at lines i).boat ∷ [])
    next-new e = boats-next lines i h ∙ ap (λ t. cond t (boats (take i lines) ++ ((line_at lines i).boat ∷ [])) (boats (take i lines))) (eq-eqb (first_same lines i) i first)
      where
        first : first_same lines i ≡ i
        first = elim (ℕ_discrete (first_same lines i) i) [
          | yes q ↦ q
          | no n ↦ absurd (omega (arith, e, code_below (omega (arith, n, first-le (line_at lines i).boat lines i h (agree-self (line_at lines i).boat)))))
        ]

    -- a line with another number adds none
    pub next_known : (code lines i ≡ suc (length (boats (take i lines))) → ⊥) → boats (take (suc i) lines) ≡ boats (take i lines)
    next_known n =
        boats-next lines i h ∙ ap (λ t. cond t (boats (take i lines) ++ ((line_at lines i).boat ∷ [])) (boats (take i lines))) (ne_eqb (first_same lines i) i (λ q. n (code-new lines i h q)))
