-- Boats as numbers 1, 2, … in order of first appearance: the number of each line's boat, and the boat of each number.
-- Claimed: `code-low` and `code-compared` (comparing two lines' numbers tells what comparing their boats tells), for the states;
-- `code-earlier` and `code-new` (the number of an earlier line with the boat, else the next one), for the code that numbers the lines; `codes-length`, for reading them back.
use Rattle.std.specs.Prelude.{◌≡◌, refl, Bool, true, false, cond, ◌↔◌, ◌⊎◌, length, get_or, take}
use Rattle.std.proofs.Common.{sym, ◌∙◌, subst, inl, inr, ⊎_elim, arith, get_or-take}
use Rattle.std.proofs.Math.Path.{ap}
use Rattle.std.proofs.lemmas.Bool.{false≢true}
use mathlib.Core.List.Memᴰ
use mathlib.Core.List.{List, [], ◌∷◌, ◌++◌, map, append_assoc, append-nil}
use Prim.Native.Nat.{ℕ, zero, suc, ◌<◌}
use Rattle.std.proofs.Math.ListN.{drop, length-map}
use Rattle.std.proofs.Math.Seq.{split_at, length-take-le}
use Rattle.meaning.specs.Record.{Boat, Line, agree, among, boats_after, boats}
use Rattle.meaning.specs.Writing.{no_line, line_at}
use Rattle.meaning.specs.Language.{compared}
use Rattle.meaning.specs.Count.{first_with, first_same}
use Rattle.lists.specs.Listed.{◌∈◌, none_in}
use Rattle.boats.proofs.Boats.{agree_same, agree-self, noted, after-append}
use Rattle.boats.specs.Codes.{index_in, codes, numbered, telling}

-- ---- where a boat stands

pub same-agree : {a b : Boat} → a ≡ b → agree a b ≡ true
same-agree {a} e = subst (λ x. agree a x ≡ true) e (agree-self a)

pub among_in : (b : Boat) (bs : List Boat) → (among b bs ≡ true) ↔ (b ∈ bs)
among_in b [] = (λ h. absurd (false≢true h), λ m. none_in m)
among_in b (c ∷ bs) = go (agree b c) refl (among_in b bs)
  where
    go : (t : Bool) → agree b c ≡ t → (among b bs ≡ true) ↔ (b ∈ bs) → (cond t true (among b bs) ≡ true) ↔ (b ∈ (c ∷ bs))
    go true e later = (λ h. Memᴰ.head (agree_same b c e), λ m. refl)
    go false e later =
        (λ h. Memᴰ.tail (later.0 h), λ m. ⊎_elim (λ q. absurd (false≢true (sym e ∙ same-agree q))) later.1 (Memᴰ.cases_cons m))

index_at : (bs : List Boat) (b d : Boat) → b ∈ bs → (get_or bs (index_in bs b) d ≡ b) × (index_in bs b < length bs)
index_at [] b d m = none_in m
index_at (c ∷ bs) b d m = go (agree b c) refl (index_at bs b d) (Memᴰ.cases_cons m)
  where
    go : (t : Bool) → agree b c ≡ t → (b ∈ bs → (get_or bs (index_in bs b) d ≡ b) × (index_in bs b < length bs)) → (b ≡ c) ⊎ (b ∈ bs)
        → (get_or (c ∷ bs) (cond t 0 (suc (index_in bs b))) d ≡ b) × (cond t 0 (suc (index_in bs b)) < suc (length bs))
    go true e later m = (sym (agree_same b c e), omega arith)
    go false e later (inl q) = absurd (false≢true (sym e ∙ same-agree q))
    go false e later (inr m) = let r = later m in (r.0, omega (arith, r.1))

index-new : (seen more : List Boat) (b : Boat) → (b ∈ seen → ⊥) → index_in (seen ++ (b ∷ more)) b ≡ length seen
index-new [] more b new = ap (λ t. cond t 0 (suc (index_in more b))) (agree-self b)
index-new (c ∷ seen) more b new = go (agree b c) refl (index-new seen more b (λ m. new (Memᴰ.tail m)))
  where
    go : (t : Bool) → agree b c ≡ t → index_in (seen ++ (b ∷ more)) b ≡ length seen → cond t 0 (suc (index_in (seen ++ (b ∷ more)) b)) ≡ suc (length seen)
    go true e later = absurd (new (Memᴰ.head (agree_same b c e)))
    go false e later = ap suc later

-- ---- the different boats

noted_in : (seen : List Boat) (x b : Boat) → (b ∈ noted seen x) ↔ ((b ∈ seen) ⊎ (b ≡ x))
noted_in seen x b = go (among x seen) refl
  where
    go : (t : Bool) → among x seen ≡ t → (b ∈ cond t seen (seen ++ (x ∷ []))) ↔ ((b ∈ seen) ⊎ (b ≡ x))
    go true e = (λ m. inl m, λ c. ⊎_elim (λ m. m) (λ q. subst (◌∈ seen) (sym q) ((among_in x seen).0 e)) c)
    go false e = (
      λ m. ⊎_elim (λ i. inl i) (λ i. inr (Memᴰ.eq_of_singleton i)) (Memᴰ.append_cases seen m),
      λ c. ⊎_elim (λ m. Memᴰ.append_left (x ∷ []) m) (λ q. Memᴰ.append_right seen (Memᴰ.head q)) c,
    )

noted-new : (seen : List Boat) (x : Boat) → (x ∈ seen → ⊥) → noted seen x ≡ seen ++ (x ∷ [])
noted-new seen x new = go (among x seen) refl
  where
    go : (t : Bool) → among x seen ≡ t → cond t seen (seen ++ (x ∷ [])) ≡ seen ++ (x ∷ [])
    go true e = absurd (new ((among_in x seen).0 e))
    go false e = refl

-- a line of the list has the boat
abbrev Has : List Line → Boat → Type 0
Has ls b = (i : ℕ) × (i < length ls) × (b ≡ (line_at ls i).boat)

after-in : (ls : List Line) (seen : List Boat) (b : Boat) → (b ∈ boats_after seen ls) ↔ ((b ∈ seen) ⊎ Has ls b)
unfolding boats_after
after-in [] seen b = (λ m. inl m, λ c. ⊎_elim (λ m. m) (λ x. absurd (omega (arith, x.1))) c)
after-in (l ∷ ls) seen b = go (after-in ls (noted seen l.boat) b) (noted_in seen l.boat b)
  where
    go : (b ∈ boats_after (noted seen l.boat) ls) ↔ ((b ∈ noted seen l.boat) ⊎ Has ls b) → (b ∈ noted seen l.boat) ↔ ((b ∈ seen) ⊎ (b ≡ l.boat))
        → (b ∈ boats_after (noted seen l.boat) ls) ↔ ((b ∈ seen) ⊎ Has (l ∷ ls) b)
    go later here = (λ m. ⊎_elim (λ i. ⊎_elim (λ j. inl j) (λ q. inr (0, omega arith, q)) (here.0 i)) (λ x. inr (suc x.0, omega (arith, x.1), x.2)) (later.0 m), back)
      where
        back : (b ∈ seen) ⊎ Has (l ∷ ls) b → b ∈ boats_after (noted seen l.boat) ls
        back (inl m) = later.1 (inl (here.1 (inl m)))
        back (inr (zero, h, q)) = later.1 (inl (here.1 (inr q)))
        back (inr (suc i, h, q)) = later.1 (inr (i, omega (arith, h), q))

-- each of the different boats is that of a line
boats-of : (lines : List Line) (b : Boat) → b ∈ boats lines → (i : ℕ) × (i < length lines) × (b ≡ (line_at lines i).boat)
boats-of lines b m = ⊎_elim none_in (λ x. x) ((after-in lines [] b).0 m)

after_more : (ls : List Line) (seen : List Boat) → (more : List Boat) × (boats_after seen ls ≡ seen ++ more)
unfolding boats_after
after_more [] seen = ([], sym (append-nil seen))
after_more (l ∷ ls) seen = go (among l.boat seen) (after_more ls)
  where
    go : (t : Bool) → ((s : List Boat) → (more : List Boat) × (boats_after s ls ≡ s ++ more))
        → (more : List Boat) × (boats_after (cond t seen (seen ++ (l.boat ∷ []))) ls ≡ seen ++ more)
    go true later = later seen
    go false later = let (more, e) = later (seen ++ (l.boat ∷ [])) in (l.boat ∷ more, e ∙ append_assoc seen (l.boat ∷ []) more)

-- ---- the first line with a boat

first-none : (b : Boat) (ls : List Line) (j : ℕ) → j < first_with b ls → b ≡ (line_at ls j).boat → ⊥
unfolding first_with
first-none b [] j h q = omega (arith, h)
first-none b (l ∷ ls) j h q = go (agree b l.boat) refl j h q (first-none b ls)
  where
    go : (t : Bool) → agree b l.boat ≡ t → (j : ℕ) → j < first_with b (l ∷ ls) → b ≡ (line_at (l ∷ ls) j).boat → ((j : ℕ) → j < first_with b ls → b ≡ (line_at ls j).boat → ⊥) → ⊥
    go true e j h q later = omega (arith, rw (e, first_with) at h)
    go false e zero h q later = false≢true (sym e ∙ same-agree q)
    go false e (suc j) h q later = later j (omega (arith, rw (e, first_with) at h)) q

pub first-has : (b : Boat) (ls : List Line) → first_with b ls < length ls → b ≡ (line_at ls (first_with b ls)).boat
unfolding first_with
first-has b [] h = absurd (omega (arith, h))
first-has b (l ∷ ls) h = go (agree b l.boat) refl h (first-has b ls)
  where
    go : (t : Bool) → agree b l.boat ≡ t → first_with b (l ∷ ls) < suc (length ls) → (first_with b ls < length ls → b ≡ (line_at ls (first_with b ls)).boat) → b ≡ (line_at (l ∷ ls) (first_with b (l ∷ ls))).boat
    go true e h later = rw (e, first_with) (agree_same b l.boat e)
    go false e h later = rw (e, first_with) (later (omega (arith, rw (e, first_with) at h)))

-- ---- the numbers of a record's lines

pub map_at : (f : Line → ℕ) (ls : List Line) (i : ℕ) → i < length ls → get_or (map f ls) i 0 ≡ f (line_at ls i)
map_at f [] i h = absurd (omega (arith, h))
map_at f (l ∷ ls) zero h = refl
map_at f (l ∷ ls) (suc i) h = map_at f ls i (omega (arith, h))

module _ (lines : List Line) where
  abbrev pub code : ℕ → ℕ
  code i = get_or (codes lines) i 0

  pub codes-length : length (codes lines) ≡ length lines
  unfolding codes
  codes-length = length-map lines _

  code_at : (i : ℕ) → i < length lines → code i ≡ suc (index_in (boats lines) (line_at lines i).boat)
  unfolding codes
  code_at = map_at (λ l. suc (index_in (boats lines) l.boat)) lines

  module _ (i : ℕ) (h : i < length lines) where
    abbrev its : Boat
    its = (line_at lines i).boat

    its-index : (get_or (boats lines) (index_in (boats lines) its) no_line.boat ≡ its) × (index_in (boats lines) its < length (boats lines))
    its-index = index_at (boats lines) its no_line.boat ((after-in lines [] its).1 (inr (i, h, refl)))

    pub code-low : code i < suc (length (boats lines))
    code-low = omega (arith, code_at i h, its-index.1)

    numbered-code : numbered (boats lines) (code i) ≡ its
    numbered-code = ap (numbered (boats lines)) (code_at i h) ∙ its-index.0

    -- the number of an earlier line with its boat
    pub code-earlier : first_same lines i < i → code i ≡ code (first_same lines i)
    code-earlier e =
        let first : first_same lines i < length lines = omega arith in
        code_at i h ∙ (ap (λ b. suc (index_in (boats lines) b)) (first-has its lines first) ∙ sym (code_at (first_same lines i) first))

    -- else one more than the different boats before it
    pub code-new : first_same lines i ≡ i → code i ≡ suc (length (boats (take i lines)))
    unfolding boats_after
    code-new e =
        let seen = boats (take i lines) in
        let (more, all) = after_more (drop (suc i) lines) (noted seen its) in
        let whole : boats lines ≡ seen ++ (its ∷ more) =
        ap boats (split_at lines i no_line h)
        ∙ (after-append (take i lines) (line_at lines i ∷ drop (suc i) lines) []
        ∙ (all ∙ (ap (◌++ more) (noted-new seen its new) ∙ append_assoc seen (its ∷ []) more))) in
        code_at i h ∙ (ap (λ bs. suc (index_in bs its)) whole ∙ ap suc (index-new seen more its new))
      where
        new : its ∈ boats (take i lines) → ⊥
        new m = earlier (boats-of (take i lines) its m)
          where
            earlier : Has (take i lines) its → ⊥
            earlier (j, j<, q) =
                let before : j < i = omega (arith, length-take-le i lines (omega arith)) in
                first-none its lines j (omega arith) (q ∙ ap (λ n. n.boat) (get_or-take i lines j no_line before))

  -- two numbers compare as the lines' boats do
  pub code-compared : (i j : ℕ) → i < length lines → j < length lines → telling (boats lines) (code i) (code j) ≡ compared (line_at lines i).boat (line_at lines j).boat
  code-compared i j hi hj = λ t. compared (numbered-code i hi t) (numbered-code j hj t)
