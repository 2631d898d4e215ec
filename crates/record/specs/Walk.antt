-- Laws of the walk over a record's entries: what `lines_from` is after one entry, and where its lines stand.
-- The code's loop and the theorems about records use these and never the definition's text.
use Rattle.std.specs.Prelude.{◌≡◌, refl, Bool, true, false, cond, List, [], ◌∷◌, ℕ, zero, suc, ◌+◌, ◌<◌, ◌≤◌, ltb, leb, eqb, length, drop, take}
use Rattle.std.proofs.Common.{sym, ap, subst, arith, length-drop, drop-drop}
use Rattle.std.proofs.Math.Option.{Option, none, some}
use borrow.Author.Tests.{leb-true, ltb-true, eqb-true}
use Rattle.meaning.specs.Outcome.{Outcome, refused, passed, ask, and_then}
use Rattle.meaning.specs.Writing.{line_at}
use Rattle.record.specs.Outcomes.{passed-inj, not-both, and_then-passed}
use Rattle.meaning.specs.Record.{Line, Entry, line, end, byte, line_of, wide, width, places_below, kind_allowed, time_allowed, is_line, entry_at, followed, lines_from}

-- ---- one entry

-- what a line that passed says of the bytes that it stands at
pub record LineStands (places before : ℕ) (s : List ℕ) (l : Line) : Type 0 where
  pub few : before < 4096
  pub long : width l ≤ length s
  pub command : is_line (byte s 0) ≡ true
  pub is : l ≡ line_of s
  pub below : places_below places l ≡ true
  pub kind : kind_allowed l.kind ≡ true
  pub time : time_allowed l.time ≡ true

abbrev pub Stands : ℕ → ℕ → List ℕ → Outcome Entry → Type 0
Stands places before s (refused number) = Unit {0}
Stands places before s (passed end) = (length s ≡ 1) × (byte s 0 ≡ 0)
Stands places before s (passed (line l)) = LineStands places before s l

module _ (places before : ℕ) (s : List ℕ) where
  stands-ask : (b : Bool) (number : ℕ) (rest : Outcome Entry) → (b ≡ true → Stands places before s rest) → Stands places before s (ask b number rest)
  stands-ask true number rest h = h refl
  stands-ask false number rest h = tt

  stands-cond : (b : Bool) (x y : Outcome Entry) → (b ≡ true → Stands places before s x) → Stands places before s y → Stands places before s (cond b x y)
  stands-cond true x y h k = h refl
  stands-cond false x y h k = k

  pub entry-stands : Stands places before s (entry_at places before s)
  unfolding entry_at
  entry-stands =
      stands-ask (ltb 0 (length s)) 3 _ (λ a.
      stands-cond (eqb (byte s 0) 0) _ _
      (λ z. stands-ask (eqb (length s) 1) 7 _ (λ o. (eqb-true _ _ o, eqb-true _ _ z)))
      (stands-ask (is_line (byte s 0)) 3 _ (λ t.
      stands-ask (ltb before 4096) 22 _ (λ f.
      stands-ask (leb (width (line_of s)) (length s)) 4 _ (λ n.
      stands-ask (places_below places (line_of s)) 5 _ (λ p.
      stands-ask (kind_allowed (line_of s).kind) 6 _ (λ k.
      stands-ask (time_allowed (line_of s).time) 28 _ (λ m.
      record { few = ltb-true _ _ f; long = leb-true _ _ n; command = t; is = refl; below = p; kind = k; time = m }))))))))

  pub line-stands-at : (l : Line) → entry_at places before s ≡ passed (line l) → LineStands places before s l
  line-stands-at l e = subst (Stands places before s) e entry-stands

-- ---- one step of the walk

module _ (bound places before : ℕ) (s : List ℕ) where
  pub step-refused : (number : ℕ) → entry_at places before s ≡ refused number → lines_from (suc bound) places before s ≡ refused number
  unfolding lines_from
  step-refused number e = rw e

  pub step_end : entry_at places before s ≡ passed end → lines_from (suc bound) places before s ≡ passed []
  unfolding lines_from
  step_end e = rw e

  pub step_line : (l : Line) → entry_at places before s ≡ passed (line l)
      → lines_from (suc bound) places before s ≡ and_then (lines_from bound places (suc before) (drop (width l) s)) (λ ls. passed (l ∷ ls))
  unfolding lines_from
  step_line l e = rw e

-- ---- where lines stand

-- the two kinds of walk that pass: over the end alone, or over a line and the rest
pub data Walk (bound places before : ℕ) (s : List ℕ) (ls : List Line) : Type 0 where
  over-end : entry_at places before s ≡ passed end → ls ≡ [] → Walk bound places before s ls
  over-line : (l : Line) (ms : List Line) → entry_at places before s ≡ passed (line l) → lines_from bound places (suc before) (drop (width l) s) ≡ passed ms → ls ≡ l ∷ ms → Walk bound places before s ls

pub walked : (bound places before : ℕ) (s : List ℕ) (ls : List Line) → lines_from (suc bound) places before s ≡ passed ls → Walk bound places before s ls
unfolding lines_from
walked bound places before s ls h = let (e, p, f) = and_then-passed (entry_at places before s) _ ls h in go e p f
  where
    go : (e : Entry) → entry_at places before s ≡ passed e → followed e (λ n. lines_from bound places (suc before) (drop n s)) ≡ passed ls → Walk bound places before s ls
    go end p f = over-end p (sym (passed-inj f))
    go (line l) p f = let (ms, q, r) = and_then-passed (lines_from bound places (suc before) (drop (width l) s)) _ ls f in over-line l ms p q (sym (passed-inj r))

pub none-zero : (places before : ℕ) (s : List ℕ) (ls : List Line) → lines_from zero places before s ≡ passed ls → ⊥
unfolding lines_from
none-zero places before s ls h = not-both h

-- a line has ten bytes at least
pub width-least : (l : Line) → 10 ≤ width l
width-least l = go l.time
  where
    go : (t : Option ℕ) → 10 ≤ wide t
    go none = omega arith
    go (some t) = omega arith

-- the bytes of lines, one after the other
abbrev pub widths : List Line → ℕ
widths [] = 0
widths (l ∷ ls) = width l + widths ls

-- no more than 4,096 lines: question 22
pub lines-many : (bound places before : ℕ) (s : List ℕ) (ls : List Line) → before ≤ 4096 → lines_from bound places before s ≡ passed ls → before + length ls ≤ 4096
lines-many zero places before s ls low h = absurd (none-zero places before s ls h)
lines-many (suc bound) places before s ls low h = go (walked bound places before s ls h) (λ n. lines-many bound places (suc before) (drop n s))
  where
    go : Walk bound places before s ls
        → ((n : ℕ) (ms : List Line) → suc before ≤ 4096 → lines_from bound places (suc before) (drop n s) ≡ passed ms → suc before + length ms ≤ 4096)
        → before + length ls ≤ 4096
    go (over-end p e) ih = omega (arith, ap length e, low)
    go (over-line l ms p q e) ih = omega (arith, ap length e, ih (width l) ms (omega (arith, (line-stands-at places before s l p).few)) q)

-- the bytes of all lines and one for the end
pub lines-length : (bound places before : ℕ) (s : List ℕ) (ls : List Line) → lines_from bound places before s ≡ passed ls → length s ≡ 1 + widths ls
lines-length zero places before s ls h = absurd (none-zero places before s ls h)
lines-length (suc bound) places before s ls h = go (walked bound places before s ls h) (λ n. lines-length bound places (suc before) (drop n s))
  where
    go : Walk bound places before s ls
        → ((n : ℕ) (ms : List Line) → lines_from bound places (suc before) (drop n s) ≡ passed ms → length (drop n s) ≡ 1 + widths ms)
        → length s ≡ 1 + widths ls
    go (over-end p e) ih = omega (arith, (subst (Stands places before s) p (entry-stands places before s)).0, ap widths e)
    go (over-line l ms p q e) ih = omega (arith, (line-stands-at places before s l p).long, ap widths e, ih (width l) ms q, length-drop (width l) s)

-- line i stands after the bytes of those before it, and passes its questions
pub lines_at : (bound places before : ℕ) (s : List ℕ) (ls : List Line) → lines_from bound places before s ≡ passed ls → (i : ℕ) → i < length ls
    → LineStands places (before + i) (drop (widths (take i ls)) s) (line_at ls i)
lines_at zero places before s ls h i k = absurd (none-zero places before s ls h)
lines_at (suc bound) places before s ls h i k = go (walked bound places before s ls h) (λ n. lines_at bound places (suc before) (drop n s)) i k
  where
    none_before : (x : List Line) → widths (take 0 x) ≡ 0
    none_before [] = refl
    none_before (y ∷ ys) = refl

    go : Walk bound places before s ls
        → ((n : ℕ) (ms : List Line) → lines_from bound places (suc before) (drop n s) ≡ passed ms → (j : ℕ) → j < length ms → LineStands places (suc before + j) (drop (widths (take j ms)) (drop n s)) (line_at ms j))
        → (j : ℕ) → j < length ls → LineStands places (before + j) (drop (widths (take j ls)) s) (line_at ls j)
    go (over-end p e) ih j less = absurd (omega (arith, ap length e, less))
    go (over-line l ms p q e) ih zero less =
        let here : before ≡ before + 0 = omega arith in
        let stands = line-stands-at places before s l p in
        subst (λ x. LineStands places (before + 0) (drop (widths (take 0 x)) s) (line_at x 0)) (sym e)
        (subst (λ n. LineStands places n s l) here stands)
    go (over-line l ms p q e) ih (suc j) less =
        let later : suc before + j ≡ before + suc j = omega arith in
        subst (λ x. LineStands places (before + suc j) (drop (widths (take (suc j) x)) s) (line_at x (suc j))) (sym e)
        (subst (λ t. LineStands places (before + suc j) t (line_at ms j)) (drop-drop (widths (take j ms)) (width l) s)
        (subst (λ n. LineStands places n (drop (widths (take j ms)) (drop (width l) s)) (line_at ms j)) later
        (ih (width l) ms q j (omega (arith, ap length e, less)))))
