-- Records without times, as document 01 reads them, and the theorem that they are read the same now: `as_before`.
-- `lines_before` and `read_before` are 01's walk alone: 02 and 00, ten bytes a line, at most 40,964 bytes. Nothing else cites them. Assumes nothing.
use Rattle.std.specs.Prelude.{◌≡◌, refl, Bool, true, false, cond, List, [], ◌∷◌, ℕ, zero, suc, ◌+◌, ◌*◌, ◌<◌, ◌≤◌, ltb, leb, eqb, length, drop}
use Rattle.std.proofs.Common.{sym, ap, ◌∙◌, arith, length-drop, leb-true, eqb-true, le-leb, lt-ltb}
use Rattle.std.proofs.Math.Option.{none}
use Rattle.meaning.specs.Outcome.{Outcome, refused, passed, ask, and_then}
use Rattle.meaning.specs.Record.{Line, Day, line, end, byte, two, three, line_of, places_below, kind_allowed, places_whole, entry_at, lines_from, read_record}
use Rattle.record.specs.Outcomes.{passed-inj, not-both, ask-passed, and_then-passed}
use Rattle.record.specs.Walk.{step_end, step_line}
use Rattle.record.specs.Whole.{of-whole}

-- a line of ten bytes
abbrev pub line_before : List ℕ → Line
line_before s = record { from = two s 1; kind = byte s 3; boat = record { class = byte s 4; sail = three s 5 }; to = two s 8; time = none }

-- questions 3 to 7, entry by entry
unfoldable pub lines_before : ℕ → ℕ → List ℕ → Outcome (List Line)
lines_before zero places s = refused 3
lines_before (suc bound) places s =
    ask (ltb 0 (length s)) 3
    (cond (eqb (byte s 0) 0x00) (ask (eqb (length s) 1) 7 (passed []))
    (ask (eqb (byte s 0) 0x02) 3
    (ask (leb 10 (length s)) 4
    (ask (places_below places (line_before s)) 5
    (ask (kind_allowed (byte s 3)) 6
    (and_then (lines_before bound places (drop 10 s)) (λ ls. passed (line_before s ∷ ls))))))))

-- questions 1 to 7
unfoldable pub read_before : List ℕ → Outcome Day
read_before s =
    ask (leb (length s) 40964) 1
    (ask (places_whole s) 2
    (and_then (lines_before (length s) (two s 1) (drop 3 s)) (λ ls. passed (record { places = two s 1; lines = ls }))))

-- ---- what passed 01's walk

-- a cond that passed: by its first case or by its second
by-case : {A : Type 0} (b : Bool) (x y : Outcome A) (a : A) (P : Type 0) → cond b x y ≡ passed a → (b ≡ true → x ≡ passed a → P) → (b ≡ false → y ≡ passed a → P) → P
by-case true x y a P h f g = f refl h
by-case false x y a P h f g = g refl h

-- the entries of the walk, as they are asked now
entry-before : (places before : ℕ) (s : List ℕ) → before < 4096 → byte s 0 ≡ 2 → 10 ≤ length s → places_below places (line_before s) ≡ true → kind_allowed (byte s 3) ≡ true
    → (entry_at places before s ≡ passed (line (line_before s))) × (line_of s ≡ line_before s)
unfolding entry_at
entry-before places before s few b n p k =
    let pos : ltb 0 (length s) ≡ true = lt-ltb 0 (length s) (omega arith) in
    (rw (pos, b, lt-ltb before 4096 few, le-leb 10 (length s) n, p, k) refl, rw b refl)

end_before : (places before : ℕ) (s : List ℕ) → length s ≡ 1 → byte s 0 ≡ 0 → entry_at places before s ≡ passed end
unfolding entry_at
end_before places before s n b = rw (n, b) refl

-- a walk that passed went over the end alone, or over a line and the rest
pub data Passed (bound places : ℕ) (s : List ℕ) (ls : List Line) : Type 0 where
  at-end : length s ≡ 1 → byte s 0 ≡ 0 → ls ≡ [] → Passed bound places s ls
  at-line : (ms : List Line) → byte s 0 ≡ 2 → 10 ≤ length s → places_below places (line_before s) ≡ true → kind_allowed (byte s 3) ≡ true
      → lines_before bound places (drop 10 s) ≡ passed ms → ls ≡ line_before s ∷ ms → Passed bound places s ls

passed-by : (bound places : ℕ) (s : List ℕ) (ls : List Line) → lines_before (suc bound) places s ≡ passed ls → Passed bound places s ls
unfolding lines_before
passed-by bound places s ls h =
    let (a, g) = ask-passed (ltb 0 (length s)) 3 _ ls h in
    by-case (eqb (byte s 0) 0) _ _ ls (Passed bound places s ls) g
    (λ z e. let (o, f) = ask-passed (eqb (length s) 1) 7 (passed []) ls e in at-end (eqb-true _ _ o) (eqb-true _ _ z) (sym (passed-inj f)))
    (λ z e.
    let (b, f₁) = ask-passed (eqb (byte s 0) 2) 3 _ ls e in
    let (n, f₂) = ask-passed (leb 10 (length s)) 4 _ ls f₁ in
    let (p, f₃) = ask-passed (places_below places (line_before s)) 5 _ ls f₂ in
    let (k, f₄) = ask-passed (kind_allowed (byte s 3)) 6 _ ls f₃ in
    let (ms, q, r) = and_then-passed (lines_before bound places (drop 10 s)) _ ls f₄ in
    at-line ms (eqb-true _ _ b) (leb-true _ _ n) p k q (sym (passed-inj r)))

none_passed : (places : ℕ) (s : List ℕ) (ls : List Line) → lines_before zero places s ≡ passed ls → ⊥
unfolding lines_before
none_passed places s ls h = not-both h

-- ten bytes for each line, and one for the end
lines-ten : (bound places : ℕ) (s : List ℕ) (ls : List Line) → lines_before bound places s ≡ passed ls → length s ≡ 1 + 10 * length ls
lines-ten zero places s ls h = absurd (none_passed places s ls h)
lines-ten (suc bound) places s ls h = go (passed-by bound places s ls h) (lines-ten bound places (drop 10 s))
  where
    go : Passed bound places s ls → ((ms : List Line) → lines_before bound places (drop 10 s) ≡ passed ms → length (drop 10 s) ≡ 1 + 10 * length ms) → length s ≡ 1 + 10 * length ls
    go (at-end n b e) ih = omega (arith, n, ap length e)
    go (at-line ms b n p k q e) ih = omega (arith, n, ap length e, ih ms q, length-drop 10 s)

-- ---- read the same now

walk_same : (bound places before : ℕ) (s : List ℕ) (ls : List Line) → before + length ls ≤ 4096 → lines_before bound places s ≡ passed ls → lines_from bound places before s ≡ passed ls
walk_same zero places before s ls few h = absurd (none_passed places s ls h)
walk_same (suc bound) places before s ls few h = go (passed-by bound places s ls h) (walk_same bound places (suc before) (drop 10 s))
  where
    go : Passed bound places s ls → ((ms : List Line) → suc before + length ms ≤ 4096 → lines_before bound places (drop 10 s) ≡ passed ms → lines_from bound places (suc before) (drop 10 s) ≡ passed ms)
        → lines_from (suc bound) places before s ≡ passed ls
    go (at-end n b e) ih = step_end bound places before s (end_before places before s n b) ∙ ap passed (sym e)
    go (at-line ms b n p k q e) ih =
        let rest = ih ms (omega (arith, few, ap length e)) q in
        step_line bound places before s (line_before s) (entry-before places before s (omega (arith, few, ap length e)) b n p k).0
        ∙ (ap (λ x. and_then x (λ ls. passed (line_before s ∷ ls))) rest ∙ ap passed (sym e))

-- a record that passed before passes, and says the same
pub as_before : (s : List ℕ) (day : Day) → read_before s ≡ passed day → read_record s ≡ passed day
unfolding read_before
as_before s day h =
    let (a, g) = ask-passed (leb (length s) 40964) 1 _ day h in
    let (b, f) = ask-passed (places_whole s) 2 _ day g in
    let (ls, w, e) = and_then-passed (lines_before (length s) (two s 1) (drop 3 s)) _ day f in
    let many = lines-ten (length s) (two s 1) (drop 3 s) ls w in
    of-whole s (two s 1) ls (record {
      short = omega (arith, leb-true (length s) 40964 a);
      head = b;
      count = refl;
      walk = walk_same (length s) (two s 1) 0 (drop 3 s) ls (omega (arith, many, length-drop 3 s, leb-true (length s) 40964 a)) w;
    })
    ∙ e
