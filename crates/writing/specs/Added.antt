-- A begun record has its places and no lines; a line that is added is read back as added, with its time or untimed, after all earlier ones.
-- Theorems: `begun-reads`, `added-reads`, `earlier-read-back`, `added-read-back`; all about the definitions that the promises cite.
use Rattle.std.specs.Prelude.{◌≡◌, refl, Bool, cond, false, ◌&&◌, ℕ, zero, suc, ◌+◌, ◌*◌, ◌-◌, ◌/◌, ◌%◌, ◌<◌, ◌≤◌, leb, eqb, length, get_or, take, drop}
use Rattle.std.proofs.Common.{sym, ap, ◌∙◌, subst, div-add-mod', arith, length-drop, take_at, take-suc, drop_at, get_or-take, length-take-le}
use Rattle.std.proofs.Math.Bool.{true}
use mathlib.Core.List.{List, [], ◌∷◌, ◌++◌, append_assoc}
use Rattle.std.proofs.Math.Option.{Option, none, some}
use Rattle.std.proofs.Math.Dec.{ltb}
use Rattle.std.proofs.Math.ListN.{length-append, get_or-append}
use Rattle.std.proofs.lemmas.List.{take-append-le, drop-append-le}
use Rattle.std.proofs.Math.Seq.{get_or-append_seam}
use borrow.Author.Tests.{leb-true, ltb-true, le-leb, lt-ltb, ne_eqb}
use Rattle.meaning.specs.Outcome.{passed, and_then}
use Rattle.meaning.specs.Record.{Line, Day, line, end, byte, two, four, time_of, line_of, wide, width, command_of, time_bytes, bytes_of}
use Rattle.meaning.specs.Record.{count_allowed, places_below, kind_allowed, time_allowed, is_line, entry_at, lines_from, places_whole, read_record}
use Rattle.meaning.specs.Writing.{written, empty_record, begin_of, begin_after, add_of, add_after, no_line, read_of}
use Rattle.record.specs.Outcomes.{passed-inj, false-true, ask-passed, and_then-passed, and-true, true-and}
use Rattle.record.specs.Walk.{LineStands, Stands, entry-stands, line-stands-at, step_end, step_line, none-zero, Walk, over-end, over-line, walked, width-least, widths, lines-length}
use Rattle.record.specs.Whole.{whole_of, of-whole, record-length}

-- ---- a walk goes by its first bytes

-- a line's bytes, whatever comes after them
pub line-of-front : (s t : List ℕ) → take (width (line_of s)) s ≡ take (width (line_of s)) t → line_of s ≡ line_of t
line-of-front s t e =
    let n = width (line_of s) in
    let least = width-least (line_of s) in
    let at : (i : ℕ) → i < n → byte s i ≡ byte t i = λ i h. sym (get_or-take n s i 0 h) ∙ (ap (λ x. get_or x i 0) e ∙ get_or-take n t i 0 h) in
    let low : (i : ℕ) → i < 10 → byte s i ≡ byte t i = λ i h. at i (omega (arith, h, least)) in
    let time : time_of s ≡ time_of t = times (eqb (byte s 0) 3) at ∙ ap (λ x. cond (eqb x 3) (some (four t 10)) none) (low 0 (omega arith)) in
    λ i. record {
      from = low 1 (omega arith) i * 256 + low 2 (omega arith) i;
      kind = low 3 (omega arith) i;
      boat = record { class = low 4 (omega arith) i; sail = (low 5 (omega arith) i * 256 + low 6 (omega arith) i) * 256 + low 7 (omega arith) i };
      to = low 8 (omega arith) i * 256 + low 9 (omega arith) i;
      time = time i;
    }
  where
    times : (b : Bool) → ((i : ℕ) → i < wide (cond b (some (four s 10)) none) → byte s i ≡ byte t i) → cond b (some (four s 10)) none ≡ cond b (some (four t 10)) none
    times true h = ap some (λ i. (h 10 (omega arith) i * 256 + h 11 (omega arith) i) * 65536 + (h 12 (omega arith) i * 256 + h 13 (omega arith) i))
    times false h = refl

-- the byte of a line is not that of the end
no_end : (b : ℕ) → is_line b ≡ true → eqb b 0 ≡ false
no_end zero h = absurd (false-true h)
no_end (suc b) h = ne_eqb (suc b) 0 (λ e. omega (arith, e))

-- where a line stands, the entry is that line
module _ (places before : ℕ) (s : List ℕ) where
  entry-there : LineStands places before s (line_of s) → entry_at places before s ≡ passed (line (line_of s))
  unfolding entry_at
  entry-there st =
      let pos : ltb 0 (length s) ≡ true = lt-ltb 0 (length s) (omega (arith, st.long, width-least (line_of s))) in
      rw (pos, no_end (byte s 0) st.command, st.command, lt-ltb before 4096 st.few, le-leb _ _ st.long, st.below, st.kind, st.time)

  pub entry-line : (l : Line) → LineStands places before s l → entry_at places before s ≡ passed (line l)
  entry-line l st = entry-there (subst (LineStands places before s) st.is st) ∙ ap (λ k. passed (line k)) (sym st.is)

-- more room for entries changes nothing where the walk passed
pub walk_more : (bound more places before : ℕ) (s : List ℕ) (ls : List Line) → bound ≤ more → lines_from bound places before s ≡ passed ls → lines_from more places before s ≡ passed ls
walk_more zero more places before s ls h w = absurd (none-zero places before s ls w)
walk_more (suc bound) zero places before s ls h w = absurd (omega (arith, h))
walk_more (suc bound) (suc more) places before s ls h w = go (walked bound places before s ls w) (λ n. walk_more bound more places (suc before) (drop n s))
  where
    go : Walk bound places before s ls
        → ((n : ℕ) (ms : List Line) → bound ≤ more → lines_from bound places (suc before) (drop n s) ≡ passed ms → lines_from more places (suc before) (drop n s) ≡ passed ms)
        → lines_from (suc more) places before s ≡ passed ls
    go (over-end p e) ih = step_end more places before s p ∙ ap passed (sym e)
    go (over-line l ms p q e) ih =
        step_line more places before s l p ∙ (ap (λ x. and_then x (λ ns. passed (l ∷ ns))) (ih (width l) ms (omega (arith, h)) q) ∙ ap passed (sym e))

-- ---- other bytes in the end byte's place

nil-of : (x : List ℕ) → length x ≡ 0 → x ≡ []
nil-of [] h = refl
nil-of (a ∷ x) h = absurd (omega (arith, h))

-- a line that stands before the end byte stands before other bytes too
line_before : (places before : ℕ) (x t : List ℕ) (z : ℕ) (l : Line) → width l ≤ length x → LineStands places before (x ++ (z ∷ [])) l → LineStands places before (x ++ t) l
line_before places before x t z l n st =
    let least = width-least l in
    let fronts : take (width l) (x ++ (z ∷ [])) ≡ take (width l) (x ++ t) = take-append-le (width l) x (z ∷ []) n ∙ sym (take-append-le (width l) x t n) in
    let same : line_of (x ++ (z ∷ [])) ≡ line_of (x ++ t) = line-of-front (x ++ (z ∷ [])) (x ++ t) (subst (λ (k : Line). take (width k) (x ++ (z ∷ [])) ≡ take (width k) (x ++ t)) st.is fronts) in
    let first : byte (x ++ t) 0 ≡ byte (x ++ (z ∷ [])) 0 = get_or-append x t 0 0 (omega (arith, n, least)) ∙ sym (get_or-append x (z ∷ []) 0 0 (omega (arith, n, least))) in
    record {
      few = st.few;
      long = omega (arith, n, length-append x t);
      command = ap is_line first ∙ st.command;
      is = st.is ∙ same;
      below = st.below;
      kind = st.kind;
      time = st.time;
    }

-- the lines of t, where `all` lines stand before them
module _ (places all : ℕ) (t : List ℕ) (after : ℕ) (ms : List Line) (w : lines_from after places all t ≡ passed ms) where
  -- the lines of t come after those that stood before the end byte
  pub walk-on : (bound more before : ℕ) (x : List ℕ) (z : ℕ) (ls : List Line)
      → bound + after ≤ more → before + length ls ≡ all → lines_from bound places before (x ++ (z ∷ [])) ≡ passed ls → lines_from more places before (x ++ t) ≡ passed (ls ++ ms)
  walk-on zero more before x z ls h k v = absurd (none-zero places before (x ++ (z ∷ [])) ls v)
  walk-on (suc bound) zero before x z ls h k v = absurd (omega (arith, h))
  walk-on (suc bound) (suc more) before x z ls h k v = go (walked bound places before (x ++ (z ∷ [])) ls v) (λ n. walk-on bound more (suc before) (drop n x) z)
    where
      go : Walk bound places before (x ++ (z ∷ [])) ls
          → ((n : ℕ) (ns : List Line) → bound + after ≤ more → suc before + length ns ≡ all → lines_from bound places (suc before) (drop n x ++ (z ∷ [])) ≡ passed ns
          → lines_from more places (suc before) (drop n x ++ t) ≡ passed (ns ++ ms))
          → lines_from (suc more) places before (x ++ t) ≡ passed (ls ++ ms)
      go (over-end p e) ih =
          let st = subst (Stands places before (x ++ (z ∷ []))) p (entry-stands places before (x ++ (z ∷ []))) in
          let nothing : x ≡ [] = nil-of x (omega (arith, st.0, length-append x (z ∷ []))) in
          let here : before ≡ all = omega (arith, k, ap length e) in
          ap (λ y. lines_from (suc more) places before (y ++ t)) nothing
          ∙ (ap (λ n. lines_from (suc more) places n t) here
          ∙ (walk_more after (suc more) places all t ms (omega (arith, h)) w ∙ ap (λ ns. passed (ns ++ ms)) (sym e)))
      go (over-line l ns p q e) ih =
          let n : width l ≤ length x = omega (arith, lines-length bound places (suc before) (drop (width l) (x ++ (z ∷ []))) ns q, length-drop (width l) (x ++ (z ∷ [])), length-append x (z ∷ [])) in
          let rest = ih (width l) ns (omega (arith, h)) (omega (arith, k, ap length e)) (subst (λ y. lines_from bound places (suc before) y ≡ passed ns) (drop-append-le (width l) x (z ∷ []) n) q) in
          let stands = line_before places before x t z l n (line-stands-at places before (x ++ (z ∷ [])) l p) in
          step_line more places before (x ++ t) l (entry-line places before (x ++ t) l stands)
          ∙ (ap (λ y. and_then (lines_from more places (suc before) y) (λ ks. passed (l ∷ ks))) (drop-append-le (width l) x t n)
          ∙ (ap (λ y. and_then y (λ ks. passed (l ∷ ks))) rest ∙ ap (λ ks. passed (ks ++ ms)) (sym e)))

-- ---- numbers in bytes

pub two_back : (n : ℕ) → n / 256 * 256 + n % 256 ≡ n
two_back n = div-add-mod' n 256

pub three_back : (n : ℕ) → (n / 65536 * 256 + n / 256 % 256) * 256 + n % 256 ≡ n
three_back n = omega arith

pub four-back : (n : ℕ) → (n / 16777216 * 256 + n / 65536 % 256) * 65536 + (n / 256 % 256 * 256 + n % 256) ≡ n
four-back n = omega arith

-- a line's bytes give the line, with its time or untimed
pub line-back : (l : Line) (t : List ℕ) → line_of (bytes_of l ++ t) ≡ l
line-back l t = λ i. record {
  from = two_back l.from i;
  kind = l.kind;
  boat = record { class = l.boat.class; sail = three_back l.boat.sail i };
  to = two_back l.to i;
  time = time-back l.time i;
}
  where
    time-back : (m : Option ℕ) → time_of (bytes_of (record { from = l.from; kind = l.kind; boat = l.boat; to = l.to; time = m }) ++ t) ≡ m
    time-back none = refl
    time-back (some n) = ap some (four-back n)

-- and as many as its width
pub bytes-long : (l : Line) → length (bytes_of l) ≡ width l
bytes-long l = omega (arith, go l.time)
  where
    go : (m : Option ℕ) → 10 + length (time_bytes m) ≡ wide m
    go none = refl
    go (some n) = refl

pub line-command : (l : Line) → is_line (command_of l.time) ≡ true
line-command l = go l.time
  where
    go : (m : Option ℕ) → is_line (command_of m) ≡ true
    go none = refl
    go (some n) = refl

-- ---- lengths

-- a line has fourteen bytes at most
pub width-most : (l : Line) → width l ≤ 14
width-most l = go l.time
  where
    go : (m : Option ℕ) → wide m ≤ 14
    go none = omega arith
    go (some n) = omega arith

widths-most : (ls : List Line) → widths ls ≤ 14 * length ls
widths-most [] = omega arith
widths-most (l ∷ ls) = omega (arith, width-most l, widths-most ls)

-- ---- begin

end-alone : (places before : ℕ) → entry_at places before (0 ∷ []) ≡ passed end
unfolding entry_at
end-alone places before = refl

pub empty-reads : (n : ℕ) → count_allowed n ≡ true → read_record (empty_record n) ≡ passed (record { places = n; lines = [] })
empty-reads n h =
    of-whole (empty_record n) n []
    (record {
      short = omega arith;
      head = rw (two_back n) h;
      count = sym (two_back n);
      walk = step_end 3 (two (empty_record n) 1) 0 (0 ∷ []) (end-alone (two (empty_record n) 1) 0);
    })

pub begun : (buffer : List ℕ) (n len : ℕ) → begin_of buffer n ≡ passed len → (count_allowed n ≡ true) × (len ≡ 4)
unfolding begin_of
begun buffer n len h =
    let (a, g) = ask-passed (count_allowed n) 2 _ len h in
    let (b, f) = ask-passed (leb 4 (length buffer)) 23 _ len g in
    (a, sym (passed-inj f))

-- a begun record has n places and no lines
pub begun-reads : (buffer : List ℕ) (n len : ℕ) → begin_of buffer n ≡ passed len → read_record (take len (begin_after buffer n)) ≡ passed (record { places = n; lines = [] })
begun-reads buffer n len h =
    let (a, c) = begun buffer n len h in
    rw (h, c) (empty-reads n a)

-- ---- add

-- what it takes for a line to be added
pub record Adds (buffer : List ℕ) (len : ℕ) (l : Line) (longer : ℕ) : Type 0 where
  pub day : Day
  pub reads : read_record (take len buffer) ≡ passed day
  pub inside : len ≤ length buffer
  pub below : places_below day.places l ≡ true
  pub kind : kind_allowed l.kind ≡ true
  pub time : time_allowed l.time ≡ true
  pub sail : l.boat.sail < 16777216
  pub few : length day.lines < 4096
  pub room : len + width l ≤ length buffer
  pub grown : longer ≡ len + width l

pub adds : (buffer : List ℕ) (len : ℕ) (l : Line) (longer : ℕ) → add_of buffer len l ≡ passed longer → Adds buffer len l longer
unfolding add_of
adds buffer len l longer h =
    let (a, g) = ask-passed (leb len (length buffer)) 20 _ longer h in
    let (day, r, n) = and_then-passed (read_record (take len buffer)) _ longer g in
    let (b, f) = ask-passed (places_below day.places l) 5 _ longer n in
    let (k, e) = ask-passed (kind_allowed l.kind) 6 _ longer f in
    let (t, i) = ask-passed (time_allowed l.time) 28 _ longer e in
    let (s, d) = ask-passed (ltb l.boat.sail 16777216) 21 _ longer i in
    let (m, c) = ask-passed (ltb (length day.lines) 4096) 22 _ longer d in
    let (q, p) = ask-passed (leb (len + width l) (length buffer)) 23 _ longer c in
    record { day = day; reads = r; inside = leb-true _ _ a; below = b; kind = k; time = t; sail = ltb-true _ _ s; few = ltb-true _ _ m; room = leb-true _ _ q; grown = sym (passed-inj p) }

-- a line's bytes and an end byte are walked over as that line, fewer than 4,096 lines standing before it
line-alone : (places before : ℕ) (l : Line) → before < 4096 → places_below places l ≡ true → kind_allowed l.kind ≡ true → time_allowed l.time ≡ true
    → lines_from 2 places before (bytes_of l ++ (0 ∷ [])) ≡ passed (l ∷ [])
line-alone places before l few below kind time =
    let new = bytes_of l ++ (0 ∷ []) in
    let rest : drop (width l) new ≡ 0 ∷ [] = drop_at (bytes_of l) (0 ∷ []) (width l) (bytes-long l) in
    let stands : LineStands places before new l = record {
      few = few;
      long = omega (arith, bytes-long l, length-append (bytes_of l) (0 ∷ []));
      command = line-command l;
      is = sym (line-back l (0 ∷ []));
      below = below;
      kind = kind;
      time = time;
    } in
    step_line 1 places before new l (entry-line places before new l stands)
    ∙ (ap (λ y. and_then (lines_from 1 places (suc before) y) (λ ks. passed (l ∷ ks))) rest
    ∙ ap (λ x. and_then x (λ ks. passed (l ∷ ks))) (step_end 0 places (suc before) (0 ∷ []) (end-alone places (suc before))))

module _ (buffer : List ℕ) (len : ℕ) (l : Line) (longer : ℕ) (a : Adds buffer len l longer) where
  -- the bytes before the end byte, and what is written after them
  abbrev front : List ℕ
  front = take (len - 1) buffer

  abbrev new : List ℕ
  new = bytes_of l ++ (0 ∷ [])

  abbrev old : List ℕ
  old = take len buffer

  abbrev last : ℕ
  last = get_or buffer (len - 1) 0

  size : len ≡ 4 + widths a.day.lines
  size = sym (length-take-le len buffer a.inside) ∙ record-length old a.day a.reads

  front_long : length front ≡ len - 1
  front_long = length-take-le (len - 1) buffer (omega (arith, a.inside))

  three-in-front : 3 ≤ length front
  three-in-front = omega (arith, front_long, size)

  old-record : old ≡ front ++ (last ∷ [])
  old-record =
      let whole : suc (len - 1) ≡ len = omega (arith, size) in
      ap (λ n. take n buffer) (sym whole) ∙ take-suc buffer (len - 1) 0 (omega (arith, size, a.inside))

  new-long : length (front ++ new) ≡ longer
  new-long = omega (arith, length-append front new, length-append (bytes_of l) (0 ∷ []), bytes-long l, front_long, size, a.grown)

  -- the record after the act
  new-record : take longer (written (len - 1) new buffer) ≡ front ++ new
  new-record =
      ap (take longer) (sym (append_assoc front new (drop (len - 1 + length new) buffer))) ∙ take_at (front ++ new) (drop (len - 1 + length new) buffer) longer new-long

  -- the places command is as it was
  same_head : (i : ℕ) → i < 3 → byte (front ++ new) i ≡ byte old i
  same_head i h =
      let less : i < length front = omega (arith, three-in-front) in
      get_or-append front new 0 i less ∙ (sym (get_or-append front (last ∷ []) 0 i less) ∙ ap (λ s. byte s i) (sym old-record))

  same_count : two (front ++ new) 1 ≡ two old 1
  same_count = simp (same_head 1 (omega arith), same_head 2 (omega arith))

  new-head : places_whole (front ++ new) ≡ true
  new-head =
      let (x, c) = and-true (leb 3 (length old) && eqb (byte old 0) 1) (count_allowed (two old 1)) (whole_of old a.day a.reads).head in
      let (n, b) = and-true (leb 3 (length old)) (eqb (byte old 0) 1) x in
      true-and _ _ (true-and _ _ (le-leb 3 (length (front ++ new)) (omega (arith, new-long, size, a.grown))) (ap (λ x. eqb x 1) (same_head 0 (omega arith)) ∙ b)) (ap count_allowed same_count ∙ c)

  new-walk : lines_from (length (front ++ new)) (two old 1) 0 (drop 3 (front ++ new)) ≡ passed (a.day.lines ++ (l ∷ []))
  new-walk =
      let w = whole_of old a.day a.reads in
      let before = length a.day.lines in
      let old-walk : lines_from (length old) (two old 1) 0 (drop 3 front ++ (last ∷ [])) ≡ passed a.day.lines = subst (λ s. lines_from (length old) (two old 1) 0 s ≡ passed a.day.lines) (ap (drop 3) old-record ∙ drop-append-le 3 front (last ∷ []) three-in-front) w.walk in
      let alone = line-alone (two old 1) before l a.few (ap (λ n. places_below n l) (sym w.count) ∙ a.below) a.kind a.time in
      let enough : length old + 2 ≤ length (front ++ new) = omega (arith, new-long, a.grown, width-least l, length-take-le len buffer a.inside) in
      ap (lines_from (length (front ++ new)) (two old 1) 0) (drop-append-le 3 front new three-in-front)
      ∙ walk-on (two old 1) before new 2 (l ∷ []) alone (length old) (length (front ++ new)) 0 (drop 3 front) last a.day.lines enough (omega arith) old-walk

  new-reads : read_record (take longer (written (len - 1) new buffer)) ≡ passed (record { places = a.day.places; lines = a.day.lines ++ (l ∷ []) })
  new-reads =
      ap read_record new-record
      ∙ of-whole (front ++ new) a.day.places (a.day.lines ++ (l ∷ []))
      (record {
        short = omega (arith, new-long, a.grown, size, a.few, widths-most a.day.lines, width-most l);
        head = new-head;
        count = (whole_of old a.day a.reads).count ∙ sym same_count;
        walk = ap (λ n. lines_from (length (front ++ new)) n 0 (drop 3 (front ++ new))) same_count ∙ new-walk;
      })

module _ (buffer : List ℕ) (len : ℕ) (l : Line) (longer : ℕ) (h : add_of buffer len l ≡ passed longer) where
  -- after an add the places are the same and the lines are the earlier ones followed by the new line
  pub added-reads : (day : Day) → read_record (take len buffer) ≡ passed day → read_record (take longer (add_after buffer len l)) ≡ passed (record { places = day.places; lines = day.lines ++ (l ∷ []) })
  added-reads day r =
      let same : (adds buffer len l longer h).day ≡ day = passed-inj (sym (adds buffer len l longer h).reads ∙ r) in
      rw h (new-reads buffer len l longer (adds buffer len l longer h) ∙ ap (λ (d : Day). passed (record { places = d.places; lines = d.lines ++ (l ∷ []) })) same)

  -- reading an earlier line gives what it gave before
  pub earlier-read-back : (day : Day) → read_record (take len buffer) ≡ passed day → (i : ℕ) → i < length day.lines → read_of (take longer (add_after buffer len l)) i ≡ read_of (take len buffer) i
  unfolding read_of
  earlier-read-back day r i less =
      let more : ltb i (length (day.lines ++ (l ∷ []))) ≡ true = lt-ltb i (length (day.lines ++ (l ∷ []))) (omega (arith, length-append day.lines (l ∷ []))) in
      simp (added-reads day r, r, more, lt-ltb i (length day.lines) less) (ap passed (get_or-append day.lines (l ∷ []) no_line i less))

  -- the last line is the line added
  pub added-read-back : (day : Day) → read_record (take len buffer) ≡ passed day → read_of (take longer (add_after buffer len l)) (length day.lines) ≡ passed l
  unfolding read_of
  added-read-back day r =
      let more : ltb (length day.lines) (length (day.lines ++ (l ∷ []))) ≡ true = lt-ltb (length day.lines) (length (day.lines ++ (l ∷ []))) (omega (arith, length-append day.lines (l ∷ []))) in
      simp (added-reads day r, more) (ap passed (get_or-append_seam day.lines l [] no_line))
