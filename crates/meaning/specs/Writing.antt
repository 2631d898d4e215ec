-- Beginning a record, adding a line, reading a line back (document 01, "Questions, in order" and "After each reply").
-- Each definition ending in `Of` gives the reply, each ending in `After` every byte of the lent buffer.
use Rattle.std.specs.Prelude.{Bool, true, false, cond, ◌&&◌, List, [], ◌∷◌, ◌++◌, ℕ, ◌+◌, ◌-◌, ◌/◌, ◌%◌, ltb, leb, eqb, length, get_or, take, drop}
use Rattle.std.proofs.Math.Option.{Option, none, some}
use Rattle.meaning.specs.Outcome.{Outcome, refused, passed, ask, and_then}
use Rattle.meaning.specs.Record.{Line, agree, width, bytes_of, count_allowed, ask_line, read_record}

-- a buffer with new bytes from a place on; all other bytes stay
abbrev pub written : ℕ → List ℕ → List ℕ → List ℕ
written at new buffer = take at buffer ++ (new ++ drop (at + length new) buffer)

-- a refused write alters no byte
abbrev pub unless_refused : Outcome ℕ → List ℕ → List ℕ → List ℕ
unless_refused (refused number) changed buffer = buffer
unless_refused (passed len) changed buffer = changed

-- ---- begin a record of n places: the new length

abbrev pub empty_record : ℕ → List ℕ
empty_record n = 0x01 ∷ n / 256 ∷ n % 256 ∷ 0x00 ∷ []

unfoldable pub begin_of : List ℕ → ℕ → Outcome ℕ
begin_of buffer n = ask (count_allowed n) 2 (ask (leb 4 (length buffer)) 23 (passed 4))

abbrev pub begin_after : List ℕ → ℕ → List ℕ
begin_after buffer n = unless_refused (begin_of buffer n) (written 0 (empty_record n) buffer) buffer

-- ---- equal lines

-- two times are the same when both are there and agree, or neither is there
abbrev pub same_time : Option ℕ → Option ℕ → Bool
same_time none none = true
same_time none (some u) = false
same_time (some t) none = false
same_time (some t) (some u) = eqb t u

-- two lines are the same when all their fields agree: 02 and 03 differ, and so do two times
abbrev pub same_line : Line → Line → Bool
same_line a b = eqb a.from b.from && eqb a.kind b.kind && agree a.boat b.boat && eqb a.to b.to && same_time a.time b.time

-- does a line differ from each of these?
unfoldable pub is_new : Line → List Line → Bool
is_new l [] = true
is_new l (k ∷ ks) = cond (same_line l k) false (is_new l ks)

-- ---- add a line to the record in the first len bytes of a buffer: the new length

-- the questions about the new line and the room for it, of a record of so many places and lines
abbrev pub ask_new : ℕ → ℕ → ℕ → ℕ → Line → Outcome ℕ
ask_new places lines room len l =
    ask_line places l
    (ask (ltb l.boat.sail 16777216) 21
    (ask (ltb lines 4096) 22
    (ask (leb (len + width l) room) 23
    (passed (len + width l)))))

unfoldable pub add_of : List ℕ → ℕ → Line → Outcome ℕ
add_of buffer len l =
    ask (leb len (length buffer)) 20
    (and_then (read_record (take len buffer)) (λ day. ask_new day.places (length day.lines) (length buffer) len l))

-- the line's bytes from the old end byte on, and a new end byte
abbrev pub add_after : List ℕ → ℕ → Line → List ℕ
add_after buffer len l = unless_refused (add_of buffer len l) (written (len - 1) (bytes_of l ++ (0x00 ∷ [])) buffer) buffer

-- ---- read line i back

abbrev pub no_line : Line
no_line = record { from = 0; kind = 0; boat = record { class = 0; sail = 0 }; to = 0; time = none }

-- line number i
abbrev pub line_at : List Line → ℕ → Line
line_at lines i = get_or lines i no_line

unfoldable pub read_of : List ℕ → ℕ → Outcome Line
read_of s i = and_then (read_record s) (λ day. ask (ltb i (length day.lines)) 18 (passed (line_at day.lines i)))
