-- One line more gone over: `tally-none`, `tally-met` (an earlier line has its boat), `tally-new` (none has it), `tally-next` (the tally after it)
-- and `tally-all` (after the last). Assumes nothing.
use mathlib.Core.Path.{◌≡◌, refl, sym, ap, ◌∙◌, subst}
use mathlib.Core.Bool.{Bool, true, false, cond}
use mathlib.Core.List.{List, [], ◌∷◌, ◌++◌}
use Prim.Native.Nat.{ℕ, suc, ◌+◌, ◌<◌, ◌≤◌}
use native.Mathlib.Decide.{ℕ_discrete}
use native.Mathlib.Omega.{arith}
use lib.Dec.{eqb}
use lib.ListN.{length, get_or, take, set}
use lib.Seq.{take-length, take-suc, take-suc-set, get_or-take, get_or-set_same, get_or-set_other}
use borrow.Author.Tests.{eq-eqb, ne_eqb}
use Rattle.meaning.specs.Record.{Line, boats_after, boats}
use Rattle.meaning.specs.Writing.{line_at}
use Rattle.meaning.specs.Count.{first_same, reads_at, reads_before, reads}
use Rattle.record.specs.Cursor.{start_of, start_first}
use Rattle.boats.specs.Boats.{BoatIs}
use Rattle.boats.proofs.Boats.{boats-more, boats-few}
use Rattle.boats.specs.Codes.{codes}
use Rattle.boats.proofs.Codes.{codes-length, code, code-earlier, code-new}
use Rattle.boats.specs.Counting.{Noted, Counted}
use Rattle.boats.proofs.Counting.{first-early}
use Rattle.boats.proofs.Scans.{reads_none, reads-next, reads-met, reads_all, reads-low}
use Rattle.boats.specs.declared.Tally.{Tally}

module _ (lines : List Line) where
  pub tally-none : (t : Tally) (noted numbers : List ℕ) → t.at ≡ 3 → t.boats ≡ 0 → t.reads ≡ 0 → Counted lines 0 t noted numbers
  unfolding boats_after
  tally-none t noted numbers at none unread = record {
    place = at ∙ sym (start_first lines);
    count = none;
    read = unread ∙ sym (reads_none lines);
    words = λ k less. absurd (omega (arith, less));
    so_far = refl;
  }

  module _ {i : ℕ} {t : Tally} {noted numbers : List ℕ} (c : Counted lines i t noted numbers) where
    -- no more boats than lines, and few reads
    pub tally-few : i ≤ length lines → t.boats ≤ i
    tally-few h = omega (arith, c.count, boats-few lines i h)

    pub tally-low : i ≤ 4096 → t.reads ≤ 16777216
    tally-low h = omega (arith, c.read, reads-low lines i h, h)

    pub tally-all : i ≡ length lines → (t.boats ≡ length (boats lines)) × (t.reads ≡ reads lines) × (take i numbers ≡ codes lines)
    tally-all e = (
      c.count ∙ (ap (λ n. length (boats (take n lines))) e ∙ ap (λ ls. length (boats ls)) (take-length lines)),
      c.read ∙ ap (reads_before lines) e,
      c.so_far ∙ (ap (λ n. take n (codes lines)) (e ∙ sym (codes-length lines)) ∙ take-length (codes lines)),
    )

    module _ (h : i < length lines) where
      abbrev first : ℕ
      first = first_same lines i

      -- the boats with line i's
      boats-then : (b : Bool) → eqb first i ≡ b → length (boats (take (suc i) lines)) ≡ cond b (suc t.boats) t.boats
      boats-then b e = boats-more lines i h ∙ (λ k. cond (e k) (suc (sym c.count k)) (sym c.count k))

      -- an earlier line has the boat: no boat more, its number, and the lines read up to that one
      pub tally-met : first < i → (t.boats ≡ length (boats (take (suc i) lines))) × (get_or numbers first 0 ≡ code lines i) × (reads_at lines i ≡ suc first)
      tally-met less = (
        sym (boats-then false (ne_eqb first i (λ e. omega (arith, e, less)))),
        sym (get_or-take i numbers first 0 less) ∙ (ap (λ l. get_or l first 0) c.so_far ∙ (get_or-take i (codes lines) first 0 less ∙ sym (code-earlier lines i h less))),
        reads-met lines i less,
      )

      -- none has it: one boat more, which is its number, and all earlier lines read
      pub tally-new : (first < i → ⊥) → (suc t.boats ≡ length (boats (take (suc i) lines))) × (suc t.boats ≡ code lines i) × (reads_at lines i ≡ i)
      tally-new none =
          let own : first ≡ i = omega (arith, none, first-early lines i h) in
          (sym (boats-then true (eq-eqb first i own)), ap suc c.count ∙ sym (code-new lines i h own), reads_all lines i (omega (arith, own)))

      -- the tally after line i, its boat noted as w and numbered v
      pub tally-next : (r : Tally) (w v : ℕ) → BoatIs (line_at lines i).boat w → v ≡ code lines i → i < length noted → i < length numbers
          → r.at ≡ start_of lines (suc i) → r.boats ≡ length (boats (take (suc i) lines)) → r.reads ≡ t.reads + reads_at lines i
          → Counted lines (suc i) r (set noted i w) (set numbers i v)
      tally-next r w v is number room_noted room at count read = record {
        place = at;
        count = count;
        read = omega (arith, read, c.read, reads-next lines i);
        words = noted-at;
        so_far = take-suc-set numbers i v room ∙ ((λ s. c.so_far s ++ (number s ∷ [])) ∙ sym (take-suc (codes lines) i 0 (omega (arith, codes-length lines, h))));
      }
        where
          noted-at : Noted lines (suc i) (set noted i w)
          noted-at k less = elim (ℕ_discrete k i) [
            | yes e ↦ subst (λ n. BoatIs (line_at lines n).boat (get_or (set noted i w) n 0)) (sym e) (subst (BoatIs (line_at lines i).boat) (sym (get_or-set_same noted i w 0 room_noted)) is)
            | no n ↦ subst (BoatIs (line_at lines k).boat) (sym (get_or-set_other noted i k w 0 n)) (c.words k (omega (arith, less, n)))
          ]
