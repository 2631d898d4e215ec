-- `request::load_boats`: each line's boat goes to its number if that is the next one, so after the last line all boats stand.
use Rattle.std.proofs.Common.{◌≡◌, refl, sym, ap, ◌∙◌, subst, ◌∷◌, map, suc, add-one, arith, length, get_or, take, length-set, take-suc-set, get_or-take}
use lib.Seq.{take-length}
use borrow.Table.Elements.{take-le}
use Rattle.meaning.specs.Record.{Line, boats, boats_after}
use Rattle.boats.specs.Boats.{BoatIs, as_number}
use Rattle.boats.specs.Codes.{codes}
use Rattle.boats.proofs.Codes.{codes-length}
use Rattle.boats.specs.Table.{boat_table}
use Rattle.record.specs.Cursor.{start_of, start_first}
use Rattle.record.specs.Whole.{lines_of, lines-short}
use Rattle.request.proofs.Noting.{number-low, noted-next}
use Rattle.request.proofs.load_boats.Goals as goal

pub loop-i-init : goal.loop-i-init
unfolding boats_after
loop-i-init c =
    let part = c.args.part.now in
    (record { next-is = refl; noted = take-suc-set part 0 0 (omega (arith, c.requires.part_len)); room = length-set part 0 0 ∙ c.requires.part_len }, sym (start_first (lines_of c.args.day.now)))

pub offset_bounds-numbers-i : goal.offset_bounds-numbers-i
offset_bounds-numbers-i c = omega (arith, lines-short c.args.day.now)

pub bounds-numbers-i : goal.bounds-numbers-i
bounds-numbers-i c = omega (arith, take-le c.args.lines c.args.numbers.now, ap length c.requires.lines_value.1, codes-length (lines_of c.args.day.now))

pub load_boat-next-requires : goal.load_boat-next-requires
load_boat-next-requires c =
    let l = c.loop-i in
    let lines = lines_of c.args.day.now in
    let numbered : get_or c.args.numbers.now l.i 0 ≡ get_or (codes lines) l.i 0 = sym (get_or-take c.args.lines c.args.numbers.now l.i 0 c.loop-i-test.true) ∙ ap (λ ns. get_or ns l.i 0) c.requires.lines_value.1 in
    number-low lines l.i l.next l.part (omega arith) l.invariant.0 _ numbered

pub loop-i-preserved : goal.loop-i-preserved
loop-i-preserved c =
    let l = c.loop-i in
    let lines = lines_of c.args.day.now in
    let numbered : get_or c.args.numbers.now l.i 0 ≡ get_or (codes lines) l.i 0 = sym (get_or-take c.args.lines c.args.numbers.now l.i 0 c.loop-i-test.true) ∙ ap (λ ns. get_or ns l.i 0) c.requires.lines_value.1 in
    let met = c.pass_line-passed.ensures in
    let boat = c.boat_of in
    let is = subst (λ (x : Line). BoatIs x.boat boat.result) met.line.0 boat.ensures in (
      noted-next lines l.i l.next l.part (omega arith) l.invariant.0 _ numbered boat.result is _ _ c.load_boat-next.ensures.0 c.load_boat-next.ensures.1,
      met.next ∙ ap (start_of lines) (sym (add-one l.i)),
    )

pub returns : goal.returns
unfolding boat_table
returns c =
    let lines = lines_of c.args.day.now in
    let inv = c.loop-i.invariant.0 in
    let last : c.loop-i.i ≡ length lines = omega arith in
    let all : take c.loop-i.i lines ≡ lines = ap (λ n. take n lines) last ∙ take-length lines in
    let whole : c.loop-i.next ≡ length c.loop-i.part = inv.next-is ∙ (ap (λ ls. suc (length (boats ls))) all ∙ sym inv.room) in
    sym (ap (λ n. take n c.loop-i.part) whole ∙ take-length c.loop-i.part) ∙ (inv.noted ∙ ap (λ ls. 0 ∷ map as_number (boats ls)) all)
