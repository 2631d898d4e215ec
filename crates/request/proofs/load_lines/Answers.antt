-- `request::load_lines`: each turn writes the word of the next line after those that stand.
use Rattle.std.proofs.Common.{◌≡◌, refl, sym, ap, ◌∙◌, map, ◌<◌, add-one, arith, length, get_or, length-set}
use lib.ListN.{length-map}
use Rattle.meaning.specs.Record.{Line}
use Rattle.lists.specs.Filled.{fill-next, fill-all}
use Rattle.record.specs.Cursor.{start_of, start_first}
use Rattle.record.specs.Whole.{lines_of, kind-read}
use Rattle.windows.specs.Promise.{options_shown}
use Rattle.request.specs.Layout.{line_word, word_met, met_by}
use Rattle.request.specs.Met.{met-long, met-word}
use Rattle.request.proofs.load_lines.Goals as goal

pub loop-i-init : goal.loop-i-init
loop-i-init c = (refl, refl, c.requires, sym (start_first (lines_of c.args.day.now)))

-- a line of the record has a kind of the fifteen
pub word_met-requires : goal.word_met-requires
word_met-requires c =
    let inv = c.loop-i.invariant in
    let kind = ap (λ (l : Line). l.kind) c.pass_line-met.ensures.line.0 in
    let (low, high) = kind-read c.args.day.now c.loop-i.i (omega arith) in
    (omega (arith, kind, low), omega (arith, kind, high))

pub loop-i-preserved : goal.loop-i-preserved
loop-i-preserved c =
    let a = c.args in
    let lines = lines_of a.day.now in
    let w = (options_shown a.options).windows in
    let inv = c.loop-i.invariant in
    let met = c.pass_line-met.ensures in
    let i = c.loop-i.i in
    let less : i < length lines = omega arith in
    let word : c.word_met.result ≡ get_or (map line_word (met_by w lines)) i 0 = c.word_met.ensures ∙ (ap (word_met w) met.line.0 ∙ met-word w lines i less) in (
      simp length-set inv.0,
      rw (inv.1, word) (fill-next (map line_word (met_by w lines)) _ i (omega (arith, length-map (met_by w lines) line_word, met-long w lines)) (omega arith)),
      inv.2,
      met.next ∙ ap (start_of lines) (sym (add-one i)),
    )

pub returns : goal.returns
returns c =
    let a = c.args in
    let lines = lines_of a.day.now in
    let w = (options_shown a.options).windows in
    let inv = c.loop-i.invariant in
    inv.1 ∙ fill-all (map line_word (met_by w lines)) _ c.loop-i.i (length-map (met_by w lines) line_word ∙ (met-long w lines ∙ sym inv.2)) (omega arith)
