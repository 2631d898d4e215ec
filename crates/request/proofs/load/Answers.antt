-- `request::load`: three stretches are written end to end.
use Rattle.std.proofs.Common.{◌≡◌, sym, ap, ◌∙◌, [], ◌++◌, map, ◌-◌, length, take, drop}
use Rattle.boats.specs.Codes.{codes}
use Rattle.record.specs.Whole.{lines_of}
use Rattle.windows.specs.Promise.{options_shown}
use Rattle.request.specs.Layout.{line_word, met_by}
use Rattle.request.specs.Met.{met-loaded}
use Rattle.request.proofs.Tables.{codes-long, tables-loaded}
use Rattle.request.proofs.load.Goals as goal

pub returns : goal.returns
returns c =
    let a = c.args in
    let p = c.requires in
    let lines = lines_of a.day.now in
    let long : length (take (a.plan.words - a.plan.codes) (drop a.plan.codes c.load_table.new.work)) ≡ a.plan.lines = ap (λ u. length (take (a.plan.words - a.plan.codes) (drop a.plan.codes u))) c.load_table.ensures ∙ codes-long lines a.plan a.work.now p.laid.0 p.laid.1 p.radix_value [] in
    let numbered : c.load_codes.new.part ≡ codes lines = c.load_codes.ensures ∙ (ap (λ n. take n a.numbers.now) long ∙ p.numbers_value) in
    let w = (options_shown a.options).windows in
    rw (c.load_lines.ensures, numbered, c.load_table.ensures) (tables-loaded lines a.plan a.work.now p.laid.0 p.laid.1 p.radix_value (map line_word (met_by w lines)) ∙ ap (λ g. take a.plan.boats a.work.now ++ (g ++ drop a.plan.base a.work.now)) (sym (met-loaded w lines a.plan.keeps)))
