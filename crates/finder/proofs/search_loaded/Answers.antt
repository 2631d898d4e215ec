-- `finder::search_loaded` meets its contract: the pattern is compiled, and the record searched by its automaton and the loaded tables.
-- Assumes nothing.
use Rattle.forward.proofs.Posing.{posed-fit}
use Rattle.finder.proofs.Answering.{posed-searched}
use Rattle.finder.proofs.search_loaded.Goals as goal

pub both_phases-requires-clause-fit : goal.both_phases-requires-clause-fit
both_phases-requires-clause-fit c =
    let (q, posed) = c.requires in
    posed-fit posed (c.compile-begin.ensures.automaton q.pattern posed.reads) (c.compile-begin.ensures.small q.pattern posed.reads)

pub returns : goal.returns
returns c q posed =
    posed-searched posed (c.compile-begin.ensures.automaton q.pattern posed.reads) c.both_phases.ensures
