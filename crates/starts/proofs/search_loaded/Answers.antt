-- `starts::search_loaded` meets its contract: the pattern is compiled, and the record searched by its automaton and the loaded tables.
-- Assumes nothing.
use Rattle.forward.proofs.Posing.{posed-fit}
use Rattle.starts.proofs.Answering.{posed-lengths}
use Rattle.starts.proofs.search_loaded.Goals as goal

pub search_once-requires-clause-fit : goal.search_once-requires-clause-fit
search_once-requires-clause-fit c =
    let (q, posed) = c.requires.some_posed in
    posed-fit posed (c.compile-begin.ensures.automaton q.pattern posed.reads) (c.compile-begin.ensures.small q.pattern posed.reads)

pub returns : goal.returns
returns c q posed =
    posed-lengths posed (c.compile-begin.ensures.automaton q.pattern posed.reads) c.search_once.ensures c.requires.starts_value
