-- `checker::accepted`: the pattern is compiled, and the chain walked by its automaton and the loaded tables.
use Rattle.std.proofs.Common.{◌∙◌}
use Rattle.forward.proofs.Posing.{posed-fit}
use Rattle.checker.proofs.Posing.{posed-within, posed-check}
use Rattle.checker.proofs.accepted.Goals as goal

pub leads-requires-clause-fit : goal.leads-requires-clause-fit
leads-requires-clause-fit c =
    let (q, posed) = c.requires.some_posed in
    posed-fit posed (c.compile-begin.ensures.automaton q.pattern posed.reads) (c.compile-begin.ensures.small q.pattern posed.reads)

pub leads-requires-clause-within : goal.leads-requires-clause-within
leads-requires-clause-within c =
    let (q, posed) = c.requires.some_posed in
    posed-within posed (c.compile-begin.ensures.automaton q.pattern posed.reads)

pub returns : goal.returns
returns c q posed =
    c.leads.ensures ∙ posed-check posed (c.compile-begin.ensures.automaton q.pattern posed.reads) c.args.chain.now c.requires.chain_value
