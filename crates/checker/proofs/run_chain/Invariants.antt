-- `checker::run_chain`: the lines of the chain from number k on are left.
use Rattle.search.specs.Product.{succs}
use Rattle.search.specs.Loaded.{setting_at}
use Rattle.checker.proofs.Moving.{Left}
use Rattle.checker.proofs.run_chain.Given as goal

abbrev pub invariant-loop-line : goal.invariant-loop-line
invariant-loop-line l =
    Left l.plan (succs (setting_at l.program l.plan l.initial.work)) l.chain l.tail l.initial.work l.line-index l.t l.work
