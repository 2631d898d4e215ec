-- `compiler::compile`: what `compile_at` writes from position 0 on are the nodes of the whole pattern, and the entry after them is the
-- end's, which is silent; runs begin with what is entered where the end comes after.
use Rattle.std.proofs.Common.{refl, arith}
use Rattle.compiler.proofs.Tasks.{no-levels}
use Rattle.compiler.proofs.Compilation.{whole-reads, whole_ready, end_low, whole-compiled}
use Rattle.compiler.proofs.compile.Goals as goal

pub begin_at-p-requires : goal.begin_at-p-requires
begin_at-p-requires c = whole-reads c.requires

pub bit-end-requires : goal.bit-end-requires
bit-end-requires c = end_low c.requires c.begin_at-p.ensures

pub compile_at-requires : goal.compile_at-requires
compile_at-requires c = whole_ready c.requires refl refl refl

pub put-requires : goal.put-requires
put-requires c = omega (arith, end_low c.requires c.begin_at-p.ensures)

pub returns-clause-automaton : goal.returns-clause-automaton
returns-clause-automaton c = (whole-compiled c.begin_at-p.ensures c.compile_at.ensures refl refl (λ K m. record { depth_is = refl; levels-are = no-levels; after-marks = m })
    c.bit-end.ensures (c.put.ensures c.silent_entry.ensures.small) c.silent_entry.ensures c.entered.ensures).0

pub returns-clause-small : goal.returns-clause-small
returns-clause-small c = (whole-compiled c.begin_at-p.ensures c.compile_at.ensures refl refl (λ K m. record { depth_is = refl; levels-are = no-levels; after-marks = m })
    c.bit-end.ensures (c.put.ensures c.silent_entry.ensures.small) c.silent_entry.ensures c.entered.ensures).1
