-- `compiler::step_at`: the command passed its questions, so its byte is a command's and its operands are there.
use Rattle.std.proofs.Common.{sym, ◌∙◌, arith}
use Rattle.compiler.proofs.Parts.{none-some, there, operands-there, step_is}
use Rattle.compiler.proofs.step_at.Goals as goal

pub bounds-src-at : goal.bounds-src-at
bounds-src-at c = omega (arith, (there c.requires).there)

pub unreachable-requires : goal.unreachable-requires
unreachable-requires c = let p = there c.requires in none-some p.row (sym c.in_default.ensures ∙ p.shaped)

pub command_with-requires-clause-whole : goal.command_with-requires-clause-whole
command_with-requires-clause-whole c = operands-there _ (sym c.in-Some.ensures.1) c.requires

pub returns : goal.returns
returns c = step_is _ (sym c.in-Some.ensures.1) _ c.command_with.ensures
