-- `compiler::silent_entry`: every number is 0, and the mask 0 marks nothing.
use Rattle.compiler.proofs.Entries.{says-silent}
use Rattle.compiler.proofs.silent_entry.Goals as goal

pub returns : goal.returns
returns c = says-silent
