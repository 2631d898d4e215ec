-- `searching::finish_taken` meets its contract: all turns end every search, and what is read out of an area that was left is the answer.
-- Assumes nothing.
use Rattle.std.proofs.Common.{arith}
use mathlib.Core.Path.{◌≡◌, ap, ◌∙◌}
use Prim.Native.Nat.{ℕ, ◌+◌, ◌*◌}
use Rattle.meaning.specs.Request.{size_of}
use Rattle.search.specs.Asked.{met_asked}
use Rattle.searching.proofs.Bridge.{left-parts, left-size}
use Rattle.searching.proofs.Ending.{finished-in}
use Rattle.searching.proofs.finish_taken.Goals as goal

pub returns : goal.returns
returns c =
    record {
      short = c.read_out.ensures.short;
      long = omega arith;
      kept = c.read_out.ensures.kept;
      begun = λ rec from to options q k left.
          let compiled = c.turned-moved.ensures.compiled q.pattern (left-parts left).pattern-read in
          let is : c.all_turns.result ≡ 2 * size_of (met_asked q) + 2 = c.all_turns.ensures ∙ ap (λ (n : ℕ). 2 * n + 2) (left-size left c.requires) in
          finished-in left c.requires compiled c.turned-moved.ensures.moved is c.read_out.ensures;
    }
