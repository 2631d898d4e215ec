-- `holding::read_counters`: the seven words, each read where it stands.
use Rattle.holding.specs.Holding.{counters_in}
use Rattle.holding.proofs.read_counters.Goals as goal

pub returns : goal.returns
unfolding counters_in
returns c = rw (
  ← c.word.ensures,
  ← c.word-2.ensures,
  ← c.word-3.ensures,
  ← c.word-4.ensures,
  ← c.word-5.ensures,
  ← c.word-6.ensures,
  ← c.word-7.ensures,
)
