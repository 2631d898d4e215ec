-- `backward::run_out` meets its contract: the mask 0 has no first state. Assumes nothing.
use mathlib.Core.Path.{subst}
use mathlib.Core.List.{List}
use Prim.Native.Nat.{ℕ}
use Rattle.search.specs.Loaded.{setting_at}
use Rattle.forward.specs.Firsts.{no-firsts}
use Rattle.backward.specs.Stopped.{opened, StoppedAt}
use Rattle.backward.proofs.run_out.Goals as goal

pub search_back-requires : goal.search_back-requires
search_back-requires c =
    record { ready_back = c.requires.ready_back; backing = c.requires.backing; from_lt_places = c.requires.backing.fit.laid.some-place }

pub returns : goal.returns
returns c =
    let a = c.args in
    subst (λ (firsts : List ℕ). StoppedAt opened (setting_at a.program.now a.plan a.work.now) a.plan firsts a.tail a.work.now c.search_back.result c.search_back.new.work) (no-firsts a.plan 0) c.search_back.ensures
