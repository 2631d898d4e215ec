-- `starts::search_once` meets its contract: the distances that are left in the area when nothing waits are those that the lengths go by.
-- Assumes nothing.
use mathlib.Core.Path.{◌≡◌, ap, ◌∙◌}
use mathlib.Core.List.{[], ◌∷◌}
use native.Mathlib.Omega.{arith}
use Rattle.graph.specs.Table.{Search}
use Rattle.search.specs.Loaded.{setting_at}
use Rattle.area.specs.Area.{stretch, found}
use Rattle.states.specs.Spots.{front}
use Rattle.states.proofs.Bounds.{fit_same}
use Rattle.sorted.proofs.Turns.{kept-take}
use Rattle.backward.specs.Stopped.{table_after, StoppedFrom}
use Rattle.starts.specs.Lengths.{length_at, written, reached_in}
use Rattle.starts.proofs.search_once.Goals as goal

pub all_distances-requires-clause-backing : goal.all_distances-requires-clause-backing
all_distances-requires-clause-backing c =
    let front_same = kept-take c.file_lines.ensures.kept c.args.plan.base (omega arith) in
    record { fit = fit_same c.file_lines.ensures.kept.long front_same c.requires.fit; tables = c.file_lines.ensures.filed }

pub returns : goal.returns
unfolding found table_after
returns c =
    let front_same : front c.args.plan c.file_lines.new.work ≡ front c.args.plan c.args.work.now = kept-take c.file_lines.ensures.kept c.args.plan.base (omega arith) in
    let ran_out : StoppedFrom (c.args.to ∷ []) (setting_at c.args.program.now c.args.plan c.args.work.now) c.args.plan [] 0 c.file_lines.new.work c.all_distances.result c.all_distances.new.work = rw front_same at c.all_distances.ensures in
    let distances-are : let p = c.args.plan in
    stretch p.base p.size c.all_distances.new.work ≡ (reached_in (setting_at c.args.program.now c.args.plan c.args.work.now) p c.args.to ran_out.count).table.dist = ap (λ (st : Search). st.dist) ran_out.step.now-found in
    record {
      count = ran_out.count;
      ended = ran_out.ended;
      after_is =
          c.write_lengths.ensures
          ∙ ap (λ D. written (length_at c.args.plan c.args.begin D) c.args.starts.now c.args.lengths.now) distances-are;
    }
