-- `tracing::over_into` meets its contract: the words of the run are the lines that lead to the place, and going over them is going over all lines.
-- They stand after the stretches, and stay. A line that is left out would do nothing.
use mathlib.Core.Path.{◌≡◌, sym, ◌∙◌, subst, subst₂}
use Prim.Native.Nat.{◌<◌}
use native.Mathlib.Omega.{arith}
use lib.ListN.{get_or}
use Rattle.states.specs.Spots.{front, Starts}
use Rattle.tracing.specs.Tracing.{reached_in, StepTraced, line_traced}
use Rattle.tracing.proofs.Traces.{loop-start, loop-turn, loop-end, traced-as, traced-none, undoing-traced, indexed-traced}
use Rattle.tracing.proofs.Into.{end-keys, lined-of, lined-same, into-run}
use Rattle.tracing.proofs.over_into.Goals as goal
use Rattle.tracing.proofs.over_into.Goals.{then-worth_going, else-worth_going}

-- a line that is worth it is gone over, and another does nothing
step_of : (c : goal.Joined-worth_going) →
    let x = c.args in
    StepTraced x.plan (line_traced x.plan x.undo (front x.plan c.loop-k.work) x.place x.c x.parent c.word-i.result) c.loop-k.t c.loop-k.work c.if-worth_going.t c.if-worth_going.work
step_of c =
    let x = c.args in
    let g = front x.plan c.loop-k.work in
    let turn = line_traced x.plan x.undo g x.place x.c x.parent c.word-i.result in
    elim c.if-worth_going.branch [
      | then-worth_going m ↦ subst₂ (λ t w. StepTraced x.plan turn c.loop-k.t c.loop-k.work t w) (sym m.t-is) (sym m.work-is) m.one_traced-t.ensures
      | else-worth_going m ↦ subst₂ (λ t w. StepTraced x.plan turn c.loop-k.t c.loop-k.work t w) (sym m.t-is) (sym m.work-is) (traced-none turn c.loop-k.invariant.1.ready (c.worth_going.ensures m.if-worth_going.false x.place x.parent))
    ]

pub run_at-run-requires : goal.run_at-run-requires
run_at-run-requires c =
    let (starts, index, low, state) = c.requires.starts in
    record { sorted = index.sorted; k_bound = (end-keys c.args.plan low, index.room) }

pub loop-k-init : goal.loop-k-init
loop-k-init c =
    let (starts, index, low, state) = c.requires.starts in
    ((omega arith, c.run_at-run.ensures.2, lined-of index low c.run_at-run.ensures), loop-start _ _ c.requires.undoing.ready (into-run index low c.run_at-run.ensures c.args.undo c.args.c c.args.parent _))

pub worth_going-requires : goal.worth_going-requires
worth_going-requires c =
    let word-is : c.word-i.result ≡ get_or c.args.work.now c.loop-k.k 0 = c.word-i.ensures ∙ lined-same c.loop-k.invariant.1 c.loop-k.k (omega (arith, c.loop-k.invariant.0.2.after, c.loop-k.invariant.0.0)) in
    let line_low : c.word-i.result < c.args.plan.lines = omega (arith, word-is, c.loop-k.invariant.0.2.lines-low c.loop-k.k c.loop-k.invariant.0.0 c.loop-k-test.true) in
    let (starts, index, low, state) = c.requires.starts in
    record { undoing = (undoing-traced c.loop-k.invariant.1 c.requires.undoing, c.wanted_by-boats.ensures); starts = (subst (Starts c.args.plan) (sym c.loop-k.invariant.1.front) starts, line_low); leads_to = c.requires.leads_to }

pub one_traced-t-requires : goal.one_traced-t-requires
one_traced-t-requires c =
    let word-is : c.word-i.result ≡ get_or c.args.work.now c.loop-k.k 0 = c.word-i.ensures ∙ lined-same c.loop-k.invariant.1 c.loop-k.k (omega (arith, c.loop-k.invariant.0.2.after, c.loop-k.invariant.0.0)) in
    let line_low : c.word-i.result < c.args.plan.lines = omega (arith, word-is, c.loop-k.invariant.0.2.lines-low c.loop-k.k c.loop-k.invariant.0.0 c.loop-k-test.true) in
    let (starts, index, low, state) = c.requires.starts in
    record { undoing = undoing-traced c.loop-k.invariant.1 c.requires.undoing; starts = (subst (Starts c.args.plan) (sym c.loop-k.invariant.1.front) starts, line_low, omega (arith, (indexed-traced c.loop-k.invariant.1 index).room), state); leads_to = c.requires.leads_to }

pub loop-k-preserved : goal.loop-k-preserved
loop-k-preserved c =
    let word-is : c.word-i.result ≡ get_or c.args.work.now c.loop-k.k 0 = c.word-i.ensures ∙ lined-same c.loop-k.invariant.1 c.loop-k.k (omega (arith, c.loop-k.invariant.0.2.after, c.loop-k.invariant.0.0)) in
    let x = c.args in
    let same = sym (λ j. line_traced x.plan x.undo (c.loop-k.invariant.1.front j) x.place x.c x.parent (word-is j) (reached_in x.plan c.loop-k.t c.loop-k.work)) in
    ((omega (arith, c.loop-k.invariant.0.0), omega (arith, c.loop-k-test.true), c.loop-k.invariant.0.2), loop-turn _ _ _ c.loop-k.invariant.1 c.loop-k-test.true (traced-as _ (step_of c) same))

pub returns : goal.returns
returns c = loop-end _ _ _ c.loop-k.invariant.1 (omega arith)
