-- `sweeping::lead_on`: the words of the run are the lines from the state's place in rising order, and no other line leads from it. As long as a line
-- leads nowhere every word is as it was, and the next word's line is asked for.
use Rattle.std.proofs.Common.{refl, sym, ap, subst, ◌+◌, ◌/◌, ◌<◌, ◌≤◌, length, arith}
use Rattle.request.specs.Layout.{Laid}
use Rattle.search.specs.Loaded.{setting_at}
use Rattle.states.specs.Spots.{Fit}
use Rattle.states.proofs.Bounds.{stacks-pos, stacks-small, place-below}
use Rattle.sweeping.specs.Sweeping.{index_at, LedOn}
use Rattle.sweeping.proofs.Led.{line_same}
use Rattle.sweeping.proofs.Runs.{Lined, lined-of, line-read, start-keys, looking-start, led-next, led-here, led-high, led-end}
use Rattle.sweeping.proofs.lead_on.Goals as goal

pub overflow_mul-at : goal.overflow_mul-at
overflow_mul-at c = omega (arith, c.requires.fit.0.laid.small)

pub overflow_add-at : goal.overflow_add-at
overflow_add-at c = let l = c.requires.fit.0.laid in omega (arith, l.small, l.few_words)

pub place_of-requires : goal.place_of-requires
place_of-requires c =
    let l = c.requires.fit.0.laid in
    (stacks-pos l, omega (arith, stacks-small l, l.small), omega (arith, c.requires.s_lt_size.0, l.small), l.inverse-is, l.few-positions)

-- the place is one of the places
pub run_at-run-requires : goal.run_at-run-requires
run_at-run-requires c =
    let p = c.args.plan in
    let there : c.place_of.result < p.places = subst (◌< p.places) (sym c.place_of.ensures) (place-below c.requires.fit.0.laid c.args.s c.requires.s_lt_size.0) in
    record { sorted = c.requires.fit.1.sorted; k_bound = (start-keys p there, c.requires.fit.1.room) }

pub loop-k-init : goal.loop-k-init
loop-k-init c =
    let (fit, ordered) = c.requires.fit in
    let p = c.args.plan in
    let is = c.place_of.ensures in
    let b = c.run_at-run.result in
    let there : c.place_of.result < p.places = subst (◌< p.places) (sym is) (place-below fit.laid c.args.s c.requires.s_lt_size.0) in
    let (el, eh, rises, within) = c.run_at-run.ensures in
    let lined : Lined p (c.args.s / p.stacks / (p.done + 1)) b.lo b.hi c.args.work.now =
    subst (λ q. Lined p q b.lo b.hi c.args.work.now) is (lined-of ordered there b.lo b.hi el eh) in
    (refl, lined, looking-start fit.laid c.args.program.now c.args.want lined refl rises)

pub word-i-requires : goal.word-i-requires
word-i-requires c = omega (arith, c.loop-k-test.true, c.loop-k.invariant.1.within, ap length c.loop-k.invariant.0)

-- the line at k is higher than the one noted, and so are those after it
pub returns-then-noted-i : goal.returns-then-noted-i
returns-then-noted-i c =
    let (same, lined, looking) = c.loop-k.invariant in
    let (word-is, line_low) = line-read lined _ _ looking.from c.loop-k-test.true same c.word-i.ensures in
    subst (LedOn c.args.plan (setting_at c.args.program.now c.args.plan c.args.work.now) c.args.s c.args.want c.args.noted c.args.work.now c.args.noted) (sym same)
    (led-high lined looking c.args.noted c.requires.s_lt_size.1 c.loop-k-test.true _ word-is c.if-noted-i.true)

-- the word at k is a line
pub lead_of-lead-requires : goal.lead_of-lead-requires
lead_of-lead-requires c =
    let (same, lined, looking) = c.loop-k.invariant in
    let (word-is, line_low) = line-read lined _ _ looking.from c.loop-k-test.true same c.word-i.ensures in
    (subst (λ w. Laid c.args.plan (length w)) (sym same) c.requires.fit.0.laid, line_low)

pub overflow_cast-marking : goal.overflow_cast-marking
overflow_cast-marking c =
    let (same, lined, looking) = c.loop-k.invariant in
    let (word-is, line_low) = line-read lined _ _ looking.from c.loop-k-test.true same c.word-i.ensures in
    omega (arith, line_low, c.requires.fit.0.laid.few-lines)

pub overflow_add-marking : goal.overflow_add-marking
overflow_add-marking c =
    let (same, lined, looking) = c.loop-k.invariant in
    let (word-is, line_low) = line-read lined _ _ looking.from c.loop-k-test.true same c.word-i.ensures in
    omega (arith, line_low, c.requires.fit.0.laid.few-lines)

pub mark_line-requires : goal.mark_line-requires
mark_line-requires c =
    let (same, lined, looking) = c.loop-k.invariant in
    let (fit, ordered) = c.requires.fit in
    let p = c.args.plan in
    let (word-is, line_low) = line-read lined _ _ looking.from c.loop-k-test.true same c.word-i.ensures in
    let room : index_at p ≤ length c.args.work.now = omega (arith, ordered.room) in
    record {
      fit = (subst (Fit p c.args.program.now) (sym same) fit, subst (λ w. index_at p ≤ length w) (sym same) room);
      some_lead = ((c.word-i.result, line_low, c.lead_of-lead.ensures), c.requires.s_lt_size.0);
    }

-- the line at k leads on: it is the least
pub returns-then-mark_line : goal.returns-then-mark_line
returns-then-mark_line c =
    let (same, lined, looking) = c.loop-k.invariant in
    let (word-is, line_low) = line-read lined _ _ looking.from c.loop-k-test.true same c.word-i.ensures in
    let marked = line_same _ _ _ _ _ _ _ _ _ _ same c.mark_line.ensures c.word-i.result line_low c.lead_of-lead.ensures in
    led-here lined looking c.loop-k-test.true _ _ word-is (omega arith) marked _ (omega (arith, c.if-noted-i.false)) c.if-mark_line.true

pub loop-k-preserved : goal.loop-k-preserved
loop-k-preserved c =
    let (same, lined, looking) = c.loop-k.invariant in
    let (word-is, line_low) = line-read lined _ _ looking.from c.loop-k-test.true same c.word-i.ensures in
    let marked = line_same _ _ _ _ _ _ _ _ _ _ same c.mark_line.ensures c.word-i.result line_low c.lead_of-lead.ensures in
    let (still, next) = led-next lined looking c.loop-k-test.true _ _ word-is (omega arith) marked c.if-mark_line.false in
    (still, lined, next)

pub returns : goal.returns
returns c =
    let (same, lined, looking) = c.loop-k.invariant in
    subst (LedOn c.args.plan (setting_at c.args.program.now c.args.plan c.args.work.now) c.args.s c.args.want c.args.noted c.args.work.now c.args.noted) (sym same)
    (led-end lined looking c.args.noted c.requires.s_lt_size.1 (omega (arith, c.loop-k-test.false)))
