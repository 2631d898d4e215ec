-- `compiler::compile_at` and `compiler::compile_rounds`: the command at the place passed its questions, so the pattern is one of four
-- trees; each way through the functions is one law of `Compilation`.
use Rattle.std.proofs.Common.{sym, ◌∙◌, arith}
use Rattle.pattern.specs.Reading.{byte_of}
use Rattle.compiler.proofs.Parts.{commands-there, base-low, next_place, no-skip, rounded-is, after-reads, second_reads, second-place, allowed}
use Rattle.compiler.proofs.Compilation.{leaf-written, counted-written, around-written, joined-written, rounds-written, rounds-ready, inner-ready, first-ready, second-ready, round-ready, rest-ready}
use Rattle.compiler.proofs.+compile_at_compile_rounds.Goals as goal

pub compile_at-step_at-c-requires : goal.compile_at-step_at-c-requires
compile_at-step_at-c-requires t c = commands-there c.requires.reads.is.stands

-- ---- a counted pattern, its rounds one by one

pub compile_at-all_rounds-requires : goal.compile_at-all_rounds-requires
compile_at-all_rounds-requires t c = base-low c.requires.reads.is

pub compile_at-compile_rounds-requires : goal.compile_at-compile_rounds-requires
compile_at-compile_rounds-requires t c =
    let code = rounded-is (byte_of c.step_at-c.result.op) c.step_at-c.result.second (sym c.in_rounds.ensures ∙ c.if-in_rounds.true) in
    let ready = rounds-ready c.requires c.step_at-c.ensures code c.all_rounds.ensures in
    let place = next_place c.step_at-c.ensures c.requires.reads.is in
    (omega (arith, c.decreases, c.all_rounds.ensures.at-is, place.0, place.1, ready.few), ready)

pub compile_at-returns-then-in_rounds : goal.compile_at-returns-then-in_rounds
compile_at-returns-then-in_rounds t c = record {
  writes = λ o x scope K e fits.
      let code = rounded-is (byte_of c.step_at-c.result.op) c.step_at-c.result.second (sym c.in_rounds.ensures ∙ c.if-in_rounds.true) in
      counted-written c.step_at-c.ensures e fits code c.silent_entry.ensures (c.put.ensures c.silent_entry.ensures.small) c.all_rounds.ensures c.compile_rounds.ensures;
}

-- ---- no pattern after the command

pub compile_at-leaf_entry-requires : goal.compile_at-leaf_entry-requires
compile_at-leaf_entry-requires t c = allowed c.requires c.step_at-c.ensures (sym c.in_rounds.ensures ∙ c.if-in_rounds.false)

pub compile_at-returns-then-c-eq0 : goal.compile_at-returns-then-c-eq0
compile_at-returns-then-c-eq0 t c = record {
  writes = λ o x scope K e fits.
      leaf-written c.step_at-c.ensures e fits c.if-c-eq0.true (c.leaf_entry.ensures scope K fits) (c.put-then-c-eq0.ensures (c.leaf_entry.ensures scope K fits).small);
}

-- ---- one pattern after it

pub compile_at-begin_at-p-requires : goal.compile_at-begin_at-p-requires
compile_at-begin_at-p-requires t c =
    after-reads c.step_at-c.ensures c.requires.reads.is c.if-c-eq0.false (no-skip (byte_of c.step_at-c.result.op) c.step_at-c.result.second (sym c.in_rounds.ensures ∙ c.if-in_rounds.false))

pub compile_at-around_entry-requires : goal.compile_at-around_entry-requires
compile_at-around_entry-requires t c = allowed c.requires c.step_at-c.ensures (sym c.in_rounds.ensures ∙ c.if-in_rounds.false)

pub compile_at-inner_task-requires : goal.compile_at-inner_task-requires
compile_at-inner_task-requires t c = allowed c.requires c.step_at-c.ensures (sym c.in_rounds.ensures ∙ c.if-in_rounds.false)

pub compile_at-compile_at-requires : goal.compile_at-compile_at-requires
compile_at-compile_at-requires t c =
    let place = next_place c.step_at-c.ensures c.requires.reads.is in (
      omega (arith, c.decreases, c.inner_task.ensures.at-is, place.0, place.1),
      inner-ready c.requires c.step_at-c.ensures c.if-c-eq1.true (sym c.in_rounds.ensures ∙ c.if-in_rounds.false) c.inner_task.ensures,
    )

pub compile_at-returns-then-c-eq1 : goal.compile_at-returns-then-c-eq1
compile_at-returns-then-c-eq1 t c = record {
  writes = λ o x scope K e fits.
      around-written c.step_at-c.ensures e fits c.begin_at-p.ensures c.put-then-c-eq1.ensures c.if-c-eq1.true (sym c.in_rounds.ensures ∙ c.if-in_rounds.false)
      (λ y next o b. c.around_entry.ensures scope K y next o fits b) c.inner_task.ensures c.compile_at.ensures;
}

-- ---- two patterns after it

pub compile_at-begin_at-q-requires : goal.compile_at-begin_at-q-requires
compile_at-begin_at-q-requires t c = second_reads c.step_at-c.ensures c.requires.reads.is c.if-c-eq0.false c.if-c-eq1.false c.begin_at-p.ensures

pub compile_at-first_task-requires : goal.compile_at-first_task-requires
compile_at-first_task-requires t c = base-low c.requires.reads.is

pub compile_at-compile_at-requires-2 : goal.compile_at-compile_at-requires-2
compile_at-compile_at-requires-2 t c =
    let place = next_place c.step_at-c.ensures c.requires.reads.is in (
      omega (arith, c.decreases, c.first_task.ensures.at-is, place.0, place.1),
      first-ready c.requires c.step_at-c.ensures c.if-c-eq0.false c.if-c-eq1.false c.first_task.ensures,
    )

pub compile_at-compile_at-requires-3 : goal.compile_at-compile_at-requires-3
compile_at-compile_at-requires-3 t c =
    let place = second-place c.step_at-c.ensures c.requires.reads.is c.if-c-eq0.false c.if-c-eq1.false c.begin_at-p.ensures in (
      omega (arith, c.decreases, c.second_task.ensures.at-is, place.0, place.1),
      second-ready c.requires c.step_at-c.ensures c.if-c-eq0.false c.if-c-eq1.false c.begin_at-p.ensures c.second_task.ensures,
    )

pub compile_at-returns : goal.compile_at-returns
compile_at-returns t c = record {
  writes = λ o x scope K e fits.
      joined-written c.step_at-c.ensures e fits c.begin_at-p.ensures c.put-2.ensures c.if-c-eq0.false c.if-c-eq1.false c.begin_at-q.ensures
      c.silent_entry-2.ensures c.first_task.ensures c.compile_at-2.ensures c.second_task.ensures c.compile_at-3.ensures;
}

-- ---- rounds

pub compile_rounds-compile_at-requires : goal.compile_rounds-compile_at-requires
compile_rounds-compile_at-requires t c = (omega (arith, c.decreases, c.next_round.ensures.at-is), round-ready c.requires c.if-rounds-eq0.false c.next_round.ensures)

pub compile_rounds-compile_rounds-requires : goal.compile_rounds-compile_rounds-requires
compile_rounds-compile_rounds-requires t c =
    let some = c.if-rounds-eq0.false in (
      omega (arith, c.decreases, some, c.rest.ensures.at-is, c.rest.ensures.left_is),
      rest-ready c.requires some c.begin_at-p.ensures c.rest.ensures,
    )

pub compile_rounds-returns : goal.compile_rounds-returns
compile_rounds-returns t c =
    rounds-written c.if-rounds-eq0.false c.begin_at-p.ensures c.next_round.ensures c.compile_at.ensures c.rest.ensures c.compile_rounds.ensures
