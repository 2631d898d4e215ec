-- `compiler::begin_at`: the command at the place passed its questions, so the pattern is one of three trees (`Parts`), and each way
-- through the function is one law of `Beginnings`.
use Rattle.std.proofs.Common.{◌≡◌, ℕ, false, sym, ◌∙◌, subst, eq-eqb, arith}
use Rattle.meaning.specs.Pattern.{nothing, inside}
use Rattle.compiler.specs.Compiling.{skips, Begins}
use Rattle.pattern.specs.Reading.{byte_of}
use Rattle.compiler.proofs.Parts.{commands-there, led, none_after, one-after, two-after, base-low, next_place, after-reads, inner-part, first_part, second-part, second_reads, second-place, over-stands, counted-one, skip_is, fits-as, surrounds}
use Rattle.compiler.proofs.Beginnings.{around-counted, begins-as, begins-part, skipped-begins}
use Rattle.compiler.proofs.+begin_at.Goals as goal

pub step_at-c-requires : goal.step_at-c-requires
step_at-c-requires t c = commands-there c.requires.is.stands

-- ---- no pattern after the command

pub begin_leaf-requires : goal.begin_leaf-requires
begin_leaf-requires t c = base-low c.requires.is

pub returns-then-c-eq0 : goal.returns-then-c-eq0
returns-then-c-eq0 t c = record { begins = λ o x e. begins-part (none_after (led e.stands c.step_at-c.ensures) c.if-c-eq0.true) c.begin_leaf.ensures }

-- ---- a pattern that may come no time

pub place_after-requires : goal.place_after-requires
place_after-requires t c = over-stands c.step_at-c.ensures c.requires.is.stands c.if-c-eq0.false

pub begin_nothing-requires : goal.begin_nothing-requires
begin_nothing-requires t c = base-low c.requires.is

pub returns-then-left_out : goal.returns-then-left_out
returns-then-left_out t c = record {
  begins = λ o x e.
      let r = c.step_at-c.result in
      let (code, none) = skip_is (byte_of r.op) r.second (sym c.left_out.ensures ∙ c.if-left_out.true) in
      let l = led e.stands c.step_at-c.ensures in
      let q = one-after l (counted-one l code) in
      let ends = c.place_after.ensures.ends (inside (byte_of r.op) r.second o) q.inner q.reads in
      begins-part q.is
      (begins-as (around-counted r.first r.second q.inner.tree code)
      (skipped-begins q.inner.tree none (q.counts (eq-eqb _ _ code)).0 (subst (λ (n : ℕ). Begins nothing c.args.base n c.begin_nothing.result) ends c.begin_nothing.ensures)));
}

-- ---- one pattern after it

pub begin_at-p-requires : goal.begin_at-p-requires
begin_at-p-requires t c =
    let place = next_place c.step_at-c.ensures c.requires.is in
    (omega (arith, c.decreases, place.0, place.1), after-reads c.step_at-c.ensures c.requires.is c.if-c-eq0.false (sym c.left_out.ensures ∙ c.if-left_out.false))

pub begin_around-requires : goal.begin_around-requires
begin_around-requires t c =
    surrounds c.step_at-c.ensures c.requires.is c.if-c-eq1.true (sym c.left_out.ensures ∙ c.if-left_out.false) c.begin_at-p.ensures

pub returns-then-c-eq1 : goal.returns-then-c-eq1
returns-then-c-eq1 t c = record {
  begins = λ o x e.
      let r = c.step_at-c.result in
      let stays : skips (byte_of r.op) r.second ≡ false = sym c.left_out.ensures ∙ c.if-left_out.false in
      let q = one-after (led e.stands c.step_at-c.ensures) c.if-c-eq1.true in
      begins-part q.is
      (c.begin_around.ensures q.inner.tree q.inner.next q.code (λ k. (q.counts k).0) (fits-as c.step_at-c.ensures e q.is)
      (c.begin_at-p.ensures.begins (inside (byte_of r.op) r.second o) q.inner (inner-part c.step_at-c.ensures e q stays)));
}

-- ---- two patterns after it

pub begin_at-q-requires : goal.begin_at-q-requires
begin_at-q-requires t c =
    let place = second-place c.step_at-c.ensures c.requires.is c.if-c-eq0.false c.if-c-eq1.false c.begin_at-p.ensures in
    (omega (arith, c.decreases, place.0, place.1), second_reads c.step_at-c.ensures c.requires.is c.if-c-eq0.false c.if-c-eq1.false c.begin_at-p.ensures)

pub returns : goal.returns
returns t c = record {
  begins = λ o x e.
      let q = two-after (led e.stands c.step_at-c.ensures) c.if-c-eq0.false c.if-c-eq1.false in
      let f = c.begin_at-p.ensures.begins o q.first (first_part c.step_at-c.ensures e q) in
      let s = c.begin_at-q.ensures.begins o q.second (second-part c.step_at-c.ensures e q c.begin_at-p.ensures) in
      begins-part q.is
      (c.begin_joined.ensures c.args.base q.first.tree q.second.tree q.first.next q.second.next f (subst (λ (i : ℕ). Begins q.second.tree i q.second.next c.begin_at-q.result) f.after_is s));
}
