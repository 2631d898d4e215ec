-- `pattern::read_at`: the command at the place has passed its questions (`ok`), so the next place is later and not past the end;
-- each way through the reader is then one law of `Extents`.
use Rattle.std.proofs.Common.{◌≡◌, ℕ, ◌+◌, ◌-◌, ◌<◌, ◌≤◌, List, length, sym, ap, subst, ◌∙◌, arith, rules}
use Rattle.meaning.specs.Outcome.{passed, and_then}
use Rattle.meaning.specs.Pattern.{Outside}
use Rattle.refusals.specs.Refusal.{mapped}
use Rattle.refusals.proofs.Handed.{handed}
use Rattle.pattern.specs.Reading.{byte_of, extent_at, joined_extent, around_extent}
use Rattle.pattern.specs.Passed.{command-passed, next-later, next-inside, keep-slot, inside-small}
use Rattle.pattern.proofs.Extents.{refused-command, no-pattern, one_more, extent-after, two-more, bounded, few}
use Rattle.pattern.proofs.+read_at.Goals as goal

-- a later place that is not past the end has fewer bytes left
fewer : (s : List ℕ) (at next t : ℕ) → length s - at ≡ t → at < next → next ≤ length s → length s - next < t
fewer s at next t measure later inside = omega arith

pub returns-in_err-c : goal.returns-in_err-c
returns-in_err-c t c = handed _ _ c.from_residual.ensures.1 ∙ refused-command _ _ _ _ _ (sym c.in_err-c.ensures)

-- ---- no pattern after the command

pub returns-then-c-eq0 : goal.returns-then-c-eq0
returns-then-c-eq0 t c = no-pattern (command-passed _ _ _ _ _ (sym c.in_ok-c.ensures)) c.if-c-eq0.true

-- ---- one pattern after it

pub overflow_add-before : goal.overflow_add-before
overflow_add-before t c = let ok = command-passed _ _ _ _ _ (sym c.in_ok-c.ensures) in search (rules, ok.few)

pub inside-requires : goal.inside-requires
inside-requires t c = let ok = command-passed _ _ _ _ _ (sym c.in_ok-c.ensures) in (keep-slot ok, c.requires)

pub read_at-requires : goal.read_at-requires
read_at-requires t c =
    let ok = command-passed _ _ _ _ _ (sym c.in_ok-c.ensures) in
    let there = fewer _ _ _ t c.decreases (next-later ok) (next-inside ok) in
    (there, subst (λ (o : Outside). o.depth ≤ 3) (sym c.inside.ensures) (inside-small ok c.requires))

pub returns-in_err-p : goal.returns-in_err-p
returns-in_err-p t c =
    let ok = command-passed _ _ _ _ _ (sym c.in_ok-c.ensures) in
    let k = c.in_ok-c.c in
    let inner = c.in_err-p.ensures ∙ ap (extent_at c.args.src.now k.next (c.args.before + 1)) c.inside.ensures in
    handed _ _ c.from_residual-in_err-p.ensures.1 ∙ (ap (mapped (around_extent (byte_of k.op) k.second)) inner ∙ one_more ok c.if-c-eq1.true)

pub around-requires : goal.around-requires
around-requires t c =
    let ok = command-passed _ _ _ _ _ (sym c.in_ok-c.ensures) in
    let inner = c.in_ok-p.ensures ∙ ap (extent_at c.args.src.now c.in_ok-c.c.next (c.args.before + 1)) c.inside.ensures in
    few _ _ _ _ c.in_ok-p.p (inside-small ok c.requires) inner

pub returns-then-c-eq1 : goal.returns-then-c-eq1
returns-then-c-eq1 t c =
    let ok = command-passed _ _ _ _ _ (sym c.in_ok-c.ensures) in
    let k = c.in_ok-c.c in
    let inner = c.in_ok-p.ensures ∙ ap (extent_at c.args.src.now k.next (c.args.before + 1)) c.inside.ensures in
    ap passed c.around.ensures ∙ (ap (mapped (around_extent (byte_of k.op) k.second)) inner ∙ one_more ok c.if-c-eq1.true)

-- ---- two patterns after it

pub overflow_add-before-2 : goal.overflow_add-before-2
overflow_add-before-2 t c = let ok = command-passed _ _ _ _ _ (sym c.in_ok-c.ensures) in search (rules, ok.few)

pub read_at-requires-2 : goal.read_at-requires-2
read_at-requires-2 t c =
    let ok = command-passed _ _ _ _ _ (sym c.in_ok-c.ensures) in
    (fewer _ _ _ t c.decreases (next-later ok) (next-inside ok), c.requires)

pub returns-in_err-p-2 : goal.returns-in_err-p-2
returns-in_err-p-2 t c =
    let ok = command-passed _ _ _ _ _ (sym c.in_ok-c.ensures) in
    handed _ _ c.from_residual-in_err-p-2.ensures.1
    ∙ (ap (λ x. and_then x (extent-after ok c.if-c-eq0.false c.if-c-eq1.false)) c.in_err-p-2.ensures ∙ two-more ok c.if-c-eq0.false c.if-c-eq1.false)

pub overflow_add-before-3 : goal.overflow_add-before-3
overflow_add-before-3 t c = let ok = command-passed _ _ _ _ _ (sym c.in_ok-c.ensures) in search (rules, ok.few)

pub overflow_add-before-4 : goal.overflow_add-before-4
overflow_add-before-4 t c = let b = bounded _ _ _ _ c.in_ok-p-2.p c.requires c.in_ok-p-2.ensures in search (rules, b.few)

pub read_at-requires-3 : goal.read_at-requires-3
read_at-requires-3 t c =
    let ok = command-passed _ _ _ _ _ (sym c.in_ok-c.ensures) in
    let b = bounded _ _ _ _ c.in_ok-p-2.p c.requires c.in_ok-p-2.ensures in
    (fewer _ _ _ t c.decreases (omega (arith, next-later ok, b.later)) b.inside, c.requires)

pub returns-in_err-q : goal.returns-in_err-q
returns-in_err-q t c =
    let ok = command-passed _ _ _ _ _ (sym c.in_ok-c.ensures) in
    handed _ _ c.from_residual-in_err-q.ensures.1
    ∙ (ap (mapped (joined_extent c.in_ok-p-2.p)) c.in_err-q.ensures
    ∙ (ap (λ x. and_then x (extent-after ok c.if-c-eq0.false c.if-c-eq1.false)) c.in_ok-p-2.ensures ∙ two-more ok c.if-c-eq0.false c.if-c-eq1.false))

pub joined-requires : goal.joined-requires
joined-requires t c = (few _ _ _ _ c.in_ok-p-2.p c.requires c.in_ok-p-2.ensures, few _ _ _ _ c.in_ok-q.q c.requires c.in_ok-q.ensures)

pub returns : goal.returns
returns t c =
    let ok = command-passed _ _ _ _ _ (sym c.in_ok-c.ensures) in
    ap passed c.joined.ensures
    ∙ (ap (mapped (joined_extent c.in_ok-p-2.p)) c.in_ok-q.ensures
    ∙ (ap (λ x. and_then x (extent-after ok c.if-c-eq0.false c.if-c-eq1.false)) c.in_ok-p-2.ensures ∙ two-more ok c.if-c-eq0.false c.if-c-eq1.false))
