-- `writing::begin_record`: each return is the case of `begin_of` that its tests decide.
use Rattle.std.proofs.Common.{le-leb}
use Rattle.std.proofs.lemmas.Bool.{lt-leb}
use Rattle.meaning.specs.Writing.{begin_of}
use Rattle.record.proofs.Tests.{not-zero}
use Rattle.writing.proofs.begin_record.Goals as goal

pub returns-then-places-eq0-clause-reply : goal.returns-then-places-eq0-clause-reply
unfolding begin_of
returns-then-places-eq0-clause-reply c = simp c.if-places-eq0.true

pub returns-then-places-eq0-clause-buffer : goal.returns-then-places-eq0-clause-buffer
unfolding begin_of
returns-then-places-eq0-clause-buffer c = simp c.if-places-eq0.true

pub returns-then-places-gt-MOST_PLACES-clause-reply :
    goal.returns-then-places-gt-MOST_PLACES-clause-reply
unfolding begin_of
returns-then-places-gt-MOST_PLACES-clause-reply c = simp (not-zero _ c.if-places-eq0.false, lt-leb _ _ c.if-places-gt-MOST_PLACES.true)

pub returns-then-places-gt-MOST_PLACES-clause-buffer :
    goal.returns-then-places-gt-MOST_PLACES-clause-buffer
unfolding begin_of
returns-then-places-gt-MOST_PLACES-clause-buffer c = simp (not-zero _ c.if-places-eq0.false, lt-leb _ _ c.if-places-gt-MOST_PLACES.true)

pub returns-then-buf-lt4-clause-reply : goal.returns-then-buf-lt4-clause-reply
unfolding begin_of
returns-then-buf-lt4-clause-reply c =
    simp (not-zero _ c.if-places-eq0.false, le-leb _ _ c.if-places-gt-MOST_PLACES.false, lt-leb _ _ c.if-buf-lt4.true)

pub returns-then-buf-lt4-clause-buffer : goal.returns-then-buf-lt4-clause-buffer
unfolding begin_of
returns-then-buf-lt4-clause-buffer c =
    simp (not-zero _ c.if-places-eq0.false, le-leb _ _ c.if-places-gt-MOST_PLACES.false, lt-leb _ _ c.if-buf-lt4.true)

pub returns-clause-reply : goal.returns-clause-reply
unfolding begin_of
returns-clause-reply c =
    simp (not-zero _ c.if-places-eq0.false, le-leb _ _ c.if-places-gt-MOST_PLACES.false, le-leb _ _ c.if-buf-lt4.false)

pub returns-clause-buffer : goal.returns-clause-buffer
unfolding begin_of
returns-clause-buffer c =
    simp (not-zero _ c.if-places-eq0.false, le-leb _ _ c.if-places-gt-MOST_PLACES.false, le-leb _ _ c.if-buf-lt4.false) c.write_at.ensures
