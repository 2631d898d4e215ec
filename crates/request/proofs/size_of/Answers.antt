-- `request::size_of`: a size that has passed the limit stays above it.
use Rattle.std.proofs.Common.{◌≡◌, ℕ, suc, ◌+◌, ◌*◌, ◌^◌, ap, ◌∙◌, arith}
use Rattle.std.proofs.lemmas.Bool.{lt-leb}
use Rattle.request.specs.Layout.{largest}
use Rattle.request.proofs.Sizes.{size_step, size-grows}
use Rattle.request.proofs.size_of.Goals as goal

pub returns-then-size-gt-LARGEST : goal.returns-then-size-gt-LARGEST
returns-then-size-gt-LARGEST c =
    let a = c.args in
    let n = a.places * suc a.unfolded in
    let now : c.loop.size * a.radix ≡ n * a.radix ^ (c.loop.counter + 1) = ap (λ (x : ℕ). x * a.radix) c.loop.invariant.0 ∙ size_step n a.radix c.loop.counter in
    simp (lt-leb (n * a.radix ^ a.keeps) largest (omega (arith, now, size-grows n a.radix (c.loop.counter + 1) a.keeps c.requires.2 (omega arith))))

pub loop-preserved : goal.loop-preserved
loop-preserved c =
    let a = c.args in
    (ap (λ (x : ℕ). x * a.radix) c.loop.invariant.0 ∙ size_step (a.places * suc a.unfolded) a.radix c.loop.counter, c.if-size-gt-LARGEST.false)
