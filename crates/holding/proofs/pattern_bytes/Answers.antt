-- `holding::pattern_bytes`: where all bytes are written they are the pattern's, and the front of the lent bytes is theirs.
use Rattle.std.proofs.Common.{ℕ, ◌≡◌, sym, ap, ◌∙◌, subst, length, min, arith}
use lib.Seq.{take_at}
use Rattle.holding.specs.Holding.{length_in, bytes_of, bytes_in}
use Rattle.holding.proofs.Bytes.{bytes-read}
use Rattle.holding.proofs.pattern_bytes.Goals as goal

pub returns : goal.returns
returns c =
    let w = c.args.work.now in
    let n : ℕ = c.min-many.result in
    let many : n ≡ min (length_in w) 192 = c.min-many.ensures ∙ ap (λ n. min n 192) c.word-said.ensures in
    let long : length c.loop-i.front ≡ n = omega arith in
    let front : c.loop-i.front ≡ bytes_in w = subst (λ n. c.loop-i.front ≡ bytes_of n w) many (bytes-read n w c.loop-i.front (omega (arith, c.requires)) long (λ k h. c.loop-i.invariant k (omega (arith, h, c.loop-i-test.false)))) in
    (sym long ∙ ap length front, take_at c.loop-i.front _ n long ∙ front)
