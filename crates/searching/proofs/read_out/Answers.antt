-- `searching::read_out`: by the word's length the output holds the chain or does not.
use Rattle.std.proofs.Common.{◌≡◌, ℕ, ◌-◌, ◌≤◌, nat_eq, cond, Some, None, ap, refl, arith}
use Rattle.std.proofs.lemmas.Bool.{lt-leb, le-leb, eq-eqb}
use Prim.Native.Nat.{zero, suc}
use Rattle.searching.specs.Searching.{length_by}
use Rattle.searching.proofs.read_out.Goals as goal

-- the length that phase two found
length-found : (phase far n : ℕ) → phase ≡ 1 → 1 ≤ far → n ≡ far - 1 → Some n ≡ cond (nat_eq phase 1) (length_by far) None
length-found phase zero n one some is = absurd (omega arith)
length-found phase (suc k) n one some is = rw (eq-eqb _ _ one) (ap Some (omega (arith, is)))

pub returns-then-out-length : goal.returns-then-out-length
returns-then-out-length c =
    let (some, is) = c.in_ok-length.ensures in
    record {
      short = omega (arith, is);
      length-is = length-found c.args.s.at.phase c.args.s.at.far _ (omega arith) some is;
      kept = λ _. refl;
      after_is = λ _. rw (lt-leb _ _ c.if-out-length.true) refl;
    }

pub returns : goal.returns
returns c =
    let (some, is) = c.in_ok-length.ensures in
    record {
      short = omega (arith, is);
      length-is = length-found c.args.s.at.phase c.args.s.at.far _ (omega arith) some is;
      kept = λ less. absurd (omega (arith, less, c.if-out-length.false));
      after_is = λ g. rw (le-leb _ _ c.if-out-length.false, is) (c.chain_out.ensures g);
    }
