-- `readout::chain_out`: the front is cleared, the marks are noted, and they are made lines.
use Rattle.std.proofs.Common.{arith}
use Rattle.std.proofs.lemmas.Grind.{common_steps}
use Rattle.readout.proofs.Chains.{chain-told}
use Rattle.readout.proofs.chain_out.Goals as goal

pub returns : goal.returns
returns c = λ g.
    let all = chain-told c.args.plan c.args.tail c.args.far _ c.requires.room_back.0 _ c.saturating_sub-n.ensures _ _ _ _ c.requires.far_in_bounds in
    all (grind (arith, common_steps)) (c.note_marks.ensures g) c.lines_of.ensures
