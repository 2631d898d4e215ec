-- `windows::options_of`: after the fifteenth kind the windows are those of the words.
use Rattle.std.proofs.Common.{ap, ℕ, arith}
use Rattle.std.proofs.lemmas.List.FromFn.{fill_by_all}
use Rattle.windows.specs.Promise.{windows_in, open_of, close_of, each_of}
use Rattle.windows.specs.declared.Window.{Window}
use Rattle.windows.proofs.options_of.Goals as goal

pub returns : goal.returns
unfolding each_of
returns c =
    let words = c.args.words.now in
    let window : ℕ → Window = λ k. record { opens = open_of words k; closes = close_of words k } in
    ap (λ ws. record { windows = windows_in ws }) (fill_by_all window c.loop-k.window-items 15 (record { opens = 0; closes = 0 }) c.loop-k.invariant.0 (λ i less. c.loop-k.invariant.1 i (omega arith)))
