-- `tracing::one_traced` meets its contract: the line is gone back over, and then the tags of the states that it found are written.
use mathlib.Core.Path.{◌≡◌}
use Prim.Native.Nat.{◌+◌, ◌*◌, ◌-◌}
use native.Mathlib.Omega.{arith}
use Rattle.tracing.specs.Tracing.{line_traced}
use Rattle.tracing.proofs.Traces.{traced}
use Rattle.tracing.proofs.one_traced.Goals as goal

pub returns : goal.returns
unfolding line_traced
returns c =
    let many : c.args.plan.base + 2 * c.args.plan.size + c.one_line-t.result - (c.args.plan.base + 2 * c.args.plan.size + c.args.tail) ≡ c.one_line-t.result - c.args.tail = omega arith in
    rw (c.write_run.ensures, many) (traced c.args.plan _ _ _ _ _ _ c.one_line-t.ensures c.requires.undoing.ready (omega (arith, c.requires.starts.2)))
