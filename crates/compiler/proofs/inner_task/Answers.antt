-- `compiler::inner_task`: a keep is one more level, and `after_inner` gives what comes after.
use Rattle.std.proofs.Common.{◌≡◌, ◌<◌, length, sym, refl, rules}
use denote.Enum.Bare.{same_true}
use Rattle.pattern.specs.declared.Op.TheVariants.{Keep}
use Rattle.pattern.specs.contracts.Op.{the_type}
use Rattle.compiler.proofs.Tasks.{levels-inside, depth-inside}
use Rattle.compiler.proofs.inner_task.Goals as goal

pub returns-then-eq : goal.returns-then-eq
returns-then-eq c =
    let keep : c.args.c.op ≡ Keep = same_true the_type (search rules) _ _ (sym c.if-eq.ensures) in
    let long : c.args.c.second < length c.args.task.levels = search (rules, c.requires.slot) in
    rw (c.from.ensures, keep)
    (record {
      at-is = refl;
      base-is = refl;
      depth_is = refl;
      fits = λ scope K x b next f h.
          record {
            depth_is = depth-inside scope c.args.c.second c.args.task.depth f.depth_is;
            levels-are = levels-inside c.args.task.levels scope c.args.c.second long f.depth_is f.levels-are;
            after-marks = rw keep at (c.after_inner.ensures K x b next f.after-marks h);
          };
    })
