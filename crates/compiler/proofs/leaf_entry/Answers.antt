-- `compiler::leaf_entry`: the command says which node it is, and the task the level of a test's slot.
use Rattle.std.proofs.Common.{◌≡◌, ◌≤◌, sym, ap, ◌∙◌, arith, Some}
use Rattle.meaning.specs.Pattern.{test_rule}
use Rattle.automaton.specs.Automaton.{level_of, test_of}
use Rattle.positions.specs.Program.{test_in}
use Rattle.positions.specs.declared.Rule.{Rule}
use Rattle.pattern.specs.Reading.{byte_of}
use Rattle.compiler.specs.Compiling.{level_shown}
use Rattle.compiler.proofs.Entries.{says-as, node-test, level-some, level-fits}
use Rattle.compiler.proofs.leaf_entry.Goals as goal

pub returns-in-Some : goal.returns-in-Some
returns-in-Some c scope K f =
    let slot = c.args.c.second in
    let code = byte_of c.args.c.op in
    let level = c.in-Some.level in
    let is : level_shown (level_of slot scope) ≡ Some level = sym (f.levels-are slot c.requires.slot) ∙ (rw c.from.ensures at c.in-Some.is) in
    let low : level ≤ c.args.task.depth = omega (arith, level-fits slot scope level is, f.depth_is) in
    let test : test_in c.rule_of.result level ≡ test_of (test_rule code) (level_of slot scope) =
    ap (λ (x : Rule). test_in x level) c.rule_of.ensures ∙ level-some code (level_of slot scope) level is in
    let other : byte_of c.args.c.op ≡ 0x20 → ⊥ = grind arith in
    let letter : byte_of c.args.c.op ≡ 0x21 → ⊥ = grind arith in
    says-as (node-test c.args.c.first slot c.args.task.base scope K other letter)
    (c.taking_entry-in-Some.ensures scope K (test_of (test_rule code) (level_of slot scope)) f test low)
