-- `compiler::after_round`: each arm is one side of what the rounds after it may end with.
use Rattle.std.proofs.Common.{◌≡◌, ℕ, zero, suc, ◌+◌, ◌*◌, ◌-◌, ◌<◌, ◌≤◌, Bool, cond, ◌||◌, eqb, sym, ap, ◌∙◌, subst, suc-mul, bit_or, arith}
use Rattle.meaning.specs.Pattern.{unfolded}
use Rattle.automaton.specs.Automaton.{before}
use Rattle.compiler.specs.declared.Round.{Round}
use Rattle.compiler.specs.declared.Rounds.{Rounds}
use Rattle.compiler.specs.Compiling.{HeadsOf, AfterRound}
use Rattle.compiler.proofs.RoundMasks.{shifted, after-marked}
use Rattle.compiler.proofs.after_round.Goals as goal

before-is : (m : ℕ) → m - 1 ≡ before m
before-is zero = omega arith
before-is (suc m) = omega arith

-- what may come next, by whether the rounds may end
next : Rounds → Round → ℕ → Bool → ℕ
next rounds round heads t = let later = shifted heads round.width in cond t (bit_or later rounds.task.after) later

reached : (rounds : Rounds) (round : Round) (heads lowest : ℕ) (end : Bool) → 0 < rounds.left → HeadsOf round (rounds.left - 1) heads → lowest ≡ rounds.lowest - 1
    → end ≡ (eqb lowest 0 || round.nullable) → AfterRound rounds round (next rounds round heads end)
unfolding next
reached rounds round heads lowest end some all-heads less ends x K o l fits k =
    let n : ℕ = rounds.left - 1 in
    let more : suc n ≡ rounds.left = omega (arith, some) in
    let all = subst (λ (i : ℕ). rounds.task.base + i * unfolded x ≤ 63) (sym more) fits in
    after-marked o rounds.lowest n end (ends ∙ ap (λ (i : ℕ). eqb i 0 || round.nullable) (less ∙ before-is rounds.lowest)) (omega (arith, l, more)) all
    (all-heads x rounds.task.base o (omega (arith, all, suc-mul n (unfolded x)))) k

pub returns-then-may_end : goal.returns-then-may_end
unfolding next
returns-then-may_end c =
    subst (λ (t : Bool). AfterRound c.args.rounds c.args.round (next c.args.rounds c.args.round c.heads_of.result t)) c.if-may_end.true
    (reached c.args.rounds c.args.round c.heads_of.result c.saturating_sub.result c.may_end.result c.requires.0 c.heads_of.ensures c.saturating_sub.ensures c.may_end.ensures)

pub returns-else-may_end : goal.returns-else-may_end
unfolding next
returns-else-may_end c =
    subst (λ (t : Bool). AfterRound c.args.rounds c.args.round (next c.args.rounds c.args.round c.heads_of.result t)) c.if-may_end.false
    (reached c.args.rounds c.args.round c.heads_of.result c.saturating_sub.result c.may_end.result c.requires.0 c.heads_of.ensures c.saturating_sub.ensures c.may_end.ensures)
