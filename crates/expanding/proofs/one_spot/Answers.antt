-- `expanding::one_spot` meets its contract: the lines that lead back to the position, by a way or all of them. Assumes nothing.
use mathlib.Core.Path.{◌≡◌, sym, ap, ◌∙◌, subst}
use mathlib.Core.List.{List}
use Prim.Native.Nat.{ℕ, ◌-◌, ◌^◌, ◌≤◌}
use native.Mathlib.Omega.{arith}
use lib.ListN.{length}
use Rattle.positions.specs.Program.{leaves_at, depth_at, kind-few}
use Rattle.automaton.specs.Shape.{deeper}
use Rattle.request.specs.declared.Plan.{Plan}
use Rattle.states.specs.Spots.{Aimed, Fit, spot_in}
use Rattle.states.specs.declared.Spot.{Spot}
use Rattle.states.specs.declared.Target.{Target}
use Rattle.states.proofs.Bounds.{power_small, spot-sane}
use Rattle.area.proofs.Changes.{step-as}
use Rattle.expanding.proofs.Backs.{spot-taken}
use Rattle.ways.specs.Ways.{Before}
use Rattle.expanding.proofs.one_spot.Goals as goal

-- the depth after the position, by the numbers that the code reads
leaves-are : (a : List ℕ) (radix c : ℕ) (s : Spot) → s ≡ spot_in a radix c → (depth leaves : ℕ) → depth ≡ depth_at a c → leaves ≡ deeper s.push depth → leaves ≡ leaves_at a c
unfolding spot_in
leaves-are a radix c s is depth leaves deep e = e ∙ (λ t. deeper (is t).push (deep t))

before : {plan : Plan} {a w : List ℕ} → Fit plan a w → {t : Target} → Aimed plan t → (c : ℕ) → c ≤ plan.done → (s : Spot) → s ≡ spot_in a plan.radix c → (leaves : ℕ) → leaves ≡ leaves_at a c → Before plan s t c leaves
unfolding spot_in
before {plan} {a} {w} fit aimed c low s is leaves e =
    record {
      area = length w;
      laid = fit.laid;
      aimed = aimed;
      sane = spot-sane fit c low s is;
      kind-low = subst (λ (z : Spot). z.kind ≤ 15) (sym is) (kind-few a c);
      position-low = low;
      leaves-low = subst (◌≤ plan.keeps) (sym e) (fit.leaves-low c low);
    }

pub spot_at-spot-requires-clause-c_bound_2 : goal.spot_at-spot-requires-clause-c_bound_2
spot_at-spot-requires-clause-c_bound_2 c =
    let fit = c.requires.backing.fit in
    let low : c.args.c ≤ c.args.plan.done = omega (arith, c.requires.d_nonzero.2) in
    (power_small fit.laid _ (fit.levels-low _ low), power_small fit.laid _ (fit.depths-low _ low))

pub over_way-requires-clause-before : goal.over_way-requires-clause-before
over_way-requires-clause-before c =
    before c.requires.backing.fit c.requires.aimed c.args.c (omega (arith, c.requires.d_nonzero.2)) _ c.spot_at-spot.ensures _
    (leaves-are _ _ _ _ c.spot_at-spot.ensures _ _ c.depth_at.ensures c.leaves_of-leaves.ensures)

pub returns-then-plan : goal.returns-then-plan
returns-then-plan c =
    let leaves = leaves-are _ _ _ _ c.spot_at-spot.ensures _ _ c.depth_at.ensures c.leaves_of-leaves.ensures in
    step-as _ c.over_way.ensures (spot-taken c.args.program.now _ _ _ _ _ _ c.requires.d_nonzero.3 _ _ c.spot_at-spot.ensures (ap (λ z. c.args.plan.radix ^ (z - c.args.target.depth)) leaves))

pub by_stack-requires-clause-before : goal.by_stack-requires-clause-before
by_stack-requires-clause-before c =
    before c.requires.backing.fit c.requires.aimed c.args.c (omega (arith, c.requires.d_nonzero.2)) _ c.spot_at-spot.ensures _
    (leaves-are _ _ _ _ c.spot_at-spot.ensures _ _ c.depth_at.ensures c.leaves_of-leaves.ensures)

pub returns : goal.returns
returns c =
    let leaves = leaves-are _ _ _ _ c.spot_at-spot.ensures _ _ c.depth_at.ensures c.leaves_of-leaves.ensures in
    step-as _ c.by_stack.ensures (spot-taken c.args.program.now _ _ _ _ _ _ c.requires.d_nonzero.3 _ _ c.spot_at-spot.ensures (ap (λ z. c.args.plan.radix ^ (z - c.args.target.depth)) leaves))
