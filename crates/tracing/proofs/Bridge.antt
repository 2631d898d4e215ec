-- The code's step backward with tags, for one expanded state by its numbers, is what `trace` does in the setting that the program and the loaded
-- words say: `trace-is`; and what a position does, by whether the state's may come after it. Assumes nothing.
use mathlib.Core.Path.{◌≡◌, refl, sym, ap, ◌∙◌, subst}
use mathlib.Core.Bool.{Bool, true, false, cond, ◌&&◌}
use mathlib.Core.List.{List}
use Prim.Native.Nat.{ℕ, suc, ◌+◌, ◌-◌, ◌^◌, ◌/◌, ◌%◌, ◌<◌, ◌≤◌}
use native.Mathlib.Nat.{mod-lt}
use native.Mathlib.Omega.{arith}
use lib.Dec.{eqb}
use lib.ListN.{length}
use borrow.Author.Tests.{eq-eqb, ne_eqb}
use Rattle.meaning.specs.Writing.{line_at}
use Rattle.positions.specs.Program.{bit_of, follow_at, leaves_at, depth_at, node_in, kind-few}
use Rattle.automaton.specs.Shape.{leaves}
use Rattle.request.specs.declared.Plan.{Plan}
use Rattle.graph.specs.Plain.{memb}
use Rattle.graph.specs.Loops.{turns}
use Rattle.graph.proofs.Loops.{turns-within, turns_same}
use Rattle.graph.specs.Table.{Search}
use Rattle.graph.specs.Trace.{Reached, tag_of, tagged}
use Rattle.search.specs.Product.{Setting, stacks, place_of, pos_of, stack_of}
use Rattle.search.proofs.Front.{lines-many, line-at}
use Rattle.search.specs.Loaded.{setting_in}
use Rattle.search.specs.Moves.{over_stacks}
use Rattle.search.specs.Traced.{over_traced, trace}
use Rattle.states.specs.Spots.{Fit, Aimed, spot_in, line_turn, target_in}
use Rattle.states.specs.declared.Spot.{Spot}
use Rattle.states.specs.declared.Target.{Target}
use Rattle.states.proofs.Bounds.{spot-sane}
use Rattle.states.proofs.Bridge.{member}
use Rattle.ways.specs.Ways.{Before}
use Rattle.expanding.specs.Undoing.{undo_of, line_undone}
use Rattle.expanding.specs.declared.Undo.{Undo}
use Rattle.expanding.proofs.Bridge.{stacks-are}
use Rattle.tracing.specs.Tracing.{line_traced, into_traced, spot_traced}
use Rattle.tracing.proofs.Traces.{tagged-as, tagged-idle}

-- ---- a position

-- what going back to it goes by
pub before_of : {plan : Plan} {a w : List ℕ} → Fit plan a w → {t : Target} → Aimed plan t
    → (c : ℕ) → c ≤ plan.done → (s : Spot) → s ≡ spot_in a plan.radix c → (deep : ℕ) → deep ≡ leaves_at a c → Before plan s t c deep
unfolding spot_in
before_of {plan} {a} {w} f aim c low s is deep deep_is =
    record {
      area = length w;
      laid = f.laid;
      aimed = aim;
      sane = spot-sane f c low s is;
      kind-low = subst (λ (z : Spot). z.kind ≤ 15) (sym is) (kind-few a c);
      position-low = low;
      leaves-low = subst (◌≤ plan.keeps) (sym deep_is) (f.leaves-low c low);
    }

module _ (a : List ℕ) (plan : Plan) (g : List ℕ) (t : Target) (d parent c : ℕ) (x : Reached) where
  pub spot_passed : (bit_of (follow_at a c) t.position ≡ 1 → ⊥) → spot_traced a plan g t d parent c x ≡ x
  unfolding spot_traced
  spot_passed h = rw (ne_eqb _ _ h)

  pub spot-taken : bit_of (follow_at a c) t.position ≡ 1 → (u : Undo) → u ≡ undo_of plan (spot_in a plan.radix c) t d (leaves_at a c)
      → spot_traced a plan g t d parent c x ≡ into_traced plan u g t.place c parent x
  spot-taken h u is = taken ∙ (turns_same by_turn by-undo one 0 plan.lines x ∙ sym (ap (λ z. into_traced plan z g t.place c parent x) is ∙ unfold into_traced in refl))
    where
      by_turn : ℕ → Reached → Reached
      by_turn i = tagged (tag_of i parent) (line_turn plan g (spot_in a plan.radix c) t d c (plan.radix ^ (leaves_at a c - t.depth)) i)

      by-undo : ℕ → Reached → Reached
      by-undo = line_traced plan (undo_of plan (spot_in a plan.radix c) t d (leaves_at a c)) g t.place c parent

      taken : spot_traced a plan g t d parent c x ≡ turns by_turn 0 plan.lines x
      taken = unfold spot_traced in rw (eq-eqb _ _ h)

      one : (i : ℕ) (y : Reached) → by_turn i y ≡ by-undo i y
      one i y = unfold line_traced in tagged-as (tag_of i parent) _ _ y (unfold line_turn line_undone in refl)

-- ---- the state expanded

-- tags under a test
tagged-if : (tag : ℕ) (f : Search → Search) (b : Bool) (x : Reached) → cond b (tagged tag f x) x ≡ tagged tag (λ st. cond b (f st) st) x
tagged-if tag f true x = refl
tagged-if tag f false x = sym (tagged-idle tag (λ st. st) x refl)

module _ (a : List ℕ) (plan : Plan) (g : List ℕ) (big : plan.stacks ≡ plan.radix ^ plan.keeps) where
  abbrev S : Setting
  S = setting_in a plan g

  lines_are : (d t c e : ℕ) (aim : Target) (x : Reached) → aim.weight ≡ plan.radix ^ e
      → over_traced S d t c aim.place e aim.stack x
      ≡ turns (λ i. tagged (tag_of i t) (line_turn plan g (spot_in a plan.radix c) aim d c (plan.radix ^ (leaves (node_in a c) - e)) i)) 0 plan.lines x
  lines_are d t c e aim x ew = whole ∙ turns-within body (λ i. tagged (tag_of i t) (turn i)) 0 plan.lines (λ i low less. same_turn i (omega (arith, less))) x
    where
      turn : ℕ → Search → Search
      turn = line_turn plan g (spot_in a plan.radix c) aim d c (plan.radix ^ (leaves (node_in a c) - e))

      test : ℕ → Bool
      test i = eqb (line_at S.lines i).to aim.place && eqb (line_at S.lines i).kind (S.node c).kind

      body : ℕ → Reached → Reached
      body i b = cond (test i) (tagged (tag_of i t) (over_stacks S d c i e aim.stack) b) b

      whole : over_traced S d t c aim.place e aim.stack x ≡ turns body 0 plan.lines x
      whole = unfold over_traced in ap (λ m. turns body 0 m x) (unfold setting_in in lines-many plan g 0 plan.lines)

      same : (i : ℕ) → i < plan.lines → (st : Search) → cond (test i) (over_stacks S d c i e aim.stack st) st ≡ turn i st
      same i l st = rw (stacks-are a plan g big d c i e aim.stack st l) (unfold setting_in line_turn node_in spot_in in rw (line-at plan g i l, ew))

      same_turn : (i : ℕ) → i < plan.lines → (b : Reached) → body i b ≡ tagged (tag_of i t) (turn i) b
      same_turn i l b =
          tagged-if (tag_of i t) (over_stacks S d c i e aim.stack) (test i) b
          ∙ tagged-as (tag_of i t) (λ st. cond (test i) (over_stacks S d c i e aim.stack st) st) (turn i) b (same i l b.table)

  pub trace-is : plan.done ≤ 63 → (d t : ℕ) (x : Reached) → trace S d t x ≡ turns (spot_traced a plan g (target_in a plan t) d t) 0 plan.done x
  trace-is few d t x = whole ∙ turns-within body (spot_traced a plan g aim d t) 0 plan.done (λ c low less. same_turn c (omega (arith, less))) x
    where
      aim : Target
      aim = target_in a plan t

      k : ℕ
      k = t / plan.stacks % (plan.done + 1)

      e : ℕ
      e = depth_at a k

      over : ℕ → Reached → Reached
      over c = over_traced S d t c (t / plan.stacks / (plan.done + 1)) e (t % plan.stacks % plan.radix ^ e)

      body : ℕ → Reached → Reached
      body c b = cond (memb k (S.node c).follow) (over c b) b

      whole : trace S d t x ≡ turns body 0 plan.done x
      whole = unfold trace setting_in node_in place_of pos_of stack_of stacks in let next : plan.done + 1 ≡ suc plan.done = omega arith in rw (← next, ← big)

      low : k < 64
      low = omega (arith, few, mod-lt (t / plan.stacks) {m = plan.done + 1} (omega arith))

      lines-here : (c : ℕ) (b : Reached)
          → over c b ≡ turns (λ i. tagged (tag_of i t) (line_turn plan g (spot_in a plan.radix c) aim d c (plan.radix ^ (leaves (node_in a c) - e)) i)) 0 plan.lines b
      lines-here c b = unfold target_in in lines_are d t c e aim b refl

      same_turn : (c : ℕ) → c < plan.done → (b : Reached) → body c b ≡ spot_traced a plan g aim d t c b
      same_turn c l b =
          let may : memb k (S.node c).follow ≡ eqb (bit_of (follow_at a c) k) 1 = unfold setting_in node_in in member (follow_at a c) k low in
          ap (λ z. cond z (over c b) b) may ∙ ap (λ z. cond (eqb (bit_of (follow_at a c) k) 1) z b) (lines-here c b) ∙ unfold spot_traced target_in node_in in refl
