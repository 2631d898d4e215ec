-- Which words of the sorted lines are enough where the stacks are gone over one by one: the run of the kind (`full-enough`), and its thin words
-- where they are said to be (`thin-enough`).
use mathlib.Core.Path.{◌≡◌, sym, ◌∙◌, subst}
use mathlib.Core.List.{List}
use Prim.Native.Nat.{ℕ, suc, ◌+◌, ◌*◌, ◌-◌, ◌/◌, ◌≤◌, ◌<◌}
use native.Mathlib.Omega.{arith}
use lib.Arith.{digits_lt}
use lib.ListN.{length, get_or}
use Rattle.lists.specs.Listed.{◌∈◌}
use Rattle.request.specs.Layout.{Laid}
use Rattle.request.specs.declared.Plan.{Plan}
use Rattle.graph.specs.Loops.{turns}
use Rattle.graph.specs.Table.{Search}
use Rattle.sorted.specs.Runs.{turns-run, table-behind}
use Rattle.sorted.specs.Sorting.{pack_by, keys, pack_in, Run}
use Rattle.sorted.specs.declared.Order.TheVariants as Order
use Rattle.area.specs.Area.{stretch}
use Rattle.states.specs.Served.{Thinnable}
use Rattle.states.specs.Spots.{front, boats_in, line_turn}
use Rattle.states.specs.declared.Spot.{Spot}
use Rattle.states.specs.declared.Target.{Target}
use Rattle.states.proofs.Bounds.{state-low}
use Rattle.states.specs.declared.Sieve.{Sieve}
use Rattle.thinned.specs.Runs.{stamps-are, from_places}
use Rattle.thinned.specs.Thinning.{thin_at}
use Rattle.thinned.proofs.Sieves.{at-past}
use Rattle.ways.specs.Filed.{Filed, Sieved}
use Rattle.ways.specs.Stacked.{stacked_turn, Enough}
use Rattle.ways.specs.Ways.{run_turn, Told}
use Rattle.ways.proofs.Filing.{kinds-fit, thin-behind}
use Rattle.ways.proofs.Lanes.{run_in, run-word, run-turn}
use Rattle.ways.proofs.Right.{turns-alike, stacked-line}
use Rattle.ways.proofs.Thin.{stack-pushing, thin-word, thin-turns}

-- the key of a position's kind at a place
pub key-low : (plan : Plan) (p x : ℕ) → p < plan.places → x ≤ 15 → p * 16 + x < keys Order.Kind plan
unfolding keys
key-low plan p x low few = digits_lt low (omega (arith, few))

module _ (plan : Plan) (w : List ℕ) (laid : Laid plan (length w)) (told : Told plan (front plan w)) (filed : Filed plan w)
    (s : Spot) (t : Target) (kind-low : s.kind ≤ 15) (place-low : t.place < plan.places) where
  abbrev key : ℕ
  key = t.place * 16 + s.kind

  run : Run Order.Kind plan plan.bykind w key
  run = filed.basic.kinds key (key-low plan t.place s.kind place-low kind-low)

  -- a line's word says a place
  pack-low : (i : ℕ) → i < plan.lines → pack_in Order.Kind plan (front plan w) i / pack_by < plan.places
  pack-low i h = (from_places plan w told.starts (λ i h. omega (arith, told.codes-low i h, laid.few-boats)) i h).0

  -- going over all lines is going over those of the key
  by_key : (d c count : ℕ) (st : Search) → turns (line_turn plan (front plan w) s t d c count) 0 plan.lines st ≡ turns (run_turn Order.Kind plan (front plan w) key (stacked_turn plan s t (boats_in plan w) d c count)) 0 plan.lines st
  by_key d c count st =
      turns-alike (line_turn plan (front plan w) s t d c count) (run_turn Order.Kind plan (front plan w) key (stacked_turn plan s t (boats_in plan w) d c count)) 0 plan.lines plan.lines (omega arith)
      (λ i less b. stacked-line plan (front plan w) told laid.few-boats i less s t d c count b kind-low) st

  module _ (lo hi : ℕ) (rising : lo ≤ hi) (inside : hi ≤ length w) where
    pub full-enough : lo ≡ get_or w (plan.bykind + key) 0 → hi ≡ get_or w (plan.bykind + suc key) 0 → Enough plan s t w lo hi
    full-enough el eh =
        record {
          words =
              record {
                behind = omega (arith, el, run.low, table-behind laid Order.Kind);
                rising = rising;
                inside = inside;
                starts = λ p from less.
                    let (i, li, is) = run-word Order.Kind plan plan.bykind w key run (kinds-fit laid filed.basic) p (omega (arith, el, from)) (omega (arith, eh, less)) in
                    subst (λ e. e / pack_by < plan.places) is (pack-low i li);
              };
          same = λ d c count some low fits st long.
              by_key d c count st
              ∙ (turns-run Order.Kind plan plan.bykind w key run (kinds-fit laid filed.basic) _ (stacked_turn plan s t (boats_in plan w) d c count) (λ i less b. run-turn _ _ _ _ _ i b) st
              ∙ (λ n. turns (λ p. stacked_turn plan s t (boats_in plan w) d c count (get_or w p 0)) (sym el n) (sym eh n - sym el n) st));
        }

    pub thin-enough : (sieve : Sieve) → Sieved sieve plan w → Thinnable sieve s → lo ≡ get_or w (thin_at sieve plan + key) 0 → hi ≡ get_or w (thin_at sieve plan + suc key) 0 → Enough plan s t w lo hi
    thin-enough sieve made few el eh =
        let at = thin_at sieve plan in
        let thin = made.thin key (key-low plan t.place s.kind place-low kind-low) in
        record {
          words =
              record {
                behind = omega (arith, el, thin.low, thin-behind laid, at-past plan (stamps-are laid) sieve);
                rising = rising;
                inside = inside;
                starts = λ p from less.
                    place-of (get_or w p 0) (thin-word sieve (boats_in plan w) plan plan.bykind at w key run thin made.room p (omega (arith, el, from)) (omega (arith, eh, less)));
              };
          same = λ d c count some low fits st long.
              by_key d c count st
              ∙ (thin-turns sieve (boats_in plan w) plan plan.bykind at w key run thin made.room (kinds-fit laid filed.basic) (stack-pushing sieve (boats_in plan w) plan s t c count few d some) st
              (λ y m u gets.
              let (n, less, goes, there) = gets in
              let small = state-low plan.places (plan.done + 1) plan.stacks plan.size (y / pack_by) c (n * t.weight + t.stack) laid.size_is (place-of y m) (omega (arith, low)) (fits n less) in
              omega (arith, there, small, long))
              ∙ (λ n. turns (λ p. stacked_turn plan s t (boats_in plan w) d c count (get_or w p 0)) (sym el n) (sym eh n - sym el n) st));
        }
      where
        place-of : (y : ℕ) → y ∈ stretch (get_or w (plan.bykind + key) 0) (get_or w (plan.bykind + suc key) 0 - get_or w (plan.bykind + key) 0) w → y / pack_by < plan.places
        place-of y m = let (i, li, is) = run_in Order.Kind plan plan.bykind w key run y m in subst (λ e. e / pack_by < plan.places) is (pack-low i li)
