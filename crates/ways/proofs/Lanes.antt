-- One word of a run, by whether it is taken; that the words after the pair of stretches stay while the loop goes on; and that each word
-- of a run is written of a line.
use mathlib.Core.Path.{◌≡◌, refl, sym, ap, ◌∙◌, subst}
use mathlib.Core.Bool.{Bool, true, false, cond}
use mathlib.Core.List.Memᴰ
use mathlib.Core.List.{List}
use Prim.Native.Nat.{ℕ, suc, ◌+◌, ◌-◌, ◌%◌, ◌≤◌, ◌<◌}
use native.Mathlib.Nat.{add-zero}
use native.Mathlib.Omega.{arith}
use lib.Dec.{eqb}
use lib.ListN.{length, get_or, drop}
use lib.Seq.{get_or-drop}
use Rattle.lists.specs.Listed.{◌∈◌, get_or-in}
use Rattle.request.specs.declared.Plan.{Plan}
use Rattle.graph.specs.Plain.{count}
use Rattle.graph.proofs.Sets.{filt-in, count-in}
use Rattle.sorted.specs.Sorting.{pack_by, key_in, pack_in, having, sorted_end, Run}
use Rattle.sorted.specs.declared.Order.{Order}
use Rattle.graph.specs.Table.{Search, push}
use Rattle.graph.proofs.Table.{push-met}
use Rattle.area.specs.Area.{stretch, found, Ready, Under}
use Rattle.states.specs.Spots.{front}
use Rattle.area.proofs.Changes.{under_back}
use Rattle.area.proofs.Stretches.{stretch-get, stretch-length}
use Rattle.ways.specs.Ways.{lane_state, taken_by, lane_turn, run_turn}
use Rattle.ways.specs.declared.Lane.{Lane}

module _ (B : ℕ → ℕ) (lane : Lane) (d e : ℕ) (st : Search) where
  pub lane-taken : (s : ℕ) → taken_by B lane.taking (e % pack_by) ≡ true → s ≡ lane_state lane e → lane_turn B d lane e st ≡ push d s st
  unfolding lane_turn
  lane-taken s goes is = rw (goes, ← is)

  pub lane-passed : taken_by B lane.taking (e % pack_by) ≡ false → lane_turn B d lane e st ≡ st
  unfolding lane_turn
  lane-passed stays = rw stays

  -- a state that has been met is not pushed, whether the word is taken or not
  pub lane-met : (s : ℕ) → s ≡ lane_state lane e → (get_or st.dist s 0 ≡ 0 → ⊥) → lane_turn B d lane e st ≡ st
  unfolding lane_turn
  lane-met s is met = go (taken_by B lane.taking (e % pack_by))
    where
      go : (b : Bool) → cond b (push d (lane_state lane e) st) st ≡ st
      go true = ap (λ n. push d n st) (sym is) ∙ push-met d s st met
      go false = refl

-- a word after the queue's last is as it was
pub back-word : (p : ℕ) (w v : List ℕ) → drop p w ≡ drop p v → get_or w p 0 ≡ get_or v p 0
back-word p w v e =
    let at : (l : List ℕ) → get_or (drop p l) 0 0 ≡ get_or l p 0 = λ l. get_or-drop p l 0 0 ∙ ap (λ n. get_or l n 0) (add-zero p) in
    sym (at w) ∙ (ap (λ l. get_or l 0 0) e ∙ at v)

pub under-word : {base size : ℕ} {F : Search → Search} {t₀ : ℕ} {w₀ : List ℕ} {G : Search → Search} {t : ℕ} {w : List ℕ}
    → Under base size F t₀ w₀ G t w → (p : ℕ) → base + size + t ≤ p → get_or w p 0 ≡ get_or w₀ p 0
under-word {w₀ = w₀} {w = w} u p le = back-word p w w₀ (under_back u p le)

-- a word of a stretch is in it
pub stretch-word : (w : List ℕ) (lo hi p : ℕ) → hi ≤ length w → lo ≤ p → p < hi → get_or w p 0 ∈ stretch lo (hi - lo) w
stretch-word w lo hi p room low high =
    let there : lo + (p - lo) ≡ p = omega arith in
    let long : length (stretch lo (hi - lo) w) ≡ hi - lo = stretch-length lo (hi - lo) w (omega arith) in
    subst (◌∈ stretch lo (hi - lo) w) (stretch-get lo (hi - lo) w (p - lo) (omega arith) ∙ ap (λ q. get_or w q 0) there) (get_or-in (stretch lo (hi - lo) w) (p - lo) 0 (omega (arith, long)))

-- every word of a run is written of one of the lines
module _ (o : Order) (plan : Plan) (at : ℕ) (w : List ℕ) (k : ℕ) (run : Run o plan at w k) where
  pub run_in : (y : ℕ) → y ∈ stretch (get_or w (at + k) 0) (get_or w (at + suc k) 0 - get_or w (at + k) 0) w → (i : ℕ) × (i < plan.lines) × (pack_in o plan (front plan w) i ≡ y)
  run_in y m =
      let (i, mi, is) = Memᴰ.of_map (pack_in o plan (front plan w)) (having o plan (front plan w) k) (subst (y ∈◌) run.has m) in
      let less = ((count-in 0 plan.lines i).0 ((filt-in (λ x. eqb (key_in o plan (front plan w) x) k) (count 0 plan.lines) i).0 mi).0).1 in
      (i, omega (arith, less), is)

  pub run-word : sorted_end o plan at ≤ length w → (p : ℕ) → get_or w (at + k) 0 ≤ p → p < get_or w (at + suc k) 0 → (i : ℕ) × (i < plan.lines) × (pack_in o plan (front plan w) i ≡ get_or w p 0)
  run-word room p low high = run_in (get_or w p 0) (stretch-word w (get_or w (at + k) 0) (get_or w (at + suc k) 0) p (omega (arith, run.high, room)) low high)

-- what a line of the run does
pub run-turn : (o : Order) (plan : Plan) (g : List ℕ) (k : ℕ) (f : ℕ → Search → Search) (i : ℕ) (st : Search) → run_turn o plan g k f i st ≡ cond (eqb (key_in o plan g i) k) (f (pack_in o plan g i) st) st
unfolding run_turn
run-turn o plan g k f i st = refl

-- the search has a word for each state
pub found-long : (base size t : ℕ) (w : List ℕ) → Ready base size t w → length (found base size t w).dist ≡ size
found-long base size t w r = r.good.sized
