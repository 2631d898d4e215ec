-- Case by case: what a visit does, and what the turns over the next positions do: they go on at the mask's lowest position (`next-lowest`), and
-- do nothing where the mask has none left (`next-none`).
use mathlib.Core.Path.{◌≡◌, refl, sym, ap, ◌∙◌}
use mathlib.Core.List.{List}
use Prim.Native.Nat.{ℕ, zero, suc, ◌+◌, ◌-◌, ◌^◌, ◌/◌, ◌%◌, ◌<◌, ◌≤◌}
use native.Mathlib.Nat.{zero-div}
use native.Mathlib.Omega.{arith}
use lib.ListN.{get_or}
use borrow.Author.Tests.{eq-eqb, ne_eqb}
use Rattle.positions.specs.Program.{bit_of, depth_at}
use Rattle.request.specs.declared.Plan.{Plan}
use Rattle.graph.specs.Loops.{turns}
use Rattle.graph.proofs.Loops.{turns-idle}
use Rattle.graph.specs.Table.{Search, push}
use Rattle.search.specs.Moves.{visit}
use Rattle.search.specs.Front.{state_in}
use Rattle.states.specs.Spots.{next_turn, Lowest, From}
use Rattle.area.proofs.Changes.{turns_next}

module _ (D : List ℕ) (w t : ℕ) (st : Search) where
  pub visit-all : w ≡ 0 → visit D w t st ≡ push 1 t st
  unfolding visit
  visit-all h = rw (eq-eqb _ _ h)

  pub visit-taken : (w ≡ 0 → ⊥) → get_or D t 0 ≡ w → visit D w t st ≡ push 1 t st
  unfolding visit
  visit-taken n h = rw (ne_eqb _ _ n, eq-eqb _ _ h)

  pub visit-passed : (w ≡ 0 → ⊥) → (get_or D t 0 ≡ w → ⊥) → visit D w t st ≡ st
  unfolding visit
  visit-passed n h = rw (ne_eqb _ _ n, ne_eqb _ _ h)

-- a state by two names
pub visit-same : (D : List ℕ) (w t u : ℕ) (st : Search) → t ≡ u → visit D w u st ≡ visit D w t st
visit-same D w t u st e = ap (λ s. visit D w s st) (sym e)

module _ {A : Type 0} (plan : Plan) (program : List ℕ) (mask : ℕ) (see : ℕ → A → A) (to v k : ℕ) (st : A) where
  next-has : bit_of mask k ≡ 1 → next_turn plan program mask see to v k st ≡ see (state_in plan to k (v % plan.radix ^ depth_at program k)) st
  unfolding next_turn
  next-has h = rw (eq-eqb _ _ h)

  next-passed : (bit_of mask k ≡ 1 → ⊥) → next_turn plan program mask see to v k st ≡ st
  unfolding next_turn
  next-passed h = rw (ne_eqb _ _ h)

-- ---- no position is left in the mask

pub next-none : {A : Type 0} (plan : Plan) (program : List ℕ) (mask : ℕ) (see : ℕ → A → A) (to v j n rest : ℕ) (st : A) → From mask j rest → rest ≡ 0
    → turns (next_turn plan program mask see to v) j n st ≡ st
next-none plan program mask see to v j n rest st from e =
    turns-idle (next_turn plan program mask see to v) j n st (λ i le less. next-passed plan program mask see to v i st (λ h. none i (ap (λ r. bit_of r i) (sym e) ∙ (from.same i le ∙ h))))
  where
    none : (i : ℕ) → bit_of 0 i ≡ 1 → ⊥
    none i h = let zeros : 0 / 2 ^ i ≡ 0 = zero-div (2 ^ i) in let one : 0 % 2 ≡ 1 = ap (◌% 2) (sym zeros) ∙ h in omega (arith, one)

-- ---- the mask's lowest position from j on

-- turns that do nothing, and then the others
turns-skip : {A : Type 0} (f : ℕ → A → A) (i m n : ℕ) (a : A) → ((x : ℕ) → i ≤ x → x < i + m → f x a ≡ a) → turns f i (m + n) a ≡ turns f (i + m) n a
unfolding turns
turns-skip f i zero n a h =
    let none : 0 + n ≡ n = omega arith in
    let here : i ≡ i + 0 = omega arith in
    ap (λ m. turns f i m a) none ∙ ap (λ k. turns f k n a) here
turns-skip f i (suc m) n a h =
    let one : suc m + n ≡ suc (m + n) = omega arith in
    let next : suc i + m ≡ i + suc m = omega arith in
    ap (λ m. turns f i m a) one
    ∙ (ap (turns f (suc i) (m + n)) (h i (omega arith) (omega arith))
    ∙ (turns-skip f (suc i) m n a (λ x l u. h x (omega arith) (omega arith)) ∙ ap (λ k. turns f k n a) next))

module _ {mask j rest k : ℕ} (from : From mask j rest) (low : Lowest rest k) where
  -- it is not below j
  past : j ≤ k
  past = let no : k < j → ⊥ = λ h. from.none_below k h low.has in omega (arith, no)

  -- the mask past it
  pub rest-after : (after : ℕ) → From rest (k + 1) after → From mask (k + 1) after
  rest-after after f = let le = past in record { same = λ i h. f.same i h ∙ from.same i (omega arith); none_below = f.none_below }

module _ {A : Type 0} (plan : Plan) (program : List ℕ) (mask : ℕ) (see : ℕ → A → A) (to v j n rest k : ℕ) (st : A) (from : From mask j rest) (low : Lowest rest k) where
  abbrev turn : ℕ → A → A
  turn = next_turn plan program mask see to v

  -- the positions below it are passed over
  below : (i : ℕ) → j ≤ i → i < k → turn i st ≡ st
  below i le less = next-passed plan program mask see to v i st (λ h. low.none_below i less (from.same i le ∙ h))

  pub next-lowest : k < n
      → turns (next_turn plan program mask see to v) (k + 1) (n - (k + 1)) (see (state_in plan to k (v % plan.radix ^ depth_at program k)) st)
      ≡ turns (next_turn plan program mask see to v) j (n - j) st
  next-lowest less =
      let le = past from low in
      let sum : j + (k - j) ≡ k = omega arith in
      let whole : n - j ≡ k - j + (n - k) = omega arith in
      let one : turn k st ≡ see (state_in plan to k (v % plan.radix ^ depth_at program k)) st = next-has plan program mask see to v k st (sym (from.same k le) ∙ low.has) in
      let skipped : turns turn j (k - j + (n - k)) st ≡ turns turn (j + (k - j)) (n - k) st = turns-skip turn j (k - j) (n - k) st (λ i l u. below i l (omega arith)) in
      ap (turns turn (k + 1) (n - (k + 1))) (sym one)
      ∙ (turns_next turn k n st less ∙ (sym (skipped ∙ ap (λ i. turns turn i (n - k) st) sum) ∙ ap (λ m. turns turn j m st) (sym whole)))

  pub next-beyond : n ≤ k → turns (next_turn plan program mask see to v) j (n - j) st ≡ st
  next-beyond more = turns-idle turn j (n - j) st (λ i le less. below i le (omega arith))

-- all of the mask
pub from_all : (mask : ℕ) → From mask 0 mask
from_all mask = record { same = λ i h. refl; none_below = λ i h b. absurd (omega arith) }
