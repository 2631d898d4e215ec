-- Case by case: what is undone by a line and by a word of the sorted lines; that it is what all lines do, for a target and a position; and
-- that what it goes by stays.
use mathlib.Core.Path.{◌≡◌, refl, sym, ap, ◌∙◌, subst}
use mathlib.Core.Bool.{Bool, true, false, cond, ◌&&◌}
use mathlib.Core.List.{List}
use Prim.Native.Nat.{ℕ, suc, ◌+◌, ◌*◌, ◌-◌, ◌^◌, ◌/◌, ◌%◌, ◌<◌, ◌≤◌}
use native.Mathlib.Nat.{pow-zero}
use native.Mathlib.Omega.{arith}
use lib.Dec.{eqb}
use lib.ListN.{length, get_or}
use borrow.Author.Tests.{eq-eqb, ne_eqb}
use Rattle.request.specs.Layout.{largest, Laid, from_in, to_in, kind_in}
use Rattle.sorted.specs.Sorting.{pack_by}
use Rattle.request.specs.declared.Plan.{Plan}
use Rattle.search.specs.Front.{state_in}
use Rattle.search.specs.Loaded.{boat_at, code_at, word_at}
use Rattle.graph.specs.Loops.{turns}
use Rattle.graph.proofs.Loops.{turns_same}
use Rattle.graph.specs.Table.{Search}
use Rattle.area.specs.Area.{UnderAny}
use Rattle.states.specs.Pairs.{RoomBack}
use Rattle.states.specs.Spots.{front, off_by, off, stack_turn, line_turn, Stacks, Starts}
use Rattle.states.specs.declared.Spot.{Spot}
use Rattle.states.specs.declared.Target.{Target}
use Rattle.states.proofs.Bounds.{power_small, stacks-fit, state-low, word-front}
use Rattle.ways.specs.Stacked.{stacked_turn}
use Rattle.ways.specs.Ways.{Before}
use Rattle.expanding.specs.Undoing.{lines_back, undo_of, undone, line_undone, word_undone, Undoing, InStates, LeadsTo}
use Rattle.expanding.specs.declared.Undo.{Undo}
use Rattle.expanding.proofs.Backs.{stack-met}

-- ---- what it goes by

-- from the state with the empty stack at a place on, every stack tried is a state
pub home-in : (plan : Plan) (u : Undo) {area : ℕ} → Laid plan area → (q c home : ℕ) → q < plan.places → LeadsTo plan u c → home ≡ state_in plan q c 0 → InStates plan u home
home-in plan u laid q c home low leads is x less =
    omega (arith, state-low plan.places (plan.done + 1) plan.stacks plan.size q c (x * u.weight + u.stack) laid.size_is low (omega (arith, leads.low)) (leads.fits x less), is)

-- in a loop of phase one it stays
pub undoing-under : {plan : Plan} {u : Undo} {F : Search → Search} {t₀ : ℕ} {w₀ : List ℕ} {G : Search → Search} {t : ℕ} {w : List ℕ}
    → UnderAny plan.base plan.size F t₀ w₀ G t w → Undoing plan u t₀ w₀ → Undoing plan u t w
undoing-under {plan = plan} l h =
    record { ready = l.ready; laid = subst (Laid plan) (sym l.long) h.laid; sane = h.sane; some = h.some; near = omega (arith, h.near, l.grows) }

-- ---- a line: the place r that it leads to, its kind x, the place q that it comes from

module _ (plan : Plan) (u : Undo) (g : List ℕ) (place c i : ℕ) (st : Search) (r : ℕ) (er : r ≡ to_in (word_at plan g i)) where
  pub line-elsewhere : (r ≡ place → ⊥) → line_undone plan u g place c i st ≡ st
  unfolding line_undone
  line-elsewhere h = rw (← er, ne_eqb _ _ h)

  module _ (h : r ≡ place) (x : ℕ) (ex : x ≡ kind_in (word_at plan g i)) where
    pub line-other-kind : (x ≡ u.spot.kind → ⊥) → line_undone plan u g place c i st ≡ st
    unfolding line_undone
    line-other-kind k = rw (← er, ← ex, eq-eqb _ _ h, ne_eqb _ _ k)

    pub line_taken : x ≡ u.spot.kind → (q : ℕ) → q ≡ from_in (word_at plan g i) → (b home : ℕ) → b ≡ code_at plan g i → home ≡ state_in plan q c 0 → line_undone plan u g place c i st ≡ undone plan u (boat_at plan g) home b st
    unfolding line_undone
    line_taken k q eq b home eb eh = rw (← eb, ← er, ← ex, ← eq, ← eh, eq-eqb _ _ h, eq-eqb _ _ k)

-- line i by its word r: the place q that it comes from
module _ {plan : Plan} (w : List ℕ) (l : Laid plan (length w)) (starts : Starts plan (front plan w)) (i : ℕ) (h : i < plan.lines) (r : ℕ) (is : r ≡ get_or w (plan.words + i) 0) (q : ℕ) (from : q ≡ from_in r) where
  pub from-line : q ≡ from_in (word_at plan (front plan w) i)
  from-line = from ∙ ap from_in (word-front l w i h r is)

  pub from-low : q < plan.places
  from-low = subst (◌< plan.places) (sym from-line) (starts i h)

-- where nothing is undone from its start, a line does nothing
pub line-idle : (plan : Plan) (u : Undo) (g : List ℕ) (place c i : ℕ) (st : Search) (home : ℕ) → home ≡ state_in plan (from_in (word_at plan g i)) c 0
    → ((B : ℕ → ℕ) (x : ℕ) → undone plan u B home x st ≡ st) → line_undone plan u g place c i st ≡ st
unfolding line_undone
line-idle plan u g place c i st home is idle =
    go (eqb (to_in (word_at plan g i)) place && eqb (kind_in (word_at plan g i)) u.spot.kind)
    (ap (λ n. undone plan u (boat_at plan g) n (code_at plan g i) st) (sym is) ∙ idle (boat_at plan g) (code_at plan g i))
  where
    go : (b : Bool) → undone plan u (boat_at plan g) (state_in plan (from_in (word_at plan g i)) c 0) (code_at plan g i) st ≡ st
        → cond b (undone plan u (boat_at plan g) (state_in plan (from_in (word_at plan g i)) c 0) (code_at plan g i) st) st ≡ st
    go true e = e
    go false e = refl

-- ---- a word of the sorted lines, read as r

pub word-is : (plan : Plan) (u : Undo) (B : ℕ → ℕ) (c e : ℕ) (st : Search) (r : ℕ) → r ≡ e → (home : ℕ) → home ≡ state_in plan (r / pack_by) c 0 → word_undone plan u B c e st ≡ undone plan u B home (r % pack_by) st
unfolding word_undone
word-is plan u B c e st r er home eh = rw (eh, er)

-- ---- one stack

-- where one is undone, by a position that does not push, and the state before has been met, nothing is done
pub alone-met : (plan : Plan) (u : Undo) (B : ℕ → ℕ) (home x : ℕ) (st : Search) → u.count ≡ 1 → u.spot.push ≡ false → (get_or st.dist (home + u.stack) 0 ≡ 0 → ⊥)
    → undone plan u B home x st ≡ st
unfolding turns stack_turn off
alone-met plan u B home x st one stays met =
    let v = 0 * u.weight + u.stack in
    let f = stack_turn B plan.radix u.spot u.d home x u.weight u.stack in
    let is : u.stack ≡ off_by u.spot.push u.spot.weight v = omega arith ∙ sym (ap (λ b. off_by b u.spot.weight v) stays) in
    ap (λ n. turns f 0 n st) one ∙ stack-met B plan.radix u.spot u.d home x v st u.stack is met

-- ---- a target and a position

module _ (plan : Plan) (s : Spot) (t : Target) (d c leaves : ℕ) (st : Search) where
  pub by-line : (g : List ℕ) → lines_back plan g s t d c leaves st ≡ turns (line_undone plan (undo_of plan s t d leaves) g t.place c) 0 plan.lines st
  by-line g = turns_same (line_turn plan g s t d c (plan.radix ^ (leaves - t.depth))) (line_undone plan (undo_of plan s t d leaves) g t.place c) one 0 plan.lines st
    where
      one : (i : ℕ) (b : Search) → line_turn plan g s t d c (plan.radix ^ (leaves - t.depth)) i b ≡ line_undone plan (undo_of plan s t d leaves) g t.place c i b
      one i b = unfold line_turn line_undone in refl

  pub by_word : (B : ℕ → ℕ) (w : List ℕ) (lo n : ℕ)
      → turns (λ p. stacked_turn plan s t B d c (plan.radix ^ (leaves - t.depth)) (get_or w p 0)) lo n st ≡ turns (λ p. word_undone plan (undo_of plan s t d leaves) B c (get_or w p 0)) lo n st
  by_word B w lo n = turns_same (λ p. stacked_turn plan s t B d c (plan.radix ^ (leaves - t.depth)) (get_or w p 0)) (λ p. word_undone plan (undo_of plan s t d leaves) B c (get_or w p 0)) (λ p b. one (get_or w p 0) b) lo n st
    where
      one : (e : ℕ) (b : Search) → stacked_turn plan s t B d c (plan.radix ^ (leaves - t.depth)) e b ≡ word_undone plan (undo_of plan s t d leaves) B c e b
      one e b = unfold stacked_turn word_undone in refl

-- the stacks of a target and a position: what going over them goes by
module _ {plan : Plan} {s : Spot} {t : Target} {c leaves : ℕ} (b : Before plan s t c leaves) where
  pub undo-power : (0 < plan.radix) × (leaves ≤ 3) × (plan.radix ^ (leaves - t.depth) ≤ largest)
  undo-power = (b.laid.some-radix, omega (arith, b.leaves-low, b.laid.few-keeps), power_small b.laid _ (omega (arith, b.leaves-low)))

  pub undo-fits : Stacks (plan.radix ^ (leaves - t.depth)) t.weight t.stack plan.stacks
  undo-fits = stacks-fit b.laid t b.aimed leaves _ b.leaves-low refl

  module _ {d : ℕ} {u : Undo} (is : u ≡ undo_of plan s t d leaves) where
    pub undo-leads : LeadsTo plan u c
    undo-leads = subst (λ z. LeadsTo plan z c) (sym is) (record { low = b.position-low; fits = undo-fits })

    pub undo-goes : {tail : ℕ} {w : List ℕ} → RoomBack plan tail w → Laid plan (length w) → 0 < d → d ≤ suc tail → Undoing plan u tail w
    undo-goes {tail} {w} ready laid some near = subst (λ z. Undoing plan z tail w) (sym is) (record { ready = ready; laid = laid; sane = b.sane; some = some; near = near })

-- where the stack after the position is the state's there is one
pub one-stack-back : (plan : Plan) (g : List ℕ) (s : Spot) (t : Target) (d c : ℕ) (st : Search) → lines_back plan g s t d c t.depth st ≡ turns (line_turn plan g s t d c 1) 0 plan.lines st
one-stack-back plan g s t d c st =
    let none : t.depth - t.depth ≡ 0 = omega arith in
    ap (λ n. turns (line_turn plan g s t d c n) 0 plan.lines st) (ap (plan.radix ^◌) none ∙ pow-zero plan.radix)
