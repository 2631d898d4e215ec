-- Numbers stay in range: powers of the radix, stacks with a boat on top, and states.
use mathlib.Core.Path.{◌≡◌, refl, sym, ap, ◌∙◌, subst}
use mathlib.Core.Bool.{Bool, true, false}
use mathlib.Core.List.{List}
use Prim.Native.Nat.{ℕ, ◌+◌, ◌*◌, ◌-◌, ◌^◌, ◌/◌, ◌%◌, ◌<◌, ◌≤◌}
use native.Mathlib.Nat.{pow-zero, pow-suc, one-mul, pow-le-pow_right, lt_of_lt_of_le, mul-le-mul, mod-le, mod-lt, div-lt_iff_lt-mul, one-le-pow, le-mul_of_pos_right, mul_comm, mul_assoc}
use native.Mathlib.Omega.{arith}
use lib.Arith.{digits_lt}
use lib.ListN.{length, get_or, take}
use lib.Pow.{pow-add}
use lib.Seq.{get_or-take}
use Rattle.positions.specs.Program.{row_at, depth_at}
use Rattle.request.specs.Layout.{largest, Laid, to_in}
use Rattle.request.specs.declared.Plan.{Plan}
use Rattle.graph.specs.Table.{Search}
use Rattle.search.specs.Loaded.{boat_at, code_at, word_at}
use Rattle.area.specs.Area.{Under}
use Rattle.area.proofs.Changes.{under-front}
use Rattle.states.specs.Spots.{front, boats_in, Starts, Fit, spot_in, Sane, off, off_by, target_in, Aimed, Stacks}
use Rattle.states.specs.declared.Spot.{Spot}
use Rattle.states.specs.declared.Target.{Target}

-- the first powers
pub pow-one : (R e : ℕ) → e ≡ 1 → R ≡ R ^ e
pow-one R e h = sym (ap (R ^◌) h ∙ (pow-suc R 0 ∙ (ap (◌* R) (pow-zero R) ∙ one-mul R)))

pub pow-two : (R e : ℕ) → e ≡ 2 → R * R ≡ R ^ e
pow-two R e h = sym (ap (R ^◌) h ∙ (pow-suc R 1 ∙ ap (◌* R) (sym (pow-one R 1 refl))))

pub pow-three : (R e : ℕ) → e ≡ 3 → R * R * R ≡ R ^ e
pow-three R e h = sym (ap (R ^◌) h ∙ (pow-suc R 2 ∙ ap (◌* R) (sym (pow-two R 2 refl))))

pub product_small : (x y : ℕ) → x < 4294967296 → y ≤ largest → x * y ≤ 4503599626321920
product_small x y h k = let a : x ≤ 4294967295 = omega arith in mul-le-mul a k

off-by : (b : Bool) (d v : ℕ) → off_by b d v ≤ v
off-by true d v = mod-le v d
off-by false d v = omega arith

pub off-le : (s : Spot) (v : ℕ) → off s v ≤ v
unfolding off
off-le s v = off-by s.push s.weight v

-- a word before the search's stretches
pub front-get : (b : ℕ) (w : List ℕ) (j : ℕ) → j < b → get_or (take b w) j 0 ≡ get_or w j 0
front-get b w j h = rw get_or-take

-- ---- a place, a position and a stack make a state

module _ (places positions stacks size place position stack : ℕ) (is : size ≡ places * positions * stacks) (hq : place < places) (hk : position < positions) (hv : stack < stacks) where
  pub state-low : (place * positions + position) * stacks + stack < size
  state-low = rw is (digits_lt (digits_lt hq hk) hv)

  pub pair-low : place * positions + position < size
  pair-low = let some : 0 < stacks = omega arith in omega (arith, le-mul_of_pos_right (place * positions + position) some, state-low)

-- ---- powers of the radix

module _ {plan : Plan} {area : ℕ} (l : Laid plan area) where
  pub stacks-pos : 0 < plan.stacks
  stacks-pos = rw l.stacks-is (one-le-pow plan.keeps plan.radix l.some-radix)

  pub power_pos : (e : ℕ) → 0 < plan.radix ^ e
  power_pos e = one-le-pow e plan.radix l.some-radix

  pub power-fits : (e : ℕ) → e ≤ plan.keeps → plan.radix ^ e ≤ plan.stacks
  power-fits e h = rw l.stacks-is (pow-le-pow_right l.some-radix h)

  pub stacks-small : plan.stacks ≤ plan.size
  stacks-small =
      let some : 0 < plan.places * (plan.done + 1) = some_of plan.places l.some-place in
      rw (l.size_is, mul_comm (plan.places * (plan.done + 1)) plan.stacks) (le-mul_of_pos_right plan.stacks some)
    where
      some_of : (p : ℕ) → 0 < p → 0 < p * (plan.done + 1)
      some_of p h = let one : 0 < plan.done + 1 = omega arith in omega (arith, le-mul_of_pos_right p one)

  pub power_small : (e : ℕ) → e ≤ plan.keeps → plan.radix ^ e ≤ largest
  power_small e h = omega (arith, power-fits e h, stacks-small, l.small)

  -- the stacks that a node of depth D can leave and that are w when cut to depth e
  pub uncut-fits : (D e w : ℕ) → D ≤ plan.keeps → e ≤ plan.keeps → w < plan.radix ^ e → Stacks (plan.radix ^ (D - e)) (plan.radix ^ e) w plan.stacks
  uncut-fits D e w hD he hw x hx =
      let below : x * plan.radix ^ e + w < plan.radix ^ (D - e) * plan.radix ^ e = digits_lt hx hw in
      lt_of_lt_of_le (rw (← pow-add plan.radix (D - e) e) at below) (power-fits (D - e + e) (omega arith))

  -- the states at one place
  pub block-small : (plan.done + 1) * plan.stacks ≤ largest
  block-small =
      let block = (plan.done + 1) * plan.stacks in
      let whole : plan.size ≡ block * plan.places = l.size_is ∙ (mul_assoc plan.places (plan.done + 1) plan.stacks ∙ mul_comm plan.places block) in
      omega (arith, le-mul_of_pos_right block l.some-place, whole, l.small)

  -- the words of a line stand before the search's stretches
  pub word_low : (i : ℕ) → i < plan.lines → plan.words + i < plan.base
  word_low i h = omega (arith, l.base-at)

  pub code-low : (i : ℕ) → i < plan.lines → plan.codes + i < plan.base
  code-low i h = omega (arith, l.words-at, l.base-at)

  pub base-in : plan.base ≤ area
  base-in = omega (arith, l.room)

  -- and are read there
  pub word-front : (w : List ℕ) (i : ℕ) → i < plan.lines → (p : ℕ) → p ≡ get_or w (plan.words + i) 0 → p ≡ word_at plan (front plan w) i
  word-front w i h p e = e ∙ sym (front-get plan.base w (plan.words + i) (word_low i h))

  pub code-front : (w : List ℕ) (i : ℕ) → i < plan.lines → (x : ℕ) → x ≡ get_or w (plan.codes + i) 0 → x ≡ code_at plan (front plan w) i
  code-front w i h x e = e ∙ sym (front-get plan.base w (plan.codes + i) (code-low i h))

  -- every stack tried for a target is one of the stacks
  pub stacks-fit : (t : Target) → Aimed plan t → (D count : ℕ) → D ≤ plan.keeps → count ≡ plan.radix ^ (D - t.depth) → Stacks count t.weight t.stack plan.stacks
  stacks-fit t m D count h e x hx =
      let below : x < plan.radix ^ (D - t.depth) = subst (x <◌) e hx in
      let cut : t.stack < plan.radix ^ t.depth = subst (t.stack <◌) m.weight_is m.stack-low in
      subst (λ z. x * z + t.stack < plan.stacks) (sym m.weight_is) (uncut-fits D t.depth t.stack h m.depth_low cut x below)

-- ---- a position's numbers

pub spot-sane : {plan : Plan} {a : List ℕ} {w : List ℕ} → Fit plan a w → (c : ℕ) → c ≤ plan.done → (s : Spot) → s ≡ spot_in a plan.radix c → Sane s
unfolding spot_in
spot-sane {plan} {a} f c h s e =
    subst Sane (sym e)
    (record {
      some_level = power_pos f.laid (row_at a c).level;
      some-weight = power_pos f.laid (depth_at a c);
      small-weight = power_small f.laid (depth_at a c) (f.depths-low c h);
    })

-- ---- what the loops go by

-- the same words before the search's stretches
pub fit_same : {plan : Plan} {a : List ℕ} {w v : List ℕ} → length v ≡ length w → front plan v ≡ front plan w → Fit plan a w → Fit plan a v
fit_same {plan} l e f =
    record {
      laid = subst (Laid plan) (sym l) f.laid;
      starts = subst (Starts plan) (sym e) f.starts;
      ends = subst (λ g. (i : ℕ) → i < plan.lines → to_in (word_at plan g i) < plan.places) (sym e) f.ends;
      codes-low = subst (λ g. (i : ℕ) → i < plan.lines → code_at plan g i < plan.radix) (sym e) f.codes-low;
      levels-low = f.levels-low;
      depths-low = f.depths-low;
      leaves-low = f.leaves-low;
    }

-- the boats' table stands before the pair; in a loop of phase one it stays
pub boats-front : (plan : Plan) (w w₀ : List ℕ) → take plan.base w ≡ take plan.base w₀ → boats_in plan w ≡ boats_in plan w₀
boats-front plan w w₀ e = ap (λ g. boat_at plan g) e

pub boats-under : (plan : Plan) {F : Search → Search} {t₀ : ℕ} {w₀ : List ℕ} {G : Search → Search} {t : ℕ} {w : List ℕ}
    → Under plan.base plan.size F t₀ w₀ G t w → boats_in plan w ≡ boats_in plan w₀
boats-under plan {w₀ = w₀} {w = w} u = boats-front plan w w₀ (under-front u plan.base (omega arith))

-- a state's place is one of the places
pub place-below : {plan : Plan} {area : ℕ} → Laid plan area → (t : ℕ) → t < plan.size → t / plan.stacks / (plan.done + 1) < plan.places
place-below {plan} laid t less =
    let some : 0 < plan.done + 1 = omega arith in
    let both : t / plan.stacks < plan.places * (plan.done + 1) = (div-lt_iff_lt-mul (stacks-pos laid)).1 (subst (t <◌) laid.size_is less) in
    (div-lt_iff_lt-mul some).1 both

-- a state that is expanded is in range
pub aimed : {plan : Plan} {a : List ℕ} {w : List ℕ} → Fit plan a w → (t : ℕ) → t < plan.size → (x : Target) → x ≡ target_in a plan t → Aimed plan x
unfolding target_in
aimed {plan} {a} f t less x e =
    let k = t / plan.stacks % (plan.done + 1) in
    let low : k ≤ plan.done = omega (arith, mod-lt (t / plan.stacks) {m = plan.done + 1} (omega arith)) in
    let d = depth_at a k in
    subst (Aimed plan) (sym e)
    (record { place-low = place-below f.laid t less; position-low = low; depth_low = f.depths-low k low; weight_is = refl; stack-low = mod-lt (t % plan.stacks) (power_pos f.laid d); entries = record { first-is = refl; second_is = refl } })
