-- Stacks whose entry at one level is given, gone over without the others: the loop over all stacks is two loops, over the entries above
-- that level and over those below it (`turns-entry`); and where the entry is one below the weight it is the same for all (`entry-same`).
use mathlib.Core.Path.{◌≡◌, refl, sym, ap, ◌∙◌}
use mathlib.Core.Bool.{Bool, true, false, cond, ◌&&◌, and-false}
use Prim.Native.Nat.{ℕ, zero, suc, ◌+◌, ◌*◌, ◌/◌, ◌%◌, ◌<◌, ◌≤◌}
use native.Mathlib.Nat.{zero-mul, suc-mul, add-mul, mul_assoc, mul_comm, mul-one, mul-le-mul, div-add-mod', div-div-eq-div-mul, mul-add-div_right, mul-add-mod_self_right, add-zero}
use native.Mathlib.Omega.{arith}
use lib.Arith.{digits_lt, digits_div, digits_mod}
use lib.Dec.{eqb}
use borrow.Author.Tests.{eq-eqb, ne_eqb}
use Rattle.request.specs.declared.Plan.{Plan}
use Rattle.graph.specs.Loops.{turns}
use Rattle.graph.proofs.Loops.{turns-idle}
use Rattle.graph.specs.Table.{Search, push}
use Rattle.states.specs.Spots.{read_by, stack_turn}
use Rattle.ways.proofs.Right.{at_x, turns-one, turns-alike, tested-stands}
use Rattle.expanding.specs.Stepping.{entry_state, entries_turn, Entries, WantsSame, EntryBelow, EntryAmong}
use Rattle.expanding.specs.Undoing.{undone, InStates}
use Rattle.expanding.specs.declared.Undo.{Undo}

-- ---- a loop in parts

turns-append : (f : ℕ → Search → Search) (i m n : ℕ) (a : Search) → turns f i (m + n) a ≡ turns f (i + m) n (turns f i m a)
unfolding turns
turns-append f i zero n a = let e : zero + n ≡ n = omega arith in let g : i + zero ≡ i = omega arith in rw (e, g) refl
turns-append f i (suc m) n a =
    let e : suc m + n ≡ suc (m + n) = omega arith in
    let g : i + suc m ≡ suc i + m = omega arith in
    rw (e, g) (turns-append f (suc i) m n (f i a))

turns-shift : (f : ℕ → Search → Search) (b i n : ℕ) (a : Search) → turns f (b + i) n a ≡ turns (λ r. f (b + r)) i n a
unfolding turns
turns-shift f b i zero a = refl
turns-shift f b i (suc n) a =
    let e : suc (b + i) ≡ b + suc i = omega arith in
    ap (λ k. turns f k n (f (b + i) a)) e ∙ turns-shift f b (suc i) n (f (b + i) a)

turns-blocks : (f : ℕ → Search → Search) (B i n : ℕ) (a : Search) → turns f (i * B) (n * B) a ≡ turns (λ h. turns (λ r. f (h * B + r)) 0 B) i n a
turns-blocks f B i zero a = ap (λ k. turns f (i * B) k a) (zero-mul B) ∙ unfold turns in refl
turns-blocks f B i (suc n) a =
    let parts : suc n * B ≡ B + n * B = omega (arith, suc-mul n B) in
    let next : i * B + B ≡ suc i * B = omega (arith, suc-mul i B) in
    let here : turns f (i * B) B a ≡ turns (λ r. f (i * B + r)) 0 B a = ap (λ k. turns f k B a) (sym (add-zero (i * B))) ∙ turns-shift f (i * B) 0 B a in
    ap (λ k. turns f (i * B) k a) parts
    ∙ (turns-append f (i * B) B (n * B) a
    ∙ ((λ t. turns f (next t) (n * B) (here t))
    ∙ (turns-blocks f B (suc i) n (turns (λ r. f (i * B + r)) 0 B a) ∙ last)))
  where
    last : turns (λ h. turns (λ r. f (h * B + r)) 0 B) (suc i) n (turns (λ r. f (i * B + r)) 0 B a) ≡ turns (λ h. turns (λ r. f (h * B + r)) 0 B) i (suc n) a
    last = unfold turns in refl

turns-if : (c : Bool) (g : ℕ → Search → Search) (i n : ℕ) (a : Search) → turns (λ l b. cond c (g l b) b) i n a ≡ cond c (turns g i n a) a
turns-if true g i n a = refl
turns-if false g i zero a = none
  where
    none : turns (λ l b. cond false (g l b) b) i zero a ≡ a
    none = unfold turns in refl
turns-if false g i (suc n) a = first ∙ turns-if false g (suc i) n a
  where
    first : turns (λ l b. cond false (g l b) b) i (suc n) a ≡ turns (λ l b. cond false (g l b) b) (suc i) n a
    first = unfold turns in refl

-- ---- one entry given

module _ (R q x : ℕ) (some : 0 < q) (low : x < R) (g : ℕ → Search → Search) where
  abbrev body : ℕ → Search → Search
  body n b = cond (eqb x (n / q % R)) (g n b) b

  -- within the stacks with the entries h above
  block : (h : ℕ) (a : Search) → turns (λ r. body (h * (R * q) + r)) 0 (R * q) a ≡ turns (λ l. g ((h * R + x) * q + l)) 0 q a
  block h a =
      ap (λ k. turns (λ r. body (h * (R * q) + r)) k (R * q) a) (sym (zero-mul q))
      ∙ (turns-blocks (λ r. body (h * (R * q) + r)) q 0 R a
      ∙ (turns-alike (λ e. turns (λ l. body (h * (R * q) + (e * q + l))) 0 q) (at_x x (λ e. turns (λ l. g ((h * R + e) * q + l)) 0 q)) 0 R R (omega arith) digit a
      ∙ turns-one x (λ e. turns (λ l. g ((h * R + e) * q + l)) 0 q) 0 R a (omega arith) (omega arith)))
    where
      digit : (e : ℕ) → e < R → (b : Search) → turns (λ l. body (h * (R * q) + (e * q + l))) 0 q b ≡ at_x x (λ e. turns (λ l. g ((h * R + e) * q + l)) 0 q) e b
      digit e less b =
          turns-alike (λ l. body (h * (R * q) + (e * q + l))) (λ l c. cond (eqb x e) (g ((h * R + e) * q + l) c) c) 0 q q (omega arith) entry b
          ∙ turns-if (eqb x e) (λ l. g ((h * R + e) * q + l)) 0 q b
        where
          entry : (l : ℕ) → l < q → (c : Search) → body (h * (R * q) + (e * q + l)) c ≡ cond (eqb x e) (g ((h * R + e) * q + l) c) c
          entry l lq c =
              let sum : h * (R * q) + (e * q + l) ≡ (h * R + e) * q + l = omega (arith, add-mul (h * R) e q, mul_assoc h R q) in
              let there : ((h * R + e) * q + l) / q % R ≡ e = ap (◌% R) (digits_div (h * R + e) lq) ∙ digits_mod h less in
              (λ t. body (sum t) c) ∙ ap (λ z. cond (eqb x z) (g ((h * R + e) * q + l) c) c) there

  pub turns-entry : (n : ℕ) (a : Search) → turns body 0 (n * R * q) a ≡ turns (λ h. turns (λ l. g ((h * R + x) * q + l)) 0 q) 0 n a
  turns-entry n a =
      (λ t. turns body (sym (zero-mul (R * q)) t) (mul_assoc n R q t) a)
      ∙ (turns-blocks body (R * q) 0 n a
      ∙ turns-alike (λ h. turns (λ r. body (h * (R * q) + r)) 0 (R * q)) (λ h. turns (λ l. g ((h * R + x) * q + l)) 0 q) 0 n n (omega arith) (λ h less b. block h b) a)

-- the entry below the weight is the same for all stacks
pub entry-same : (R level over n w : ℕ) → 0 < level → (n * (over * R * level) + w) / level % R ≡ w / level % R
entry-same R level over n w some =
    let all : n * (over * R * level) ≡ n * over * R * level = omega (arith, mul_assoc n (over * R) level, mul_assoc n over R, mul_assoc (n * over) R level) in
    ap (λ z. (z + w) / level % R) all ∙ (ap (◌% R) (mul-add-div_right some (n * over * R) w) ∙ mul-add-mod_self_right (n * over) R (w / level))

-- ---- numbers

-- a number without a rest
pub no-rest : (n m : ℕ) → n % m ≡ 0 → n ≡ n / m * m
no-rest n m e = omega (arith, div-add-mod' n m, e)

pub le-product : (a b : ℕ) → 0 < b → a ≤ a * b
le-product a b h = let m : a * 1 ≤ a * b = mul-le-mul {n₁ = a} {m₁ = 1} (omega arith) h in omega (arith, m, mul-one a)

-- ---- the stacks of a position that takes only the boat at its level

module _ (B : ℕ → ℕ) (plan : Plan) (u : Undo) (home x : ℕ) (wants : WantsSame u) where
  abbrev R : ℕ
  R = plan.radix

  abbrev W : ℕ
  W = u.weight

  abbrev w : ℕ
  w = u.stack

  abbrev level : ℕ
  level = u.spot.level

  -- what one stack does
  abbrev turn : ℕ → Search → Search
  turn = stack_turn B R u.spot u.d home x W w

  abbrev goes : ℕ → Search → Search
  goes n = push u.d (home + (n * W + w))

  turn_is : (n : ℕ) (b : Search) → turn n b ≡ cond (read_by B x && eqb x ((n * W + w) / level % R)) (goes n b) b
  turn_is n b = tested-stands B R u.spot u.d home x W w b n b wants.plain ∙ ap (λ z. cond z (goes n b) b) (wants.only.kept B R x (n * W + w))

  -- an unread boat is taken by none
  pub same-unread : B x ≡ 0 → (st : Search) → undone plan u B home x st ≡ st
  same-unread none st = turns-idle turn 0 u.count st (λ n l h. turn_is n st ∙ rw (eq-eqb (B x) 0 none))

  -- the entry compared is the same for all stacks, and another
  pub same_none : 0 < level → EntryBelow R level W → (x ≡ w / level % R → ⊥) → (st : Search) → undone plan u B home x st ≡ st
  same_none some is other st = turns-idle turn 0 u.count st (λ n l h. idle n)
    where
      idle : (n : ℕ) → turn n st ≡ st
      idle n =
          let there : (n * W + w) / level % R ≡ w / level % R = ap (λ z. (n * z + w) / level % R) is ∙ entry-same R level (W / level / R) n w some in
          turn_is n st ∙ ap (λ z. cond z (goes n st) st) (ap (read_by B x &&◌) (ne_eqb x ((n * W + w) / level % R) (λ e. other (e ∙ there))) ∙ and-false (read_by B x))

  -- ---- of a read boat

  module _ (read : B x ≡ 0 → ⊥) where
    read_is : (n : ℕ) (b : Search) → turn n b ≡ cond (eqb x ((n * W + w) / level % R)) (goes n b) b
    read_is n b = turn_is n b ∙ rw (ne_eqb (B x) 0 read)

    pub same_entries : EntryAmong R level W u.count x → (st : Search) → undone plan u B home x st ≡ turns (entries_turn plan u home x (level / W)) 0 (u.count / (level / W) / R) st
    unfolding entries_turn
    same_entries among st =
        let q = level / W in
        let n = u.count / q / R in
        turns-alike turn (body R q x among.some among.boat goes) 0 u.count u.count (omega arith) (λ k less b. entry k b) st
        ∙ (ap (λ k. turns (body R q x among.some among.boat goes) 0 k st) among.count-is
        ∙ (turns-entry R q x among.some among.boat goes n st
        ∙ turns-alike (λ h. turns (λ l. goes ((h * R + x) * q + l)) 0 q) (λ h. turns (λ l. push u.d (entry_state plan u home x q h l)) 0 q) 0 n n (omega arith)
        (λ h less b. turns-alike (λ l. goes ((h * R + x) * q + l)) (λ l. push u.d (entry_state plan u home x q h l)) 0 q q (omega arith) (λ l lq c. ap (λ z. push u.d z c) (sum h l)) b) st))
      where
        entry : (k : ℕ) (b : Search) → turn k b ≡ cond (eqb x (k / (level / W) % R)) (goes k b) b
        entry k b =
            let q = level / W in
            let there : (k * W + w) / level ≡ k / q = ap ((k * W + w) /◌) (among.level-is ∙ mul_comm q W) ∙ (sym (div-div-eq-div-mul (k * W + w) W q) ∙ ap (◌/ q) (digits_div k wants.low)) in
            read_is k b ∙ ap (λ z. cond (eqb x (z % R)) (goes k b) b) there

        sum : (h l : ℕ) → home + (((h * R + x) * (level / W) + l) * W + w) ≡ entry_state plan u home x (level / W) h l
        sum h l = omega (arith, add-mul ((h * R + x) * (level / W)) l W)

-- each of them is one of the states
pub entries-low : (plan : Plan) (u : Undo) (home x : ℕ) → EntryAmong plan.radix u.spot.level u.weight u.count x → InStates plan u home
    → Entries plan u home x (u.spot.level / u.weight) (u.count / (u.spot.level / u.weight) / plan.radix)
entries-low plan u home x among there h l hn lq =
    let q = u.spot.level / u.weight in
    let n = u.count / q / plan.radix in
    let one : h * plan.radix + x < n * plan.radix = digits_lt hn among.boat in
    let two : (h * plan.radix + x) * q + l < n * plan.radix * q = digits_lt one lq in
    omega (arith, there ((h * plan.radix + x) * q + l) (omega (arith, two, among.count-is)), add-mul ((h * plan.radix + x) * q) l u.weight)
