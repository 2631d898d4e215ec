-- One word of a run read: a word that is left out is covered (`covered`), and the marks are right again (`going-read`).
use mathlib.Core.Path.{◌≡◌, refl, sym, ap, ◌∙◌, subst}
use mathlib.Core.Bool.{Bool, true, false≢true}
use mathlib.Core.Logic.{◌⊎◌, inl, inr, ⊎_elim}
use mathlib.Core.List.Memᴰ
use mathlib.Core.List.{List, [], ◌∷◌, ◌++◌}
use Prim.Native.Nat.{ℕ, suc, ◌+◌, ◌*◌, ◌-◌, ◌/◌, ◌%◌, ◌≤◌, ◌<◌}
use native.Mathlib.Decide.{ℕ_discrete}
use native.Mathlib.Omega.{arith}
use lib.Arith.{digits_div, digits_mod}
use lib.ListN.{length, get_or, set, take, drop, length-set, length-drop}
use lib.Seq.{take-suc, get_or-drop, get_or-set_same, get_or-set_other}
use Rattle.lists.specs.Listed.{◌∈◌, none_in}
use Rattle.sorted.specs.Sorting.{pack_by, Kept}
use Rattle.sorted.proofs.Turns.{kept-none, kept_then, kept_set, kept-get}
use Rattle.area.specs.Area.{stretch}
use Rattle.states.specs.Served.{Served, everybody, but, nobody}
use Rattle.states.specs.declared.Sieve.{Sieve}
use Rattle.area.proofs.Stretches.{stretch-none, stretch-above, stretch-push}
use Rattle.thinned.specs.Thinning.{Covered, empty, kept, left, group, key, kin}
use Rattle.thinned.specs.Marks.{first, other, Stale, Both, Marked, Read, new, more, spare, Ahead, Going}

-- a stretch with one word more
stretch-more : (b p : ℕ) (w : List ℕ) → b ≤ p → p < length w → stretch b (p + 1 - b) w ≡ stretch b (p - b) w ++ (get_or w p 0 ∷ [])
unfolding stretch
stretch-more b p w h l =
    let long : p + 1 - b ≡ suc (p - b) = omega arith in
    let sum : b + (p - b) ≡ p = omega arith in
    ap (λ m. take m (drop b w)) long
    ∙ (take-suc (drop b w) (p - b) 0 (omega (arith, length-drop b w))
    ∙ ap (λ x. take (p - b) (drop b w) ++ (x ∷ [])) (get_or-drop b w (p - b) 0 ∙ ap (λ x. get_or w x 0) sum))

-- where somebody passes, one of two words of its kin with different keys does, both read
one_of_two : {kin key : ℕ → ℕ} {T : ℕ → Bool} → Served kin key T → (x : ℕ) → T x ≡ true → (y z : ℕ) → kin y ≡ kin x → kin z ≡ kin x → (key y ≡ 0 → ⊥) → (key z ≡ 0 → ⊥) → (key y ≡ key z → ⊥) → (T y ≡ true) ⊎ (T z ≡ true)
one_of_two (everybody h) x passes y z kin-y kin-z read-y read-z differs = inl (h y)
one_of_two {key = key} (but n h) x passes y z kin-y kin-z read-y read-z differs = elim (ℕ_discrete (key y) n) [
  | yes e ↦ inr (h.takes x z passes kin-z read-z (λ q. differs (e ∙ sym q)))
  | no d ↦ inl (h.takes x y passes kin-y read-y d)
]
one_of_two (nobody h) x passes y z kin-y kin-z read-y read-z differs = absurd (false≢true (sym (h x) ∙ passes))

-- where an unread boat passes, everybody does
unread-passes : {kin key : ℕ → ℕ} {T : ℕ → Bool} → Served kin key T → (x : ℕ) → key x ≡ 0 → T x ≡ true → (y : ℕ) → T y ≡ true
unread-passes (everybody h) x e passes y = h y
unread-passes (but n h) x e passes y = absurd ((h.leaves x passes).0 e)
unread-passes (nobody h) x e passes y = absurd (false≢true (sym (h x) ∙ passes))

-- where a boat passes, another of its kin with its key does
alike-passes : {kin key : ℕ → ℕ} {T : ℕ → Bool} → Served kin key T → (x : ℕ) → T x ≡ true → (y : ℕ) → kin y ≡ kin x → key y ≡ key x → T y ≡ true
alike-passes (everybody h) x passes y same is = h y
alike-passes (but n h) x passes y same is = let (some, other) = h.leaves x passes in h.takes x y passes same (λ e. some (sym is ∙ e)) (λ e. other (sym is ∙ e))
alike-passes (nobody h) x passes y same is = absurd (false≢true (sym (h x) ∙ passes))

-- words of one group come from one place, and are kin
pub group-apart : (sieve : Sieve) (B : ℕ → ℕ) (x y : ℕ) → kin sieve B x < 257 → kin sieve B y < 257 → group sieve B y ≡ group sieve B x → (y / pack_by ≡ x / pack_by) × (kin sieve B y ≡ kin sieve B x)
group-apart Sieve.Boats B x y hx hy e = (e, refl)
group-apart Sieve.Classes B x y hx hy e = (e, refl)
group-apart Sieve.Sisters B x y hx hy e =
    (sym (digits_div (y / pack_by) hy) ∙ (ap (◌/ 257) e ∙ digits_div (x / pack_by) hx), sym (digits_mod (y / pack_by) hy) ∙ (ap (◌% 257) e ∙ digits_mod (x / pack_by) hx))

module _ (sieve : Sieve) (B : ℕ → ℕ) (s n : ℕ) where
  abbrev of_group : ℕ → ℕ
  of_group x = group sieve B x

  abbrev of_key : ℕ → ℕ
  of_key x = key sieve B x

  -- ---- a word left out

  pub covered : (t x : ℕ) (vs w : List ℕ)
      → Marked sieve B s n t vs w → of_group x < n → kin sieve B x < 257 → first s n (of_group x) w / pack_by ≡ t
      → (of_key x ≡ 0) ⊎ ((first s n (of_group x) w % pack_by ≡ of_key x) ⊎ (other s n (of_group x) w ≡ t)) → Covered sieve B vs x
  covered t x vs w m low fine h (inl e) T served passes =
      let (y, has, in_group, is) = m.has_first (of_group x) low h in
      (y, has, record { from = (group-apart sieve B x y fine (m.kins-low y has) in_group).0; passes = unread-passes served (x % pack_by) e passes (y % pack_by) })
  covered t x vs w m low fine h (inr (inl e)) T served passes =
      let (y, has, in_group, is) = m.has_first (of_group x) low h in
      let (from, same) = group-apart sieve B x y fine (m.kins-low y has) in_group in
      (y, has, record { from = from; passes = alike-passes served (x % pack_by) passes (y % pack_by) same (is ∙ e) })
  covered t x vs w m low fine h (inr (inr e)) T served passes =
      let (y, has, in_group, is) = m.has_first (of_group x) low h in
      let o = m.has_other (of_group x) low e in
      let (from, same) = group-apart sieve B x y fine (m.kins-low y has) in_group in
      let (from₂, same₂) = group-apart sieve B x o.second fine (m.kins-low o.second o.is-kept) o.in_group in
      ⊎_elim
      (λ p. (y, has, record { from = from; passes = p }))
      (λ p. (o.second, o.is-kept, record { from = from₂; passes = p }))
      (one_of_two served (x % pack_by) passes (y % pack_by) (o.second % pack_by) same same₂ (λ q. o.first_read (sym is ∙ q)) o.is_read (λ q. o.differs (sym q ∙ is)))

  -- ---- a word kept

  -- the marks of other places say what they said, and those of its own place say what is so
  module _ (t x : ℕ) (vs w v : List ℕ) (m : Marked sieve B s n t vs w)
      (same : (g : ℕ) → g < n → (g ≡ of_group x → ⊥) → (first s n g v ≡ first s n g w) × (other s n g v ≡ other s n g w))
      (own_IsFirst : (y : ℕ) × (y ∈ (vs ++ (x ∷ []))) × (of_group y ≡ of_group x) × (of_key y ≡ first s n (of_group x) v % pack_by))
      (own-other : other s n (of_group x) v ≡ t → Both sieve B s n t (vs ++ (x ∷ [])) v (of_group x))
      (own-stale : (first s n (of_group x) v / pack_by < suc t) × (other s n (of_group x) v < suc t)) (fine : kin sieve B x < 257) where
    all_first : (g : ℕ) → g < n → first s n g v / pack_by ≡ t → (y : ℕ) × (y ∈ (vs ++ (x ∷ []))) × (of_group y ≡ g) × (of_key y ≡ first s n g v % pack_by)
    all_first g l h = elim (ℕ_discrete g (of_group x)) [
      | yes e ↦ subst (λ z. (y : ℕ) × (y ∈ (vs ++ (x ∷ []))) × (of_group y ≡ z) × (of_key y ≡ first s n z v % pack_by)) (sym e) own_IsFirst
      | no d ↦
          (let a = (same g l d).0 in
          let r = m.has_first g l (ap (λ z. z / pack_by) (sym a) ∙ h) in
          (r.0, Memᴰ.append_left (x ∷ []) r.1, r.2, r.3 ∙ ap (λ z. z % pack_by) (sym a)))
    ]

    all-other : (g : ℕ) → g < n → other s n g v ≡ t → Both sieve B s n t (vs ++ (x ∷ [])) v g
    all-other g l h = elim (ℕ_discrete g (of_group x)) [
      | yes e ↦ subst (Both sieve B s n t (vs ++ (x ∷ [])) v) (sym e) (own-other (ap (λ z. other s n z v) (sym e) ∙ h))
      | no d ↦
          (let a = (same g l d).0 in
          let r = m.has_other g l (sym (same g l d).1 ∙ h) in
          record {
            stamped = ap (λ z. z / pack_by) a ∙ r.stamped;
            first_read = λ z. r.first_read (ap (λ y. y % pack_by) (sym a) ∙ z);
            second = r.second;
            is-kept = Memᴰ.append_left (x ∷ []) r.is-kept;
            in_group = r.in_group;
            is_read = r.is_read;
            differs = λ z. r.differs (z ∙ ap (λ y. y % pack_by) a);
          })
    ]

    all-stale : Stale s n (suc t) v
    all-stale g l = elim (ℕ_discrete g (of_group x)) [
      | yes e ↦ subst (λ z. (first s n z v / pack_by < suc t) × (other s n z v < suc t)) (sym e) own-stale
      | no d ↦
          (let a = same g l d in
          let r = m.stale g l in
          (subst (λ z. z / pack_by < suc t) (sym a.0) r.0, subst (λ z. z < suc t) (sym a.1) r.1))
    ]

    all-kins : (y : ℕ) → y ∈ (vs ++ (x ∷ [])) → kin sieve B y < 257
    all-kins y i = ⊎_elim (λ j. m.kins-low y j) (λ j. subst (λ z. kin sieve B z < 257) (sym (Memᴰ.eq_of_singleton j)) fine) (Memᴰ.append_cases vs i)

    pub marked-kept : Marked sieve B s n t (vs ++ (x ∷ [])) v
    marked-kept = record { has_first = all_first; has_other = all-other; kins-low = all-kins; stale = all-stale }

  -- one mark q becomes y, and the word x comes to stand before the marks
  module _ (w : List ℕ) (i x q y : ℕ) (under : i < s) (in-marks : s ≤ q) (fits : s + n + n ≤ length w) (low : q < s + n + n) where
    pub mark-same : (j : ℕ) → s ≤ j → (j ≡ q → ⊥) → get_or (set (set w q y) i x) j 0 ≡ get_or w j 0
    mark-same j h d = get_or-set_other (set w q y) i j x 0 (λ e. omega (arith, e, h, under)) ∙ get_or-set_other w q j y 0 d

    pub mark-new : get_or (set (set w q y) i x) q 0 ≡ y
    mark-new = get_or-set_other (set w q y) i q x 0 (λ e. omega (arith, e, in-marks, under)) ∙ get_or-set_same w q y 0 (omega (arith, low, fits))

    -- the words kept have x at their end
    pub kept_more : (b : ℕ) → b ≤ i → stretch b (i + 1 - b) (set (set w q y) i x) ≡ stretch b (i - b) w ++ (x ∷ [])
    kept_more b h =
        let long : i + 1 - b ≡ (i - b) + 1 = omega arith in
        let here : i ≡ b + (i - b) = omega arith in
        ap (λ m. stretch b m (set (set w q y) i x)) long
        ∙ (ap (λ j. stretch b ((i - b) + 1) (set (set w q y) j x)) here
        ∙ (stretch-push b (i - b) (set w q y) x (omega (arith, here, under, fits, length-set w q y))
        ∙ ap (◌++ (x ∷ [])) (stretch-above b (i - b) w q y (omega (arith, here, under, in-marks)))))

    pub kept-both : (b : ℕ) → b ≤ i → Kept b (s + n + n) w (set (set w q y) i x)
    kept-both b h = kept_then (kept_set b (s + n + n) w q y (omega (arith, h, under, in-marks)) low) (kept_set b (s + n + n) (set w q y) i x h (omega (arith, under)))

  -- ---- the marks after a word kept

  module _ (t x i : ℕ) (vs w : List ℕ) (m : Marked sieve B s n t vs w) (under : i < s) (fits : s + n + n ≤ length w) (low : of_group x < n) (fine : kin sieve B x < 257) where
    abbrev f : ℕ
    f = of_group x

    last-in : x ∈ (vs ++ (x ∷ []))
    last-in = Memᴰ.append_right vs (Memᴰ.head refl)

    pub marked-new : of_key x < pack_by → (first s n f w / pack_by ≡ t → (first s n f w % pack_by ≡ 0) × (of_key x ≡ 0 → ⊥)) → Marked sieve B s n t (vs ++ (x ∷ [])) (set (set w (s + f) (t * pack_by + of_key x)) i x)
    marked-new small d =
        let y = t * pack_by + of_key x in
        let v = set (set w (s + f) y) i x in
        let in-marks : s ≤ s + f = omega arith in
        let high : s + f < s + n + n = omega (arith, low) in
        let keeps = mark-same w i x (s + f) y under in-marks fits high in
        let own : first s n f v ≡ y = mark-new w i x (s + f) y under in-marks fits high in
        let beside : (g : ℕ) → other s n g v ≡ other s n g w = λ g. keeps (s + n + g) (omega arith) (λ e. omega (arith, e, low)) in
        marked-kept t x vs w v m
        (λ g l c. (keeps (s + g) (omega arith) (λ e. c (omega (arith, e))), beside g))
        (x, last-in, refl, (sym (digits_mod t small) ∙ ap (λ z. z % pack_by) (sym own)))
        (λ e. let o = m.has_other f low (sym (beside f) ∙ e) in absurd (o.first_read (d o.stamped).0))
        (let stamp : first s n f v / pack_by ≡ t = ap (◌/ pack_by) own ∙ digits_div t small in omega (arith, stamp), subst (λ z. z < suc t) (sym (beside f)) (m.stale f low).1)
        fine

    pub marked_more : first s n f w / pack_by ≡ t → (first s n f w % pack_by ≡ 0 → ⊥) → (of_key x ≡ 0 → ⊥) → (first s n f w % pack_by ≡ of_key x → ⊥) → Marked sieve B s n t (vs ++ (x ∷ [])) (set (set w (s + n + f) t) i x)
    marked_more h first_read is_read d =
        let v = set (set w (s + n + f) t) i x in
        let in-marks : s ≤ s + n + f = omega arith in
        let high : s + n + f < s + n + n = omega (arith, low) in
        let keeps = mark-same w i x (s + n + f) t under in-marks fits high in
        let own : other s n f v ≡ t = mark-new w i x (s + n + f) t under in-marks fits high in
        let beside : (g : ℕ) → g < n → first s n g v ≡ first s n g w = λ g l. keeps (s + g) (omega arith) (λ e. omega (arith, e, l)) in
        let is = beside f low in
        let a = m.has_first f low h in
        marked-kept t x vs w v m
        (λ g l c. (beside g l, keeps (s + n + g) (omega arith) (λ e. c (omega (arith, e)))))
        (a.0, Memᴰ.append_left (x ∷ []) a.1, a.2, a.3 ∙ ap (λ z. z % pack_by) (sym is))
        (λ e. record {
          stamped = ap (λ z. z / pack_by) is ∙ h;
          first_read = λ z. first_read (ap (λ y. y % pack_by) (sym is) ∙ z);
          second = x;
          is-kept = last-in;
          in_group = refl;
          is_read = is_read;
          differs = λ z. d (sym (z ∙ ap (λ y. y % pack_by) is));
        })
        (subst (λ z. z / pack_by < suc t) (sym is) (m.stale f low).0, omega (arith, own))
        fine

-- ---- a run under way

module _ {sieve : Sieve} {B : ℕ → ℕ} {s n places : ℕ} where
  pub going-none : {t lo hi b : ℕ} {w : List ℕ} → Ahead s n places t lo hi b w → Going sieve B s n t lo b lo b w w
  going-none {t} {lo} {hi} {b} {w} a =
      let none : (c : ℕ) → stretch c (c - c) w ≡ [] = λ c. (let z : c - c ≡ 0 = omega arith in ap (λ m. stretch c m w) z ∙ stretch-none c w) in
      record {
        begun = omega arith;
        rising = omega arith;
        few = omega arith;
        kept = kept-none;
        thin = empty (none lo) (none b);
        marked = record {
          has_first = λ f l h. absurd (omega (arith, h, (a.stale f l).0));
          has_other = λ f l h. absurd (omega (arith, h, (a.stale f l).1));
          kins-low = λ y i. none_in (subst (y ∈◌) (none b) i);
          stale = λ f l. (omega (arith, (a.stale f l).0), omega (arith, (a.stale f l).1));
        };
      }

  module _ {t lo hi b p u : ℕ} {w₀ w : List ℕ} (a : Ahead s n places t lo hi b w₀) (g : Going sieve B s n t lo b p u w₀ w) (less : p < hi) where
    -- the word read is one of the run
    read_same : get_or w p 0 ≡ get_or w₀ p 0
    read_same = kept-get g.kept p (omega (arith, less, a.apart))

    pub read_low : {x : ℕ} → x ≡ get_or w p 0 → (x / pack_by < places) × (x % pack_by ≤ 4096)
    read_low {x} e = subst (λ z. (z / pack_by < places) × (z % pack_by ≤ 4096)) (sym (e ∙ read_same)) (a.low p g.begun less)

    -- the next word kept comes to stand before the marks
    pub next_low : u < s
    next_low = omega (arith, g.few, a.room, less)

    pub going-fits : s + n + n ≤ length w
    going-fits = omega (arith, a.fit.0, g.kept.long)

    module _ {x : ℕ} (e : x ≡ get_or w p 0) (low : group sieve B x < n) (fine : kin sieve B x < 257) where
      us-more : stretch lo (p + 1 - lo) w₀ ≡ stretch lo (p - lo) w₀ ++ (x ∷ [])
      us-more =
          stretch-more lo p w₀ g.begun (omega (arith, less, a.apart, a.room, a.rising, a.fit.0))
          ∙ ap (λ z. stretch lo (p - lo) w₀ ++ (z ∷ [])) (sym (e ∙ read_same))

      -- a word kept with the mark q
      going-kept : (q y : ℕ) → s ≤ q → q < s + n + n → Marked sieve B s n t (stretch b (u - b) w ++ (x ∷ [])) (set (set w q y) u x)
          → Going sieve B s n t lo b (p + 1) (u + 1) w₀ (set (set w q y) u x)
      going-kept q y h l m =
          let vs = kept_more sieve B s n w u x q y next_low h going-fits l b g.rising in
          record {
            begun = omega (arith, g.begun);
            rising = omega (arith, g.rising);
            few = omega (arith, g.few);
            kept = kept_then g.kept (kept-both sieve B s n w u x q y next_low h going-fits l b g.rising);
            thin = kept (stretch lo (p - lo) w₀) (stretch b (u - b) w) x us-more vs g.thin;
            marked = subst (λ k. Marked sieve B s n t k (set (set w q y) u x)) (sym vs) m;
          }

      shown-as : {r i : ℕ} {v l : List ℕ} → r ≡ i → v ≡ l → Going sieve B s n t lo b (p + 1) i w₀ l → Going sieve B s n t lo b (p + 1) r w₀ v
      shown-as {r} {i} {v} {l} er ev x = subst (λ j. Going sieve B s n t lo b (p + 1) j w₀ v) (sym er) (subst (λ k. Going sieve B s n t lo b (p + 1) i w₀ k) (sym ev) x)

      pub going-read : {r : ℕ} {v : List ℕ} → Read sieve B s n t x u w r v → Going sieve B s n t lo b (p + 1) r w₀ v
      going-read (new small d er ev) =
          shown-as er ev
          (going-kept (s + group sieve B x) (t * pack_by + key sieve B x) (omega arith) (omega (arith, low))
          (marked-new sieve B s n t x u (stretch b (u - b) w) w g.marked next_low going-fits low fine small d))
      going-read (more h first_read is_read d er ev) =
          shown-as er ev
          (going-kept (s + n + group sieve B x) t (omega arith) (omega (arith, low))
          (marked_more sieve B s n t x u (stretch b (u - b) w) w g.marked next_low going-fits low fine h first_read is_read d))
      going-read (spare h d er ev) =
          shown-as er ev
          (record {
            begun = omega (arith, g.begun);
            rising = g.rising;
            few = omega (arith, g.few);
            kept = g.kept;
            thin = left (stretch lo (p - lo) w₀) x us-more g.thin (covered sieve B s n t x (stretch b (u - b) w) w g.marked low fine h d);
            marked = g.marked;
          })
