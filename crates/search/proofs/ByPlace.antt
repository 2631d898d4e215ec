-- Phase two by place: the states of a frontier stand at one place, so only the lines that come from there are tried.
-- Claimed: `try-list` (trying all lines is trying those of a list, where the others gather nothing; so too where no line leads on), `try-place`
-- (the list of the lines that come from the frontier's place is such a list) and `try-stand` (the next frontier stands at one place again).
use Rattle.std.specs.Prelude.{◌≡◌, Bool, true, false, cond, ◌&&◌, eqb, length, get_or}
use Rattle.std.proofs.Math.Path.{refl, ap, subst}
use Rattle.std.proofs.Common.{sym, ◌∙◌, mod-lt, arith, length-append, get_or-append-add, eqb-true, eq-eqb}
use mathlib.Core.List.Memᴰ
use mathlib.Core.List.{List, [], ◌∷◌, ◌++◌, append-nil}
use Rattle.std.proofs.Math.Logic.{⊎_elim}
use Prim.Native.Nat.{ℕ, zero, suc, ◌+◌, ◌-◌, ◌^◌, ◌<◌, ◌≤◌}
use Rattle.std.proofs.Math.Nat.{pow-le-pow_right, lt_of_lt_of_le}
use Rattle.meaning.specs.Writing.{line_at}
use Rattle.lists.specs.Listed.{◌∈◌, none_in, get_or-in, when-sound}
use Rattle.graph.specs.Plain.{memb, filt, count}
use Rattle.graph.proofs.Sets.{filt-in, count-in}
use Rattle.search.proofs.Digits.{pow_pos}
use Rattle.graph.specs.Loops.{loop, turns}
use Rattle.graph.proofs.Loops.{turns-idle}
use Rattle.graph.specs.Table.{Search, push}
use Rattle.graph.proofs.Grows.{Grows, grows_none, grows_then}
use Rattle.graph.specs.PhaseTwo.{put, Tried, gather, try}
use Rattle.graph.proofs.PhaseTwo.{try-next, try-here, from-grows}
use Rattle.search.specs.Product.{Setting, stacks, state, place_of, pos_of, stack_of, cut, takes, pushed, following, succs}
use Rattle.search.proofs.Steps.{read-state}
use Rattle.search.specs.Moves.{onward, from_state}
use Rattle.search.proofs.Moves.{from-law}

-- ---- the lines of a list, tried one after the other

module _ (E : ℕ → ℕ → ℕ → Search → Search) where
  -- until one gathers something; m stands for none
  unfoldable pub try_list : ℕ → ℕ → ℕ → List ℕ → Search → Tried
  try_list w lo m [] st = record { line = m; table = st }
  try_list w lo m (l ∷ ls) st =
      let st' = gather E w l lo st in
      cond (eqb (length st'.queue) (length st.queue)) (try_list w lo m ls st') (record { line = l; table = st' })

  pub list-next : (w lo m l : ℕ) (ls : List ℕ) (st : Search)
      → eqb (length (gather E w l lo st).queue) (length st.queue) ≡ true
      → try_list w lo m (l ∷ ls) st ≡ try_list w lo m ls (gather E w l lo st)
  unfolding try_list
  list-next w lo m l ls st e = rw (e, try_list)

  pub list-here : (w lo m l : ℕ) (ls : List ℕ) (st : Search)
      → eqb (length (gather E w l lo st).queue) (length st.queue) ≡ false
      → try_list w lo m (l ∷ ls) st ≡ record { line = l; table = gather E w l lo st }
  unfolding try_list
  list-here w lo m l ls st e = rw (e, try_list)

-- ---- trying all lines is trying those that pass a test, where the others gather nothing

turns-grows : (f : ℕ → Search → Search) → ((x : ℕ) (st : Search) → Grows st (f x st)) → (i n : ℕ) (st : Search) → Grows st (turns f i n st)
unfolding turns
turns-grows f h i zero st = grows_none st
turns-grows f h i (suc n) st = grows_then st (f i st) (turns f (suc i) n (f i st)) (h i st) (turns-grows f h (suc i) n (f i st))

filt-taken : (p : ℕ → Bool) (l n : ℕ) → p l ≡ true → filt p (count l (suc n)) ≡ l ∷ filt p (count (suc l) n)
unfolding filt count
filt-taken p l n t = rw (t, filt)

filt-passed : (p : ℕ → Bool) (l n : ℕ) → p l ≡ false → filt p (count l (suc n)) ≡ filt p (count (suc l) n)
unfolding filt count
filt-passed p l n t = rw (t, filt)

-- nothing more in the queue: it is the same
grown-same : {st st' : Search} → Grows st st' → length st'.queue ≡ length st.queue → st'.queue ≡ st.queue
grown-same {st} {st'} g e = go g.new g.more
  where
    go : (new : List ℕ) → st'.queue ≡ st.queue ++ new → st'.queue ≡ st.queue
    go [] m = m ∙ append-nil st.queue
    go (x ∷ new) m = absurd (omega (arith, e, ap length m, length-append st.queue (x ∷ new)))

-- no line is left
try-end : (E : ℕ → ℕ → ℕ → Search → Search) (p : ℕ → Bool) (w lo l m : ℕ) (st : Search) → l ≡ m → try E w lo 0 l st ≡ try_list E w lo m (filt p (count l 0)) st
unfolding try try_list filt count
try-end E p w lo l m st e = rw e

module _ (E : ℕ → ℕ → ℕ → Search → Search) (grows : (w l s : ℕ) (st : Search) → Grows st (E w l s st)) (p : ℕ → Bool) (w lo : ℕ) (waiting : List ℕ)
    (idle : (l : ℕ) → p l ≡ false → (b : Search) → b.queue ≡ waiting → gather E w l lo b ≡ b) where
  same_queue : (l : ℕ) (st : Search) → length (gather E w l lo st).queue ≡ length st.queue → (gather E w l lo st).queue ≡ st.queue
  unfolding gather
  same_queue l st e = grown-same (turns-grows (λ j b. E w l (get_or b.queue j 0) b) (λ j b. grows w l (get_or b.queue j 0) b) lo (length st.queue - lo) st) e

  pub try-list : (n l m : ℕ) (st : Search) → l + n ≡ m → st.queue ≡ waiting → try E w lo n l st ≡ try_list E w lo m (filt p (count l n)) st
  try-list zero l m st e q = try-end E p w lo l m st (omega arith)
  try-list (suc n) l m st e q = go (p l) refl (eqb (length (gather E w l lo st).queue) (length st.queue)) refl (λ b. try-list n (suc l) m b (omega arith))
    where
      rest : List ℕ
      rest = filt p (count (suc l) n)

      go : (b : Bool) → p l ≡ b → (c : Bool) → eqb (length (gather E w l lo st).queue) (length st.queue) ≡ c
          → ((b : Search) → b.queue ≡ waiting → try E w lo n (suc l) b ≡ try_list E w lo m rest b)
          → try E w lo (suc n) l st ≡ try_list E w lo m (filt p (count l (suc n))) st
      go true t true c ih =
          let same = same_queue l st (eqb-true _ _ c) in
          rw (filt-taken p l n t) (try-next E w lo n l st c ∙ (ih (gather E w l lo st) (same ∙ q) ∙ sym (list-next E w lo m l rest st c)))
      go true t false c ih = rw (filt-taken p l n t) (try-here E w lo n l st c ∙ sym (list-here E w lo m l rest st c))
      go false t c d ih =
          let same : gather E w l lo st ≡ st = idle l t st q in
          let none = eq-eqb _ _ (ap (λ (x : Search). length x.queue) same) in
          rw (filt-passed p l n t) (try-next E w lo n l st none ∙ (ap (try E w lo n (suc l)) same ∙ ih st q))

-- ---- the frontier stands at one place

module _ (S : Setting) where
  -- the states from index lo on are at place q
  abbrev pub Stand : ℕ → ℕ → List ℕ → Type 0
  Stand q lo states = (j : ℕ) → lo ≤ j → j < length states → place_of S (get_or states j 0) ≡ q

  -- does line i come from place q?
  abbrev pub comes_from : ℕ → ℕ → Bool
  comes_from q i = eqb (line_at S.lines i).from q

  from-idle : (D : List ℕ) (w l s q : ℕ) (st : Search) → place_of S s ≡ q → comes_from q l ≡ false → from_state S D w l s st ≡ st
  unfolding from_state onward
  from-idle D w l s q st e f = rw (e, f)

  gather-idle : (D : List ℕ) (w l lo q : ℕ) (st : Search) → Stand q lo st.queue → comes_from q l ≡ false → gather (from_state S D) w l lo st ≡ st
  unfolding gather
  gather-idle D w l lo q st stand f =
      turns-idle (λ j b. from_state S D w l (get_or b.queue j 0) b) lo (length st.queue - lo) st (λ j le less. from-idle D w l (get_or st.queue j 0) q st (stand j le (omega arith)) f)

  -- so the lines from elsewhere need not be tried
  pub try-place : (D : List ℕ) (w lo m q : ℕ) (st : Search) → Stand q lo st.queue
      → try (from_state S D) w lo m 0 st ≡ try_list (from_state S D) w lo m (filt (comes_from q) (count 0 m)) st
  try-place D w lo m q st stand =
      try-list (from_state S D) (from-grows (from_state S D) D (succs S) (from-law S D)) (comes_from q) w lo st.queue
      (λ l f b e. gather-idle D w l lo q b (subst (Stand q lo) (sym e) stand) f) m 0 m st (omega arith) refl

-- ---- the next frontier

-- the queue has more states then, all of them such as P says
record Adds (P : ℕ → Type 0) (st st' : Search) : Type 0 where
  grown : Grows st st'
  all : (s : ℕ) → s ∈ grown.new → P s

module _ (P : ℕ → Type 0) where
  adds_none : (st : Search) → Adds P st st
  unfolding grows_none
  adds_none st = record { grown = grows_none st; all = λ s m. none_in m }

  adds_then : (a b c : Search) → Adds P a b → Adds P b c → Adds P a c
  unfolding grows_then
  adds_then a b c g h = record {
    grown = grows_then a b c g.grown h.grown;
    all = λ s m. ⊎_elim (λ i. g.all s i) (λ i. h.all s i) (Memᴰ.append_cases g.grown.new m);
  }

  adds-if : (b : Bool) (st st' : Search) → Adds P st st' → Adds P st (cond b st' st)
  adds-if true st st' g = g
  adds-if false st st' g = adds_none st

  push-adds : (w t : ℕ) (st : Search) → P t → Adds P st (push w t st)
  unfolding push
  push-adds w t st h = adds-if (eqb (get_or st.dist t 0) 0) st _ (record { grown = record { new = t ∷ []; more = refl }; all = λ s m. subst P (sym (Memᴰ.eq_of_singleton m)) h })

  put-adds : (D : List ℕ) (w : ℕ) (ts : List ℕ) (st : Search) → ((t : ℕ) → t ∈ ts → P t) → Adds P st (loop (put D w) ts st)
  unfolding loop put
  put-adds D w [] st h = adds_none st
  put-adds D w (t ∷ ts) st h =
      adds_then st (put D w t st) (loop (put D w) ts (put D w t st))
      (adds-if (eqb (get_or D t 0) w) st (push 1 t st) (push-adds 1 t st (h t (Memᴰ.head refl))))
      (put-adds D w ts (put D w t st) (λ u m. h u (Memᴰ.tail m)))

  turns-adds : (f : ℕ → Search → Search) → ((x : ℕ) (st : Search) → Adds P st (f x st)) → (i n : ℕ) (st : Search) → Adds P st (turns f i n st)
  unfolding turns
  turns-adds f h i zero st = adds_none st
  turns-adds f h i (suc n) st = adds_then st (f i st) (turns f (suc i) n (f i st)) (h i st) (turns-adds f h (suc i) n (f i st))

  adds-at : {st st' : Search} → Adds P st st' → (j : ℕ) → length st.queue ≤ j → j < length st'.queue → P (get_or st'.queue j 0)
  adds-at {st} {st'} g j le less =
      let k = j - length st.queue in
      let new = g.grown.new in
      let at : length st.queue + k ≡ j = omega arith in
      let long = ap length g.grown.more ∙ length-append st.queue new in
      let is : get_or new k 0 ≡ get_or st'.queue j 0 = sym (get_or-append-add st.queue new k 0) ∙ (λ i. get_or (sym g.grown.more i) (at i) 0) in
      subst P is (g.all (get_or new k 0) (get_or-in new k 0 (omega (arith, long, less, at))))

module _ (S : Setting) (some : 0 < S.radix) (shallow : (k : ℕ) → k ≤ S.done → (S.node k).depth ≤ S.deepest) where
  -- a state is at the place that it is made of
  pub place-of : (q k v : ℕ) → k ≤ S.done → v < S.radix ^ (S.node k).depth → place_of S (state S q k v) ≡ q
  place-of q k v hk hv = (read-state S q k v hk (unfold stacks in lt_of_lt_of_le hv (pow-le-pow_right some (shallow k hk)))).0

  -- line i leads to states at its end
  succs-place : (s i t : ℕ) → t ∈ succs S s i → place_of S t ≡ (line_at S.lines i).to
  unfolding succs
  succs-place s i t m =
      let n = S.node (pos_of S s) in
      let v = stack_of S s in
      let l = line_at S.lines i in
      let (_, inside) = when-sound (eqb l.from (place_of S s) && takes S n v i) m in
      let (k, y, is) = Memᴰ.of_map (λ k. state S l.to k (cut S (S.node k).depth (pushed S n v i))) (following S n) inside in
      let low = ((count-in 0 (suc S.done) k).0 ((filt-in (λ k. memb k n.follow) (count 0 (suc S.done)) k).0 y).0).1 in
      ap (place_of S) (sym is) ∙ place-of l.to k _ (omega (arith, low)) (mod-lt (pushed S n v i) (pow_pos S.radix some (S.node k).depth))

  gather-adds : (D : List ℕ) (w l lo : ℕ) (st : Search) → Adds (λ t. place_of S t ≡ (line_at S.lines l).to) st (gather (from_state S D) w l lo st)
  unfolding gather
  gather-adds D w l lo st = turns-adds P (λ j b. from_state S D w l (get_or b.queue j 0) b) turn lo (length st.queue - lo) st
    where
      P : ℕ → Type 0
      P t = place_of S t ≡ (line_at S.lines l).to

      turn : (j : ℕ) (b : Search) → Adds P b (from_state S D w l (get_or b.queue j 0) b)
      turn j b = subst (Adds P b) (from-law S D w l (get_or b.queue j 0) b) (put-adds P D w (succs S (get_or b.queue j 0) l) b (succs-place (get_or b.queue j 0) l))

  -- the line chosen leads to one place
  pub try-stand : (D : List ℕ) (w lo n l : ℕ) (st : Search) → (q : ℕ) × Stand S q (length st.queue) (try (from_state S D) w lo n l st).table.queue
  try-stand D w lo zero l st = unfold try in (0, λ j le less. absurd (omega arith))
  try-stand D w lo (suc n) l st = go (eqb (length st'.queue) (length st.queue)) refl (try-stand D w lo n (suc l) st')
    where
      E : ℕ → ℕ → ℕ → Search → Search
      E = from_state S D

      st' : Search
      st' = gather E w l lo st

      go : (b : Bool) → eqb (length st'.queue) (length st.queue) ≡ b
          → (q : ℕ) × Stand S q (length st'.queue) (try E w lo n (suc l) st').table.queue
          → (q : ℕ) × Stand S q (length st.queue) (try E w lo (suc n) l st).table.queue
      go true e ih = rw (try-next E w lo n l st e, ← eqb-true (length st'.queue) (length st.queue) e) ih
      go false e ih = rw (try-here E w lo n l st e) ((line_at S.lines l).to, adds-at (λ t. place_of S t ≡ (line_at S.lines l).to) (gather-adds D w l lo st))

  -- the first frontier: states at place q are put into an empty table
  pub put-stand : (D : List ℕ) (w q : ℕ) (ts : List ℕ) (st : Search) → length st.queue ≡ 0 → ((t : ℕ) → t ∈ ts → place_of S t ≡ q)
      → Stand S q 0 (loop (put D w) ts st).queue
  put-stand D w q ts st none h j le less = adds-at (λ t. place_of S t ≡ q) (put-adds (λ t. place_of S t ≡ q) D w ts st h) j (omega arith) less
