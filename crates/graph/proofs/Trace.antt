-- Tags beside the queue (`Trace` in specs/). Claimed: tags change nothing of what is found (`tagged-table`), there is one for each state of
-- the queue (`tagged-long`), and where the line leads from every new state to the one expanded, the tags say so (`tagged-right`); the same
-- of loops (`turns-table`, `turns-long`, `turns-right`).
use Rattle.std.specs.Prelude.{◌≡◌, Bool, List, [], ◌∷◌, ◌++◌, eqb, get_or}
use Rattle.std.proofs.Math.Path.{refl, ap}
use Rattle.std.proofs.Common.{sym, ◌∙◌, subst, append_assoc, append-nil, ⊎_elim, arith, get_or-append-add}
use Rattle.std.proofs.Math.Bool.{true, false, cond}
use mathlib.Core.List.Memᴰ
use Prim.Native.Nat.{ℕ, zero, suc, ◌+◌, ◌-◌, ◌<◌, ◌≤◌}
use Rattle.std.proofs.Math.Decide.{dec_lt}
use Rattle.std.proofs.Math.ListN.{length, replicate, length-append, length-replicate, get_or-replicate, get_or-append}
use Rattle.lists.specs.Listed.{◌∈◌, get_or-in}
use Rattle.graph.specs.Loops.{loop, turns}
use Rattle.graph.specs.Table.{Search, push}
use Rattle.graph.specs.Trace.{Reached, tag_of, tagged}

-- ---- laws

pub tagged-table : (tag : ℕ) (f : Search → Search) (x : Reached) → (tagged tag f x).table ≡ f x.table
unfolding tagged
tagged-table tag f x = refl

-- a tag for each state of the queue
abbrev pub Long : Reached → Type 0
Long x = length x.how ≡ length x.table.queue

pub tagged-long : (tag : ℕ) (f : Search → Search) (x : Reached) → length x.table.queue ≤ length (f x.table).queue → Long x → Long (tagged tag f x)
unfolding tagged
tagged-long tag f x more long = length-append x.how _ ∙ omega (arith, more, long, length-replicate {A = ℕ} (length (f x.table).queue - length x.table.queue) tag)

-- ---- loops whose body may tag, under a test

module _ (p : ℕ → Bool) (f : ℕ → Reached → Reached) where
  -- what is found, where a turn does to the table what g does
  pub turns-table : (g : ℕ → Search → Search) → ((i : ℕ) (x : Reached) → (f i x).table ≡ g i x.table) → (i n : ℕ) (x : Reached)
      → (turns (λ i x. cond (p i) (f i x) x) i n x).table ≡ turns (λ i st. cond (p i) (g i st) st) i n x.table
  unfolding turns
  turns-table g h i zero x = refl
  turns-table g h i (suc n) x =
      turns-table g h (suc i) n (cond (p i) (f i x) x) ∙ ap (turns (λ i st. cond (p i) (g i st) st) (suc i) n) (go (p i))
    where
      go : (b : Bool) → (cond b (f i x) x).table ≡ cond b (g i x.table) x.table
      go true = h i x
      go false = refl

  pub turns-long : ((i : ℕ) (x : Reached) → Long x → Long (f i x)) → (i n : ℕ) (x : Reached) → Long x → Long (turns (λ i x. cond (p i) (f i x) x) i n x)
  unfolding turns
  turns-long h i zero x long = long
  turns-long h i (suc n) x long = turns-long h (suc i) n (cond (p i) (f i x) x) (go (p i))
    where
      go : (b : Bool) → Long (cond b (f i x) x)
      go true = h i x long
      go false = long

-- ---- states that are pushed

-- the states that are new after a list of states was pushed are of that list
pub record Pushes (xs : List ℕ) (st st' : Search) : Type 0 where
  pub new : List ℕ
  pub more : st'.queue ≡ st.queue ++ new
  pub of : (s : ℕ) → s ∈ new → s ∈ xs

pub loop-pushes : (w : ℕ) (xs : List ℕ) (st : Search) → Pushes xs st (loop (push w) xs st)
unfolding loop push
loop-pushes w [] st = record { new = []; more = sym (append-nil st.queue); of = λ s i. i }
loop-pushes w (x ∷ xs) st = go (eqb (get_or st.dist x 0) 0) refl (λ st'. loop-pushes w xs st')
  where
    go : (b : Bool) → eqb (get_or st.dist x 0) 0 ≡ b → ((st' : Search) → Pushes xs st' (loop (push w) xs st')) → Pushes (x ∷ xs) st (loop (push w) xs (push w x st))
    go true e ih = rw e
        (let r = ih _ in
        record {
          new = x ∷ r.new;
          more = r.more ∙ append_assoc st.queue (x ∷ []) r.new;
          of = λ s i. ⊎_elim (λ p. Memᴰ.head p) (λ j. Memᴰ.tail (r.of s j)) (Memᴰ.cases_cons i);
        })
    go false e ih = rw e (let r = ih st in record { new = r.new; more = r.more; of = λ s i. Memᴰ.tail (r.of s i) })

-- ---- the tags are right

module _ (succs : ℕ → ℕ → List ℕ) (m t : ℕ) where
  -- y is x with new states and their tags: each is reached by a line below m, from the state t to which that line leads from it
  pub record Tagged (x y : Reached) : Type 0 where
    pub new : List ℕ
    pub tags : List ℕ
    pub queue-is : y.table.queue ≡ x.table.queue ++ new
    pub how-is : y.how ≡ x.how ++ tags
    pub as_many : length tags ≡ length new
    pub right : (j : ℕ) → j < length new → (l : ℕ) × (l < m) × (get_or tags j 0 ≡ tag_of l t) × (t ∈ succs (get_or new j 0) l)

  pub tagged-none : (x : Reached) → Tagged x x
  tagged-none x = record {
    new = [];
    tags = [];
    queue-is = sym (append-nil x.table.queue);
    how-is = sym (append-nil x.how);
    as_many = refl;
    right = λ j lt. absurd (omega arith);
  }

  pub tagged-then : (x y z : Reached) → Tagged x y → Tagged y z → Tagged x z
  tagged-then x y z a b = record {
    new = a.new ++ b.new;
    tags = a.tags ++ b.tags;
    queue-is = b.queue-is ∙ (ap (◌++ b.new) a.queue-is ∙ append_assoc x.table.queue a.new b.new);
    how-is = b.how-is ∙ (ap (◌++ b.tags) a.how-is ∙ append_assoc x.how a.tags b.tags);
    as_many = omega (arith, length-append a.tags b.tags, length-append a.new b.new, a.as_many, b.as_many);
    right = λ j lt. elim (dec_lt j (length a.new)) [
      | yes h ↦ before j h
      | no h ↦ after j (j - length a.new) (omega arith) (omega (arith, lt, length-append a.new b.new))
    ];
  }
    where
      Right : ℕ → ℕ → Type 0
      Right tag s = (l : ℕ) × (l < m) × (tag ≡ tag_of l t) × (t ∈ succs s l)

      before : (j : ℕ) → j < length a.new → Right (get_or (a.tags ++ b.tags) j 0) (get_or (a.new ++ b.new) j 0)
      before j h = rw (get_or-append a.tags b.tags 0 j (omega (arith, a.as_many)), get_or-append a.new b.new 0 j h) (a.right j h)

      after : (j i : ℕ) → j ≡ length a.new + i → i < length b.new → Right (get_or (a.tags ++ b.tags) j 0) (get_or (a.new ++ b.new) j 0)
      after j i e lt =
          let f : j ≡ length a.tags + i = omega (arith, a.as_many) in
          let tag : get_or (a.tags ++ b.tags) j 0 ≡ get_or b.tags i 0 = ap (λ k. get_or (a.tags ++ b.tags) k 0) f ∙ get_or-append-add a.tags b.tags i 0 in
          let state : get_or (a.new ++ b.new) j 0 ≡ get_or b.new i 0 = ap (λ k. get_or (a.new ++ b.new) k 0) e ∙ get_or-append-add a.new b.new i 0 in
          rw (tag, state) (b.right i lt)

  -- one line: it leads to t from each of the states that f finds
  pub tagged-right : (l : ℕ) (f : Search → Search) (x : Reached) (xs : List ℕ) → l < m → Pushes xs x.table (f x.table) → ((s : ℕ) → s ∈ xs → t ∈ succs s l)
      → Tagged x (tagged (tag_of l t) f x)
  unfolding tagged
  tagged-right l f x xs low h leads =
      let n = length (f x.table).queue - length x.table.queue in
      let many : n ≡ length h.new = omega (arith, ap length h.more, length-append x.table.queue h.new) in
      record {
        new = h.new;
        tags = replicate n (tag_of l t);
        queue-is = h.more;
        how-is = refl;
        as_many = length-replicate n (tag_of l t) ∙ many;
        right = λ j lt. (l, low, get_or-replicate n j (tag_of l t) 0 (omega (arith, many)), leads (get_or h.new j 0) (h.of _ (get_or-in h.new j 0 lt)));
      }

  -- a loop, where each turn that is taken tags rightly
  pub turns-right : (p : ℕ → Bool) (f : ℕ → Reached → Reached) (i n : ℕ)
      → ((j : ℕ) → i ≤ j → j < i + n → p j ≡ true → (x : Reached) → Tagged x (f j x))
      → (x : Reached) → Tagged x (turns (λ j x. cond (p j) (f j x) x) i n x)
  unfolding turns
  turns-right p f i zero h x = tagged-none x
  turns-right p f i (suc n) h x =
      let y = cond (p i) (f i x) x in
      tagged-then x y _ (go (p i) refl) (turns-right p f (suc i) n (λ j le lt e. h j (omega arith) (omega arith) e) y)
    where
      go : (b : Bool) → p i ≡ b → Tagged x (cond b (f i x) x)
      go true e = h i (omega arith) (omega arith) e x
      go false e = tagged-none x

-- the lists of steps are asked only for lines below m
pub tagged-same : (succs₁ succs₂ : ℕ → ℕ → List ℕ) (m t : ℕ) → ((s l : ℕ) → l < m → succs₁ s l ≡ succs₂ s l)
    → (x y : Reached) → Tagged succs₁ m t x y → Tagged succs₂ m t x y
tagged-same succs₁ succs₂ m t same x y a = record {
  new = a.new;
  tags = a.tags;
  queue-is = a.queue-is;
  how-is = a.how-is;
  as_many = a.as_many;
  right = λ j lt. let (l, low, tag, leads) = a.right j lt in (l, low, tag, subst (t ∈◌) (same (get_or a.new j 0) l low) leads);
}
