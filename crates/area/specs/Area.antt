-- The work area as stretches of words, the search that two stretches of it hold, and `Step`: what every function that changes the area promises.
-- `StepAny` is what is promised where any words may stand in the pair, as in an area that was lent meanwhile.
-- A pair of stretches begins at word `base`: `size` words of distances, or marks, and then `size` words of which the first `tail` are the queue.
use Rattle.std.specs.Prelude.{◌≡◌, List, [], ◌∷◌, ◌++◌, ℕ, zero, suc, ◌+◌, ◌≤◌, ◌<◌, length, get_or, take, drop}
use Rattle.graph.specs.Table.{Search}

-- ---- stretches

-- n words from word b on
unfoldable pub stretch : ℕ → ℕ → List ℕ → List ℕ
stretch b n w = take n (drop b w)

-- the area with other words in place of the n from word b on: what it is when a middle part that was lent comes back
unfoldable pub patch : ℕ → ℕ → List ℕ → List ℕ → List ℕ
patch b n ys w = take b w ++ (ys ++ drop n (drop b w))

-- ---- the search in a pair of stretches

-- how many words are not 0
unfoldable pub marked : List ℕ → ℕ
marked [] = zero
marked (zero ∷ l) = marked l
marked (suc n ∷ l) = suc (marked l)

-- what a search under way keeps: as many states wait or waited as have a word, so the queue has room for one more where a word is 0
pub record Good (size : ℕ) (st : Search) : Type 0 where
  pub sized : length st.dist ≡ size
  pub counted : length st.queue ≡ marked st.dist
  pub within : (i : ℕ) → i < length st.queue → get_or st.queue i 0 < size
  pub near : (i : ℕ) → get_or st.dist i 0 ≤ marked st.dist

-- the words that such a search does not use: those before the pair, and those after the queue's last
pub record Outside : Type 0 where
  pub front : List ℕ
  pub back : List ℕ

module _ (base size : ℕ) where
  -- the search in the pair, its queue having `tail` words
  unfoldable pub found : ℕ → List ℕ → Search
  found tail w = record { dist = stretch base size w; queue = stretch (base + size) tail w }

  unfoldable pub outside : ℕ → List ℕ → Outside
  outside tail w = record { front = take base w; back = drop (base + size + tail) w }

  -- the area has the pair, its states are numbers of 32 bits, and a search is under way in it
  pub record Ready (tail : ℕ) (w : List ℕ) : Type 0 where
    pub room : base + size + size ≤ length w
    pub small : size < 4294967296
    pub fits : tail ≤ size
    pub good : Good size (found tail w)

  -- from words w with t in the queue to words v with u in the queue: what is found is f of what was found, and every other word is as it was
  pub record Step (f : Search → Search) (t : ℕ) (w : List ℕ) (u : ℕ) (v : List ℕ) : Type 0 where
    pub now-found : found u v ≡ f (found t w)
    pub same : outside u v ≡ outside u w
    pub long : length v ≡ length w
    pub grows : t ≤ u
    pub ready : Ready u v

  -- a loop under way: from words w₀ with t₀ in the queue F is to be done; at w with t in the queue G of it is left
  pub record Under (F : Search → Search) (t₀ : ℕ) (w₀ : List ℕ) (G : Search → Search) (t : ℕ) (w : List ℕ) : Type 0 where
    pub rest : G (found t w) ≡ F (found t₀ w₀)
    pub same : outside t w ≡ outside t w₀
    pub long : length w ≡ length w₀
    pub grows : t₀ ≤ t
    pub ready : Ready t w

  -- ---- whatever words stand in the pair

  -- the area has the pair, and its states are numbers of 32 bits
  pub record Room (tail : ℕ) (w : List ℕ) : Type 0 where
    pub room : base + size + size ≤ length w
    pub small : size < 4294967296
    pub fits : tail ≤ size

  -- from words w with t in the queue to words v with u in the queue: only words of the pair change, and the queue stays in it; where a search stands
  -- in it, it is a step by f
  pub record StepAny (f : Search → Search) (t : ℕ) (w : List ℕ) (u : ℕ) (v : List ℕ) : Type 0 where
    pub same : outside u v ≡ outside u w
    pub long : length v ≡ length w
    pub grows : t ≤ u
    pub ready : Room u v
    pub sound : Good size (found t w) → Step f t w u v

  -- a loop under way
  pub record UnderAny (F : Search → Search) (t₀ : ℕ) (w₀ : List ℕ) (G : Search → Search) (t : ℕ) (w : List ℕ) : Type 0 where
    pub same : outside t w ≡ outside t w₀
    pub long : length w ≡ length w₀
    pub grows : t₀ ≤ t
    pub ready : Room t w
    pub sound : Good size (found t₀ w₀) → Under F t₀ w₀ G t w
