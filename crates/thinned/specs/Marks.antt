-- What the loops of thinning go by: the marks that say of each group which of its words are kept in the run at hand, one word read,
-- a run under way, and the keys that are done.
use Rattle.std.specs.Prelude.{◌≡◌, ◌⊎◌, List, ℕ, suc, ◌+◌, ◌*◌, ◌-◌, ◌/◌, ◌%◌, ◌≤◌, ◌<◌, length, get_or, set}
use Rattle.lists.specs.Listed.{◌∈◌}
use Rattle.request.specs.Layout.{Laid}
use Rattle.request.specs.declared.Plan.{Plan}
use Rattle.sorted.specs.Sorting.{pack_by, lines_from, sorted_end, Sorted, Kept}
use Rattle.sorted.specs.declared.Order.TheVariants as Order
use Rattle.area.specs.Area.{stretch}
use Rattle.states.specs.declared.Sieve.{Sieve}
use Rattle.thinned.specs.Thinning.{group, key, kin, groups, Thin, thin_end, thin_at, ThinRun, FromPlaces}
use Rattle.thinned.specs.declared.Table.{Table}

-- where a table and its marks stand
pub record Tabled (plan : Plan) (table : Table) : Type 0 where
  pub at-is : table.at ≡ thin_at table.sieve plan
  pub marks-at : table.marks ≡ sorted_end Order.Kind plan table.at
  pub groups-are : table.groups ≡ groups table.sieve plan

-- ---- marks: n words from word s on, and n more; t is the stamp of the run at hand, and no other run has it

module _ (s n : ℕ) where
  -- the stamp times pack_by and the key of the first word of group f that is kept, or, if that is unread, of the first read one
  abbrev pub first : ℕ → List ℕ → ℕ
  first f w = get_or w (s + f) 0

  -- the stamp, where a word of group f with another key is kept too
  abbrev pub other : ℕ → List ℕ → ℕ
  other f w = get_or w (s + n + f) 0

  -- every stamp is below t
  abbrev pub Stale : ℕ → List ℕ → Type 0
  Stale t w = (f : ℕ) → f < n → (first f w / pack_by < t) × (other f w < t)

  -- the marks are words of the area
  abbrev pub MarksFit : List ℕ → Type 0
  MarksFit w = (s + n + n ≤ length w) × (s + n + n < 4294967296)

  -- one run: the words from lo up to hi, those of them that are kept to stand from word b on
  pub record Ahead (places t lo hi b : ℕ) (w : List ℕ) : Type 0 where
    pub fit : MarksFit w
    pub rising : lo ≤ hi
    pub apart : hi ≤ b
    pub room : b + hi ≤ s + lo
    pub low : (p : ℕ) → lo ≤ p → p < hi → (get_or w p 0 / pack_by < places) × (get_or w p 0 % pack_by ≤ 4096)
    pub stale : Stale t w
    pub stamp-low : t ≤ 16384

module _ (sieve : Sieve) (B : ℕ → ℕ) (s n : ℕ) where
  -- of group f two words with different keys are kept, both read
  pub record Both (t : ℕ) (vs w : List ℕ) (f : ℕ) : Type 0 where
    pub stamped : first s n f w / pack_by ≡ t
    pub first_read : first s n f w % pack_by ≡ 0 → ⊥
    pub second : ℕ
    pub is-kept : second ∈ vs
    pub in_group : group sieve B second ≡ f
    pub is_read : key sieve B second ≡ 0 → ⊥
    pub differs : key sieve B second ≡ first s n f w % pack_by → ⊥

  -- vs are the words kept of the run, by the boats' table B: what the marks with its stamp say is so
  pub record Marked (t : ℕ) (vs w : List ℕ) : Type 0 where
    pub has_first : (f : ℕ) → f < n → first s n f w / pack_by ≡ t → (y : ℕ) × (y ∈ vs) × (group sieve B y ≡ f) × (key sieve B y ≡ first s n f w % pack_by)
    pub has_other : (f : ℕ) → f < n → other s n f w ≡ t → Both t vs w f
    pub kins-low : (y : ℕ) → y ∈ vs → kin sieve B y < 257
    pub stale : Stale s n (suc t) w

  -- the word x is read, and the next word kept is to stand at word i; u is where the one after it is to stand then
  pub data Read (t x i : ℕ) (w : List ℕ) (u : ℕ) (v : List ℕ) : Type 0 where
    new : key sieve B x < pack_by → (first s n (group sieve B x) w / pack_by ≡ t → (first s n (group sieve B x) w % pack_by ≡ 0) × (key sieve B x ≡ 0 → ⊥))
        → u ≡ i + 1 → v ≡ set (set w (s + group sieve B x) (t * pack_by + key sieve B x)) i x → Read t x i w u v
    more : first s n (group sieve B x) w / pack_by ≡ t → (first s n (group sieve B x) w % pack_by ≡ 0 → ⊥) → (key sieve B x ≡ 0 → ⊥) → (first s n (group sieve B x) w % pack_by ≡ key sieve B x → ⊥)
        → u ≡ i + 1 → v ≡ set (set w (s + n + group sieve B x) t) i x → Read t x i w u v
    spare : first s n (group sieve B x) w / pack_by ≡ t → (key sieve B x ≡ 0) ⊎ ((first s n (group sieve B x) w % pack_by ≡ key sieve B x) ⊎ (other s n (group sieve B x) w ≡ t))
        → u ≡ i → v ≡ w → Read t x i w u v

  -- of a run the words before word p are read, and those kept stand before word u; w₀ are the words at its start
  pub record Going (t lo b p u : ℕ) (w₀ w : List ℕ) : Type 0 where
    pub begun : lo ≤ p
    pub rising : b ≤ u
    pub few : u + lo ≤ b + p
    pub kept : Kept b (s + n + n) w₀ w
    pub thin : Thin sieve B (stretch lo (p - lo) w₀) (stretch b (u - b) w)
    pub marked : Marked t (stretch b (u - b) w) w

-- ---- all keys

module _ (sieve : Sieve) (plan : Plan) (of at : ℕ) where
  -- what every key goes by: the loaded record and the sorted table stand before the thin one, which has room, and its words are words
  pub record Ground (w : List ℕ) : Type 0 where
    pub laid : Laid plan (length w)
    pub sorted : Sorted Order.Kind plan of w
    pub places : FromPlaces plan w
    pub past : plan.base ≤ of
    pub apart : sorted_end Order.Kind plan of ≤ at
    pub room : thin_end sieve plan at ≤ length w
    pub small : thin_end sieve plan at < 4294967296

  -- the keys below k are done: the words of key k are to begin where its word says, as far on at most as those of the sorted table
  pub record Made (B : ℕ → ℕ) (k : ℕ) (w : List ℕ) : Type 0 where
    pub begins : lines_from Order.Kind plan at ≤ get_or w (at + k) 0
    pub few : get_or w (at + k) 0 + of ≤ get_or w (of + k) 0 + at
    pub runs : (j : ℕ) → j < k → ThinRun sieve B plan of at w j
    pub before : (j : ℕ) → j < k → get_or w (at + suc j) 0 ≤ get_or w (at + k) 0
    pub stale : Stale (sorted_end Order.Kind plan at) (groups sieve plan) (suc k) w
