-- Of the lines of one kind into one place, as they are written in a sorted table, those that are needed where of a line only the place that
-- it comes from matters and whether its boat passes: where one passes that was left out, one that was kept stands for it (`Covered`). What
-- sets of boats may pass is a sieve's; there is a table for each.
use Rattle.std.specs.Prelude.{◌≡◌, Bool, true, List, [], ◌∷◌, ◌++◌, ℕ, suc, ◌+◌, ◌*◌, ◌-◌, ◌/◌, ◌%◌, ◌≤◌, ◌<◌, get_or}
use Rattle.lists.specs.Listed.{◌∈◌}
use Rattle.request.specs.declared.Plan.{Plan}
use Rattle.sorted.specs.Sorting.{pack_by, keys, pack_in, lines_from, sorted_end}
use Rattle.sorted.specs.declared.Order.TheVariants as Order
use Rattle.area.specs.Area.{stretch}
use Rattle.states.specs.Served.{class_key, key_by, kin_by, ServedBy}
use Rattle.states.specs.Spots.{front, boats_in}
use Rattle.states.specs.declared.Sieve.{Sieve}

-- ---- thin words

-- a word written of a line is the place that it comes from times pack_by and its boat's number. Where the boats that pass are those of T, the
-- word y stands for the word x: it comes from the same place, and passes
pub record StandsFor (T : ℕ → Bool) (x y : ℕ) : Type 0 where
  pub from : y / pack_by ≡ x / pack_by
  pub passes : T (y % pack_by) ≡ true

module _ (sieve : Sieve) (B : ℕ → ℕ) where
  -- whichever set that the sieve serves, by the boats' table B, has those that pass: where x passes, a word of ys stands for it
  abbrev pub Covered : List ℕ → ℕ → Type 0
  Covered ys x = (T : ℕ → Bool) → ServedBy sieve B T → T (x % pack_by) ≡ true → (y : ℕ) × (y ∈ ys) × StandsFor T x y

  -- ys are the words of xs, in their order, without some that those before them cover
  pub data Thin : List ℕ → List ℕ → Type 0 where
    empty : {xs ys : List ℕ} → xs ≡ [] → ys ≡ [] → Thin xs ys
    kept : {xs ys : List ℕ} (us vs : List ℕ) (x : ℕ) → xs ≡ us ++ (x ∷ []) → ys ≡ vs ++ (x ∷ []) → Thin us vs → Thin xs ys
    left : {xs ys : List ℕ} (us : List ℕ) (x : ℕ) → xs ≡ us ++ (x ∷ []) → Thin us ys → Covered ys x → Thin xs ys

  -- ---- a word's group, of which the first words are kept: for sisters the place and the class, else the place

  abbrev pub group_of : Sieve → ℕ → ℕ
  group_of Sieve.Boats x = x / pack_by
  group_of Sieve.Classes x = x / pack_by
  group_of Sieve.Sisters x = x / pack_by * 257 + class_key B (x % pack_by)

  abbrev pub group : ℕ → ℕ
  group x = group_of sieve x

  abbrev pub key : ℕ → ℕ
  key x = key_by sieve B (x % pack_by)

  abbrev pub kin : ℕ → ℕ
  kin x = kin_by sieve B (x % pack_by)

-- how many groups there are
abbrev pub groups : Sieve → Plan → ℕ
groups Sieve.Boats plan = plan.places
groups Sieve.Classes plan = plan.places
groups Sieve.Sisters plan = plan.places * 257

-- a word's group is one of them, and its kin is a class
pub record Sifts (sieve : Sieve) (B : ℕ → ℕ) (plan : Plan) (x : ℕ) : Type 0 where
  pub group-low : group sieve B x < groups sieve plan
  pub kin-low : kin sieve B x < 257

-- what is written of each line says a place that it comes from, and a boat's number
abbrev pub FromPlaces : Plan → List ℕ → Type 0
FromPlaces plan w = (i : ℕ) → i < plan.lines → let x = pack_in Order.Kind plan (front plan w) i in (x / pack_by < plan.places) × (x % pack_by ≤ 4096)

-- ---- the table, from word `at` on, of a table sorted by kind that begins at word `of`

-- two words for each group follow it, for making it
abbrev pub thin_end : Sieve → Plan → ℕ → ℕ
thin_end sieve plan at = sorted_end Order.Kind plan at + groups sieve plan + groups sieve plan

-- where the plan has it: one after the other
abbrev pub thin_at : Sieve → Plan → ℕ
thin_at Sieve.Boats plan = plan.thin
thin_at Sieve.Classes plan = thin_end Sieve.Boats plan plan.thin
thin_at Sieve.Sisters plan = thin_end Sieve.Classes plan (thin_end Sieve.Boats plan plan.thin)

-- word at + k holds the index of the first word of key k, whose words end where those of key k + 1 begin
pub record ThinRun (sieve : Sieve) (B : ℕ → ℕ) (plan : Plan) (of at : ℕ) (w : List ℕ) (k : ℕ) : Type 0 where
  pub low : lines_from Order.Kind plan at ≤ get_or w (at + k) 0
  pub rising : get_or w (at + k) 0 ≤ get_or w (at + suc k) 0
  pub high : get_or w (at + suc k) 0 ≤ sorted_end Order.Kind plan at
  pub has : Thin sieve B (stretch (get_or w (of + k) 0) (get_or w (of + suc k) 0 - get_or w (of + k) 0) w) (stretch (get_or w (at + k) 0) (get_or w (at + suc k) 0 - get_or w (at + k) 0) w)

abbrev pub Thinned : Sieve → Plan → ℕ → ℕ → List ℕ → Type 0
Thinned sieve plan of at w = (k : ℕ) → k < keys Order.Kind plan → ThinRun sieve (boats_in plan w) plan of at w k
