-- Lines have keys, and what is written of them is a word (`keyed-kind`, `keyed-boat`); each of the sorted tables has room; and
-- what making them one after the other leaves (`basic-all`, `basic-kept`), and what stays (`basic-stays`, `said-stays`).
use mathlib.Core.Path.{◌≡◌, sym, ◌∙◌, subst}
use mathlib.Core.List.{List}
use Prim.Native.Nat.{ℕ, ◌+◌, ◌≤◌, ◌<◌}
use native.Mathlib.Nat.{mod-lt}
use native.Mathlib.Omega.{arith}
use lib.Arith.{digits_lt}
use lib.ListN.{length}
use Rattle.request.specs.Layout.{Laid, filed_end}
use Rattle.request.specs.declared.Plan.{Plan}
use Rattle.search.specs.Loaded.{word_at}
use Rattle.sorted.specs.Sorting.{keys, key_in, pack_in, table_end, Sorted, Keyed, Kept}
use Rattle.sorted.specs.Runs.{table-behind, kinds-end, boats-end}
use Rattle.sorted.specs.declared.Order.{Order}
use Rattle.states.specs.Spots.{front}
use Rattle.sorted.proofs.Turns.{kept_then, kept-take, kept-wider, kept-get}
use Rattle.states.specs.declared.Sieve.{Sieve}
use Rattle.thinned.specs.Runs.{stamps-are, filed-end, from_places, sorted-kept, thin-kept}
use Rattle.thinned.specs.Thinning.{FromPlaces, thin_at, thin_end, Thinned}
use Rattle.ways.specs.Filed.{Basic, Said}
use Rattle.ways.specs.Ways.{Told}

module _ (plan : Plan) (w : List ℕ) {area : ℕ} (l : Laid plan area) (t : Told plan (front plan w)) where
  pub keyed-kind : Keyed Order.Kind plan w
  unfolding keys key_in pack_in
  keyed-kind i h = (digits_lt (t.ends i h) (mod-lt (word_at plan (front plan w) i) {m = 16} (omega arith)), omega (arith, t.starts i h, t.codes-low i h, l.few-places, l.few-boats))

  pub keyed-boat : Keyed Order.Boat plan w
  unfolding keys key_in pack_in
  keyed-boat i h = (digits_lt (t.ends i h) (t.codes-low i h), omega (arith, t.starts i h, mod-lt (word_at plan (front plan w) i) {m = 16} (omega arith), l.few-places))

-- ---- where the tables stand

-- the thin lines stand after the pair of stretches
pub thin-behind : {plan : Plan} {area : ℕ} → Laid plan area → plan.base + plan.size + plan.size ≤ plan.thin
thin-behind l = omega (arith, l.kinds-at, l.boats-at, l.thin_at)

module _ {plan : Plan} {w : List ℕ} (l : Laid plan (length w)) (f : Basic plan w) where
  pub kinds-fit : table_end Order.Kind plan ≤ length w
  kinds-fit = omega (arith, kinds-end l, l.thin_at, l.stamps-at, f.room)

  pub boats-fit : table_end Order.Boat plan ≤ length w
  boats-fit = omega (arith, boats-end l, l.stamps-at, f.room)

-- ---- the tables made one after the other: what each step asks for, and what stands there after the last

module _ (plan : Plan) (w : List ℕ) (l : Laid plan (length w)) (told : Told plan (front plan w)) (whole_room : filed_end plan ≤ length w) where
  -- by kind
  pub kinds-asked : Laid plan (length w) × (Keyed Order.Kind plan w × (table_end Order.Kind plan ≤ length w))
  kinds-asked = (l, (keyed-kind plan w l told, omega (arith, kinds-end l, l.thin_at, l.stamps-at, whole_room)))

  module _ (u : List ℕ) (kinds : Sorted Order.Kind plan plan.bykind u) (one : Kept plan.bykind (table_end Order.Kind plan) w u) where
    -- by boat
    pub boats-asked : Laid plan (length u) × (Keyed Order.Boat plan u × (table_end Order.Boat plan ≤ length u))
    boats-asked =
        let laid = subst (Laid plan) (sym one.long) l in
        let same = kept-take one plan.base (omega (arith, table-behind l Order.Kind)) in
        (laid, (keyed-boat plan u laid (subst (Told plan) (sym same) told), omega (arith, boats-end l, l.stamps-at, whole_room, one.long)))

    module _ (v : List ℕ) (boats : 0 < plan.keeps → Sorted Order.Boat plan plan.byboat v) (two : Kept plan.byboat (table_end Order.Boat plan) u v) where
      past : plan.base ≤ plan.byboat
      past = omega (arith, table-behind l Order.Boat)

      long : length v ≡ length w
      long = two.long ∙ one.long

      kinds-stay : Sorted Order.Kind plan plan.bykind v
      kinds-stay =
          sorted-kept Order.Kind plan plan.bykind plan.byboat (table_end Order.Boat plan) u v kinds two past (omega (arith, kinds-end l)) (omega (arith, l.thin_at, l.stamps-at, whole_room, one.long))

      -- by kind, thin
      pub thin-asked : Laid plan (length v) × (Sorted Order.Kind plan plan.bykind v × FromPlaces plan v × (thin_end Sieve.Boats plan plan.thin ≤ length v))
      thin-asked =
          let same = kept-take two plan.base past ∙ kept-take one plan.base (omega (arith, table-behind l Order.Kind)) in
          let now-told = subst (Told plan) (sym same) told in
          (subst (Laid plan) (sym long) l, (kinds-stay, from_places plan v now-told.starts (λ i h. omega (arith, now-told.codes-low i h, l.few-boats)), omega (arith, long, whole_room, filed-end l)))

      module _ (x : List ℕ) (thin : Thinned Sieve.Boats plan plan.bykind plan.thin x) (three : Kept plan.thin (thin_end Sieve.Boats plan plan.thin) v x) where
        pub basic-all : Basic plan x
        basic-all =
            let there : plan.thin ≤ length v = omega (arith, l.stamps-at, whole_room, long) in
            let behind : plan.base ≤ plan.thin = omega (arith, thin-behind l) in
            record {
              room = omega (arith, whole_room, long, three.long);
              kinds = sorted-kept Order.Kind plan plan.bykind plan.thin (thin_end Sieve.Boats plan plan.thin) v x kinds-stay three behind (omega (arith, kinds-end l, l.thin_at)) there;
              boats = λ kept. sorted-kept Order.Boat plan plan.byboat plan.thin (thin_end Sieve.Boats plan plan.thin) v x (boats kept) three behind (omega (arith, boats-end l)) there;
              thin = thin;
            }

        pub basic-kept : Kept plan.bykind (filed_end plan) w x
        basic-kept =
            let from = plan.bykind in
            let to = filed_end plan in
            kept_then (kept-wider from to (omega arith) (omega (arith, kinds-end l, l.thin_at, l.stamps-at)) one)
            (kept_then (kept-wider from to (omega (arith, l.boats-at)) (omega (arith, boats-end l, l.stamps-at)) two) (kept-wider from to (omega (arith, l.boats-at, l.thin_at)) (omega (arith, filed-end l)) three))

-- ---- the thin tables of classes and of sisters

-- what making one asks for
pub others-asked : {plan : Plan} {w : List ℕ} (sieve : Sieve) → Laid plan (length w) → Told plan (front plan w) → Basic plan w → thin_end sieve plan (thin_at sieve plan) ≤ length w
    → Laid plan (length w) × (Sorted Order.Kind plan plan.bykind w × FromPlaces plan w × (thin_end sieve plan (thin_at sieve plan) ≤ length w))
others-asked {plan} {w} sieve l told b room = (l, (b.kinds, from_places plan w told.starts (λ i h. omega (arith, told.codes-low i h, l.few-boats)), room))

-- where there is no room for a table it is not made
pub no_room : {plan : Plan} {w : List ℕ} {A : Type 0} (sieve : Sieve) → length w < thin_end sieve plan (thin_at sieve plan) → Said sieve plan w → A
no_room sieve less said = absurd (omega (arith, less, said.room))

-- ---- tables before the words that change

module _ {plan : Plan} {w v : List ℕ} (l : Laid plan (length w)) (sieve : Sieve) (room : thin_end sieve plan (thin_at sieve plan) ≤ length w) (past : filed_end plan ≤ thin_at sieve plan)
    (kept : Kept (thin_at sieve plan) (thin_end sieve plan (thin_at sieve plan)) w v) where
  abbrev at : ℕ
  at = thin_at sieve plan

  abbrev end : ℕ
  end = thin_end sieve plan at

  base-past : plan.base ≤ at
  base-past = omega (arith, thin-behind l, l.stamps-at, past)

  there : at ≤ length w
  there = omega (arith, room)

  pub basic-stays : Basic plan w → Basic plan v
  basic-stays b =
      record {
        room = omega (arith, b.room, kept.long);
        kinds = sorted-kept Order.Kind plan plan.bykind at end w v b.kinds kept base-past (omega (arith, kinds-end l, l.thin_at, l.stamps-at, past)) there;
        boats = λ some. sorted-kept Order.Boat plan plan.byboat at end w v (b.boats some) kept base-past (omega (arith, boats-end l, l.stamps-at, past)) there;
        thin = thin-kept Sieve.Boats plan plan.bykind plan.thin at end w v b.kinds b.thin kept base-past (omega (arith, kinds-end l, l.thin_at, l.stamps-at, past)) (omega (arith, stamps-are l, past)) there;
      }

  -- another thin table before it, if it is made
  pub said-stays : (other : Sieve) → Basic plan w → thin_end other plan (thin_at other plan) ≤ at
      → (Said other plan w → Thinned other plan plan.bykind (thin_at other plan) w) → Said other plan v → Thinned other plan plan.bykind (thin_at other plan) v
  said-stays other b before made said =
      let same = kept-get kept (thin_at other plan) (omega (arith, before)) in
      thin-kept other plan plan.bykind (thin_at other plan) at end w v b.kinds
      (made (record { room = omega (arith, said.room, kept.long); some = λ e. said.some (same ∙ e) }))
      kept base-past (omega (arith, kinds-end l, l.thin_at, l.stamps-at, past)) (omega (arith, before)) there
