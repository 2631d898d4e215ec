-- One key thinned: what its run goes by (`made-ahead`), what the table says then (`made-key`), and where all begins (`made_none`).
use mathlib.Core.Path.{◌≡◌, sym, ap, ◌∙◌, subst}
use mathlib.Core.List.Memᴰ
use mathlib.Core.List.{List, map}
use Prim.Native.Nat.{ℕ, suc, ◌+◌, ◌-◌, ◌/◌, ◌%◌, ◌≤◌, ◌<◌}
use native.Mathlib.Decide.{ℕ_discrete}
use native.Mathlib.Omega.{arith}
use lib.Dec.{eqb}
use lib.ListN.{length, get_or, set, replicate, length-replicate, get_or-replicate}
use lib.Seq.{get_or-set_same, get_or-set_other}
use Rattle.lists.specs.Listed.{◌∈◌, get_or-in}
use Rattle.request.specs.Layout.{Laid}
use Rattle.request.specs.declared.Plan.{Plan}
use Rattle.graph.specs.Plain.{count}
use Rattle.graph.proofs.Sets.{filt-in, count-in}
use Rattle.sorted.specs.Sorting.{pack_by, keys, key_in, pack_in, having, lines_from, sorted_end, Run, Kept}
use Rattle.sorted.specs.declared.Order.TheVariants as Order
use Rattle.sorted.proofs.Turns.{kept_then, kept_set, kept-take, kept-wider, kept-get}
use Rattle.area.specs.Area.{stretch, patch}
use Rattle.states.specs.Spots.{front}
use Rattle.states.specs.declared.Sieve.{Sieve}
use Rattle.area.proofs.Stretches.{stretch-length, stretch-get, stretch-below, stretch-above, patch-length, patch-same, patch-take, patch-drop}
use Rattle.thinned.specs.Thinning.{groups, FromPlaces, thin_end, ThinRun}
use Rattle.thinned.specs.Marks.{Stale, Ahead, Going, Ground, Made}
use Rattle.thinned.specs.Runs.{cut_as, thin-as, thin-run-as, kept-stretch, sorted-kept}

-- ---- keys

pub keys-few : {plan : Plan} {area : ℕ} → Laid plan area → keys Order.Kind plan ≤ 16384
unfolding keys
keys-few l = omega (arith, l.few-places)

some_key : {plan : Plan} {area : ℕ} → Laid plan area → 0 < keys Order.Kind plan
unfolding keys
some_key l = omega (arith, l.some-place)

-- ---- the ground

pub ground-kept : {sieve : Sieve} {plan : Plan} {of at : ℕ} {w v : List ℕ} → Ground sieve plan of at w → Kept at (thin_end sieve plan at) w v → Ground sieve plan of at v
ground-kept {sieve} {plan} {of} {at} {w} {v} d c =
    let past : plan.base ≤ at = omega (arith, d.past, d.apart) in
    record {
      laid = subst (Laid plan) (sym c.long) d.laid;
      sorted = sorted-kept Order.Kind plan of at (thin_end sieve plan at) w v d.sorted c past d.apart (omega (arith, d.room));
      places = λ i h. subst (λ g. (pack_in Order.Kind plan g i / pack_by < plan.places) × (pack_in Order.Kind plan g i % pack_by ≤ 4096)) (sym (kept-take c plan.base past)) (d.places i h);
      past = d.past;
      apart = d.apart;
      room = omega (arith, d.room, c.long);
      small = d.small;
    }

-- a word of a sorted run is what is written of a line
run-places : (plan : Plan) (of : ℕ) (w : List ℕ) (k : ℕ)
    → FromPlaces plan w → Run Order.Kind plan of w k → sorted_end Order.Kind plan of ≤ length w → (p : ℕ) → get_or w (of + k) 0 ≤ p → p < get_or w (of + suc k) 0 → (get_or w p 0 / pack_by < plan.places) × (get_or w p 0 % pack_by ≤ 4096)
run-places plan of w k places r room p l h =
    let lo = get_or w (of + k) 0 in
    let n = get_or w (of + suc k) 0 - lo in
    let less : p - lo < n = omega (arith, l, h) in
    let sum : lo + (p - lo) ≡ p = omega (arith, l) in
    let long : length (stretch lo n w) ≡ n = stretch-length lo n w (omega (arith, l, h, r.high, room)) in
    let g = front plan w in
    let inside : get_or (stretch lo n w) (p - lo) 0 ∈ map (pack_in Order.Kind plan g) (having Order.Kind plan g k) =
    subst (λ s. get_or (stretch lo n w) (p - lo) 0 ∈ s) r.has (get_or-in (stretch lo n w) (p - lo) 0 (omega (arith, long, less))) in
    let line = Memᴰ.of_map (pack_in Order.Kind plan g) (having Order.Kind plan g k) inside in
    let below = ((count-in 0 plan.lines line.0).0 ((filt-in (λ i. eqb (key_in Order.Kind plan g i) k) (count 0 plan.lines) line.0).0 line.1).0).1 in
    let is : pack_in Order.Kind plan g line.0 ≡ get_or w p 0 = line.2 ∙ (stretch-get lo n w (p - lo) less ∙ ap (λ x. get_or w x 0) sum) in
    subst (λ x. (x / pack_by < plan.places) × (x % pack_by ≤ 4096)) is (places line.0 (omega (arith, below)))

module _ {sieve : Sieve} {plan : Plan} {of at : ℕ} where
  -- ---- the run of a key, by the numbers that the code has of it

  module _ {B : ℕ → ℕ} {w : List ℕ} (d : Ground sieve plan of at w) {k : ℕ} (under : k < keys Order.Kind plan) (m : Made sieve plan of at B k w) {s t lo hi b : ℕ}
      (es : s ≡ sorted_end Order.Kind plan at) (et : t ≡ suc k) (el : lo ≡ get_or w (of + k) 0) (eh : hi ≡ get_or w (of + suc k) 0) (eb : b ≡ get_or w (at + k) 0) where
    run : Run Order.Kind plan of w k
    run = d.sorted k under

    pub made-ahead : Ahead s (groups sieve plan) plan.places t lo hi b w
    made-ahead = record {
      fit = (omega (arith, es, d.room), omega (arith, es, d.small));
      rising = omega (arith, el, eh, run.rising);
      apart = omega (arith, eh, eb, run.high, d.apart, m.begins);
      room = omega (arith, es, el, eh, eb, m.few, run.high);
      low = λ p l h. run-places plan of w k d.places run (omega (arith, d.apart, d.room)) p (omega (arith, l, el)) (omega (arith, h, eh));
      stale = subst (λ z. Stale z (groups sieve plan) t w) (sym es) (subst (λ z. Stale (sorted_end Order.Kind plan at) (groups sieve plan) z w) (sym et) m.stale);
      stamp-low = omega (arith, et, under, keys-few d.laid);
    }

    -- ---- the key after its run: the word at its end says where the next key's words begin

    module _ {u : List ℕ} {r q : ℕ} (eq : q ≡ at + suc k) (g : Going sieve B s (groups sieve plan) t lo b hi r w u) where
      abbrev v : List ℕ
      v = set u q r

      past : lines_from Order.Kind plan at ≤ b
      past = omega (arith, eb, m.begins)

      room : b ≤ length w
      room = omega (arith, made-ahead.room, made-ahead.rising, made-ahead.fit.0)

      -- no more words than there is room for
      pub end_low : r ≤ s
      end_low = omega (arith, g.few, made-ahead.room)

      same_of : (i : ℕ) → i ≤ keys Order.Kind plan → get_or v (of + i) 0 ≡ get_or w (of + i) 0
      same_of i h =
          let low : of + i < at = omega (arith, h, d.apart) in
          get_or-set_other u q (of + i) r 0 (λ e. omega (arith, e, eq, low)) ∙ kept-get g.kept (of + i) (omega (arith, low, past))

      same_at : (i : ℕ) → i ≤ k → get_or v (at + i) 0 ≡ get_or w (at + i) 0
      same_at i h = get_or-set_other u q (at + i) r 0 (λ e. omega (arith, e, eq, h)) ∙ kept-get g.kept (at + i) (omega (arith, h, under, past))

      end-at : get_or v (at + suc k) 0 ≡ r
      end-at = ap (λ x. get_or v x 0) (sym eq) ∙ get_or-set_same u q r 0 (omega (arith, eq, under, past, room, g.kept.long))

      -- the sorted words, and the words kept before
      same-run : (i : ℕ) → i < keys Order.Kind plan → stretch (get_or w (of + i) 0) (get_or w (of + suc i) 0 - get_or w (of + i) 0) v ≡ stretch (get_or w (of + i) 0) (get_or w (of + suc i) 0 - get_or w (of + i) 0) w
      same-run i h =
          let x = d.sorted i h in
          let c = get_or w (of + i) 0 in
          let n = get_or w (of + suc i) 0 - c in
          let low : c + n ≤ at = omega (arith, x.rising, x.high, d.apart) in
          stretch-above c n u q r (omega (arith, low, eq)) ∙ kept-stretch g.kept c n (omega (arith, low, past)) room

      same-thin : (i : ℕ) → i < k → stretch (get_or w (at + i) 0) (get_or w (at + suc i) 0 - get_or w (at + i) 0) v ≡ stretch (get_or w (at + i) 0) (get_or w (at + suc i) 0 - get_or w (at + i) 0) w
      same-thin i h =
          let x = m.runs i h in
          let c = get_or w (at + i) 0 in
          let n = get_or w (at + suc i) 0 - c in
          stretch-below c n u q r (omega (arith, x.low, eq, under)) ∙ kept-stretch g.kept c n (omega (arith, x.rising, m.before i h, eb)) room

      -- its own run
      own-run : ThinRun sieve B plan of at v k
      own-run =
          let start = same_at k (omega arith) ∙ sym eb in
          let xs = cut_as _ _ _ _ v w (same_of k (omega (arith, under))) (same_of (suc k) under) (same-run k under) in
          let ys = cut_as _ _ b r v u start end-at (stretch-below b (r - b) u q r (omega (arith, eq, under, past))) in
          record {
            low = omega (arith, start, past);
            rising = omega (arith, start, end-at, g.rising);
            high = omega (arith, end-at, end_low, es);
            has = thin-as (xs ∙ (λ z. stretch (sym el z) (sym eh z - sym el z) w)) ys g.thin;
          }

      all_runs : (j : ℕ) → j < suc k → ThinRun sieve B plan of at v j
      all_runs j h = elim (ℕ_discrete j k) [
        | yes e ↦ subst (ThinRun sieve B plan of at v) (sym e) own-run
        | no c ↦
            (let less : j < k = omega (arith, c, h) in
            thin-run-as sieve B plan of at w v j (same_of j (omega (arith, less, under))) (same_of (suc j) (omega (arith, less, under))) (same_at j (omega (arith, less))) (same_at (suc j) less)
            (same-run j (omega (arith, less, under))) (same-thin j less) (m.runs j less))
      ]

      all-before : (j : ℕ) → j < suc k → get_or v (at + suc j) 0 ≤ get_or v (at + suc k) 0
      all-before j h = elim (ℕ_discrete j k) [
        | yes e ↦ subst (λ z. get_or v (at + suc z) 0 ≤ get_or v (at + suc k) 0) (sym e) (omega arith)
        | no c ↦ (let less : j < k = omega (arith, c, h) in omega (arith, same_at (suc j) less, end-at, m.before j less, eb, g.rising))
      ]

      -- the marks have its stamp at most, and none is its word
      run-stale : Stale (sorted_end Order.Kind plan at) (groups sieve plan) (suc (suc k)) u
      run-stale = subst (λ z. Stale z (groups sieve plan) (suc (suc k)) u) es (subst (λ z. Stale s (groups sieve plan) (suc z) u) et g.marked.stale)

      all-stale : Stale (sorted_end Order.Kind plan at) (groups sieve plan) (suc (suc k)) v
      all-stale f l =
          let same : (j : ℕ) → sorted_end Order.Kind plan at ≤ j → get_or v j 0 ≡ get_or u j 0 = λ j h. get_or-set_other u q j r 0 (λ e. omega (arith, e, eq, under, h)) in
          let one = same (sorted_end Order.Kind plan at + f) (omega arith) in
          let two = same (sorted_end Order.Kind plan at + groups sieve plan + f) (omega arith) in
          (subst (λ z. z / pack_by < suc (suc k)) (sym one) (run-stale f l).0, subst (λ z. z < suc (suc k)) (sym two) (run-stale f l).1)

      pub made-key : Made sieve plan of at B (suc k) v
      made-key = record {
        begins = omega (arith, end-at, past, g.rising);
        few = omega (arith, end-at, same_of (suc k) under, eh, el, eb, g.few, m.few);
        runs = all_runs;
        before = all-before;
        stale = all-stale;
      }

      pub kept-key : Kept at (thin_end sieve plan at) w v
      kept-key =
          kept_then
          (kept-wider at (thin_end sieve plan at) (omega (arith, past)) (omega (arith, es)) g.kept)
          (kept_set at (thin_end sieve plan at) u q r (omega (arith, eq)) (omega (arith, eq, under)))

  -- ---- no key yet

  module _ {w : List ℕ} (d : Ground sieve plan of at w) {b n u : ℕ} (eb : b ≡ sorted_end Order.Kind plan at) (en : n ≡ groups sieve plan + groups sieve plan) (eu : u ≡ lines_from Order.Kind plan at) where
    abbrev zeros : List ℕ
    zeros = patch b n (replicate n 0) w

    fits : b + n ≤ length w
    fits = omega (arith, d.room, eb, en)

    zeros-kept : Kept b (b + n) w zeros
    zeros-kept = record {
      before = patch-take b n (replicate n 0) w (length-replicate n 0) fits;
      after = patch-drop b n (replicate n 0) w (length-replicate n 0) fits;
      long = patch-length b n (replicate n 0) w (length-replicate n 0) fits;
    }

    pub none_kept : Kept at (thin_end sieve plan at) w (set zeros at u)
    none_kept =
        kept_then
        (kept-wider at (thin_end sieve plan at) (omega (arith, eb)) (omega (arith, eb, en)) zeros-kept)
        (kept_set at (thin_end sieve plan at) zeros at u (omega arith) (omega arith))

    -- a mark is 0
    no-mark : (i : ℕ) → i < n → get_or (set zeros at u) (sorted_end Order.Kind plan at + i) 0 ≡ 0
    no-mark i h =
        get_or-set_other zeros at (sorted_end Order.Kind plan at + i) u 0 (λ e. omega (arith, e))
        ∙ (ap (λ x. get_or zeros (x + i) 0) (sym eb)
        ∙ (sym (stretch-get b n zeros i h)
        ∙ (ap (λ l. get_or l i 0) (patch-same b n (replicate n 0) w (length-replicate n 0) fits) ∙ get_or-replicate n i 0 0 h)))

    pub made_none : (B : ℕ → ℕ) → Made sieve plan of at B 0 (set zeros at u)
    made_none B =
        let here : at + 0 ≡ at = omega arith in
        let head : get_or (set zeros at u) (at + 0) 0 ≡ u = ap (λ x. get_or (set zeros at u) x 0) here ∙ get_or-set_same zeros at u 0 (omega (arith, zeros-kept.long, d.room)) in
        let run : get_or (set zeros at u) (of + 0) 0 ≡ get_or w (of + 0) 0 = kept-get none_kept (of + 0) (omega (arith, d.apart)) in
        record {
          begins = omega (arith, head, eu);
          few = omega (arith, head, eu, run, (d.sorted 0 (some_key d.laid)).low);
          runs = λ j h. absurd (omega arith);
          before = λ j h. absurd (omega arith);
          stale = λ f l.
              let sum : sorted_end Order.Kind plan at + groups sieve plan + f ≡ sorted_end Order.Kind plan at + (groups sieve plan + f) = omega arith in
              let one = no-mark f (omega (arith, en, l)) in
              let two = ap (λ x. get_or (set zeros at u) x 0) sum ∙ no-mark (groups sieve plan + f) (omega (arith, en, l)) in
              (omega (arith, one), omega (arith, two));
        }
