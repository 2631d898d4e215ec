-- What begin leaves: where a loaded area has zeros elsewhere, the goal found in it and settled, with the numbers and the pattern put in front, is the
-- search that is begun, stretch by stretch (`begun-stretched`). For a request's area it is the request's own search (`begun-at`).
use mathlib.Core.Path.{◌≡◌, refl, sym, ap, ◌∙◌, subst}
use mathlib.Core.Bool.{Bool, true, false, false≢true}
use mathlib.Core.List.{List, [], ◌∷◌, ◌++◌, map}
use Prim.Native.Nat.{ℕ, zero, suc, ◌+◌, ◌*◌, ◌-◌, ◌<◌, ◌≤◌}
use native.Mathlib.Omega.{arith}
use lib.Dec.{eqb}
use lib.ListN.{length, take, drop, replicate, length-drop, length-append}
use lib.Seq.{drop-drop, drop_at, take_at, take-length, length-take-le, take-append-add, drop-append-add}
use borrow.Author.Tests.{eqb-true, eqb-false}
use Rattle.meaning.specs.Pattern.{unfolded, keeps}
use Rattle.meaning.specs.Request.{Asked, size_of}
use Rattle.automaton.specs.Automaton.{start}
use Rattle.positions.specs.Masks.{members-bit}
use Rattle.positions.specs.Program.{bit_of, members, Compiled}
use Rattle.graph.specs.Loops.{loop}
use Rattle.graph.specs.PhaseOne.{begun}
use Rattle.graph.specs.Plain.{memb, filt, count}
use Rattle.graph.proofs.Sets.{memb-in, in-memb, memb-same, count-in}
use Rattle.graph.specs.Table.{Search, blank, push}
use Rattle.graph.specs.Underway.{Underway, queue_of, settled, begun_from, taken_by}
use Rattle.request.specs.Layout.{Laid, loaded_of}
use Rattle.request.specs.declared.Plan.{Plan}
use Rattle.search.specs.Answer.{setting}
use Rattle.search.specs.Front.{state_in}
use Rattle.search.proofs.Front.{starting-in, goal-in}
use Rattle.search.specs.Loaded.{setting_in}
use Rattle.search.proofs.ReadBack.{size-asked, loaded-same}
use Rattle.search.proofs.Same.{Same, filt-same, same-goal, same-starting}
use Rattle.area.specs.Area.{stretch, patch, found, Outside, outside}
use Rattle.area.proofs.Changes.{blank-good, ready-long}
use Rattle.area.proofs.Anyhow.{room_of, room-long}
use Rattle.area.proofs.Stretches.{stretch-length, stretch-none, stretch-take}
use Rattle.states.specs.Spots.{front}
use Rattle.forward.specs.Firsts.{first_states}
use Rattle.forward.specs.Posed.{Posed}
use Rattle.forward.proofs.Posing.{posed-tables}
use Rattle.holding.specs.Holding.{tables_at, numbers_of}
use Rattle.holding.specs.declared.SearchState.{SearchState}
use Rattle.tracing.specs.Tracing.{reached_in}
use Rattle.states.specs.Pairs.{ReadyBack, StepBack}
use Rattle.stepping.specs.Stepping.{underway_in, Standing, StepHeld}
use Rattle.searching.specs.Promise.{firsts_of, search_at, padded, numbers_in}
use Rattle.searching.specs.Searching.{front_of, ReadyToBegin}
use Rattle.searching.specs.Words.{base_of, Stretched, Sized}

-- ---- zeros, and stretches that are the same

pub zeros-take : (k n : ℕ) → k ≤ n → ◌≡◌ {A = List ℕ} (take k (replicate n 0)) (replicate k 0)
zeros-take zero n h = refl
zeros-take (suc k) zero h = absurd (omega (arith, h))
zeros-take (suc k) (suc n) h = ap (λ (l : List ℕ). 0 ∷ l) (zeros-take k n (omega (arith, h)))

pub zeros-drop : (k n : ℕ) → ◌≡◌ {A = List ℕ} (drop k (replicate n 0)) (replicate (n - k) 0)
zeros-drop zero n = let same : n - 0 ≡ n = omega arith in rw same refl
zeros-drop (suc k) zero = let same : 0 - suc k ≡ 0 = omega arith in rw same refl
zeros-drop (suc k) (suc n) = let same : suc n - suc k ≡ n - k = omega arith in rw same (zeros-drop k n)

pub same-stretch : {b c n m : ℕ} (x : List ℕ) → b ≡ c → n ≡ m → stretch b n x ≡ stretch c m x
same-stretch x e f = λ i. stretch (e i) (f i) x

-- from a word on, and from a later one on
pub later-drop : (a b : ℕ) (x y : List ℕ) → drop a x ≡ drop a y → a ≤ b → drop b x ≡ drop b y
later-drop a b x y e h =
    let f : b ≡ a + (b - a) = omega (arith, h) in
    ap (λ (k : ℕ). drop k x) f ∙ (sym (drop-drop (b - a) a x) ∙ (ap (drop (b - a)) e ∙ (drop-drop (b - a) a y ∙ ap (λ (k : ℕ). drop k y) (sym f))))

pub later-stretch : (a b n : ℕ) (x y : List ℕ) → drop a x ≡ drop a y → a ≤ b → stretch b n x ≡ stretch b n y
unfolding stretch
later-stretch a b n x y e h = ap (take n) (later-drop a b x y e h)

pub earlier-stretch : (a b n : ℕ) (x y : List ℕ) → take a x ≡ take a y → b + n ≤ a → a ≤ length x → a ≤ length y → stretch b n x ≡ stretch b n y
earlier-stretch a b n x y e h lx ly = sym (stretch-take a b n x h lx) ∙ (ap (stretch b n) e ∙ stretch-take a b n y h ly)

-- ---- the search that is begun, before it is settled

-- as the code has it
abbrev pub begun_state : Plan → ℕ → ℕ → SearchState
begun_state plan from r = record { plan = plan; from = from; at = record { phase = 0; expanded = 0; found = r; far = 0; rest = 0; chosen = 0; noted = 0 } }

-- the goal is found, of N states
abbrev pub found_alone : ℕ → ℕ → Underway
found_alone N goal = record {
  found = record { table = (begun N (goal ∷ [])).table; how = replicate (length (begun N (goal ∷ [])).table.queue) 0 };
  expanded = 0;
  phase = 0;
  far = 0;
  sweep = record { rest = 0; chosen = 0; noted = record { line = 0; marks = replicate N 0 } };
}

-- ---- the area before the goal is found

module _ {pat : List ℕ} {plan : Plan} {from to : ℕ} {w : List ℕ} (ready : ReadyToBegin pat plan from to w) where
  zero-drop : (b : ℕ) → plan.base ≤ b → drop b w ≡ replicate (length w - b) 0
  zero-drop b h =
      let f : b ≡ plan.base + (b - plan.base) = omega (arith, h) in
      let many : length w - plan.base - (b - plan.base) ≡ length w - b = omega (arith, h) in
      ap (λ (k : ℕ). drop k w) f
      ∙ (sym (drop-drop (b - plan.base) plan.base w)
      ∙ (ap (drop (b - plan.base)) ready.back-zero ∙ (zeros-drop (b - plan.base) (length w - plan.base) ∙ ap (λ (k : ℕ). replicate k 0) many)))

  zero-stretch : (b n : ℕ) → plan.base ≤ b → b + n ≤ length w → stretch b n w ≡ replicate n 0
  unfolding stretch
  zero-stretch b n h k = ap (take n) (zero-drop b h) ∙ zeros-take n (length w - b) (omega (arith, k))

  -- the words in front are fewer than those before the search's stretches
  tables-below : 209 ≤ plan.base
  tables-below = let l = ready.posed.laid in omega (arith, ready.boats-at, l.codes_at, l.words-at, l.base-at)

  base-within : plan.base + 4 * plan.size ≤ length w
  base-within = omega (arith, ready.room)

  front-stretch : (b n : ℕ) → b + n ≤ 209 → stretch b n w ≡ replicate n 0
  unfolding stretch
  front-stretch b n h =
      sym (stretch-take 209 b n w h (omega (arith, tables-below, base-within)))
      ∙ (ap (λ (l : List ℕ). take n (drop b l)) ready.front-zero ∙ (ap (take n) (zeros-drop b 209) ∙ zeros-take n (209 - b) (omega (arith, h))))

  -- nothing is found
  blank-found : found plan.base plan.size 0 w ≡ blank plan.size
  unfolding found blank
  blank-found = rw (zero-stretch plan.base plan.size (omega arith) (omega (arith, base-within)), stretch-none)

  -- so that the goal can be pushed
  pub begin-ready : ReadyBack plan 0 w
  begin-ready = record {
    room = omega (arith, base-within);
    small = omega (arith, ready.posed.laid.small);
    fits = omega arith;
    good = rw blank-found (blank-good plan.size);
  }

  -- the numbers that stay are of 32 bits
  pub begin-small : (plan.radix < 4294967296) × (plan.places < 4294967296) × (plan.lines < 4294967296) × (from < 4294967296)
  begin-small =
      let l = ready.posed.laid in (
        omega (arith, l.few-boats),
        omega (arith, l.few-places),
        omega (arith, l.few-lines),
        omega (arith, l.few-places, ready.posed.from_low, ready.posed.planned.places-are),
      )

  -- ---- the goal is found

  module _ (goal : ℕ) {r : ℕ} {v₁ : List ℕ} (step : StepBack plan (push 1 goal) 0 w r v₁) where
    front₁ : take plan.base v₁ ≡ take plan.base w
    unfolding outside
    front₁ = ap (λ (o : Outside). o.front) step.same

    back₁ : drop (plan.base + plan.size + r) v₁ ≡ drop (plan.base + plan.size + r) w
    unfolding outside
    back₁ = ap (λ (o : Outside). o.back) step.same

    -- a stretch after what is found has zeros
    zero₁ : (b n : ℕ) → plan.base + plan.size + r ≤ b → b + n ≤ length w → stretch b n v₁ ≡ replicate n 0
    zero₁ b n h k = later-stretch (plan.base + plan.size + r) b n v₁ w back₁ h ∙ zero-stretch b n (omega (arith, h)) k

    table_is : found plan.base plan.size r v₁ ≡ (begun plan.size (goal ∷ [])).table
    unfolding begun loop
    table_is = step.now-found ∙ ap (push 1 goal) blank-found

    -- the search as it stands then
    pub begun-held : underway_in (begun_state plan from r) v₁ ≡ found_alone plan.size goal
    unfolding underway_in reached_in
    begun-held =
        let many : r ≡ length (begun plan.size (goal ∷ [])).table.queue = sym (ready-long step.ready) ∙ ap (λ (t : Search). length t.queue) table_is in
        let how : stretch (plan.base + 2 * plan.size) r v₁ ≡ replicate (length (begun plan.size (goal ∷ [])).table.queue) 0 =
        zero₁ (plan.base + 2 * plan.size) r (omega (arith, step.ready.fits)) (omega (arith, step.ready.fits, base-within)) ∙ ap (λ (k : ℕ). replicate k 0) many in
        let marks : stretch (plan.base + 3 * plan.size) plan.size v₁ ≡ replicate plan.size 0 =
        zero₁ (plan.base + 3 * plan.size) plan.size (omega (arith, step.ready.fits)) (omega (arith, base-within)) in
        λ i. record {
          found = record { table = table_is i; how = how i };
          expanded = 0;
          phase = 0;
          far = 0;
          sweep = record { rest = 0; chosen = 0; noted = record { line = 0; marks = marks i } };
        }

    -- and it can be settled
    pub begun-standing : Standing (begun_state plan from r) v₁
    begun-standing = record {
      laid = subst (Laid plan) (sym step.long) ready.posed.laid;
      from_low = omega (arith, ready.posed.from_low, ready.posed.planned.places-are);
      room = omega (arith, ready.room, step.long);
      order = record { expanded-low = omega arith; rest-low = omega arith; phases = omega arith };
      fits = record { found-low = step.ready.fits; chosen-low = omega arith; noted-low = omega arith };
      ready = room_of step.ready;
    }

    -- ---- it is settled

    module _ (S : List ℕ) {s : SearchState} {v₂ : List ℕ} (held : StepHeld (settled S plan.lines) (begun_state plan from r) v₁ s v₂) where
      pub search_is : underway_in s v₂ ≡ begun_from S plan.lines plan.size (goal ∷ [])
      unfolding begun_from
      search_is = held.now-held step.ready.good ∙ ap (settled S plan.lines) begun-held

      long₂ : length v₂ ≡ length w
      long₂ = held.long ∙ step.long

      found-low : s.at.found ≤ plan.size
      found-low = omega (arith, held.standing.fits.found-low, ap (λ (p : Plan). p.size) held.plan-same)

      many : length (queue_of (underway_in s v₂)) ≡ s.at.found
      unfolding underway_in reached_in
      many = room-long held.standing.ready

      front₂ : (b n : ℕ) → b + n ≤ plan.base → stretch b n v₂ ≡ stretch b n w
      front₂ b n h =
          earlier-stretch plan.base b n v₂ w (held.front ∙ front₁) h (omega (arith, long₂, base-within)) (omega (arith, base-within))

      front-zero₂ : (b n : ℕ) → b + n ≤ 209 → stretch b n v₂ ≡ replicate n 0
      front-zero₂ b n h = front₂ b n (omega (arith, h, tables-below)) ∙ front-stretch b n h

      queue-zero : stretch (plan.base + plan.size + s.at.found) (plan.size - s.at.found) v₂ ≡ replicate (plan.size - s.at.found) 0
      queue-zero = held.queue-gap ∙ zero₁ (plan.base + plan.size + s.at.found) (plan.size - s.at.found) (omega (arith, held.grows)) (omega (arith, found-low, base-within))

      how-zero : stretch (plan.base + 2 * plan.size + s.at.found) (plan.size - s.at.found) v₂ ≡ replicate (plan.size - s.at.found) 0
      how-zero =
          held.how-gap
          ∙ zero₁ (plan.base + 2 * plan.size + s.at.found) (plan.size - s.at.found) (omega (arith, held.grows)) (omega (arith, found-low, base-within))

      after-zero : drop (plan.base + 4 * plan.size) v₂ ≡ replicate (length w - (plan.base + 4 * plan.size)) 0
      after-zero =
          let end = plan.base + 4 * plan.size in
          held.after ∙ (later-drop (plan.base + plan.size + r) end v₁ w back₁ (omega (arith, step.ready.fits)) ∙ zero-drop end (omega arith))

      -- ---- and put into the front

      pub front-room : tables_at ≤ length v₂
      front-room = omega (arith, long₂, tables-below, base-within)

      pub front_long : length (front_of plan from pat v₂) ≡ length w
      unfolding front_of
      front_long =
          let rest = drop (17 + length pat) v₂ in
          omega (
            arith,
            length-append (stretch 5 12 v₂) (pat ++ rest),
            stretch-length 5 12 v₂ (omega (arith, front-room)),
            length-append pat rest,
            length-drop (17 + length pat) v₂,
            long₂,
            ready.short,
            front-room,
          )

      module _ {v₃ v₄ : List ℕ} (fronted : v₃ ≡ front_of plan from pat v₂) (put : v₄ ≡ patch 5 7 (numbers_of s.at) v₃) where
        abbrev twelve : List ℕ
        twelve = plan.radix ∷ plan.places ∷ plan.lines ∷ from ∷ length pat ∷ numbers_of s.at

        abbrev rest : List ℕ
        rest = pat ++ drop (17 + length pat) v₂

        whole : v₄ ≡ padded 17 twelve ++ rest
        unfolding padded patch front_of
        whole =
            let five : List ℕ = plan.radix ∷ plan.places ∷ plan.lines ∷ from ∷ length pat ∷ [] in
            put ∙ ap (patch 5 7 (numbers_of s.at)) (fronted ∙ ap (λ (z : List ℕ). five ++ (z ++ rest)) (front-zero₂ 5 12 (omega arith)))

        front₄ : take 17 v₄ ≡ padded 17 twelve
        unfolding padded
        front₄ = ap (take 17) whole ∙ take_at (padded 17 twelve) rest 17 refl

        rest₄ : drop 17 v₄ ≡ rest
        unfolding padded
        rest₄ = ap (drop 17) whole ∙ drop_at (padded 17 twelve) rest 17 refl

        bytes₄ : stretch 17 192 v₄ ≡ padded 192 pat
        unfolding stretch padded
        bytes₄ =
            let f : 192 ≡ length pat + (192 - length pat) = omega (arith, ready.short) in
            ap (take 192) rest₄
            ∙ (ap (λ (k : ℕ). take k rest) f
            ∙ (take-append-add pat (drop (17 + length pat) v₂) (192 - length pat)
            ∙ ap (λ (z : List ℕ). pat ++ z) (front-zero₂ (17 + length pat) (192 - length pat) (omega (arith, ready.short)))))

        tail₄ : drop 209 v₄ ≡ drop 209 v₂
        tail₄ =
            let f : 192 ≡ length pat + (192 - length pat) = omega (arith, ready.short) in
            let g : 17 + length pat + (192 - length pat) ≡ 209 = omega (arith, ready.short) in
            sym (drop-drop 192 17 v₄)
            ∙ (ap (drop 192) rest₄
            ∙ (ap (λ (k : ℕ). drop k rest) f
            ∙ (drop-append-add pat (drop (17 + length pat) v₂) (192 - length pat)
            ∙ (drop-drop (192 - length pat) (17 + length pat) v₂ ∙ ap (λ (k : ℕ). drop k v₂) g))))

        pub begun-long : length v₄ ≡ length w
        begun-long =
            omega (
              arith,
              ap length rest₄,
              length-drop 17 v₄,
              length-append pat (drop (17 + length pat) v₂),
              length-drop (17 + length pat) v₂,
              long₂,
              ready.short,
              tables-below,
              base-within,
            )

        -- ---- for a request that the area is of

        module _ {q : Asked} (posed : Posed q pat plan from to w) where
          abbrev loaded : List ℕ
          loaded = loaded_of (keeps q.pattern) q.day.lines

          abbrev search : Underway
          search = underway_in s v₂

          loaded-is : drop 209 (take plan.base w) ≡ loaded
          loaded-is =
              ap (λ (b : ℕ). drop b (take plan.base w)) (sym ready.boats-at)
              ∙ (posed.loaded ∙ ap (λ (k : ℕ). loaded_of k q.day.lines) posed.planned.keeps-are)

          base-is : plan.base ≡ base_of q
          base-is =
              omega (
                arith,
                ap length loaded-is,
                length-drop 209 (take plan.base w),
                length-take-le plan.base w (omega (arith, base-within)),
                tables-below,
              )

          size_is : plan.size ≡ size_of q
          size_is = size-asked q plan (length w) posed.planned posed.laid

          base-in : base_of q ≡ s.plan.base
          base-in = sym base-is ∙ ap (λ (p : Plan). p.base) (sym held.plan-same)

          size_in : size_of q ≡ s.plan.size
          size_in = sym size_is ∙ ap (λ (p : Plan). p.size) (sym held.plan-same)

          -- a stretch after the tables
          late : (b n c m : ℕ) → 209 ≤ b → b ≡ c → n ≡ m → stretch b n v₄ ≡ stretch c m v₂
          late b n c m h e f = later-stretch 209 b n v₄ v₂ tail₄ h ∙ same-stretch v₂ e f

          late-zero : (b n c m : ℕ) → 209 ≤ b → b ≡ c → n ≡ m → stretch c m v₂ ≡ replicate m 0 → stretch b n v₄ ≡ replicate n 0
          late-zero b n c m h e f z = late b n c m h e f ∙ (z ∙ ap (λ (k : ℕ). replicate k 0) (sym f))

          numbers₄ : take 17 v₄ ≡ padded 17 (numbers_in q pat from search)
          unfolding underway_in
          numbers₄ =
              let p = posed.planned in
              let at = s.at in
              front₄
              ∙ (λ i. padded 17
              (p.radix-is i ∷ p.places-are i ∷ p.lines_are i ∷ from ∷ length pat
              ∷ at.phase ∷ at.expanded ∷ sym many i ∷ at.far ∷ at.rest ∷ at.chosen ∷ at.noted
              ∷ []))

          tables₄ : stretch 209 (length loaded) v₄ ≡ loaded
          unfolding stretch
          tables₄ =
              let n = length loaded in
              let fits : 209 + n ≤ plan.base = omega (arith, base-is) in
              late 209 n 209 n (omega arith) refl refl
              ∙ (front₂ 209 n fits
              ∙ (sym (stretch-take plan.base 209 n w fits (omega (arith, base-within))) ∙ (ap (take n) loaded-is ∙ take-length loaded)))

          stretched : Stretched q pat from search v₄
          unfolding underway_in reached_in found
          stretched = record {
            numbers = numbers₄;
            bytes = bytes₄;
            tables = tables₄;
            dist = late _ _ s.plan.base s.plan.size (omega arith) base-in size_in;
            queue = late _ _ (s.plan.base + s.plan.size) s.at.found (omega arith) (omega (arith, base-in, size_in)) many;
            queue-gap = late-zero _ _ (plan.base + plan.size + s.at.found) (plan.size - s.at.found) (omega arith) (omega (arith, base-is, size_is, many)) (omega (arith, size_is, many)) queue-zero;
            how = late _ _ (s.plan.base + 2 * s.plan.size) s.at.found (omega arith) (omega (arith, base-in, size_in)) many;
            how-gap = late-zero _ _ (plan.base + 2 * plan.size + s.at.found) (plan.size - s.at.found) (omega arith) (omega (arith, base-is, size_is, many)) (omega (arith, size_is, many)) how-zero;
            marks = late _ _ (s.plan.base + 3 * s.plan.size) s.plan.size (omega arith) (omega (arith, base-in, size_in)) size_in;
            after =
                let end : base_of q + 4 * size_of q ≡ plan.base + 4 * plan.size = omega (arith, base-is, size_is) in
                later-drop 209 (base_of q + 4 * size_of q) v₄ v₂ tail₄ (omega arith)
                ∙ (ap (λ (k : ℕ). drop k v₂) end ∙ (after-zero ∙ (λ i. replicate (sym begun-long i - sym end i) 0)));
          }

          sized : Sized (size_of q) search
          unfolding underway_in reached_in found
          sized =
              let p = s.plan in
              let room : p.base + 4 * p.size ≤ length v₂ = omega (arith, base-in, size_in, base-is, size_is, long₂, base-within) in
              let few : s.at.found ≤ p.size = held.standing.fits.found-low in
              record {
                dist-long = stretch-length p.base p.size v₂ (omega (arith, room)) ∙ sym size_in;
                queue-fits = omega (arith, many, few, size_in);
                how-long = stretch-length (p.base + 2 * p.size) s.at.found v₂ (omega (arith, room, few)) ∙ sym many;
                marks-long = stretch-length (p.base + 3 * p.size) p.size v₂ (omega (arith, room)) ∙ sym size_in;
              }

          -- the search that is begun stands in the area, stretch by stretch; its lists are no longer than their stretches, and these stand in the area
          pub begun-room : base_of q + 4 * size_of q ≤ length v₄
          begun-room = omega (arith, begun-long, base-within, base-is, size_is)

          pub begun_sized : Sized (size_of q) (begun_from S plan.lines plan.size (goal ∷ []))
          begun_sized = subst (Sized (size_of q)) search_is sized

          pub begun-stretched : Stretched q pat from (begun_from S plan.lines plan.size (goal ∷ [])) v₄
          begun-stretched = subst (λ (u : Underway). Stretched q pat from u v₄) search_is stretched

-- ---- the request's own search

module _ {q : Asked} {pat : List ℕ} {plan : Plan} {from to : ℕ} {w : List ℕ} (posed : Posed q pat plan from to w) {program : List ℕ} {begin : ℕ} (compiled : Compiled q.pattern program begin) where
  -- the mask has the positions where the pattern begins
  begin-bit : (c : ℕ) → c < 64 → eqb (bit_of begin c) 1 ≡ memb c (start q.pattern)
  begin-bit c low = go (eqb (bit_of begin c) 1) (memb c (members begin)) refl refl ∙ memb-same c (members begin) (start q.pattern) (compiled.start_is c)
    where
      go : (a b : Bool) → eqb (bit_of begin c) 1 ≡ a → memb c (members begin) ≡ b → a ≡ b
      go true true e f = refl
      go true false e f = absurd (false≢true (sym f ∙ in-memb c (members begin) ((members-bit begin c).1 (low, eqb-true _ _ e))))
      go false true e f = absurd (eqb-false _ _ e ((members-bit begin c).0 (memb-in c (members begin) f)).1)
      go false false e f = refl

  -- the loaded words say the request
  posed-same : Same (setting_in program plan (front plan w)) (setting q.day.lines q.pattern) (length q.day.lines)
  posed-same = loaded-same q plan (length w) posed.planned posed.laid (front plan w) (posed-tables posed) posed.fit program begin compiled

  pub posed-firsts : first_states plan begin from ≡ firsts_of q from to
  unfolding first_states
  posed-firsts =
      let has : ℕ → Bool = λ k. eqb (bit_of begin k) 1 in
      let starts : ℕ → Bool = λ k. memb k (start q.pattern) in
      let ks = count 0 (suc (unfolded q.pattern)) in
      let upto : plan.done + 1 ≡ suc (unfolded q.pattern) = omega (arith, posed.planned.done-is) in
      let low : suc (unfolded q.pattern) ≤ 64 = omega (arith, posed.planned.done-is, posed.laid.few-positions) in
      let same : filt has ks ≡ filt starts ks = filt-same has starts ks (λ k m. begin-bit k (omega (arith, low, ((count-in 0 (suc (unfolded q.pattern)) k).0 m).1))) in
      ap (λ (n : ℕ). map (λ k. state_in plan from k 0) (filt has (count 0 n))) upto
      ∙ (ap (map (λ k. state_in plan from k 0)) same
      ∙ (starting-in program plan (length w) posed.laid (front plan w) from (filt starts ks) ∙ same-starting posed-same from (filt starts ks)))

  -- what is begun by the plan and the mask is the request's search before any state is taken up
  pub begun-search : (goal : ℕ) → goal ≡ state_in plan to plan.done 0 → begun_from (first_states plan begin from) plan.lines plan.size (goal ∷ []) ≡ search_at q from to 0
  unfolding search_at taken_by
  begun-search goal e =
      let size_is : plan.size ≡ size_of q = size-asked q plan (length w) posed.planned posed.laid in
      let goal-is = e ∙ (goal-in program plan (length w) posed.laid (front plan w) to ∙ same-goal posed-same to) in
      λ i. begun_from (posed-firsts i) (posed.planned.lines_are i) (size_is i) (goal-is i ∷ [])

-- the goal found, settled and put into the front, of a request's area: its search before any state is taken up
pub begun-at : {pat : List ℕ} {plan : Plan} {from to : ℕ} {w : List ℕ} (ready : ReadyToBegin pat plan from to w) {q : Asked} (posed : Posed q pat plan from to w)
    → {program : List ℕ} {begin : ℕ} → Compiled q.pattern program begin
    → (goal : ℕ) → goal ≡ state_in plan to plan.done 0 → {r : ℕ} {v₁ : List ℕ} → StepBack plan (push 1 goal) 0 w r v₁
    → {s : SearchState} {v₂ : List ℕ} → StepHeld (settled (first_states plan begin from) plan.lines) (begun_state plan from r) v₁ s v₂
    → {v₃ v₄ : List ℕ} → v₃ ≡ front_of plan from pat v₂ → v₄ ≡ patch 5 7 (numbers_of s.at) v₃
    → Sized (size_of q) (search_at q from to 0) × Stretched q pat from (search_at q from to 0) v₄
begun-at {pat} {plan} {from} {to} ready {q} posed {begin = begin} compiled goal e step held {v₄ = v₄} fronted put =
    let S = first_states plan begin from in
    let is = begun-search posed compiled goal e in
    (subst (Sized (size_of q)) is (begun_sized ready goal step S held fronted put posed), subst (λ (u : Underway). Stretched q pat from u v₄) is (begun-stretched ready goal step S held fronted put posed))
