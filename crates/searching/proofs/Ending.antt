-- A search that was left in the area and moved on there: how many states were taken up, and that the area is what it is to be then (`moved_in`); and
-- that what is read out at the end is the answer (`finished-in`). Assumes nothing.
use mathlib.Core.Path.{◌≡◌, refl, sym, ap, ◌∙◌, subst}
use mathlib.Core.Bool.{Bool, true, false, cond}
use mathlib.Core.List.{List, ◌++◌}
use mathlib.Core.Logic.{◌⊎◌, inl, inr, ⊎_elim}
use mathlib.Core.Option.{none, some}
use Rattle.std.specs.Prelude.{Some, None}
use Rattle.std.specs.Prelude.{Option as Maybe}
use Prim.Native.Nat.{ℕ, zero, suc, ◌+◌, ◌*◌, ◌-◌, ◌<◌, ◌≤◌, min}
use native.Mathlib.Omega.{arith}
use native.Mathlib.Decide.{dec_lt}
use lib.Dec.{eqb, leb}
use lib.ListN.{length, get_or, drop}
use borrow.Author.Tests.{eqb-true}
use Rattle.meaning.specs.Windows.{Options}
use Rattle.meaning.specs.Request.{Asked, size_of}
use Rattle.positions.specs.Program.{Compiled}
use Rattle.graph.specs.Sweep.{chain_in}
use Rattle.graph.specs.Underway.{Underway, dist_of, queue_of, taken_up, at_end, outcome}
use Rattle.search.specs.Product.{Setting, succs}
use Rattle.search.specs.Answer.{setting}
use Rattle.search.specs.Asked.{answer, met_asked}
use Rattle.finder.specs.Promise.{chain, too_long, out_after}
use Rattle.finder.specs.Searching.{Searched}
use Rattle.holding.specs.Holding.{Sound}
use Rattle.holding.specs.declared.SearchState.{SearchState}
use Rattle.tracing.specs.Tracing.{reached_in}
use Rattle.area.specs.Area.{found}
use Rattle.readout.specs.Low.{chain-low}
use Rattle.readout.proofs.Chains.{chain-long}
use Rattle.stepping.specs.Stepping.{underway_in, MovedOn}
use Rattle.stepping.specs.declared.Going.{Going}
use Rattle.searching.specs.Promise.{search_at, held_in, Left}
use Rattle.searching.specs.Searching.{length_by, put_out, ReadOut}
use Rattle.searching.specs.Words.{Stretched, stretched-held}
use Rattle.searching.specs.Theorems.{Proper, at-standing, at-sized, at-marks, takes_one, ends_by, end_stays, finish-is-find}
use Rattle.searching.proofs.Bridge.{left-short, left-proper, left-room, left-stretched, left-planned, left-size, left-base, left-underway, left-taken, sound-standing, left-searched}
use Rattle.searching.proofs.Moving.{put_back, put-long, moved-stretched}

-- ---- what is said of a chain by its length

-- where b holds there is the chain c, and its length is the word's; else there is none
told : (b : Bool) (far : ℕ) (c out after : List ℕ) (r : Maybe ℕ) → length c ≡ far - 1 → (b ≡ true → 0 < far) → r ≡ cond b (length_by far) None
    → after ≡ put_out r c out → Searched (cond b (some c) none) r out after
told false far c out after r long some-far is written = record { length-is = is; after_is = written ∙ ap (λ x. put_out x c out) is }
told true zero c out after r long some-far is written = absurd (omega (arith, some-far refl))
told true (suc n) c out after r long some-far is written =
    let same : r ≡ Some (length c) = is ∙ ap Some (omega (arith, long)) in
    record { length-is = same; after_is = written ∙ (ap (λ x. put_out x c out) same ∙ fits (leb (length c) (length out))) }
  where
    fits : (t : Bool) → cond t (c ++ drop (length c) out) out ≡ out_after (cond t (chain c) (too_long (length c))) out
    fits true = refl
    fits false = refl

-- ---- the count

module _ (q : Asked) (from to : ℕ) (h : Proper q from to) where
  -- as long as the search has not ended, every step takes up one state
  takes_all : (k d : ℕ) → ((j : ℕ) → j < d → at_end (search_at q from to (k + j)) ≡ false) → taken_up (search_at q from to (k + d)) ≡ taken_up (search_at q from to k) + d
  takes_all k zero going = let same : k + 0 ≡ k = omega arith in ap (λ (n : ℕ). taken_up (search_at q from to n)) same ∙ omega arith
  takes_all k (suc d) going =
      let next : k + suc d ≡ suc (k + d) = omega arith in
      let ih = takes_all k d (λ j l. going j (omega arith)) in
      ap (λ (n : ℕ). taken_up (search_at q from to n)) next ∙ (takes_one q from to h (k + d) (going d (omega arith)) ∙ omega (arith, ih))

  -- d steps are as many as the amount, or the search has ended by then
  reaches : (k d amount : ℕ) → d ≤ amount → (d ≡ amount) ⊎ (at_end (search_at q from to (k + d)) ≡ true) → search_at q from to (k + d) ≡ search_at q from to (k + amount)
  reaches k d amount l (inl e) = ap (λ (n : ℕ). search_at q from to (k + n)) e
  reaches k d amount l (inr e) =
      let sum : k + d + (amount - d) ≡ k + amount = omega arith in
      sym (end_stays q from to (k + d) e (amount - d)) ∙ ap (search_at q from to) sum

-- ---- moved on in the area

module _ {rec pat : List ℕ} {from to : ℕ} {options : Options} {asked : Asked} {k : ℕ} {w : List ℕ} (left : Left rec pat from to options asked k w) {s : SearchState} (sound : Sound w pat s)
    {program : List ℕ} {begin : ℕ} (compiled : Compiled asked.pattern program begin) {many : ℕ} {g : Going} {v : List ℕ} (on : MovedOn s program begin many w g v) where
  -- the request as the search meets it
  abbrev q : Asked
  q = met_asked asked

  abbrev done : ℕ
  done = many - g.left

  -- the search as it stands then
  now-is : underway_in g.state v ≡ search_at q from to (k + done)
  now-is = on.held.now-held (left-searched left sound) ∙ left-taken left sound compiled done

  goes : (j : ℕ) → j < done → at_end (search_at q from to (k + j)) ≡ false
  goes j l = ap at_end (sym (left-taken left sound compiled j)) ∙ on.going (left-searched left sound) j l

  -- all turns are done, or it has ended
  all-or-end : (done ≡ many) ⊎ (at_end (search_at q from to (k + done)) ≡ true)
  all-or-end = elim (dec_lt 0 g.left) [
    | yes l ↦ inr (ap at_end (sym now-is) ∙ on.done l)
    | no l ↦ inl (omega (arith, l))
  ]

  module _ (amount : ℕ) (is : many ≡ min amount (2 * size_of q + 2)) where
    enough : (done ≡ amount) ⊎ (at_end (search_at q from to (k + done)) ≡ true)
    enough = ⊎_elim
        (λ e. elim (dec_lt (2 * size_of q + 2) amount) [
          | yes l ↦ inr (ends_by q from to (left-proper left) (k + done) (omega (arith, e, is, l)))
          | no l ↦ inl (omega (arith, e, is, l))
        ])
        (λ e. inr e)
        all-or-end

    at-amount : search_at q from to (k + done) ≡ search_at q from to (k + amount)
    at-amount = reaches q from to (left-proper left) k done amount (omega (arith, is)) enough

    pub moved-count : done ≡ taken_up (search_at q from to (k + amount)) - taken_up (search_at q from to k)
    moved-count =
        let sum = takes_all q from to (left-proper left) k done goes in
        let same = ap taken_up at-amount in
        omega (arith, sum, same)

    pub moved-held : put_back (left-stretched left) on.held (sound-standing sound) (left-underway left sound) (left-base left sound) (left-size left sound) ≡ held_in q pat from to (length w) (k + amount)
    moved-held =
        let was = left-stretched left in
        let st = sound-standing sound in
        let here = left-underway left sound in
        let b = left-base left sound in
        let n = left-size left sound in
        let y = put_back was on.held st here b n in
        let long : length y ≡ length w = put-long was on.held st here b n in
        let now : underway_in g.state v ≡ search_at q from to (k + amount) = now-is ∙ at-amount in
        let stretched = subst (λ u. Stretched q pat from u y) now (moved-stretched was on.held st here b n) in
        stretched-held q pat from (search_at q from to (k + amount)) y (at-sized q from to (left-proper left) (k + amount)) (omega (arith, left-short left)) (omega (arith, left-room left, long)) stretched
        ∙ ap (λ (c : ℕ). held_in q pat from to c (k + amount)) long

  -- ---- at the end

  module _ (is : many ≡ 2 * size_of q + 2) where
    abbrev N : ℕ
    N = k + done

    ended : at_end (search_at q from to N) ≡ true
    ended = ⊎_elim (λ e. ends_by q from to (left-proper left) N (omega (arith, e, is))) (λ e. e) all-or-end

    abbrev lines : ℕ
    lines = length q.day.lines

    abbrev S : Setting
    S = setting q.day.lines q.pattern

    abbrev u : Underway
    u = underway_in g.state v

    said : outcome (succs S) lines u ≡ answer asked from to
    said = ap (outcome (succs S) lines) now-is ∙ finish-is-find q from to (left-proper left) N ended

    pub finished-in : {out : List ℕ} {r : Maybe ℕ} {after : List ℕ} → ReadOut g.state v out r after → Searched (answer asked from to) r out after
    unfolding outcome underway_in reached_in found
    finished-in {out} {r} {after} read =
        let p = g.state.plan in
        let at = g.state.at in
        let D = dist_of u in
        let c = chain_in D (succs S) lines (queue_of u) u.sweep.noted.marks (at.far - 1) in
        let low : (i : ℕ) → get_or u.sweep.noted.marks i 0 < 65536 =
        λ i. omega (arith, ap (λ (x : Underway). get_or x.sweep.noted.marks i 0) now-is, at-marks q from to (left-proper left) N i, few-lines) in
        let far_some : eqb at.phase 1 ≡ true → 0 < at.far =
        λ e. subst (0 <◌) (sym (ap (λ (x : Underway). x.far) now-is)) ((at-standing q from to (left-proper left) N).forth (sym (ap (λ (x : Underway). x.phase) now-is) ∙ eqb-true at.phase 1 e)).0 in
        subst (λ o. Searched o r out after) said
        (told (eqb at.phase 1) at.far c out after r (chain-long D u.sweep.noted.marks 0 (succs S) lines (queue_of u) (at.far - 1)) far_some read.length-is
        (read.after_is (on.held.searched (left-searched left sound)) ∙ ap (λ x. put_out r x out) (chain-low p at.found at.far v low (succs S) lines)))
      where
        few-lines : lines ≤ 4096
        few-lines = omega (arith, (left-planned left sound).lines_are, (sound-standing sound).laid.few-lines)
