-- For those who use a thin table: it stays thin while other words change (`thin-same`, `thin-kept`), and a sorted one stays sorted while words
-- after it change (`sorted-kept`). What is written of lines says places where lines start at places (`from_places`).
use Rattle.std.specs.Prelude.{◌≡◌, List, map, ℕ, suc, ◌+◌, ◌*◌, ◌-◌, ◌≤◌, ◌<◌, length, get_or, drop}
use Rattle.std.proofs.Common.{sym, ap, ◌∙◌, subst, arith}
use Rattle.std.proofs.Math.Nat.{mul-le-mul}
use Rattle.request.specs.Layout.{Laid, filed_end}
use Rattle.request.specs.declared.Plan.{Plan}
use Rattle.search.specs.Loaded.{boat_at, code_at}
use Rattle.sorted.specs.Sorting.{keys, pack_in, having, sorted_end, Sorted, Kept}
use Rattle.sorted.specs.Runs.{same_word, same-stretch}
use Rattle.sorted.specs.declared.Order.{Order}
use Rattle.sorted.proofs.Turns.{kept-take, kept-get}
use Rattle.area.specs.Area.{stretch}
use Rattle.states.specs.Spots.{front, boats_in, Starts}
use Rattle.area.proofs.Stretches.{stretch-take}
use Rattle.states.specs.declared.Sieve.{Sieve}
use Rattle.thinned.specs.Thinning.{Thin, FromPlaces, thin_end, ThinRun, Thinned}

-- ---- places

pub from_places : (plan : Plan) (w : List ℕ) → Starts plan (front plan w) → ((i : ℕ) → i < plan.lines → code_at plan (front plan w) i ≤ 4096) → FromPlaces plan w
unfolding pack_in
from_places plan w starts codes i h = (omega (arith, starts i h, codes i h), omega (arith, starts i h, codes i h))

-- ---- where the plan has the table

module _ {plan : Plan} {area : ℕ} (l : Laid plan area) where
  -- the marks stand after it
  pub stamps-are : plan.stamps ≡ sorted_end Order.Kind plan plan.thin
  unfolding keys
  stamps-are = omega (arith, l.stamps-at)

  -- far below 2^32
  pub stamps-small : plan.stamps ≤ 16777216
  unfolding keys
  stamps-small = omega (arith, stamps-are, l.kinds-at, l.boats-at, l.thin_at, l.small, l.few_words, l.few-lines, l.few-places, boat-keys)
    where
      boat-keys : plan.places * plan.radix ≤ 4195328
      boat-keys = mul-le-mul {n₂ = 1024} {m₂ = 4097} l.few-places l.few-boats

  -- and what is loaded before it
  pub base-before : plan.base ≤ plan.thin
  base-before = omega (arith, l.kinds-at, l.boats-at, l.thin_at)

  pub filed-end : filed_end plan ≡ thin_end Sieve.Boats plan plan.thin
  filed-end = omega (arith, stamps-are)

-- ---- the boats' table stands before the words that change

pub boats-kept : (plan : Plan) {from to : ℕ} {w v : List ℕ} → Kept from to w v → plan.base ≤ from → boats_in plan v ≡ boats_in plan w
boats-kept plan c past = ap (λ g. boat_at plan g) (kept-take c plan.base past)

-- ---- a run as it was

-- the words from a up to b, read off otherwise
pub cut_as : (a b c d : ℕ) (v w : List ℕ) → a ≡ c → b ≡ d → stretch c (d - c) v ≡ stretch c (d - c) w → stretch a (b - a) v ≡ stretch c (d - c) w
cut_as a b c d v w e f h = (λ t. stretch (e t) (f t - e t) v) ∙ h

pub thin-as : {sieve : Sieve} {B : ℕ → ℕ} {xs ys us vs : List ℕ} → us ≡ xs → vs ≡ ys → Thin sieve B xs ys → Thin sieve B us vs
thin-as {sieve} {B} {xs} {ys} {us} {vs} e f t = subst (λ l. Thin sieve B l vs) (sym e) (subst (Thin sieve B xs) (sym f) t)

-- its words say the same, and the words there are the same
module _ (sieve : Sieve) (B : ℕ → ℕ) (plan : Plan) (of at : ℕ) (w v : List ℕ) (k : ℕ)
    (lo : get_or v (of + k) 0 ≡ get_or w (of + k) 0) (hi : get_or v (of + suc k) 0 ≡ get_or w (of + suc k) 0)
    (b : get_or v (at + k) 0 ≡ get_or w (at + k) 0) (e : get_or v (at + suc k) 0 ≡ get_or w (at + suc k) 0)
    (xs : stretch (get_or w (of + k) 0) (get_or w (of + suc k) 0 - get_or w (of + k) 0) v ≡ stretch (get_or w (of + k) 0) (get_or w (of + suc k) 0 - get_or w (of + k) 0) w)
    (ys : stretch (get_or w (at + k) 0) (get_or w (at + suc k) 0 - get_or w (at + k) 0) v ≡ stretch (get_or w (at + k) 0) (get_or w (at + suc k) 0 - get_or w (at + k) 0) w) where
  pub thin-run-as : ThinRun sieve B plan of at w k → ThinRun sieve B plan of at v k
  thin-run-as r =
      record {
        low = rw b r.low;
        rising = rw (b, e) r.rising;
        high = rw e r.high;
        has = thin-as (cut_as _ _ _ _ v w lo hi xs) (cut_as _ _ _ _ v w b e ys) r.has;
      }

-- ---- a thin table, its words, those of the sorted one and those of the loaded record being as they were

module _ (sieve : Sieve) (plan : Plan) (of at : ℕ) (w v : List ℕ) (s : Sorted Order.Kind plan of w) (t : Thinned sieve plan of at w) (d : drop of v ≡ drop of w) (f : front plan v ≡ front plan w) (h : of ≤ at) where
  word-at : (n : ℕ) → get_or v (at + n) 0 ≡ get_or w (at + n) 0
  word-at n =
      let sum : at + n ≡ of + (at - of + n) = omega arith in
      ap (λ x. get_or v x 0) sum ∙ (same_word of w v d (at - of + n) ∙ ap (λ x. get_or w x 0) (sym sum))

  pub thin-same : Thinned sieve plan of at v
  thin-same k l =
      let r = subst (λ g. ThinRun sieve (boat_at plan g) plan of at w k) (sym f) (t k l) in
      thin-run-as sieve (boats_in plan v) plan of at w v k (same_word of w v d k) (same_word of w v d (suc k)) (word-at k) (word-at (suc k))
      (same-stretch of w v d (get_or w (of + k) 0) (get_or w (of + suc k) 0 - get_or w (of + k) 0) (omega (arith, (s k l).low)))
      (same-stretch of w v d (get_or w (at + k) 0) (get_or w (at + suc k) 0 - get_or w (at + k) 0) (omega (arith, r.low, h)))
      r

-- ---- a sorted table before the words that change

pub kept-stretch : {from to : ℕ} {w v : List ℕ} → Kept from to w v → (b n : ℕ) → b + n ≤ from → from ≤ length w → stretch b n v ≡ stretch b n w
kept-stretch {from} {to} {w} {v} k b n h l =
    sym (stretch-take from b n v h (omega (arith, l, k.long))) ∙ (ap (stretch b n) k.before ∙ stretch-take from b n w h l)

module _ (o : Order) (plan : Plan) (at from to : ℕ) (w v : List ℕ) (s : Sorted o plan at w) (c : Kept from to w v)
    (past : plan.base ≤ from) (end : sorted_end o plan at ≤ from) (room : from ≤ length w) where
  pub sorted-kept : Sorted o plan at v
  sorted-kept k h =
      let r = s k h in
      let lo = kept-get c (at + k) (omega (arith, h, end)) in
      let hi = kept-get c (at + suc k) (omega (arith, h, end)) in
      record {
        low = rw lo r.low;
        rising = rw (lo, hi) r.rising;
        high = rw hi r.high;
        has =
            cut_as _ _ _ _ v w lo hi (kept-stretch c (get_or w (at + k) 0) (get_or w (at + suc k) 0 - get_or w (at + k) 0) (omega (arith, r.rising, r.high, end)) room)
            ∙ (r.has ∙ ap (λ g. map (pack_in o plan g) (having o plan g k)) (sym (kept-take c plan.base past)));
      }

-- ---- a thin table before the words that change

module _ (sieve : Sieve) (plan : Plan) (of at from to : ℕ) (w v : List ℕ) (s : Sorted Order.Kind plan of w) (t : Thinned sieve plan of at w) (c : Kept from to w v)
    (past : plan.base ≤ from) (of_end : sorted_end Order.Kind plan of ≤ from) (end : sorted_end Order.Kind plan at ≤ from) (room : from ≤ length w) where
  pub thin-kept : Thinned sieve plan of at v
  thin-kept k h =
      let run = s k h in
      let r = subst (λ g. ThinRun sieve (boat_at plan g) plan of at w k) (sym (kept-take c plan.base past)) (t k h) in
      thin-run-as sieve (boats_in plan v) plan of at w v k
      (kept-get c (of + k) (omega (arith, h, of_end))) (kept-get c (of + suc k) (omega (arith, h, of_end))) (kept-get c (at + k) (omega (arith, h, end))) (kept-get c (at + suc k) (omega (arith, h, end)))
      (kept-stretch c (get_or w (of + k) 0) (get_or w (of + suc k) 0 - get_or w (of + k) 0) (omega (arith, run.rising, run.high, of_end)) room)
      (kept-stretch c (get_or w (at + k) 0) (get_or w (at + suc k) 0 - get_or w (at + k) 0) (omega (arith, r.rising, r.high, end)) room)
      r
