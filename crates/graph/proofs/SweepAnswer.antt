-- The search state by state comes to the plain search's answer: from any count at which phase one has ended, the sweep's marks say the chain.
use Rattle.std.specs.Prelude.{◌≡◌, refl, List, [], Bool, true, false, ◌↔◌, ◌⊎◌, ℕ, zero, suc, ◌-◌, ◌<◌, get_or, replicate, eqb}
use Rattle.std.proofs.Math.Path.{sym}
use Rattle.std.proofs.Common.{ap, ◌∙◌, inl, inr, ⊎_elim, arith, eqb-true, eq-eqb}
use Rattle.std.proofs.lemmas.Bool.{false≢true}
use Rattle.std.proofs.Math.Option.{Option, some, none-ne-some, some-injective}
use Rattle.std.proofs.lemmas.List.{length-replicate}
use Rattle.lists.specs.Listed.{◌∈◌}
use Rattle.graph.specs.Plain.{Entry, memb, filt, level, chosen, pick, solve, news, steps}
use Rattle.graph.proofs.Sets.{memb-in, in-memb, filt-in, level_in}
use Rattle.graph.specs.Loops.{loop}
use Rattle.graph.specs.Table.{Search, push, unmark, distance_in}
use Rattle.graph.proofs.Table.{Holds}
use Rattle.graph.specs.PhaseOne.{Progress, begun, advance_by}
use Rattle.graph.proofs.PhaseOne.{at_count}
use Rattle.graph.specs.PhaseTwo.{put, nearest_word}
use Rattle.graph.proofs.PhaseTwo.{nearest-is, nearest-of, forward-is}
use Rattle.graph.specs.Early.{Ended}
use Rattle.graph.proofs.Early.{ended_is}
use Rattle.graph.proofs.Sweep as Sweep
use Rattle.graph.specs.Sweep.{Sweep, marked, back_by, chain_in}
use Rattle.graph.proofs.Sweep.{marked-in, marked-out, marked-long, Levels, sweep-picks}
use Rattle.graph.proofs.Swept.{Lined, lined, levels, falls}

-- a table all of whose words are 0
pub zero-at : (n i : ℕ) → get_or (replicate n 0) i 0 ≡ (let z : ℕ = 0 in z)
zero-at zero i = refl
zero-at (suc n) zero = refl
zero-at (suc n) (suc i) = zero-at n i

module _ (N : ℕ) (goals : List ℕ) (preds : ℕ → List ℕ) (succs : ℕ → ℕ → List ℕ) (m : ℕ)
    (expand : ℕ → ℕ → Search → Search) (expand-law : (w t : ℕ) (st : Search) → loop (push w) (preds t) st ≡ expand w t st)
    (from_state : List ℕ → ℕ → ℕ → ℕ → Search → Search) (from-law : (D : List ℕ) (w l s : ℕ) (st : Search) → loop (put D w) (succs s l) st ≡ from_state D w l s st)
    (Ok : ℕ → Type 0) (low : (s : ℕ) → Ok s → s < N) (goals-ok : (s : ℕ) → s ∈ goals → Ok s)
    (next-ok : (s l t : ℕ) → Ok s → l < m → t ∈ succs s l → Ok t) (preds-ok : (s t : ℕ) → Ok t → s ∈ preds t → Ok s)
    (edges : (s t : ℕ) → Ok s → Ok t → (s ∈ preds t) ↔ ((l : ℕ) × (l < m) × (t ∈ succs s l)))
    (S : List ℕ) (starts-ok : (s : ℕ) → s ∈ S → Ok s) (k n : ℕ) where
  abbrev u : Progress
  u = advance_by expand k (begun N goals)

  abbrev D : List ℕ
  D = u.table.dist

  -- the first states that are nearest, marked with the count of lines and one
  abbrev pub marks : List ℕ
  marks = marked (suc m) (filt (λ t. eqb (get_or D t 0) (suc n)) S) (replicate N 0)

  pub holds : Holds N Ok (steps preds k (news 0 [] goals, 0)).0 u.table
  holds = (at_count preds expand expand-law N Ok low preds-ok goals goals-ok k).table

  module _ (ended : Ended S u) (is : nearest_word D S ≡ suc n) where
    pub order : (d : ℕ) × ((q : List Entry) × Lined preds d (steps preds k (news 0 [] goals, 0)).0 q)
    order = lined preds goals k

    -- a first state that is nearest
    pub someone : (s : ℕ) × (s ∈ S) × (get_or D s 0 ≡ suc n)
    someone = let (s, i, e) = nearest-of D S (omega (arith, is)) in (s, i, e ∙ is)

    unfoldable pub all_levels : Levels D succs m u.table.queue (suc n)
    all_levels = levels preds succs m N Ok low edges _ order.0 order.1.0 order.1.1 u.table holds (suc n) someone.0 someone.2

    pub all-fall : Sweep.Falls D succs m u.table.queue
    all-fall = falls preds succs m N Ok low edges _ order.0 order.1.0 order.1.1 u.table holds

    -- those marked are the nearest first states
    first-in : (s : ℕ) → (s ∈ filt (λ t. eqb (get_or D t 0) (suc n)) S) ⊎ (get_or marks s 0 ≡ 0)
    first-in s = go (memb s (filt (λ t. eqb (get_or D t 0) (suc n)) S)) refl
      where
        go : (b : Bool) → memb s (filt (λ t. eqb (get_or D t 0) (suc n)) S) ≡ b → (s ∈ filt (λ t. eqb (get_or D t 0) (suc n)) S) ⊎ (get_or marks s 0 ≡ 0)
        go true e = inl (memb-in s _ e)
        go false e = inr (marked-out (suc m) _ (replicate N 0) s (λ i. false≢true (sym e ∙ in-memb s _ i)) ∙ zero-at N s)

    first_of : (s : ℕ) → (s ∈ filt (λ t. eqb (get_or D t 0) (suc n)) S) ↔ ((s ∈ S) × (get_or D s 0 ≡ suc n))
    first_of s =
        let b = filt-in (λ t. eqb (get_or D t 0) (suc n)) S s in
        (λ i. ((b.0 i).0, eqb-true (get_or D s 0) (suc n) (b.0 i).1), λ i. b.1 (i.0, eq-eqb (get_or D s 0) (suc n) i.1))

    word_of : (w : ℕ) → unmark w ≡ some n → w ≡ suc n
    word_of zero e = absurd (none-ne-some n e)
    word_of (suc d) e = ap suc (some-injective d n e)

    front : Sweep.Fronts D succs m u.table.queue (suc n) all_levels all-fall n m marks (level (distance_in D) n S)
    front s =
        let a = level_in (distance_in D) n S s in (
          λ i. let (j, e) = a.0 i in let w = word_of (get_or D s 0) e in (w, marked-in (suc m) _ (replicate N 0) s ((first_of s).1 (j, w)) (omega (arith, length-replicate {A = ℕ} N 0, low s (starts-ok s j)))),
          λ (w, e). a.1 (⊎_elim (λ i. ((first_of s).0 i).0) (λ z. absurd (omega (arith, e, z))) (first-in s), ap unmark w),
        )

    blank : Sweep.Blank D succs m u.table.queue (suc n) all_levels all-fall n marks
    blank t p le = ⊎_elim (λ i. absurd (omega (arith, ((first_of t).0 i).1, le))) (λ z. z) (first-in t)

    -- the plain answer
    chain-is : solve N goals preds succs m S ≡ some (pick (distance_in D) succs m n (level (distance_in D) n S))
    unfolding chosen
    chain-is =
        sym (ended_is N goals preds succs m expand expand-law from_state from-law Ok low goals-ok next-ok preds-ok S starts-ok k ended)
        ∙ (forward-is from_state D succs (from-law D) m N Ok low next-ok S starts-ok
        ∙ rw (← nearest-is D S, is, chosen))

    -- the sweep ends, and its marks say the chain
    pub record Answered : Type 0 where
      pub chosen : ℕ
      pub marks_then : List ℕ
      pub is-swept : back_by D succs m u.table.queue (all_levels.lo (suc (suc n)) - all_levels.lo 2) (record { rest = all_levels.lo (suc (suc n)); chosen = m; noted = record { line = m; marks = marks } })
          ≡ record { rest = all_levels.lo 2; chosen = chosen; noted = record { line = m; marks = marks_then } }
      pub chain : some (chain_in D succs m u.table.queue marks_then n) ≡ solve N goals preds succs m S

    pub sweep-answer : Answered
    sweep-answer =
        let (s, i, e) = someone in
        let first = (level_in (distance_in D) n S s).1 (i, ap unmark e) in
        let x = sweep-picks D succs m u.table.queue (suc n) all_levels all-fall n (omega arith) m marks (marked-long (suc m) _ (replicate N 0) ∙ (length-replicate {A = ℕ} N 0 ∙ sym holds.sized)) blank (level (distance_in D) n S) front s first in
        record { chosen = x.chosen; marks_then = x.marks; is-swept = x.is; chain = ap {B = Option (List ℕ)} some x.chain ∙ sym chain-is }
