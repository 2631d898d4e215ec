-- A state expanded, with how each state before it is reached. Claimed: each tag's line leads from its state to the one expanded (`trace-right`),
-- and two settings that say the same trace alike (`same-trace`) and expand alike (`same-expand`), so the tags are right by both where one is sound (`same-right`).
use Rattle.std.specs.Prelude.{◌≡◌, true, ◌&&◌, eqb}
use Rattle.std.proofs.Math.Path.{sym, ap}
use Rattle.std.proofs.Common.{◌∙◌, subst, arith}
use Rattle.std.proofs.Math.Bool.{cond}
use Prim.Native.Nat.{ℕ, ◌+◌, ◌<◌, ◌≤◌}
use Rattle.std.proofs.Math.ListN.{length}
use Rattle.lists.specs.Listed.{◌∈◌}
use Rattle.graph.specs.Plain.{count}
use Rattle.graph.proofs.Sets.{memb-same, memb-in, filt-in, count-in}
use Rattle.graph.specs.Loops.{loop, turns}
use Rattle.graph.proofs.Loops.{turns-within}
use Rattle.graph.specs.Table.{Search, push}
use Rattle.graph.specs.Trace.{Reached, tag_of, tagged}
use Rattle.graph.proofs.Trace.{Tagged, tagged-right, turns-right, tagged-same}
use Rattle.search.specs.Product.{Setting, place_of, pos_of, stack_of, cut, succs, uncut, lines_into, sources}
use Rattle.search.specs.Moves.{over_stacks, expand}
use Rattle.search.proofs.Moves.{stacks-law, expand-law}
use Rattle.search.specs.Traced.{over_traced, trace}
use Rattle.search.proofs.Traced.{line_fits, may_follow, stacks-push}
use Rattle.search.proofs.Steps.{Sound, Ok, sources-lead}
use Rattle.search.proofs.Same.{Same, same_place, same-pos, same-stack, pos-low, same-uncut, same-sources, same-succs, same-preds}

-- ---- the tags are right

module _ (S : Setting) (places : ℕ) (h : Sound S places) (d t : ℕ) (o : Ok S places t) where
  -- of one position, before that of t
  traced-right : (c : ℕ) → pos_of S t ∈ (S.node c).follow → let e = (S.node (pos_of S t)).depth in (x : Reached)
      → Tagged (succs S) (length S.lines) t x (over_traced S d t c (place_of S t) e (cut S e (stack_of S t)) x)
  unfolding over_traced
  traced-right c goes =
      let m = length S.lines in
      turns-right (succs S) m t (line_fits S c (place_of S t)) (λ i. tagged (tag_of i t) (over_stacks S d c i e w)) 0 m one
    where
      e : ℕ
      e = (S.node (pos_of S t)).depth

      w : ℕ
      w = cut S e (stack_of S t)

      one : (i : ℕ) → 0 ≤ i → i < 0 + length S.lines → line_fits S c (place_of S t) i ≡ true → (x : Reached)
          → Tagged (succs S) (length S.lines) t x (tagged (tag_of i t) (over_stacks S d c i e w) x)
      one i le lt fit x =
          let into : i ∈ lines_into S (place_of S t) (S.node c).kind =
          (filt-in (line_fits S c (place_of S t)) (count 0 (length S.lines)) i).1 ((count-in 0 (length S.lines) i).1 (omega arith, lt), fit) in
          tagged-right (succs S) (length S.lines) t i (over_stacks S d c i e w) x (sources S c i (uncut S (S.node c) e w))
          (omega (arith, lt)) (stacks-push S d c i e w x.table) (λ s m. sources-lead S places h s t c i o goes into m)

  pub trace-right : (x : Reached) → Tagged (succs S) (length S.lines) t x (trace S d t x)
  unfolding trace
  trace-right =
      let e = (S.node (pos_of S t)).depth in
      turns-right (succs S) (length S.lines) t (may_follow S (pos_of S t)) (λ c. over_traced S d t c (place_of S t) e (cut S e (stack_of S t))) 0 S.done
      (λ c le lt e. traced-right c (memb-in (pos_of S t) (S.node c).follow e))

-- ---- two settings that say the same

-- t has the place q, the position k and the stack v
abbrev traced_at : Setting → ℕ → ℕ → ℕ → ℕ → ℕ → ℕ → Reached → Reached
traced_at S d t q k v c = over_traced S d t c q (S.node k).depth (cut S (S.node k).depth v)

module _ {S T : Setting} {m : ℕ} (h : Same S T m) (d t : ℕ) where
  same_line : (k v c i : ℕ) → k ≤ T.done → c ≤ T.done → i < m → (st : Search)
      → over_stacks S d c i (S.node k).depth (cut S (S.node k).depth v) st ≡ over_stacks T d c i (T.node k).depth (cut T (T.node k).depth v) st
  same_line k v c i hk hc li st =
      sym (stacks-law S d c i (S.node k).depth (cut S (S.node k).depth v) st)
      ∙ (ap (λ xs. loop (push d) xs st) (same-sources h c hc i li _ ∙ ap (sources T c i) (same-uncut h c hc k v hk))
      ∙ stacks-law T d c i (T.node k).depth (cut T (T.node k).depth v) st)

  same-traced : (q k v c : ℕ) → k ≤ T.done → c ≤ T.done → (x : Reached) → traced_at S d t q k v c x ≡ traced_at T d t q k v c x
  unfolding over_traced
  same-traced q k v c hk hc x = ap (λ n. turns (body S) 0 n x) (h.many ∙ sym h.as_many) ∙ turns-within (body S) (body T) 0 (length T.lines) one x
    where
      body : Setting → ℕ → Reached → Reached
      body S i x = cond (line_fits S c q i) (tagged (tag_of i t) (over_stacks S d c i (S.node k).depth (cut S (S.node k).depth v)) x) x

      one : (i : ℕ) → 0 ≤ i → i < 0 + length T.lines → (y : Reached) → body S i y ≡ body T i y
      one i le lt y =
          let li : i < m = omega (arith, lt, h.as_many) in
          λ z. cond (eqb (h.to i li z) q && eqb (h.kind i li z) ((h.node c hc).kind z)) (tagged (tag_of i t) (λ st. same_line k v c i hk hc li st z) y) y

  -- both trace alike
  pub same-trace : (x : Reached) → trace S d t x ≡ trace T d t x
  unfolding trace
  same-trace x =
      (λ z. turns (body S (same_place h t z) (same-pos h t z) (same-stack h t z)) 0 (h.done z) x)
      ∙ turns-within (body S q k v) (body T q k v) 0 T.done one x
    where
      q : ℕ
      q = place_of T t

      k : ℕ
      k = pos_of T t

      v : ℕ
      v = stack_of T t

      body : Setting → ℕ → ℕ → ℕ → ℕ → Reached → Reached
      body S q k v c x = cond (may_follow S k c) (traced_at S d t q k v c x) x

      one : (c : ℕ) → 0 ≤ c → c < 0 + T.done → (y : Reached) → body S q k v c y ≡ body T q k v c y
      one c le lt y =
          let hc : c ≤ T.done = omega arith in
          λ z. cond (memb-same k (S.node c).follow (T.node c).follow ((h.node c hc).follow k) z) (same-traced q k v c (pos-low h t) hc y z) y

  pub same-expand : (st : Search) → expand S d t st ≡ expand T d t st
  same-expand st = sym (expand-law S d t st) ∙ (ap (λ xs. loop (push d) xs st) (same-preds h t) ∙ expand-law T d t st)

  -- and where one is sound, the other's tags are right too
  pub same-right : (places : ℕ) → Sound T places → Ok T places t → (x : Reached) → Tagged (succs S) m t x (trace S d t x)
  same-right places sound o x =
      let right : Tagged (succs T) m t x (trace T d t x) = subst (λ n. Tagged (succs T) n t x (trace T d t x)) h.as_many (trace-right T places sound d t o x) in
      rw (same-trace x) (tagged-same (succs T) (succs S) m t (λ s l low. sym (same-succs h s l low)) x (trace T d t x) right)
