-- Marks noted one state after the other, and then made lines, say the chain of graph's `chain_in` (`chain-of`): an entry of the front is
-- the least mark of the states of its level in the order of the queue, and no entry past the front is written.
use mathlib.Core.Path.{◌≡◌, refl, sym, ap, ◌∙◌}
use mathlib.Core.Bool.{Bool, true, false, cond, ◌&&◌}
use mathlib.Core.List.{List, [], ◌∷◌, ◌++◌}
use Prim.Native.Nat.{ℕ, zero, suc, ◌+◌, ◌-◌, ◌≤◌, ◌<◌}
use native.Mathlib.Nat.{sub-zero}
use native.Mathlib.Omega.{arith}
use native.Mathlib.Decide.{ℕ_discrete, dec_lt}
use lib.Dec.{eqb, ltb}
use lib.ListN.{length, get_or, set, take, drop, replicate, length-map, length-set, length-append, length-replicate, drop_of_length-le, get_or-replicate, get_or-map, get_or-append}
use lib.Seq.{length-take-le, get_or-set_same, get_or-set_other, get_or-take, drop-set-lt, drop-cons, drop_at, ext_get_or}
use borrow.Author.Tests.{eq-eqb, ne_eqb, lt-ltb, ltb-true}
use Rattle.graph.specs.Plain.{filt}
use Rattle.graph.specs.Loops.{loop, turns}
use Rattle.graph.proofs.Loops.{loop-filt}
use Rattle.graph.specs.PhaseTwo.{lesser_word, nearest_word}
use Rattle.graph.specs.Sweep.{line_into, chain_in}
use Rattle.request.specs.declared.Plan.{Plan}
use Rattle.area.proofs.Anyhow.{room-long}
use Rattle.states.specs.Pairs.{RoomBack, distances}
use Rattle.readout.specs.Readout.{marks_low, queue_in, note_turn, noted, chain_of, lines_of}

-- a loop over the places of a list is the loop over the list
places-loop : {A : Type 0} (f : ℕ → A → A) (q : List ℕ) (i n : ℕ) → i + n ≡ length q → (a : A) → turns (λ j. f (get_or q j 0)) i n a ≡ loop f (drop i q) a
unfolding turns loop
places-loop f q i zero e a = rw (drop_of_length-le q {i = i} (omega arith)) refl
places-loop f q i (suc n) e a = rw (drop-cons q i 0 (omega arith)) (places-loop f q (suc i) n (omega arith) (f (get_or q i 0) a))

-- ---- the marks of the states of a list are noted, D having the words of the states and M their marks

module _ (D M : List ℕ) (far : ℕ) where
  unfoldable note : ℕ → List ℕ → List ℕ
  note s out =
      let d = get_or D s 0 in
      cond (ltb 0 d && ltb d far) (set out (far - 1 - d) (lesser_word (get_or out (far - 1 - d) 0) (get_or M s 0))) out

  -- a note is of a level below far
  record Below (s : ℕ) : Type 0 where
    some_word : 0 < get_or D s 0
    nearer : get_or D s 0 < far

  note-in : (s : ℕ) (out : List ℕ) → Below s → note s out ≡ set out (far - 1 - get_or D s 0) (lesser_word (get_or out (far - 1 - get_or D s 0) 0) (get_or M s 0))
  unfolding note
  note-in s out b = rw (lt-ltb 0 (get_or D s 0) b.some_word, lt-ltb (get_or D s 0) far b.nearer)

  note-out : (s : ℕ) (out : List ℕ) → (Below s → ⊥) → note s out ≡ out
  unfolding note
  note-out s out n = go (ltb 0 (get_or D s 0)) (ltb (get_or D s 0) far) refl refl
    where
      go : (b b' : Bool) → ltb 0 (get_or D s 0) ≡ b → ltb (get_or D s 0) far ≡ b'
          → cond (b && b') (set out (far - 1 - get_or D s 0) (lesser_word (get_or out (far - 1 - get_or D s 0) 0) (get_or M s 0))) out ≡ out
      go true true e e' = absurd (n (record { some_word = ltb-true _ _ e; nearer = ltb-true _ _ e' }))
      go true false e e' = refl
      go false b' e e' = refl

  below : (s : ℕ) → Dec (Below s)
  below s = elim (dec_lt 0 (get_or D s 0)) [
    | yes a ↦ elim (dec_lt (get_or D s 0) far) [ yes b ↦ yes (record { some_word = a; nearer = b }) | no b ↦ no (λ x. b x.nearer) ]
    | no a ↦ no (λ x. a x.some_word)
  ]

  note-long : (s : ℕ) (out : List ℕ) → length (note s out) ≡ length out
  note-long s out = elim (below s) [ yes b ↦ rw (note-in s out b) (length-set out _ _) | no b ↦ rw (note-out s out b) refl ]

  note-back : (s : ℕ) (out : List ℕ) → drop (far - 1) (note s out) ≡ drop (far - 1) out
  note-back s out = elim (below s) [
    | yes b ↦ rw (note-in s out b) (drop-set-lt (far - 1) out _ _ (omega (arith, b.some_word, b.nearer)))
    | no b ↦ rw (note-out s out b) refl
  ]

  -- entry i of the front is that of the level with the word far - 1 - i
  abbrev into : ℕ → ℕ → ℕ → ℕ
  into i s v = cond (eqb (get_or D s 0) (far - 1 - i)) (lesser_word v (get_or M s 0)) v

  note-entry : (s i : ℕ) (out : List ℕ) → i < far - 1 → far - 1 ≤ length out → get_or (note s out) i 0 ≡ into i s (get_or out i 0)
  note-entry s i out l r = elim (ℕ_discrete (get_or D s 0) (far - 1 - i)) [ yes e ↦ here e | no n ↦ other n ]
    where
      here : get_or D s 0 ≡ far - 1 - i → get_or (note s out) i 0 ≡ into i s (get_or out i 0)
      here e =
          let at : far - 1 - get_or D s 0 ≡ i = omega (arith, e, l) in
          rw (note-in s out (record { some_word = omega (arith, e, l); nearer = omega (arith, e, l) }), at, eq-eqb _ _ e) (get_or-set_same out i _ 0 (omega (arith, l, r)))

      other : (get_or D s 0 ≡ far - 1 - i → ⊥) → get_or (note s out) i 0 ≡ into i s (get_or out i 0)
      other n = rw (ne_eqb _ _ n) (elim (below s) [
        | yes b ↦ rw (note-in s out b) (get_or-set_other out (far - 1 - get_or D s 0) i _ 0 (λ e. n (omega (arith, e, b.some_word, b.nearer))))
        | no b ↦ rw (note-out s out b) refl
      ])

  -- ---- all states of a list

  abbrev notes : List ℕ → List ℕ → List ℕ
  notes q out = loop note q out

  notes-long : (q out : List ℕ) → length (notes q out) ≡ length out
  unfolding loop
  notes-long [] out = refl
  notes-long (s ∷ q) out = notes-long q (note s out) ∙ note-long s out

  notes-back : (q out : List ℕ) → drop (far - 1) (notes q out) ≡ drop (far - 1) out
  unfolding loop
  notes-back [] out = refl
  notes-back (s ∷ q) out = notes-back q (note s out) ∙ note-back s out

  notes-entry : (q : List ℕ) (i : ℕ) (out : List ℕ) → i < far - 1 → far - 1 ≤ length out → get_or (notes q out) i 0 ≡ loop (into i) q (get_or out i 0)
  unfolding loop
  notes-entry [] i out l r = refl
  notes-entry (s ∷ q) i out l r = notes-entry q i (note s out) l (omega (arith, note-long s out, r)) ∙ ap (loop (into i) q) (note-entry s i out l r)

  -- an entry that was 0 is the least mark of its level
  notes-least : (q : List ℕ) (i : ℕ) (out : List ℕ) → i < far - 1 → far - 1 ≤ length out → get_or out i 0 ≡ 0
      → get_or (notes q out) i 0 ≡ nearest_word M (filt (λ t. eqb (get_or D t 0) (far - 1 - i)) q)
  unfolding nearest_word
  notes-least q i out l r z =
      notes-entry q i out l r
      ∙ (ap (loop (into i) q) z
      ∙ sym (loop-filt (λ s v. lesser_word v (get_or M s 0)) (λ t. eqb (get_or D t 0) (far - 1 - i)) q 0))

  -- ---- the chain

  module _ (succs : ℕ → ℕ → List ℕ) (m : ℕ) (q : List ℕ) where
    pub chain-long : (k : ℕ) → length (chain_in D succs m q M k) ≡ k
    unfolding chain_in
    chain-long zero = refl
    chain-long (suc k) = ap suc (chain-long k)

    chain-entry : (k i : ℕ) → i < k → get_or (chain_in D succs m q M k) i 0 ≡ line_into D succs m q M (k - i)
    unfolding chain_in
    chain-entry zero i l = absurd (omega (arith, l))
    chain-entry (suc k) zero l = rw (sub-zero (suc k)) refl
    chain-entry (suc k) (suc i) l = let e : suc k - suc i ≡ k - i = omega arith in rw e (chain-entry k i (omega (arith, l)))

    -- the entries of the front, which were 0, are the chain
    notes-chain : (out : List ℕ) → far - 1 ≤ length out → ((i : ℕ) → i < far - 1 → get_or out i 0 ≡ 0)
        → lines_of (take (far - 1) (notes q out)) ≡ chain_in D succs m q M (far - 1)
    notes-chain out r blank =
        let n = far - 1 in
        let X = notes q out in
        let front : length (take n X) ≡ n = length-take-le n X (omega (arith, notes-long q out, r)) in
        let long : length (lines_of (take n X)) ≡ n = length-map (take n X) _ ∙ front in
        ext_get_or 0 (lines_of (take n X)) (chain_in D succs m q M n) (long ∙ sym (chain-long n)) (λ i l. entry i (omega (arith, l, long)))
      where
        entry : (i : ℕ) → i < far - 1 → get_or (lines_of (take (far - 1) (notes q out))) i 0 ≡ get_or (chain_in D succs m q M (far - 1)) i 0
        entry i l =
            get_or-map (λ x. x - 1) (take (far - 1) (notes q out)) i 0
            ∙ (ap (λ x. x - 1) (get_or-take (far - 1) (notes q out) i 0 l ∙ notes-least q i out l r (blank i l))
            ∙ sym (chain-entry (far - 1) i l ∙ unfold line_into in refl))

-- ---- of the area

module _ (plan : Plan) (tail far : ℕ) (w : List ℕ) (ready : RoomBack plan tail w) where
  noted-is : (out : List ℕ) → noted plan tail far w out ≡ loop (note (distances plan w) (marks_low plan w) far) (queue_in plan tail far w) out
  unfolding noted note_turn note
  noted-is out = places-loop (note (distances plan w) (marks_low plan w) far) (queue_in plan tail far w) 0 tail (omega (arith, room-long ready)) out

  -- the front cleared, the marks noted and made lines
  pub chain-of : (out : List ℕ) → far - 1 ≤ length out
      → let x = noted plan tail far w (replicate (far - 1) 0 ++ drop (far - 1) out) in
      lines_of (take (far - 1) x) ++ drop (far - 1) x ≡ chain_of plan tail far w ++ drop (far - 1) out
  unfolding chain_of
  chain-of out r =
      let n = far - 1 in
      let blank = replicate n 0 ++ drop n out in
      let q = queue_in plan tail far w in
      let D = distances plan w in
      let M = marks_low plan w in
      let room : n ≤ length blank = omega (arith, length-append (replicate n 0) (drop n out), length-replicate {A = ℕ} n 0) in
      let front : lines_of (take n (loop (note D M far) q blank)) ≡ chain_in D (λ s l. q) 0 q M n = notes-chain D M far (λ s l. q) 0 q blank room zeros in
      let back : drop n (loop (note D M far) q blank) ≡ drop n out = notes-back D M far q blank ∙ drop_at (replicate n 0) (drop n out) n (length-replicate n 0) in
      rw (noted-is blank, front, back)
    where
      zeros : (i : ℕ) → i < far - 1 → get_or (replicate (far - 1) 0 ++ drop (far - 1) out) i 0 ≡ 0
      zeros i l = get_or-append (replicate (far - 1) 0) (drop (far - 1) out) 0 i (omega (arith, l, length-replicate {A = ℕ} (far - 1) 0)) ∙ get_or-replicate (far - 1) i 0 0 l

  -- the three loops, one after the other
  pub chain-told : (n : ℕ) → n ≡ far - 1 → (out x y z : List ℕ) → far - 1 ≤ length out
      → x ≡ replicate n 0 ++ drop n out → y ≡ noted plan tail far w x → z ≡ lines_of (take n y) ++ drop n y
      → z ≡ chain_of plan tail far w ++ drop (far - 1) out
  chain-told n is out x y z r ex ey ez = rw (ez, ey, ex, is) (chain-of out r)
