-- What a table of distances and a queue hold (`Table` in specs/).
-- Claimed for both phases: states pushed one after the other do to the table what `news` does to the list of entries (`loop-holds`),
-- and what a table holds fixes the table (`holds-is`).
use Rattle.std.specs.Prelude.{◌≡◌, ℕ, suc, ◌<◌, ◌≤◌, length, get_or, set}
use Rattle.std.proofs.Math.Path.{refl, ap}
use Rattle.std.proofs.Common.{sym, ◌∙◌, subst, ⊎_elim, arith, length-set, get_or-set_same, get_or-set_other, ext_get_or, eq-eqb, ne_eqb}
use mathlib.Core.List.Memᴰ
use mathlib.Core.List.{List, [], ◌∷◌, ◌++◌, map-append, append_assoc, append-nil}
use Rattle.std.proofs.Math.Option.{Option, none, some}
use Rattle.std.proofs.Math.Decide.{ℕ_discrete}
use Rattle.std.proofs.Math.ListN.{length-replicate, get_or-replicate}
use Rattle.std.proofs.lemmas.List.{length-map}
use Rattle.lists.specs.Listed.{◌∈◌, none_in}
use Rattle.graph.specs.Plain.{Entry, state_of, states, look, news}
use Rattle.graph.proofs.Entries.{same-state, under, look_none, look-push, look-push-other, news-old, news-new, Once, once-snoc, once-length}
use Rattle.graph.specs.Loops.{loop}
use Rattle.graph.proofs.Queue.{Distinct}
use Rattle.graph.specs.Table.{Search, mark, unmark, blank, push}

-- ---- the table

pub unmark-mark : (o : Option ℕ) → unmark (mark o) ≡ o
unmark-mark none = refl
unmark-mark (some d) = refl

pub push-met : (w s : ℕ) (st : Search) → (get_or st.dist s 0 ≡ 0 → ⊥) → push w s st ≡ st
unfolding push
push-met w s st h = rw (ne_eqb (get_or st.dist s 0) 0 h)

push-old : (w s e : ℕ) (st : Search) → get_or st.dist s 0 ≡ suc e → push w s st ≡ st
unfolding push
push-old w s e st h = push-met w s st (λ q. let z : ◌≡◌ {A = ℕ} 0 (suc e) = cc in omega arith)

push-new : (w s : ℕ) (st : Search) → get_or st.dist s 0 ≡ 0 → push w s st ≡ record { dist = set st.dist s w; queue = st.queue ++ (s ∷ []) }
unfolding push
push-new w s st e = rw (eq-eqb (get_or st.dist s 0) 0 e)

-- ---- what a table holds

module _ (N : ℕ) (Ok : ℕ → Type 0) where
  -- the table holds the entries f, of valid states
  pub record Holds (f : List Entry) (st : Search) : Type 0 where
    pub sized : length st.dist ≡ N
    pub order : st.queue ≡ states f
    pub marks : (s : ℕ) → s < N → get_or st.dist s 0 ≡ mark (look s f)
    pub once : Once f
    pub okay : (x : Entry) → x ∈ f → Ok x.0

  pub blank-holds : Holds [] (blank N)
  unfolding blank look
  blank-holds = record { sized = length-replicate N 0; order = refl; marks = λ s h. get_or-replicate N s 0 0 h; once = tt; okay = λ x m. none_in m }

  -- the entries fix every word of the table
  pub holds-is : (f : List Entry) (st st' : Search) → Holds f st → Holds f st' → st ≡ st'
  holds-is f st st' h h' =
      let same : st.dist ≡ st'.dist = ext_get_or 0 st.dist st'.dist (h.sized ∙ sym h'.sized) word in
      λ i. record { dist = same i; queue = (h.order ∙ sym h'.order) i }
    where
      word : (s : ℕ) → s < length st.dist → get_or st.dist s 0 ≡ get_or st'.dist s 0
      word s lt = let l : s < N = omega (arith, h.sized) in h.marks s l ∙ sym (h'.marks s l)

  -- no state is in the queue twice
  pub holds-distinct : (f : List Entry) (st : Search) → Holds f st → Distinct st.queue
  holds-distinct f st h = rw h.order (go f h.once)
    where
      go : (g : List Entry) → Once g → Distinct (states g)
      go [] o = tt
      go (e ∷ g) o = (λ m. let (x, i, p) = Memᴰ.of_map state_of g m in o.0 x.1 (under (sym p) i), go g o.1)

  pub holds-ok : (f : List Entry) (st : Search) → Holds f st → (s : ℕ) → s ∈ st.queue → Ok s
  holds-ok f st h s m = let (x, i, p) = Memᴰ.of_map state_of f (rw h.order at m) in subst Ok p (h.okay x i)

  -- more entries: the queue has their states at its end
  pub holds_more : (f g : List Entry) (st st' : Search) → Holds f st → Holds (f ++ g) st' → st'.queue ≡ st.queue ++ states g
  holds_more f g st st' h h' = h'.order ∙ (map-append state_of f g ∙ ap (◌++ states g) (sym h.order))

  module _ (low : (s : ℕ) → Ok s → s < N) where
    -- N words are room enough for the queue
    pub holds-room : (f : List Entry) (st : Search) → Holds f st → length st.queue ≤ N
    holds-room f st h = rw (h.order, length-map f state_of) (once-length N f h.once (λ x m. low x.0 (h.okay x m)))

    push-holds : (d p : ℕ) (f : List Entry) (st : Search) → Ok p → look p f ≡ none → Holds f st → Holds (f ++ ((p, d) ∷ [])) (push (suc d) p st)
    push-holds d p f st o e h = rw (push-new (suc d) p st (h.marks p (low p o) ∙ ap mark e))
        record {
          sized = length-set st.dist p (suc d) ∙ h.sized;
          order = ap (◌++ (p ∷ [])) h.order ∙ sym (map-append state_of f ((p, d) ∷ []));
          marks = λ s l. elim (ℕ_discrete s p) [
            | yes q ↦ rw q (here ∙ sym (ap mark (look-push f p d e)))
            | no n ↦ (get_or-set_other st.dist p s (suc d) 0 n ∙ (h.marks s l ∙ sym (ap mark (look-push-other f p d s n))))
          ];
          once = once-snoc f p d h.once (look_none p f e);
          okay = λ x m. ⊎_elim (λ i. h.okay x i) (λ i. subst Ok (sym (same-state (Memᴰ.eq_of_singleton i))) o) (Memᴰ.append_cases f m);
        }
      where
        here : get_or (set st.dist p (suc d)) p 0 ≡ suc d
        here = let l = low p o in get_or-set_same st.dist p (suc d) 0 (omega (arith, h.sized))

    -- the states of a list pushed, one after the other
    pub loop-holds : (ps : List ℕ) (d : ℕ) (f : List Entry) (st : Search)
        → ((p : ℕ) → p ∈ ps → Ok p) → Holds f st
        → Holds (f ++ news d f ps) (loop (push (suc d)) ps st)
    unfolding loop
    loop-holds [] d f st o h = unfold news in rw (append-nil f) h
    loop-holds (p ∷ ps) d f st o h = go (look p f) refl (λ f' st'. loop-holds ps d f' st' (λ q m. o q (Memᴰ.tail m)))
      where
        go : (x : Option ℕ)
            → look p f ≡ x → ((f' : List Entry) (st' : Search) → Holds f' st' → Holds (f' ++ news d f' ps) (loop (push (suc d)) ps st'))
            → Holds (f ++ news d f (p ∷ ps)) (loop (push (suc d)) ps (push (suc d) p st))
        go none e ih =
            rw (news-new d f p ps e, ← append_assoc f ((p, d) ∷ []) (news d (f ++ ((p, d) ∷ [])) ps))
            (ih (f ++ ((p, d) ∷ [])) (push (suc d) p st) (push-holds d p f st (o p (Memᴰ.head refl)) e h))
        go (some y) e ih = rw (news-old d f p ps y e, push-old (suc d) p y st (h.marks p (low p (o p (Memᴰ.head refl))) ∙ ap mark e)) (ih f st h)
