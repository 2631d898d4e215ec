-- A pattern and its automaton accept the same words: `same-words`, and `same-words-in` with boats given to slots from outside.
-- The finder and the checker rest on this, and on nothing else of this crate's proofs but `Shape` and `Readings`.
use Rattle.std.specs.Prelude.{◌≡◌, refl, List, [], ◌∷◌, ◌++◌, ◌↔◌, ℕ, eqb, take, length}
use Rattle.std.proofs.Common.{sym, ap, ◌∙◌, subst, append-nil, le_of_eq, eq-eqb}
use Rattle.std.proofs.Math.Bool.{So, and-eq-true_iff}
use Rattle.std.proofs.lemmas.Bool.{false≢true}
use mathlib.Core.List.Memᴰ
use Rattle.meaning.specs.Record.{Boat}
use Rattle.meaning.specs.Pattern.{Pattern, unfolded}
use Rattle.meaning.specs.Language.{Word, unbound, L}
use Rattle.automaton.specs.Automaton.{Node, silent, start, nodes, node_at, by_boat, passes, takes, accepts}
use Rattle.automaton.proofs.Runs.{From, from-sound, from-complete}
use Rattle.automaton.proofs.Scope.{bind_all, holds-all}
use Rattle.automaton.proofs.Placed.{nodes-placed, end-silent, end-within}
use Rattle.automaton.proofs.Sound.{enter-sound, sound}
use Rattle.automaton.proofs.Complete.{complete}

-- ---- the end

module _ {node : ℕ → Node} {done : ℕ} {st : List Boat} where
  end-complete : From by_boat node done (done ∷ []) st []
  end-complete = record { pos = done; mem = Memᴰ.head refl; run = eq-eqb done done refl }

  -- no letter is taken there
  end-sound : node done ≡ silent → (w : Word) → From by_boat node done (done ∷ []) st w → w ≡ []
  end-sound e [] r = refl
  end-sound e (a ∷ w) r =
      let here : node r.pos ≡ silent = ap node (Memᴰ.eq_of_singleton r.mem) ∙ e in
      let st' = take (node r.pos).depth st in
      let t : So (takes by_boat (node r.pos) st' a) = ((and-eq-true_iff (takes by_boat (node r.pos) st' a) _).0 r.run).0 in
      let p : So (passes by_boat (node r.pos).test st' a.boat) = ((and-eq-true_iff (eqb (node r.pos).kind a.kind) _).0 t).1 in
      absurd (false≢true (subst (λ n. So (passes by_boat n.test st' a.boat)) here p))

-- ---- the theorem

module _ (p : Pattern) (scope : List ℕ) (st : List Boat) (long : length st ≡ length scope) (w : Word) where
  abbrev node : ℕ → Node
  node = node_at (nodes p scope)

  words-complete : L p (bind_all unbound scope st) w → So (accepts p scope st w)
  words-complete l =
      from-complete
      (subst (From by_boat node (unfolded p) (start p) st) (append-nil w)
      (complete (bind_all unbound scope st) (nodes-placed p scope) (holds-all scope st long) (end-within p scope) w [] l end-complete))

  words-sound : So (accepts p scope st w) → L p (bind_all unbound scope st) w
  words-sound h =
      let ν = bind_all unbound scope st in
      let x = enter-sound p 0 ν (sound ν (nodes-placed p scope) (holds-all scope st long) (end-within p scope)) w (from-sound (start p) st w h) in
      let none_left : x.back ≡ [] = end-sound (end-silent p scope (unfolded p) (le_of_eq refl)) x.back x.rest in
      subst (L p ν) (sym (x.is ∙ (ap (x.front ++◌) none_left ∙ append-nil x.front))) x.word

  -- with the boats of `st` in the slots of `scope`, the outermost first
  pub same-words-in : L p (bind_all unbound scope st) w ↔ So (accepts p scope st w)
  same-words-in = (words-complete, words-sound)

-- with no boat from outside
pub same-words : (p : Pattern) (w : Word) → L p unbound w ↔ So (accepts p [] [] w)
same-words p w = same-words-in p [] [] refl w
