-- What the code tells and writes after both phases is what the loops of the definition find: no chain (`told_none`), one that the output
-- does not hold (`told-long`), one that is written (`told-written`).
use mathlib.Core.Path.{◌≡◌, refl, sym, ap, ◌∙◌, subst}
use mathlib.Core.List.{List, [], ◌∷◌, ◌++◌}
use mathlib.Core.Option.{Option, none, some}
use Rattle.std.specs.Prelude.{Some, None}
use Rattle.std.specs.Prelude.{Option as Maybe}
use Prim.Native.Nat.{ℕ, zero, suc, ◌-◌, ◌<◌, ◌≤◌}
use native.Mathlib.Omega.{arith}
use lib.ListN.{length, drop}
use borrow.Author.Tests.{le-leb, lt-leb}
use Rattle.request.specs.declared.Plan.{Plan}
use Rattle.graph.specs.Loops.{loop}
use Rattle.graph.specs.Table.{Search, blank}
use Rattle.graph.specs.PhaseTwo.{nearest_word, put, walk, forward_by, forward}
use Rattle.graph.proofs.PhaseTwo.{walk-long}
use Rattle.search.specs.Product.{Setting}
use Rattle.search.specs.Moves.{expand, from_state}
use Rattle.area.specs.Area.{stretch, found, Outside, outside}
use Rattle.states.specs.Spots.{front}
use Rattle.backward.specs.Stopped.{from_goals, table_after, Stopped}
use Rattle.finder.specs.Searching.{Searched, reached_in, SearchedIn}

-- after phase one, and with the number of the nearest first state
module _ (S : Setting) (plan : Plan) (firsts : List ℕ) (to : ℕ) {r : ℕ} {w v : List ℕ} (one : Stopped plan.base plan.size (expand S) firsts (from_goals S plan.size (to ∷ [])) 0 w r v)
    (word : ℕ) (is : word ≡ nearest_word (stretch plan.base plan.size v) firsts) (out : List ℕ) where
  -- the distances in the area
  abbrev D : List ℕ
  D = stretch plan.base plan.size v

  abbrev o : Option (List ℕ)
  o = forward (from_state S) plan.size plan.lines firsts D

  -- the loaded tables are as they were
  pub tables-same : front plan v ≡ front plan w
  unfolding outside
  tables-same = ap (λ (o : Outside). o.front) one.step.same

  -- phase two goes by the distances
  o_is : o ≡ forward (from_state S) plan.size plan.lines firsts (reached_in S plan to one.count).table.dist
  unfolding found table_after
  o_is = ap (λ (st : Search). forward (from_state S) plan.size plan.lines firsts st.dist) one.step.now-found

  told : (x : Option (List ℕ)) → o ≡ x → (long : Maybe ℕ) (after : List ℕ) → Searched x long out after → SearchedIn S plan firsts to long out after
  told x e long after s = record { count = one.count; ended = one.ended; searched = subst (λ y. Searched y long out after) (sym e ∙ o_is) s }

  abbrev lines : List ℕ
  lines = walk (from_state S D) plan.lines (word - 1) 0 (loop (put D word) firsts (blank plan.size))

  none_found : word ≡ 0 → o ≡ none
  unfolding forward forward_by
  none_found z = rw (← is, z) refl

  found-by : (x : ℕ) → x ≡ nearest_word D firsts → 0 < x → o ≡ some (walk (from_state S D) plan.lines (x - 1) 0 (loop (put D x) firsts (blank plan.size)))
  unfolding forward forward_by
  found-by zero e less = absurd (omega arith)
  found-by (suc k) e less = let same : suc k - 1 ≡ k = omega arith in rw (← e, same) refl

  lines_long : length lines ≡ word - 1
  lines_long = walk-long (from_state S D) plan.lines (word - 1) 0 (loop (put D word) firsts (blank plan.size))

  pub told_none : word ≡ 0 → SearchedIn S plan firsts to None out out
  told_none z = told none (none_found z) None out record { length-is = refl; after_is = refl }

  pub told-long : 0 < word → length out < word - 1 → SearchedIn S plan firsts to (Some (word - 1)) out out
  told-long h less =
      told (some lines) (found-by word is h) _ out record {
        length-is = ap Some (sym lines_long);
        after_is = rw (lt-leb (length lines) (length out) (omega (arith, lines_long))) refl;
      }

  pub told-written : 0 < word → word - 1 ≤ length out → (after : List ℕ) → after ≡ lines ++ drop (word - 1) out → SearchedIn S plan firsts to (Some (word - 1)) out after
  told-written h fits after e =
      told (some lines) (found-by word is h) _ after record {
        length-is = ap Some (sym lines_long);
        after_is = rw (le-leb (length lines) (length out) (omega (arith, lines_long))) (e ∙ ap (λ n. lines ++ drop n out) (sym lines_long));
      }
