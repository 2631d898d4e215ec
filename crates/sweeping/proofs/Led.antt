-- What a line and the first states mark, as the definitions of graph's `Sweep` say it: `line-none` and `line-led` of a line from a state, and
-- `firsts-marked` of the first states.
use mathlib.Core.Path.{◌≡◌, refl, sym, ap, ◌∙◌, subst}
use mathlib.Core.Bool.{Bool, true, false, false≢true}
use mathlib.Core.List.Memᴰ
use mathlib.Core.List.{List, [], ◌∷◌}
use Prim.Native.Nat.{ℕ, suc, ◌+◌, ◌<◌}
use lib.Dec.{eqb}
use lib.ListN.{get_or, set}
use borrow.Author.Tests.{eq-eqb, ne_eqb}
use Rattle.lists.specs.Listed.{◌∈◌}
use Rattle.positions.specs.Program.{bit_of}
use Rattle.request.specs.declared.Plan.{Plan}
use Rattle.graph.specs.Plain.{filt}
use Rattle.graph.specs.Loops.{loop, turns}
use Rattle.graph.proofs.Loops.{loop-filt}
use Rattle.graph.specs.Sweep.{marked, ahead}
use Rattle.search.specs.Front.{state_in}
use Rattle.search.specs.Loaded.{setting_at}
use Rattle.search.specs.Moves.{onward}
use Rattle.search.proofs.Moves.{onward-law}
use Rattle.search.specs.Product.{Setting, succs}
use Rattle.states.specs.Pairs.{distances}
use Rattle.states.specs.Spots.{front}
use Rattle.forward.specs.Firsts.{first_states, first-law}
use Rattle.forward.specs.Leads.{lead_in}
use Rattle.forward.specs.declared.Lead.{Lead}
use Rattle.sweeping.specs.Sweeping.{marks_in, Led, led_in, mark_turn, first_turn, Marked, LineMarked, FirstsMarked}
use Rattle.sweeping.proofs.Marks.{only-whole}

-- is any state marked, after those of the list?
abbrev led_by : List ℕ → Bool → Bool
led_by [] b = b
led_by (t ∷ ts) b = true

led-already : (ts : List ℕ) → led_by ts true ≡ true
led-already [] = refl
led-already (t ∷ ts) = refl

module _ (D : List ℕ) (want with : ℕ) where
  abbrev wanted : ℕ → Bool
  wanted t = eqb (get_or D t 0) want

  abbrev write : ℕ → Led → Led
  write t x = record { marks = set x.marks t with; led = true }

  abbrev after : List ℕ → Led → Led
  after ts x = record { marks = marked with ts x.marks; led = led_by ts x.led }

  written : (ts : List ℕ) (x : Led) → loop write ts x ≡ after ts x
  unfolding loop
  written [] x = refl
  written (t ∷ ts) x = written ts (write t x) ∙ (λ i. record { marks = marked with ts (set x.marks t with); led = led-already ts i })

  -- a loop over states marks those with the word that is wanted
  led-law : (ts : List ℕ) (x : Led) → loop (mark_turn D want with) ts x ≡ after (filt wanted ts) x
  unfolding mark_turn
  led-law ts x = sym (loop-filt write wanted ts x) ∙ written (filt wanted ts) x

-- ---- a line from a state

module _ {plan : Plan} {w : List ℕ} (want with : ℕ) (S : Setting) (i s : ℕ) {r : Bool} {v : List ℕ} (m : Marked plan (onward S (mark_turn (distances plan w) want with) i s) false w r v) where
  abbrev to : List ℕ
  to = ahead (distances plan w) (succs S) plan.lines want s i

  line-law : led_in plan r v ≡ after (distances plan w) want with to (led_in plan false w)
  unfolding ahead
  line-law =
      m.now-marked
      ∙ (sym (onward-law S (mark_turn (distances plan w) want with) i s (led_in plan false w)) ∙ led-law (distances plan w) want with (succs S s i) (led_in plan false w))

  -- it leads to no state with the word wanted: every word is as it was
  pub line-none : r ≡ false → (ahead (distances plan w) (succs S) plan.lines want s i ≡ []) × (v ≡ w)
  unfolding loop
  line-none f = go to refl
    where
      go : (ts : List ℕ) → to ≡ ts → (to ≡ []) × (v ≡ w)
      go [] e = (e, only-whole m.only (ap (λ (x : Led). x.marks) line-law ∙ ap (λ ts. marked with ts (marks_in plan w)) e))
      go (t ∷ ts) e = absurd (false≢true (sym f ∙ (ap (λ (x : Led). x.led) line-law ∙ ap (λ ts. led_by ts false) e)))

  -- it leads to some, and they are marked
  pub line-led : r ≡ true → ((t : ℕ) × (t ∈ ahead (distances plan w) (succs S) plan.lines want s i)) × (marks_in plan v ≡ marked with (ahead (distances plan w) (succs S) plan.lines want s i) (marks_in plan w))
  line-led f = go to refl
    where
      go : (ts : List ℕ) → to ≡ ts → ((t : ℕ) × (t ∈ to)) × (marks_in plan v ≡ marked with to (marks_in plan w))
      go [] e = absurd (false≢true (sym (ap (λ (x : Led). x.led) line-law ∙ ap (λ ts. led_by ts false) e) ∙ f))
      go (t ∷ ts) e = ((t, subst (t ∈◌) (sym e) (Memᴰ.head refl)), ap (λ (x : Led). x.marks) line-law)

-- by words that are those of another name
pub line_same : (program : List ℕ) (plan : Plan) (want with : ℕ) (lead : Lead) (s : ℕ) (w w₀ : List ℕ) (r : Bool) (v : List ℕ) → w ≡ w₀ → LineMarked program plan want with lead s w r v
    → (i : ℕ) → i < plan.lines → lead ≡ lead_in plan (front plan w) i
    → Marked plan (onward (setting_at program plan w₀) (mark_turn (distances plan w₀) want with) i s) false w₀ r v
line_same program plan want with lead s w w₀ r v e m i less is =
    subst (λ x. LineMarked program plan want with lead s x r v) e m i less (is ∙ ap (λ x. lead_in plan (front plan x) i) e)

-- ---- the first states

module _ (plan : Plan) (D : List ℕ) (begin from want with k : ℕ) (x : Led) where
  pub first-passed : (bit_of begin k ≡ 1 → ⊥) → first_turn plan D begin from want with k x ≡ x
  unfolding first_turn
  first-passed n = rw (ne_eqb (bit_of begin k) 1 n)

  pub first_taken : bit_of begin k ≡ 1 → (s : ℕ) → s ≡ state_in plan from k 0 → first_turn plan D begin from want with k x ≡ mark_turn D want with s x
  unfolding first_turn
  first_taken h s e = rw (eq-eqb (bit_of begin k) 1 h, e)

pub firsts-marked : {plan : Plan} {begin from near with : ℕ} {w : List ℕ} {r : Bool} {v : List ℕ}
    → Marked plan (turns (first_turn plan (distances plan w) begin from near with) 0 (plan.done + 1)) false w r v
    → with ≡ suc plan.lines → FirstsMarked plan begin from near w v
unfolding first_turn
firsts-marked {plan} {begin} {from} {near} {with} {w} m e =
    let turn = mark_turn (distances plan w) near with in
    let all = m.now-marked ∙ (sym (first-law turn plan begin from (led_in plan false w)) ∙ led-law (distances plan w) near with (first_states plan begin from) (led_in plan false w)) in
    record {
      now-marked = ap (λ (x : Led). x.marks) all ∙ ap (λ n. marked n (filt (λ t. eqb (get_or (distances plan w) t 0) near) (first_states plan begin from)) (marks_in plan w)) e;
      only = m.only;
    }
