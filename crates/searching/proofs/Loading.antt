-- An area that is cleared and then loaded by the plan of a search that passed questions 1 to 17 is the request's (`cleared-posed`), and a search can be
-- begun in it (`cleared-ready`): it has zeros before and after what is loaded.
use mathlib.Core.Path.{◌≡◌, sym, ap, ◌∙◌, subst}
use mathlib.Core.List.{List, ◌++◌, append_assoc}
use Prim.Native.Nat.{ℕ, ◌+◌, ◌*◌, ◌-◌, ◌<◌, ◌≤◌}
use native.Mathlib.Omega.{arith}
use lib.ListN.{length, get_or, take, drop, replicate, length-append, length-take, length-drop, length-replicate}
use lib.Seq.{take_at, drop_at}
use Rattle.meaning.specs.Outcome.{Outcome}
use Rattle.meaning.specs.Windows.{Options}
use Rattle.meaning.specs.Request.{Asked}
use Rattle.record.specs.Whole.{lines_in, lines_of}
use Rattle.pattern.proofs.Short.{read-few}
use Rattle.request.specs.Layout.{table_words, Laid, met_by, loaded_of}
use Rattle.request.specs.Told.{Parts, ToldSearch}
use Rattle.request.specs.declared.Plan.{Plan}
use Rattle.search.specs.Asked.{met_asked}
use Rattle.search.proofs.Asked.{met-planned}
use Rattle.forward.specs.Posed.{Posed}
use Rattle.forward.proofs.Posing.{tables-long, posed-loaded}
use Rattle.searching.specs.Searching.{ReadyToBegin}
use Rattle.searching.proofs.Beginning.{zeros-take, zeros-drop}

-- `old` is the area after clearing, `v` after loading
module _ {o : Outcome Asked} {words : ℕ} {plan : Plan} {old : List ℕ} (cleared : old ≡ replicate words 0) (t : ToldSearch o words plan) where
  old-long : length old ≡ words
  old-long = ap length cleared ∙ length-replicate words 0

  -- the plan fits the area after clearing
  pub cleared-laid : Laid plan (length old)
  cleared-laid = subst (Laid plan) (sym old-long) t.laid

  module _ {rec pat : List ℕ} {from to : ℕ} {options : Options} (p : Parts rec pat from to options t.asked) (low : (i : ℕ) → get_or rec i 0 < 256) {v : List ℕ} (is : v ≡ take plan.boats old ++ (loaded_of plan.keeps (met_by options.windows (lines_of rec)) ++ drop plan.base old)) where
    pub cleared-posed : Posed (met_asked t.asked) pat plan from to v
    cleared-posed = posed-loaded old t.planned cleared-laid p low v is

    abbrev before : List ℕ
    before = take plan.boats old

    abbrev loaded : List ℕ
    loaded = loaded_of plan.keeps (met_by options.windows (lines_of rec))

    abbrev after : List ℕ
    after = drop plan.base old

    whole : plan.boats + length loaded ≡ plan.base
    whole = (λ i. plan.boats + length (loaded_of plan.keeps (met_by (sym p.options-are i).windows (lines_in (p.day-read i))))) ∙ tables-long (met-planned t.asked t.planned) t.laid

    short : length before ≡ plan.boats
    short = omega (arith, length-take plan.boats old, whole, old-long, t.laid.room)

    pub loaded-long : length v ≡ words
    loaded-long =
        omega (
          arith,
          ap length is,
          length-append before (loaded ++ after),
          length-append loaded after,
          short,
          whole,
          length-drop plan.base old,
          old-long,
          t.laid.room,
        )

    front-zero : take 209 v ≡ replicate 209 0
    front-zero =
        ap (take 209) is
        ∙ (take_at before (loaded ++ after) 209 (short ∙ t.boats-at)
        ∙ ((λ i. take (t.boats-at i) (cleared i)) ∙ zeros-take 209 words (omega (arith, whole, t.boats-at, t.laid.room))))

    back-zero : drop plan.base v ≡ replicate (length v - plan.base) 0
    back-zero =
        ap (drop plan.base) (is ∙ sym (append_assoc before loaded after))
        ∙ (drop_at (before ++ loaded) after plan.base (omega (arith, length-append before loaded, short, whole))
        ∙ (ap (drop plan.base) cleared ∙ (zeros-drop plan.base words ∙ ap (λ n. replicate (n - plan.base) 0) (sym loaded-long))))

    pub cleared-ready : ReadyToBegin pat plan from to v
    cleared-ready = record {
      asked = met_asked t.asked;
      posed = cleared-posed;
      boats-at = t.boats-at;
      room = subst (λ n. plan.base + 4 * plan.size + table_words plan.places plan.lines ≤ n) (sym loaded-long) t.room;
      short = omega (arith, read-few _ pat t.asked.pattern p.pattern-read);
      front-zero = front-zero;
      back-zero = back-zero;
    }
