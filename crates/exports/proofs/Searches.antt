-- The numbers for C, Rust and Python of a search in steps: what begin says has a small second number (`begun-second`), and what finish promises of its number (`finish-number`).
-- Assumes nothing.
use mathlib.Core.Path.{◌≡◌, sym, subst}
use mathlib.Core.List.{List}
use Prim.Native.Nat.{ℕ}
use native.Mathlib.Omega.{arith}
use lib.ListN.{length}
use Rattle.meaning.specs.Outcome.{Outcome, refused, passed}
use Rattle.meaning.specs.Request.{Asked}
use Rattle.search.specs.Asked.{answer}
use Rattle.finder.specs.Promise as Find
use Rattle.finder.proofs.Demand.{LateSaid, settled-late}
use Rattle.searching.specs.Promise.{begun_told, FinishHarmless, Finishing}
use Rattle.exports.specs.Fits.{SecondFits, SaidFits}
use Rattle.exports.specs.Promise.{find_number, FirstShortest, FinishingNumber}
use Rattle.exports.proofs.Demands.{Low, first-shortest}

pub begun-second : (o : Outcome Asked) → SecondFits (begun_told o)
begun-second (refused number) = omega arith
begun-second (passed q) = tt

-- ---- finish

-- a harmless reply leaves room for the number of none
harmless-low : (t : Find.Said) (w v out after : List ℕ) → FinishHarmless t w v out after → Low t
harmless-low (Find.found n) w v out after h = h.1
harmless-low Find.none_found w v out after h = tt
harmless-low (Find.refusal number n) w v out after h = h.1

pub finish-fits : {w out : List ℕ} {t : Find.Said} {v after : List ℕ} → Finishing w out t v after → SaidFits t
finish-fits {w} {out} {t} {v} {after} done = go t done.altered.2
  where
    go : (t : Find.Said) → FinishHarmless t w v out after → SaidFits t
    go (Find.found n) h = tt
    go Find.none_found h = tt
    go (Find.refusal number n) h = omega (arith, h.1)

pub finish-number : (w out : List ℕ) (t : Find.Said) (v after : List ℕ) → Finishing w out t v after → (r : ℕ) → r ≡ find_number t → FinishingNumber w out r v after
finish-number w out t v after done r is = record {
  reply = t;
  number = is;
  finishing = done;
  first-shortest = λ rec pat from to options q k left.
      let (says, cleared, written, demand) = done.begun rec pat from to options q k left in
      let late = subst LateSaid (sym says) (settled-late (length out) (answer q from to)) in
      subst (λ (n : ℕ). FirstShortest rec pat from to options (length out) n after) (sym is)
      (first-shortest rec pat from to options (length out) after t (harmless-low t w v out after done.altered.2) (λ day p read tree. late) demand);
}
