-- `searching::move_taken` meets its contract: the search is moved on, its table of lines cleared and its numbers put back; of an area that was left this
-- is the area of the moved search. Assumes nothing.
use mathlib.Core.Path.{◌≡◌, ap, ◌∙◌}
use Prim.Native.Nat.{ℕ, ◌+◌, ◌*◌, min}
use native.Mathlib.Omega.{arith}
use lib.ListN.{replicate}
use Rattle.meaning.specs.Request.{size_of}
use Rattle.request.specs.Layout.{table_words}
use Rattle.area.specs.Area.{patch}
use Rattle.search.specs.Asked.{met_asked}
use Rattle.holding.specs.Holding.{numbers_of}
use Rattle.sweeping.specs.Sweeping.{index_at}
use Rattle.stepping.specs.Stepping.{Standing}
use Rattle.searching.proofs.Bridge.{sound-standing, left-parts, left-size}
use Rattle.searching.proofs.Ending.{moved-count, moved-held}
use Rattle.searching.proofs.move_taken.Goals as goal

-- the words of the table that is cleared
table : (places lines : ℕ) → places + 1 + lines ≡ table_words places lines
table places lines = omega arith

pub returns : goal.returns
returns c =
    let stands : Standing c.args.s c.args.work.now = sound-standing c.requires in
    record {
      few = omega (arith, c.min-many.ensures);
      small = omega (arith, c.min-many.ensures, c.all_turns.ensures, stands.laid.small);
      long = omega arith;
      begun = λ rec from to options q k left.
          let compiled = c.turned-moved.ensures.compiled q.pattern (left-parts left).pattern-read in
          let is : c.min-many.result ≡ min c.args.amount (2 * size_of (met_asked q) + 2) = omega (arith, c.min-many.ensures, c.all_turns.ensures, left-size left c.requires) in
          let put = c.put_back.ensures ∙ ap (patch 5 7 (numbers_of c.turned-moved.result.state.at)) (c.clear_stretch.ensures ∙ ap (λ (n : ℕ). patch (index_at c.args.s.plan) n (replicate n 0) c.turned-moved.new.work) (table c.args.s.plan.places c.args.s.plan.lines)) in
          (moved-count left c.requires compiled c.turned-moved.ensures.moved c.args.amount is, put ∙ moved-held left c.requires compiled c.turned-moved.ensures.moved c.args.amount is);
    }
