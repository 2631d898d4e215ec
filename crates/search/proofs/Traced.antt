-- A state expanded with tags (`Traced` in specs/).
-- Claimed: what is found is what `expand` finds (`trace-table`), and there is a tag for each state of the queue (`trace-long`).
-- `TracedRight` proves that each tag's line leads from its state to the one expanded, and that two settings that say the same trace alike.
use Rattle.std.specs.Prelude.{◌≡◌, Bool, ◌&&◌, eqb}
use Rattle.std.proofs.Math.Path.{ap}
use Prim.Native.Nat.{ℕ}
use Rattle.std.proofs.Common.{arith}
use Rattle.std.proofs.Math.ListN.{length, length-append}
use Rattle.meaning.specs.Writing.{line_at}
use Rattle.graph.specs.Plain.{memb}
use Rattle.graph.specs.Table.{Search}
use Rattle.graph.specs.Trace.{Reached, tag_of, tagged}
use Rattle.graph.proofs.Trace.{tagged-table, Long, tagged-long, turns-table, turns-long, Pushes, loop-pushes}
use Rattle.search.specs.Product.{Setting, place_of, pos_of, stack_of, cut, uncut, sources}
use Rattle.search.specs.Moves.{over_stacks, over_lines, expand}
use Rattle.search.proofs.Moves.{stacks-law}
use Rattle.search.specs.Traced

module _ (S : Setting) where
  abbrev over_traced : ℕ → ℕ → ℕ → ℕ → ℕ → ℕ → Reached → Reached
  over_traced = Traced.over_traced S

  abbrev trace : ℕ → ℕ → Reached → Reached
  trace = Traced.trace S

  -- ---- what is found is what `expand` finds

  -- does line i lead to q, and has it the kind of c?
  abbrev pub line_fits : ℕ → ℕ → ℕ → Bool
  line_fits c q i = eqb (line_at S.lines i).to q && eqb (line_at S.lines i).kind (S.node c).kind

  -- may the position k come after c?
  abbrev pub may_follow : ℕ → ℕ → Bool
  may_follow k c = memb k (S.node c).follow

  traced-table : (d t c q e w : ℕ) (x : Reached) → (over_traced d t c q e w x).table ≡ over_lines S d c q e w x.table
  unfolding Traced.over_traced over_lines
  traced-table d t c q e w x =
      let over : ℕ → Search → Search = λ i. over_stacks S d c i e w in
      turns-table (line_fits c q) (λ i. tagged (tag_of i t) (over i)) over (λ i y. tagged-table (tag_of i t) (over i) y) 0 (length S.lines) x

  pub trace-table : (d t : ℕ) (x : Reached) → (trace d t x).table ≡ expand S d t x.table
  unfolding Traced.trace expand
  trace-table d t x =
      let e = (S.node (pos_of S t)).depth in
      let w = cut S e (stack_of S t) in
      let q = place_of S t in
      turns-table (may_follow (pos_of S t)) (λ c. over_traced d t c q e w) (λ c. over_lines S d c q e w) (λ c y. traced-table d t c q e w y) 0 S.done x

  -- ---- a tag for each state of the queue

  -- what a line finds is of its sources
  pub stacks-push : (d c i e w : ℕ) (st : Search) → Pushes (sources S c i (uncut S (S.node c) e w)) st (over_stacks S d c i e w st)
  stacks-push d c i e w st = rw (← stacks-law S d c i e w st) (loop-pushes d (sources S c i (uncut S (S.node c) e w)) st)

  traced-long : (d t c q e w : ℕ) (x : Reached) → Long x → Long (over_traced d t c q e w x)
  unfolding Traced.over_traced
  traced-long d t c q e w = turns-long (line_fits c q) (λ i. tagged (tag_of i t) (over_stacks S d c i e w)) one 0 (length S.lines)
    where
      one : (i : ℕ) (x : Reached) → Long x → Long (tagged (tag_of i t) (over_stacks S d c i e w) x)
      one i x long =
          let h = stacks-push d c i e w x.table in
          tagged-long (tag_of i t) (over_stacks S d c i e w) x (omega (arith, ap length h.more, length-append x.table.queue h.new)) long

  pub trace-long : (d t : ℕ) (x : Reached) → Long x → Long (trace d t x)
  unfolding Traced.trace
  trace-long d t =
      let e = (S.node (pos_of S t)).depth in
      let w = cut S e (stack_of S t) in
      turns-long (may_follow (pos_of S t)) (λ c. over_traced d t c (place_of S t) e w) (λ c y long. traced-long d t c (place_of S t) e w y long) 0 S.done
